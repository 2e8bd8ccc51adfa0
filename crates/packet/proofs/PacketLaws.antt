-- Theorems on the packet's definition.
use mathlib.Core.Path.{◌≡◌, sym}
use mathlib.Core.List.{List, [], ◌∷◌, ◌++◌, append_assoc, append-nil}
use Prim.Native.Nat.{ℕ, suc, ◌+◌, ◌%◌, ◌<◌, ◌≤◌}
use native.Mathlib.Nat.{zero-add, add-zero, add_assoc, mod-add-mod}
use native.Mathlib.Omega.{arith}
use lib.ListN.{length, get_or, take, length-append}
use Rattle.std.proofs.lemmas.List.{take_more}
use Rattle.std.proofs.lemmas.List.Concat.{flat_map-append}
use lib.Dec.{eqb}
use borrow.Author.Tests.{eq-eqb, ne_eqb}
use Rattle.base.specs.Bytes.{Bytes}
use Rattle.base.proofs.ByteLaws.{bytes_cons, bytes_each, bytes_append}
use Rattle.std.proofs.lemmas.Bool.{cond_both}
use Rattle.packet.specs.Packet.{data_most, total, checksum, escape_byte, escape, fields, packet_of}

-- the checksum and the escapes, over a list that grows at its end

total_append : (xs ys : List ℕ) → total (xs ++ ys) ≡ total xs + total ys
unfolding total
total_append [] ys = sym (zero-add (total ys))
total_append (x ∷ xs) ys = rw (total_append xs ys) (sym (add_assoc x (total xs) (total ys)))

pub checksum_snoc : (xs : List ℕ) (b : ℕ) → checksum (xs ++ b ∷ []) ≡ (checksum xs + b) % 256
unfolding checksum total
checksum_snoc xs b = rw (total_append xs (b ∷ []), mod-add-mod, add-zero)

-- one more byte of a list behind others
pub checksum_more : (xs l : List ℕ) (i : ℕ) → i < length l → checksum (xs ++ take (i + 1) l) ≡ (checksum (xs ++ take i l) + get_or l i 0) % 256
checksum_more xs l i h = rw (take_more l i 0 h, ← append_assoc xs (take i l) (get_or l i 0 ∷ [])) (checksum_snoc (xs ++ take i l) (get_or l i 0))

-- the same behind the two bytes at which the code begins its sum
pub checksum_behind : (a b : ℕ) (l : List ℕ) (i : ℕ) → i < length l → checksum (a ∷ b ∷ take (i + 1) l) ≡ (checksum (a ∷ b ∷ take i l) + get_or l i 0) % 256
checksum_behind a b l i h = checksum_more (a ∷ b ∷ []) l i h

-- a byte's escape, case by case

pub escape_start : (b : ℕ) → b ≡ 0xA5 → escape_byte b ≡ 0x5A ∷ 0x00 ∷ []
unfolding escape_byte
escape_start b e = rw (eq-eqb b 0xA5 e)

pub escape_escape : (b : ℕ) → b ≡ 0x5A → escape_byte b ≡ 0x5A ∷ 0x5A ∷ []
unfolding escape_byte
escape_escape b e = rw e

pub escape_other : (b : ℕ) → (b ≡ 0xA5 → ⊥) → (b ≡ 0x5A → ⊥) → escape_byte b ≡ b ∷ []
unfolding escape_byte
escape_other b s e = rw (ne_eqb b 0xA5 s, ne_eqb b 0x5A e)

-- a packet's length, field by field
pub fields_length : (k n : ℕ) (d : List ℕ) (s : ℕ) → length (fields k n d s) ≡ 1 + length (escape_byte k) + length (escape_byte n) + length (escape d) + length (escape_byte s)
unfolding fields
fields_length k n d s = simp length-append (omega arith)

-- a packet is its start, and the escape of its fields
pub fields_escape : (k n : ℕ) (d : List ℕ) (s : ℕ) → fields k n d s ≡ 0xA5 ∷ escape (k ∷ n ∷ d ++ s ∷ [])
unfolding fields
fields_escape k n d s = rw (flat_map-append escape_byte d (s ∷ [])) (simp (append_assoc, append-nil))

-- ---- a packet is bytes

escape_byte_bytes : (b : ℕ) → b < 256 → Bytes (escape_byte b)
unfolding escape_byte
escape_byte_bytes b h =
    cond_both (eqb b 0xA5) _ _ Bytes (λ _. bytes_each (0x5A ∷ 0x00 ∷ []) (omega arith))
    (λ _. cond_both (eqb b 0x5A) _ _ Bytes (λ _. bytes_each (0x5A ∷ 0x5A ∷ []) (omega arith)) (λ _. bytes_each (b ∷ []) (omega arith)))

escape_bytes : (bs : List ℕ) → Bytes bs → Bytes (escape bs)
escape_bytes [] h = h
escape_bytes (b ∷ bs) h = bytes_append (escape_byte b) (escape bs) (escape_byte_bytes b (h 0)) (escape_bytes bs (λ i. h (suc i)))

pub packet_bytes : (k : ℕ) (d : List ℕ) → k < 256 → Bytes d → length d ≤ data_most → Bytes (packet_of k d)
unfolding packet_of checksum
packet_bytes k d hk hd short =
    let n = length d in
    let sum = checksum (k ∷ n ∷ d) in
    let behind = d ++ sum ∷ [] in
    let behind_bytes = bytes_append d (sum ∷ []) hd (bytes_each (sum ∷ []) (omega arith)) in
    let all_bytes = bytes_cons k (n ∷ behind) hk (bytes_cons n behind (omega arith) behind_bytes) in
    rw (fields_escape k n d sum) (bytes_cons 0xA5 (escape (k ∷ n ∷ behind)) (omega arith) (escape_bytes (k ∷ n ∷ behind) all_bytes))
