-- What the packet's definition is worth: escapes come out again, only the start is 0xA5, and a packet tells its command.
use mathlib.Core.Path.{◌≡◌, refl, sym, ap, ◌∙◌}
use mathlib.Core.Bool.{Bool, true, false, cond}
use mathlib.Core.List.{List, [], ◌∷◌, ◌++◌, head-eq_of_cons-eq, tail-eq_of_cons-eq}
use Prim.Native.Nat.{ℕ, zero, suc, ◌+◌, ◌*◌, ◌≤◌}
use native.Mathlib.Omega.{arith}
use lib.ListN.{length, get_or, take, length-append}
use lib.Seq.{take_at, take_all}
use lib.Dec.{eqb, ltb}
use borrow.Author.Tests.{eqb-true, eqb-false, ltb-true, ltb-false}
use Rattle.packet.specs.declared.writer.Access.{Access}
use Rattle.packet.specs.declared.writer.Access.TheVariants.{Write, Read}
use Rattle.packet.specs.Packet.{data_most, packet_limit, command_byte, total, checksum, escape_byte, escape, fields, packet_of, unescape_from, unescape}
use Rattle.packet.specs.Writer.{built}
use Rattle.packet.specs.Theorems.{UnescapeEscape, StartOnly, PacketDetermines, PacketShort, LongestReached}
use Rattle.packet.proofs.PacketLaws.{escape_start, escape_escape, escape_other, fields_escape, fields_length}

-- ---- taking the escapes out gives the bytes back

unescape_byte : (b : ℕ) (rest : List ℕ) → unescape (escape_byte b ++ rest) ≡ b ∷ unescape rest
unfolding unescape_from
unescape_byte b rest = by_cases (eqb b 0xA5) refl (eqb b 0x5A) refl
  where
    by_cases : (x : Bool) → eqb b 0xA5 ≡ x → (y : Bool) → eqb b 0x5A ≡ y → unescape (escape_byte b ++ rest) ≡ b ∷ unescape rest
    by_cases true e y f = rw (escape_start b (eqb-true b 0xA5 e), eqb-true b 0xA5 e)
    by_cases false e true f = rw (escape_escape b (eqb-true b 0x5A f), eqb-true b 0x5A f)
    by_cases false e false f = rw (escape_other b (eqb-false b 0xA5 e) (eqb-false b 0x5A f), f)

pub unescape_escape : UnescapeEscape
unfolding unescape_from
unescape_escape [] = refl
unescape_escape (b ∷ bs) = unescape_byte b (escape bs) ∙ ap (λ (x : List ℕ). b ∷ x) (unescape_escape bs)

-- ---- 0xA5 stands only at a packet's start

abbrev StartFree : List ℕ → Type 0
StartFree bs = (i : ℕ) → get_or bs i 0 ≡ 0xA5 → ⊥

free_nil : StartFree []
free_nil i e = omega arith

free_cons : (b : ℕ) (bs : List ℕ) → (b ≡ 0xA5 → ⊥) → StartFree bs → StartFree (b ∷ bs)
free_cons b bs h t zero e = h e
free_cons b bs h t (suc i) e = t i e

free_append : (xs ys : List ℕ) → StartFree xs → StartFree ys → StartFree (xs ++ ys)
free_append [] ys h t = t
free_append (x ∷ xs) ys h t = free_cons x (xs ++ ys) (h 0) (free_append xs ys (λ i. h (suc i)) t)

free_byte : (b : ℕ) → StartFree (escape_byte b)
free_byte b = by_cases (eqb b 0xA5) refl (eqb b 0x5A) refl
  where
    pair : (y : ℕ) → (y ≡ 0xA5 → ⊥) → StartFree (0x5A ∷ y ∷ [])
    pair y h = free_cons 0x5A (y ∷ []) (omega arith) (free_cons y [] h free_nil)

    by_cases : (x : Bool) → eqb b 0xA5 ≡ x → (y : Bool) → eqb b 0x5A ≡ y → StartFree (escape_byte b)
    by_cases true e y f = rw (escape_start b (eqb-true b 0xA5 e)) (pair 0x00 (omega arith))
    by_cases false e true f = rw (escape_escape b (eqb-true b 0x5A f)) (pair 0x5A (omega arith))
    by_cases false e false f = rw (escape_other b (eqb-false b 0xA5 e) (eqb-false b 0x5A f)) (free_cons b [] (eqb-false b 0xA5 e) free_nil)

free_escape : (bs : List ℕ) → StartFree (escape bs)
free_escape [] = free_nil
free_escape (b ∷ bs) = free_append (escape_byte b) (escape bs) (free_byte b) (free_escape bs)

pub start_only : StartOnly
unfolding packet_of
start_only id access bytes zero e = refl
start_only id access bytes (suc i) e =
    let k = command_byte id access in
    let s = checksum (k ∷ length bytes ∷ bytes) in
    absurd (free_escape (k ∷ length bytes ∷ bytes ++ s ∷ []) i (rw (fields_escape k (length bytes) bytes s) at e))

-- ---- a packet tells its ID, its way and its data

command_byte_determines : (id id' : ℕ) (access access' : Access) → command_byte id access ≡ command_byte id' access' → (id ≡ id') × (access ≡ access')
command_byte_determines id id' Write Write e = (omega arith, refl)
command_byte_determines id id' Write Read e = absurd (omega arith)
command_byte_determines id id' Read Write e = absurd (omega arith)
command_byte_determines id id' Read Read e = (omega arith, refl)

pub packet_determines : PacketDetermines
unfolding packet_of
packet_determines id id' access access' bytes bytes' e =
    let k = command_byte id access in
    let k' = command_byte id' access' in
    let s = checksum (k ∷ length bytes ∷ bytes) in
    let s' = checksum (k' ∷ length bytes' ∷ bytes') in
    let l : List ℕ = k ∷ length bytes ∷ bytes ++ s ∷ [] in
    let l' : List ℕ = k' ∷ length bytes' ∷ bytes' ++ s' ∷ [] in
    let escaped : 0xA5 ∷ escape l ≡ 0xA5 ∷ escape l' = sym (fields_escape k (length bytes) bytes s) ∙ e ∙ fields_escape k' (length bytes') bytes' s' in
    let same : l ≡ l' = sym (unescape_escape l) ∙ ap (λ (x : List ℕ). unescape x) (tail-eq_of_cons-eq escaped) ∙ unescape_escape l' in
    let rest : length bytes ∷ (bytes ++ s ∷ []) ≡ length bytes' ∷ (bytes' ++ s' ∷ []) = tail-eq_of_cons-eq same in
    let count : length bytes ≡ length bytes' = head-eq_of_cons-eq rest in
    let command = command_byte_determines id id' access access' (head-eq_of_cons-eq same) in (
      command.0,
      command.1,
      sym (take_at bytes (s ∷ []) (length bytes) refl)
          ∙ ap (λ (x : List ℕ). take (length bytes) x) (tail-eq_of_cons-eq rest)
          ∙ take_at bytes' (s' ∷ []) (length bytes) (sym count),
    )

-- ---- the longest packet: with the most data bytes the length byte needs no escape

pub escape_byte_short : (b : ℕ) → length (escape_byte b) ≤ 2
unfolding escape_byte
escape_byte_short b = by_cases (eqb b 0xA5) (eqb b 0x5A)
  where
    by_cases : (x y : Bool) → length (cond x (0x5A ∷ 0x00 ∷ []) (cond y (0x5A ∷ 0x5A ∷ []) (b ∷ []))) ≤ 2
    by_cases true y = omega arith
    by_cases false true = omega arith
    by_cases false false = omega arith

pub escape_short : (bs : List ℕ) → length (escape bs) ≤ 2 * length bs
escape_short [] = omega arith
escape_short (b ∷ bs) = rw length-append (omega (arith, escape_byte_short b, escape_short bs))

count_short : (n : ℕ) → n ≤ data_most → length (escape_byte n) + 2 * n ≤ 2 * data_most + 1
unfolding escape_byte
count_short n h = by_cases (ltb n data_most) refl
  where
    by_cases : (x : Bool) → ltb n data_most ≡ x → length (escape_byte n) + 2 * n ≤ 2 * data_most + 1
    by_cases true e = omega (arith, ltb-true n data_most e, escape_byte_short n)
    by_cases false e = let last : n ≡ data_most = omega (arith, ltb-false n data_most e) in rw last (omega arith)

pub packet_of_short : (k : ℕ) (bytes : List ℕ) → length bytes ≤ data_most → length (packet_of k bytes) ≤ packet_limit
unfolding packet_of
packet_of_short k bytes h =
    let s = checksum (k ∷ length bytes ∷ bytes) in
    omega (
      arith,
      fields_length k (length bytes) bytes s,
      escape_byte_short k,
      count_short (length bytes) h,
      escape_short bytes,
      escape_byte_short s,
    )

pub packet_short : PacketShort
packet_short id access = packet_of_short (command_byte id access)

pub longest_reached : LongestReached
unfolding packet_of fields escape_byte checksum total
longest_reached = (refl, refl)

-- the bytes that a packet was built of
pub built_front : (bytes : List ℕ) → take (built bytes).len (built bytes).bytes ≡ bytes
built_front bytes = take_at bytes _ (length bytes) refl

-- data that fit are taken whole
pub data_whole : (bytes : List ℕ) → length bytes ≤ data_most → take data_most bytes ≡ bytes
data_whole bytes short = take_all data_most bytes short
