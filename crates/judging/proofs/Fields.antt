-- A field at the front of some bytes: what is read of it, and what is wrong with it.
use Prim.Native.Nat.{ℕ, zero, suc, ◌+◌, ◌*◌, ◌<◌, ◌≤◌}
use native.Mathlib.Nat.{min-le_left}
use native.Mathlib.Omega.{arith}
use mathlib.Core.Path.{◌≡◌, sym, ap}
use mathlib.Core.Bool.{Bool, cond}
use mathlib.Core.List.{List, [], ◌∷◌, ◌++◌}
use mathlib.Core.Option.{Option, none, some}
use lib.ListN.{length, get_or, take, drop, length-append, length-take, take-append-drop}
use lib.Seq.{length-take-le, take-append_seam, drop_at, drop-drop}
use borrow.Author.Tests.{lt-ltb, le-ltb}
use Rattle.base.specs.Bytes.{Bytes}
use Rattle.base.specs.Refusal.{Fault, fault}
use Rattle.base.proofs.ByteLaws.{bytes_each}
use Rattle.number.specs.Number.{le16_bytes}
use Rattle.number.proofs.NumberLaws.{le16_read, le16_written}
use Rattle.link.specs.Encoding.{field}
use Rattle.judging.specs.Decoding.{field_length, contents, length_right, contents_allowed, unless, field_fault, end_fault, last_fault}

-- what is wrong with a whole field of this tag and these contents
unfoldable pub whole_fault : Bool → ℕ → List ℕ → ℕ → Option Fault
whole_fault expected tag d offset =
    cond expected
    (cond (length_right tag (length d))
    (cond (contents_allowed tag d) none (some (fault 17 offset)))
    (some (fault 16 offset)))
    (some (fault 15 offset))

module _ (tag : ℕ) (d rest : List ℕ) (short : length d < 65536) where
  pub field_length_of : field_length (field tag d ++ rest) ≡ 3 + length d
  field_length_of = rw (le16_read (length d) short)

  pub behind_field : drop (field_length (field tag d ++ rest)) (field tag d ++ rest) ≡ rest
  behind_field = rw field_length_of (drop_at (field tag d) rest (3 + length d) (omega arith))

  pub field_judged : (expected : Bool) (offset : ℕ) → field_fault expected (field tag d ++ rest) offset ≡ whole_fault expected tag d offset
  unfolding field_fault whole_fault
  field_judged expected offset =
      let fits : 3 + length d ≤ length (field tag d ++ rest) = omega (arith, length-append d rest) in
      rw (le16_read (length d) short, le-ltb (length (field tag d ++ rest)) (3 + length d) fits, take-append_seam d rest)

  pub last_judged : (expected : Bool) (offset : ℕ) →
      last_fault expected (field tag d ++ rest) offset ≡ unless (whole_fault expected tag d offset) (end_fault rest (offset + (3 + length d)))
  unfolding last_fault
  last_judged expected offset = rw (field_judged expected offset, behind_field, field_length_of)

-- a field that the bytes end in, or before
module _ (tag : ℕ) (d rest : List ℕ) (short : length d < 65536) where
  cut_short : (n : ℕ) → n < 3 + length d → length (take n (field tag d ++ rest)) < field_length (take n (field tag d ++ rest))
  cut_short zero early = omega arith
  cut_short (suc zero) early = omega arith
  cut_short (suc (suc zero)) early = omega arith
  cut_short (suc (suc (suc m))) early = omega (arith, le16_read (length d) short, length-take m (d ++ rest), min-le_left m (length (d ++ rest)))

  pub field_cut : (n : ℕ) → n < 3 + length d → (expected : Bool) (offset : ℕ) →
      field_fault expected (take n (field tag d ++ rest)) offset ≡ some (fault 14 offset)
  unfolding field_fault
  field_cut n early expected offset = rw (lt-ltb _ _ (cut_short n early))

-- bytes that do not end in their first field begin with it
parted_at : (t l m : ℕ) (r : List ℕ) (n : ℕ) → le16_bytes n ≡ l ∷ m ∷ [] → n ≤ length r →
    t ∷ l ∷ m ∷ r ≡ t ∷ le16_bytes (length (take n r)) ++ (take n r ++ drop (3 + n) (t ∷ l ∷ m ∷ r))
parted_at t l m r n digits fits =
    rw (length-take-le n r fits, ← drop-drop n 3 (t ∷ l ∷ m ∷ r), take-append-drop n r) (ap (λ (head : List ℕ). t ∷ (head ++ r)) (sym digits))

pub parted : (b : List ℕ) → Bytes b → field_length b ≤ length b → b ≡ field (get_or b 0 0) (contents b) ++ drop (field_length b) b
parted [] h whole = absurd (omega arith)
parted (t ∷ []) h whole = absurd (omega arith)
parted (t ∷ l ∷ []) h whole = absurd (omega arith)
parted (t ∷ l ∷ m ∷ r) h whole =
    let digits = le16_written (l ∷ m ∷ []) (bytes_each (l ∷ m ∷ []) (h 1, (h 2, tt))) (omega arith) in
    parted_at t l m r (l + m * 256) digits (omega arith)
