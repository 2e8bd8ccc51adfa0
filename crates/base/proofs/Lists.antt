-- Runs of stores.
use mathlib.Core.Path.{◌≡◌, sym, ◌∙◌}
use mathlib.Core.List.{List, [], ◌∷◌, ◌++◌}
use Prim.Native.Nat.{ℕ, suc, ◌+◌, ◌<◌, ◌≤◌}
use native.Mathlib.Nat.{zero-add, add-zero, add-suc, suc-add}
use native.Mathlib.Numerals.{add-one}
use native.Mathlib.Omega.{arith}
use lib.ListN.{length, get_or, take, drop, set, length-append}
use lib.Seq.{drop-cons, set_out, sets, sets-eq, length-sets, length-take-le, set-append_seam, append_snoc}
use Rattle.std.proofs.lemmas.List.{take_more}
use Rattle.base.specs.Lent.{overwritten}

pub sets_append : (xs ys l : List ℕ) (i : ℕ) → sets (sets l i xs) (i + length xs) ys ≡ sets l i (xs ++ ys)
sets_append [] ys l i = rw add-zero
sets_append (x ∷ xs) ys l i = rw (add-suc, ← (suc-add i (length xs))) (sets_append xs ys (set l i x) (suc i))

-- one more store of a run
pub sets_more : (l bytes : List ℕ) (k i : ℕ) → i < length bytes → sets l k (take (i + 1) bytes) ≡ set (sets l k (take i bytes)) (i + k) (get_or bytes i 0)
sets_more l bytes k i h =
    let passed : length (take i bytes) ≡ i = length-take-le i bytes (omega arith) in
    let place : k + length (take i bytes) ≡ i + k = omega arith in
    rw (take_more bytes i 0 h, ← sets_append (take i bytes) (get_or bytes i 0 ∷ []) l k, place)

-- the same where it has no room
pub sets_left : (l bytes : List ℕ) (k i : ℕ) → i < length bytes → length l ≤ i + k → sets l k (take (i + 1) bytes) ≡ sets l k (take i bytes)
sets_left l bytes k i h full = sets_more l bytes k i h ∙ set_out _ _ _ (rw length-sets full)

-- a run of stores after another, both from the front
pub sets_next : (xs ys l : List ℕ) (n : ℕ) → n ≡ length xs → sets (sets l 0 xs) n ys ≡ sets l 0 (xs ++ ys)
sets_next xs ys l n e = rw (e, ← (zero-add (length xs))) (sets_append xs ys l 0)

pub sets_front : (xs l : List ℕ) → length xs ≤ length l → sets l 0 xs ≡ xs ++ drop (length xs) l
sets_front xs l h = sets-eq xs l 0 (rw zero-add h) ∙ rw zero-add

-- one more byte behind those written at the front
pub overwritten_snoc : (xs l : List ℕ) (b : ℕ) → length xs < length l → set (overwritten xs l) (length xs) b ≡ overwritten (xs ++ b ∷ []) l
overwritten_snoc xs l b h =
    let longer : length (xs ++ b ∷ []) ≡ suc (length xs) = length-append xs (b ∷ []) ∙ add-one (length xs) in
    rw (drop-cons l (length xs) 0 h, set-append_seam xs (get_or l (length xs) 0) (drop (suc (length xs)) l) b, longer)
    (sym (append_snoc xs b (drop (suc (length xs)) l)))
