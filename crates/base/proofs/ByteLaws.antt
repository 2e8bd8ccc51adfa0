-- Laws of lists of bytes.
use Prim.Native.Nat.{ℕ, zero, suc, ◌<◌, ◌+◌}
use native.Mathlib.Omega.{arith}
use mathlib.Core.Bool.{true}
use mathlib.Core.List.{List, [], ◌∷◌, ◌++◌}
use lib.ListN.{take, drop}
use lib.Seq.{get_or-drop}
use lib.Dec.{T}
use Rattle.base.specs.Bytes.{Bytes}

pub bytes_cons : (x : ℕ) (xs : List ℕ) → x < 256 → Bytes xs → Bytes (x ∷ xs)
bytes_cons x xs h hs zero = h
bytes_cons x xs h hs (suc i) = hs i

-- the same of each element in turn, for a list written out
abbrev pub Each : List ℕ → Type 0
Each [] = T true
Each (x ∷ xs) = (x < 256) × Each xs

pub bytes_each : (l : List ℕ) → Each l → Bytes l
bytes_each [] h i = omega arith
bytes_each (x ∷ xs) h i = bytes_cons x xs h.0 (bytes_each xs h.1) i

pub bytes_append : (xs ys : List ℕ) → Bytes xs → Bytes ys → Bytes (xs ++ ys)
bytes_append [] ys hs ht = ht
bytes_append (x ∷ xs) ys hs ht = bytes_cons x (xs ++ ys) (hs 0) (bytes_append xs ys (λ i. hs (suc i)) ht)

pub bytes_drop : (n : ℕ) (l : List ℕ) → Bytes l → Bytes (drop n l)
bytes_drop n l h i = rw get_or-drop (h (n + i))

pub bytes_take : (n : ℕ) (l : List ℕ) → Bytes l → Bytes (take n l)
bytes_take zero l h i = omega arith
bytes_take (suc n) [] h i = h i
bytes_take (suc n) (x ∷ l) h i = bytes_cons x (take n l) (h 0) (bytes_take n l (λ j. h (suc j))) i
