-- Laws of numbers and parts of a line.
use mathlib.Core.Path.{◌≡◌}
use mathlib.Core.List.{List, [], ◌∷◌}
use Prim.Native.Nat.{ℕ, ◌+◌, ◌*◌, ◌<◌, ◌≤◌}
use native.Mathlib.Nat.{zero-add, sub-zero}
use native.Mathlib.Omega.{arith}
use lib.ListN.{length, get_or, take, drop}
use lib.Dec.{leb-zero}
use borrow.Author.Tests.{le-leb, lt-leb}
use Rattle.std.specs.Prelude.{Err}
use Rattle.std.proofs.lemmas.List.{at_drop_more}
use Rattle.text.specs.declared.digits.DecimalError.TheVariants.{TooLarge}
use Rattle.text.specs.Text.{part, before, find, digit_value, value_from, largest_u64, within_u64}

-- one more digit
pub value_more : (s : List ℕ) (i : ℕ) → i < length s → (n : ℕ) → value_from n (drop i s) ≡ value_from (10 * n + digit_value (get_or s i 0)) (drop (i + 1) s)
value_more s i h n = at_drop_more (value_from n) s i 0 h

pub value_grows : (n : ℕ) (s : List ℕ) → n ≤ value_from n s
value_grows n [] = omega arith
value_grows n (b ∷ s) = omega (arith, value_grows (10 * n + digit_value b) s)

-- one more digit takes the number past the largest
pub past_largest : (s : List ℕ) (i n : ℕ) → i < length s → value_from 0 s ≡ value_from n (drop i s) → largest_u64 < 10 * n + digit_value (get_or s i 0) →
    within_u64 (value_from 0 s) ≡ Err TooLarge
past_largest s i n h e past =
    simp (lt-leb (value_from 0 s) largest_u64 (omega (arith, e, value_more s i h n, value_grows (10 * n + digit_value (get_or s i 0)) (drop (i + 1) s))))

pub find_first : (byte : ℕ) (s : List ℕ) → find s 0 byte ≡ before byte s
find_first byte s = rw zero-add

pub part_front : (s : List ℕ) (to : ℕ) → to ≤ length s → part s 0 to ≡ take to s
part_front s to h = simp (le-leb to (length s) h, leb-zero to, sub-zero to)
