-- Laws of numbers in bytes.
use Prim.Native.Nat.{ℕ, ◌+◌, ◌*◌, ◌/◌, ◌%◌, ◌<◌, ◌≤◌}
use native.Mathlib.Nat.{zero-add, mod-eq_of_lt, add-mul-mod_self_right, div-eq_of_lt, add-mul-div_right}
use native.Mathlib.Omega.{arith}
use mathlib.Core.Path.{◌≡◌, ap, ◌∙◌}
use mathlib.Core.List.{List, [], ◌∷◌, ◌++◌}
use lib.ListN.{length, drop}
use Rattle.base.proofs.ByteLaws.{bytes_each}
use Rattle.base.specs.Bytes.{Bytes}
use Rattle.number.specs.Number.{low, high, le16, le16_bytes, le32, le32_bytes}

pub le16_read : (x : ℕ) → x < 65536 → low x + high x * 256 ≡ x
le16_read x h = omega arith

pub le32_read : (x : ℕ) → x < 4294967296 → le32 (le32_bytes x) ≡ x
le32_read x h =
    let first : x % 256 + x / 256 * 256 ≡ x = omega arith in
    let second : x / 256 % 256 + x / 65536 * 256 ≡ x / 256 = omega arith in
    let third : x / 65536 % 256 + x / 16777216 * 256 ≡ x / 65536 = omega arith in
    let fourth : x / 16777216 % 256 ≡ x / 16777216 = omega arith in
    rw fourth (omega arith)

pub bytes_le16 : (x : ℕ) → Bytes (le16_bytes x)
bytes_le16 x = bytes_each (le16_bytes x) (search arith)

pub bytes_le32 : (x : ℕ) → Bytes (le32_bytes x)
bytes_le32 x = bytes_each (le32_bytes x) (search arith)

pub le16_below : (l : List ℕ) → Bytes l → le16 l < 65536
le16_below l h = omega (arith, h 0, h 1)

pub le32_below : (l : List ℕ) → Bytes l → le32 l < 4294967296
le32_below l h = omega (arith, h 0, h 1, h 2, h 3)

-- ---- bytes that say a number are its bytes

-- a number's digits below and above a place of weight k
module _ (a b k : ℕ) (below : a < k) where
  digits_below : (a + b * k) % k ≡ a
  digits_below = add-mul-mod_self_right a b k ∙ mod-eq_of_lt below

  digits_above : (a + b * k) / k ≡ b
  digits_above = add-mul-div_right a b (omega (arith, below)) ∙ rw (div-eq_of_lt below, zero-add)

pub le16_written : (d : List ℕ) → Bytes d → 2 ≤ length d → le16_bytes (le16 d) ++ drop 2 d ≡ d
le16_written [] h long = absurd (omega arith)
le16_written (a ∷ []) h long = absurd (omega arith)
le16_written (a ∷ b ∷ d) h long =
    let second : (a + b * 256) / 256 % 256 ≡ b = ap (λ (n : ℕ). n % 256) (digits_above a b 256 (h 0)) ∙ mod-eq_of_lt (h 1) in
    λ i. digits_below a b 256 (h 0) i ∷ second i ∷ d

-- the digit above a, where x is a and then b and c
digit : (a b c k x : ℕ) → x ≡ a + (b + c * 256) * k → a < k → b < 256 → x / k % 256 ≡ b
digit a b c k x split below fits =
    let above : x / k ≡ b + c * 256 = ap (λ (n : ℕ). n / k) split ∙ digits_above a (b + c * 256) k below in
    ap (λ (n : ℕ). n % 256) above ∙ digits_below b c 256 fits

pub le32_written : (d : List ℕ) → Bytes d → 4 ≤ length d → le32_bytes (le32 d) ++ drop 4 d ≡ d
le32_written [] h long = absurd (omega arith)
le32_written (a ∷ []) h long = absurd (omega arith)
le32_written (a ∷ b ∷ []) h long = absurd (omega arith)
le32_written (a ∷ b ∷ c ∷ []) h long = absurd (omega arith)
le32_written (a ∷ b ∷ c ∷ e ∷ d) h long =
    let x : ℕ = a + b * 256 + c * 65536 + e * 16777216 in
    let above : ℕ = b + c * 256 + e * 65536 in
    let split : x ≡ a + above * 256 = omega arith in
    let first : x % 256 ≡ a = ap (λ (n : ℕ). n % 256) split ∙ digits_below a above 256 (h 0) in
    let second = digit a b (c + e * 256) 256 x (omega arith) (h 0) (h 1) in
    let third = digit (a + b * 256) c e 65536 x (omega arith) (omega (arith, h 0, h 1)) (h 2) in
    let fourth = digit (a + b * 256 + c * 65536) e 0 16777216 x (omega arith) (omega (arith, h 0, h 1, h 2)) (h 3) in
    λ i. first i ∷ second i ∷ third i ∷ fourth i ∷ d
