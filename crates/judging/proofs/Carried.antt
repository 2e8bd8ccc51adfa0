-- What a REFUSE may carry: what the tests allow is what the table says, and is valid.
use Prim.Native.Nat.{ℕ, ◌<◌}
use mathlib.Core.Path.{◌≡◌, refl}
use mathlib.Core.Bool.{Bool, true, false, beq, cond, ◌&&◌, ◌||◌}
use mathlib.Core.List.{[], ◌∷◌}
use lib.Dec.{T, eqb, leb}
use borrow.Author.Tests.{eqb-true, leb-true}
use Rattle.base.proofs.Tests.{both_true, all_below, below_each}
use Rattle.frame.specs.Frame.{refuse}
use Rattle.link.specs.Encoding.{Valid, valid_refuse, valid_refuse_fault}
use Rattle.judging.specs.Decoding.{refusal_allowed}
use Rattle.judging.specs.Faults.{among}

-- tests of a byte that agree at each of the 256, by computing
pub agree_equal : (x y : Bool) → T (beq x y) → x ≡ y
agree_equal true true t = refl
agree_equal true false t = absurd t
agree_equal false true t = absurd t
agree_equal false false t = refl

abbrev pub carried : ℕ → Bool → Bool
carried r zero = among r (5 ∷ 6 ∷ 7 ∷ []) || (among r (14 ∷ 15 ∷ 16 ∷ 17 ∷ 18 ∷ 19 ∷ []) && zero)

abbrev pub allowed : ℕ → Bool → Bool
allowed r zero = cond (leb 5 r && leb r 7) true (leb 14 r && leb r 19 && zero)

pub refusal_same : (r : ℕ) → r < 256 → (zero : Bool) → carried r zero ≡ allowed r zero
unfolding all_below
refusal_same r h true = agree_equal _ _ (below_each 256 (λ n. beq (carried n true) (allowed n true)) tt r h)
refusal_same r h false = agree_equal _ _ (below_each 256 (λ n. beq (carried n false) (allowed n false)) tt r h)

pub refuse_valid : (s r : ℕ) → s < 4294967296 → refusal_allowed s r ≡ true → Valid (refuse s r)
refuse_valid s r hs e = go (leb 5 r && leb r 7) refl e
  where
    go : (t : Bool) → leb 5 r && leb r 7 ≡ t → cond t true (leb 14 r && leb r 19 && eqb s 0) ≡ true → Valid (refuse s r)
    go true q p = let range = both_true (leb 5 r) (leb r 7) q in valid_refuse hs (leb-true 5 r range.0) (leb-true r 7 range.1)
    go false q p =
        let both = both_true (leb 14 r && leb r 19) (eqb s 0) p in
        let range = both_true (leb 14 r) (leb r 19) both.0 in
        valid_refuse_fault (eqb-true s 0 both.1) (leb-true 14 r range.0) (leb-true r 19 range.1)
