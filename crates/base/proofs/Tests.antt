-- Tests in definitions: the laws that decide one from what the code's own test showed.
use Prim.Native.Nat.{ℕ, zero, suc, ◌<◌}
use native.Mathlib.Omega.{arith}
use mathlib.Core.Path.{◌≡◌, refl, sym, subst}
use mathlib.Core.Bool.{Bool, true, false, cond, not, ◌&&◌}
use lib.Dec.{T, eqb}
use borrow.Author.Tests.{lt-ltb, le-ltb, le-leb, lt-leb, eq-eqb, ne_eqb, eqb-true, eqb-false}

pub ruleset tests = (lt-ltb, le-ltb, le-leb, lt-leb, eq-eqb, ne_eqb)

both_tests : (x y : Bool) → T (x && y) → T x × T y
both_tests true y t = (tt, t)
both_tests false y t = absurd t

-- a test at every number below n, computed, holds at each
unfoldable pub all_below : ℕ → (ℕ → Bool) → Bool
all_below zero test = true
all_below (suc n) test = test n && all_below n test

pub below_each : (n : ℕ) (test : ℕ → Bool) → T (all_below n test) → (i : ℕ) → i < n → T (test i)
unfolding all_below
below_each zero test t i h = absurd (omega arith)
below_each (suc n) test t i h = by_last (eqb i n) refl (below_each n test (both_tests (test n) (all_below n test) t).1 i)
  where
    by_last : (x : Bool) → eqb i n ≡ x → (i < n → T (test i)) → T (test i)
    by_last true e before = subst (λ (j : ℕ). T (test j)) (sym (eqb-true i n e)) (both_tests (test n) (all_below n test) t).0
    by_last false e before = before (omega (arith, eqb-false i n e))

-- a relation that holds on either branch holds whatever the test says
module _ {A B : Type 0} (R : A → B → Type 0) (t : Bool) {a a' : A} {b b' : B} (p : R a b) (q : R a' b') where
  pub if_both : R (cond t a a') (cond t b b')
  if_both = elim t as (λ x. R (cond x a a') (cond x b b')) [ true ↦ p | false ↦ q ]

  pub unless_both : R (cond (not t) a a') (cond t b' b)
  unless_both = elim t as (λ x. R (cond (not x) a a') (cond x b' b)) [ true ↦ q | false ↦ p ]

pub both_true : (a b : Bool) → a && b ≡ true → (a ≡ true) × (b ≡ true)
both_true true b e = (refl, e)
both_true false b e = absurd (subst T (sym e) tt)
