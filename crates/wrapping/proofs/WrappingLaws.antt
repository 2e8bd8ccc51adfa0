-- Laws of wrapping.
use Prim.Native.Nat.{ℕ, ◌≤◌}
use native.Mathlib.Omega.{arith}
use mathlib.Core.Path.{◌≡◌}
use mathlib.Core.Bool.{true, false, false≢true}
use lib.Dec.{eqb}
use borrow.Author.Tests.{eqb-false, leb-true}
use Rattle.std.proofs.lemmas.Bool.{cond_both}
use Rattle.wrapping.specs.Wrapping.{contents_most, fits}

pub fits_within : (n : ℕ) → fits n ≡ true → (1 ≤ n) × (n ≤ contents_most)
unfolding fits
fits_within n = cond_both (eqb n 0) false _ (λ t. t ≡ true → (1 ≤ n) × (n ≤ contents_most))
    (λ _ e. absurd (false≢true e))
    (λ some_bytes e. (omega (arith, eqb-false n 0 some_bytes), leb-true n contents_most e))
