-- Lengths that sum to the bytes cut them exactly, and the data of a batch are cut so.
use Prim.Native.Nat.{ℕ, ◌+◌, ◌≤◌}
use native.Mathlib.Omega.{arith}
use mathlib.Core.Path.{◌≡◌, refl, ap, ◌∙◌}
use mathlib.Core.List.{List, [], ◌∷◌, ◌++◌, foldr, zip_with}
use lib.ListN.{length, take, drop, length-drop, take-append-drop}
use lib.Seq.{take_all, length-take-le}
use Rattle.frame.specs.Frame.{Change}
use Rattle.frame.specs.View.{asked_as}
use Rattle.outcome.specs.Theorems.{CutsExactly, ChangesCut}

pub cuts_exactly : CutsExactly
cuts_exactly [] bytes sums = (refl, take_all 0 bytes (omega arith))
cuts_exactly (n ∷ lengths) bytes sums =
    let within : n ≤ length bytes = omega arith in
    let rest : foldr ◌+◌ 0 lengths ≡ length (drop n bytes) = omega (arith, length-drop n bytes) in
    let (long, joined) = cuts_exactly lengths (drop n bytes) rest in
    ((λ i. length-take-le n bytes within i ∷ long i), ap (λ (l : List ℕ). take n bytes ++ l) joined ∙ take-append-drop n bytes)

pub changes_cut : ChangesCut
unfolding zip_with
changes_cut [] bytes = refl
changes_cut (o ∷ orders) bytes = ap (λ (cs : List Change). asked_as o.ask (take o.len bytes) ∷ cs) (changes_cut orders (drop o.len bytes))
