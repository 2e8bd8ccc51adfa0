-- A pair taken out of several offices does what the list's rules say, proved.
use mathlib.Core.Path.{refl}
use mathlib.Core.Logic.{inl, inr}
use Rattle.session.specs.Calls.{box_rules}
use Rattle.session.specs.OneOffice.{PairWithin}
use Rattle.session.proofs.Tools.{updated_by_own}

pub pair_within : PairWithin
pair_within e i (inl c) =
    let t = box_rules e.cab c in
    λ j. record { state = record { cab = t.state; offices = updated_by_own e.offices i (e.offices i) refl j }; refusal = t.refusal; parts = t.parts }
pair_within e i (inr c) = refl
