-- A box and one office, as a program holds them that plays both. It runs a call by demand 3's own rules, and the call changes its own end alone.
use Rattle.std.specs.Prelude.{ℕ, ◌≡◌, ◌⊎◌}
use Rattle.std.proofs.Common.{inl, inr}
use Rattle.outcome.specs.Batch.{Outcome}
use Rattle.session.specs.declared.Cab.{Cab}
use Rattle.session.specs.declared.Office.{Office}
use Rattle.session.specs.declared.Pair.{Pair}
use Rattle.session.specs.Calls.{BoxCall, OfficeCall, Call, at_box, at_office, Ends, updated, box_rules, office_rules, ends_rules}

abbrev pub at_cab : Pair → Outcome Cab → Outcome Pair
at_cab p t = record { state = record { cab = t.state; office = p.office }; refusal = t.refusal; parts = t.parts }

abbrev pub at_its_office : Pair → Outcome Office → Outcome Pair
at_its_office p t = record { state = record { cab = p.cab; office = t.state }; refusal = t.refusal; parts = t.parts }

abbrev pub pair_rules : Pair → BoxCall ⊎ OfficeCall → Outcome Pair
pair_rules p (inl c) = at_cab p (box_rules p.cab c)
pair_rules p (inr c) = at_its_office p (office_rules p.office c)

-- ---- among several offices: office i is taken out of its place, and put back after the call

abbrev pub taken_out : Ends → ℕ → Pair
taken_out e i = record { cab = e.cab; office = e.offices i }

abbrev pub put_back : Ends → ℕ → Outcome Pair → Outcome Ends
put_back e i t = record { state = record { cab = t.state.cab; offices = updated e.offices i t.state.office }; refusal = t.refusal; parts = t.parts }

abbrev pub placed : ℕ → BoxCall ⊎ OfficeCall → Call
placed i (inl c) = at_box c
placed i (inr c) = at_office i c

-- It is proved in proofs/OneOffice.antt.
abbrev pub PairWithin : Type 0
PairWithin = (e : Ends) (i : ℕ) (c : BoxCall ⊎ OfficeCall) → put_back e i (pair_rules (taken_out e i) c) ≡ ends_rules e (placed i c)
