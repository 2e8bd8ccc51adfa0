-- What a frame in gives.
use Rattle.std.specs.Prelude.{ℕ, ◌≡◌, cond, leb, ltb, Result, Ok, Err}
use Rattle.std.proofs.Math.Option.{Option, none, some}
use Rattle.base.specs.declared.refusal.Refusal.{Refusal}
use Rattle.frame.specs.Frame.{Frame}
use Rattle.frame.specs.View.{refusal_of}
use Rattle.session.specs.declared.Office.{Office}
use Rattle.session.specs.Office as office
use Rattle.outcome.specs.Turn.{Turn}

-- a refusal leaves the office as it was
abbrev pub after : Office → Result Office Refusal → Office
after o (Ok new) = new
after o (Err r) = o

-- the turn fixes what a call at this office returned: the office afterwards and what a refusal tells. Nothing is lent.
pub record Takes (t : Turn Office) (o : Office) (r : Result Office Refusal) : Type 0 where
  pub state_is : after o r ≡ t.state
  pub refusal_is : refusal_of r ≡ t.refusal

-- the last two tests of `acknowledged`
abbrev pub counted : Office → ℕ → Office
counted o k = cond (ltb o.confirmed.0 k) (cond (leb k o.issued.0) (record o { confirmed = record { 0 = k } }) o) o

-- no frame is answered as one that is not for the office
abbrev pub received : Office → Option Frame → Turn Office
received o none = office.not_for_office o
received o (some f) = office.received o f
