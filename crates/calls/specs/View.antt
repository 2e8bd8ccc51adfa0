-- The code's calls as calls of demand 3's list, and what running one gives.
use Rattle.std.specs.Prelude.{ℕ, ◌≡◌, List, [], ◌∷◌, map, ◌⊎◌}
use Rattle.std.proofs.Common.{inl, inr}
use Rattle.std.proofs.Math.Option.{none}
use Rattle.base.specs.Lent.{overwritten}
use Rattle.frame.specs.View.{asked_as, refusal_of}
use Rattle.session.specs.declared.Pair.{Pair}
use Rattle.outcome.specs.declared.Answered.{Answered}
use Rattle.outcome.specs.Batch.{Outcome, bytes_of_parts, report}
use Rattle.session.specs.Calls.{BoxCall, restart, box_frame, OfficeCall, open_session, issue, resend, reopen, office_frame}
use Rattle.calls.specs.declared.Call.{Call as CodeCall}
use Rattle.calls.specs.declared.Call.TheVariants.{Restart, BoxFrame, OpenSession, Issue, Resend, Reopen, OfficeFrame}

-- with these bytes, and with so many bytes of output lent
abbrev pub call_of : CodeCall → List ℕ → ℕ → BoxCall ⊎ OfficeCall
call_of (Restart session) bytes room = inl (restart session.0)
call_of BoxFrame bytes room = inl (box_frame bytes room)
call_of (OpenSession session) bytes room = inr (open_session session.0 room)
call_of (Issue ask) bytes room = inr (issue (asked_as ask bytes) room)
call_of (Resend number) bytes room = inr (resend number.0 room)
call_of Reopen bytes room = inr (reopen room)
call_of OfficeFrame bytes room = inr (office_frame bytes)

-- the outcome of a single call fixes what was returned, and what was made of the lent output: both ends, what a refusal tells, the length and every byte
pub record Runs (t : Outcome Pair) (r : Answered Pair) (before after : List ℕ) : Type 0 where
  pub state_is : r.state ≡ t.state
  pub whole_is : t.refusal ≡ none
  pub part_is : map report t.parts ≡ record { refusal = refusal_of r.verdict; len = r.len } ∷ []
  pub output_is : after ≡ overwritten (bytes_of_parts t.parts) before
