-- A frame sent: its contract from what the link did.
use Rattle.std.proofs.Common.{◌≡◌, ℕ, Bool, true, false, List, length, ltb, refl, Result, Ok, Err}
use mathlib.Core.Option.{Option}
use mathlib.Core.Path.{◌∙◌}
use Rattle.std.specs.Result.{result_unwrap_or}
use Rattle.base.specs.declared.refusal.Refusal.{Refusal}
use Rattle.frame.specs.Frame.{Frame}
use Rattle.frame.specs.View.{refusal_of}
use Rattle.link.specs.View.{encoding_of, sent_bytes, sent_refusal, Sends}
use Rattle.session.specs.declared.Office.{Office}
use Rattle.outcome.specs.declared.Answered.{Answered}
use Rattle.outcome.specs.Turn.{Gives, refused_answer}
use Rattle.office.specs.View.{sent}

-- the link's answer, with the office beside it
abbrev pub beside : Office → Result ℕ Refusal → Answered Office
beside o (Ok n) = record { state = o; verdict = Ok tt; len = n }
beside o (Err r) = refused_answer o r

module _ (o : Office) (m : Option Frame) (before after : List ℕ) where
  pub gives_sent : (r : Result ℕ Refusal) → Sends (encoding_of m) r before after → Gives (sent o m (length before)) (beside o r) before after
  unfolding sent sent_bytes sent_refusal
  gives_sent r done = by_room (ltb (length before) (length (encoding_of m))) refl r done
    where
      by_room : (short : Bool) → ltb (length before) (length (encoding_of m)) ≡ short → (r : Result ℕ Refusal) → Sends (encoding_of m) r before after →
          Gives (sent o m (length before)) (beside o r) before after
      by_room true e (Ok n) d = rw e (record { state_is = refl; refusal_is = rw e at d.refusal_is; length_is = rw e at d.length_is; output_is = rw e at d.output_is })
      by_room true e (Err x) d = rw e (record { state_is = refl; refusal_is = rw e at d.refusal_is; length_is = rw e at d.length_is; output_is = rw e at d.output_is })
      by_room false e (Ok n) d = rw e (record { state_is = refl; refusal_is = rw e at d.refusal_is; length_is = rw e at d.length_is; output_is = rw e at d.output_is })
      by_room false e (Err x) d = rw e (record { state_is = refl; refusal_is = rw e at d.refusal_is; length_is = rw e at d.length_is; output_is = rw e at d.output_is })

  -- the same, from the verdict and the length alone
  pub gives_told : (r : Result ℕ Refusal) → Sends (encoding_of m) r before after → (answer : Answered Office) → answer.state ≡ o →
      refusal_of answer.verdict ≡ refusal_of r → answer.len ≡ result_unwrap_or r 0 → Gives (sent o m (length before)) answer before after
  gives_told (Ok n) done answer state verdict len =
      let g = gives_sent (Ok n) done in
      record { state_is = state ∙ g.state_is; refusal_is = verdict ∙ g.refusal_is; length_is = len ∙ g.length_is; output_is = g.output_is }
  gives_told (Err x) done answer state verdict len =
      let g = gives_sent (Err x) done in
      record { state_is = state ∙ g.state_is; refusal_is = verdict ∙ g.refusal_is; length_is = len ∙ g.length_is; output_is = g.output_is }
