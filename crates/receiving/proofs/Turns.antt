-- Laws for the proofs of this crate.
use Rattle.std.proofs.Common.{◌≡◌, Result, Ok, Err, IsErrAnd, ℕ, Bool, true, false, cond, eqb, ltb, leb, refl, sym, ap, ap₂, eqb-true, true≢false}
use mathlib.Core.Option.{Option, none, some, some-injective, none-ne-some}
use Rattle.base.specs.Refusal.{Fault, fault_of}
use Rattle.base.specs.declared.refusal.Fault.{Fault as FaultStruct}
use Rattle.base.specs.declared.refusal.Refusal.{Refusal}
use Rattle.base.specs.declared.refusal.Refusal.TheVariants.{Frame as AtFrame}
use Rattle.frame.specs.Frame.{Frame}
use Rattle.judging.specs.Decoding.{Decoded, a_fault, a_frame}
use Rattle.judging.specs.View.{fault_in, frame_read}
use Rattle.outcome.specs.Turn.{faulted}
use Rattle.session.specs.declared.Office.{Office}
use Rattle.session.specs.declared.Stage.{Stage}
use Rattle.session.specs.declared.Stage.TheVariants.{Unopened, Awaiting, Live, Ended}
use Rattle.session.specs.Office.{office_of, is_live, acknowledged, judged}
use Rattle.receiving.specs.View.{counted, received, Takes}

live_stage : (stage : Stage) → is_live stage ≡ true → stage ≡ Live
live_stage Unopened e = absurd (true≢false (sym e))
live_stage Awaiting e = absurd (true≢false (sym e))
live_stage Live e = refl
live_stage Ended e = absurd (true≢false (sym e))

-- an ACK of the open session changes the count alone
pub acknowledged_counts : (o : Office) (s k : ℕ) → acknowledged o s k ≡ cond (is_live o.stage) (cond (eqb s o.session.0) (counted o k) o) o
unfolding acknowledged
acknowledged_counts o s k = by_tests (is_live o.stage) refl (eqb s o.session.0) refl
  where
    by_tests : (live : Bool) → is_live o.stage ≡ live → (same : Bool) → eqb s o.session.0 ≡ same →
        cond live (cond same (cond (ltb o.confirmed.0 k) (cond (leb k o.issued.0) (office_of Live s o.settings o.issued.0 k o.window) o) o) o) o
        ≡ cond live (cond same (counted o k) o) o
    by_tests true e true f =
        ap₂ (λ (stage : Stage) (x : ℕ). cond (ltb o.confirmed.0 k) (cond (leb k o.issued.0) (office_of stage x o.settings o.issued.0 k o.window) o) o)
        (sym (live_stage o.stage e)) (eqb-true s o.session.0 f)
    by_tests true e false f = refl
    by_tests false e same f = refl

-- what is made of bytes, from what `decode` tells of them
module _ (o : Office) where
  pub judged_fault : (d : Decoded) (f : Fault) → some f ≡ fault_in d → judged o d ≡ faulted o f
  judged_fault (a_fault f) g e = ap (faulted o) (sym (some-injective _ _ e))
  judged_fault (a_frame frame) g e = absurd (none-ne-some _ (sym e))

  pub judged_frame : (d : Decoded) (frame : Option Frame) → none ≡ fault_in d → frame ≡ frame_read d → judged o d ≡ received o frame
  judged_frame (a_fault f) frame e m = absurd (none-ne-some _ e)
  judged_frame (a_frame f) frame e m = ap (received o) (sym m)

  pub takes_fault : (f : FaultStruct) (r : Result Office Refusal) → IsErrAnd r (λ (refusal : Refusal). refusal ≡ AtFrame f) → Takes (faulted o (fault_of f)) o r
  takes_fault f (Ok new) e = absurd e
  takes_fault f (Err refusal) e = rw e (record { state_is = refl; refusal_is = refl })
