use mathlib.Core.Path.{refl, ap}
use Rattle.frame.specs.View.{meaning}
use Rattle.office.proofs.Decided.{gives_frame, gives_refusal}
use Rattle.sending.proofs.Decisions.{reopen_decided}
use Rattle.sending.proofs.reopen.Goals as goal

pub returns : goal.returns
returns c =
    gives_frame (reopen_decided _ _) _ c.reopen_refusal.ensures c.opening.result _ c.in_default.is refl (ap meaning c.opening.ensures)
    (rw c.opening.ensures refl) _ _ _ (λ fits. fits) c.send.ensures

pub returns-in-Err : goal.returns-in-Err
returns-in-Err c = rw c.refused.ensures (gives_refusal (reopen_decided _ _) _ c.reopen_refusal.ensures _ c.in-Err.is _)
