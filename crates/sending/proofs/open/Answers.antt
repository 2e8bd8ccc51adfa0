use mathlib.Core.Path.{refl, ap}
use Rattle.frame.specs.View.{meaning}
use Rattle.office.proofs.Decided.{gives_frame, gives_refusal}
use Rattle.sending.proofs.Decisions.{open_decided}
use Rattle.sending.proofs.open.Goals as goal

pub returns : goal.returns
returns c =
    gives_frame (open_decided _ _ _) _ c.open_refusal.ensures c.opening.result _ c.in_default.is c.awaiting.ensures (ap meaning c.opening.ensures)
    (rw c.opening.ensures refl) _ _ _ (λ fits. fits) c.send.ensures

pub returns-in-Err : goal.returns-in-Err
returns-in-Err c = rw c.refused.ensures (gives_refusal (open_decided _ _ _) _ c.open_refusal.ensures _ c.in-Err.is _)
