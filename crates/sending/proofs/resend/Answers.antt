use mathlib.Core.Path.{refl}
use borrow.Author.Rules.{rules}
use Rattle.office.proofs.Decided.{gives_frame, gives_refusal}
use Rattle.sending.proofs.Decisions.{resend_decided}
use Rattle.sending.proofs.resend.Goals as goal

pub returns : goal.returns
returns c =
    gives_frame (resend_decided _ _ _) _ c.resend_refusal.ensures c.kept_order.result _ c.in_default.is refl c.kept_order.ensures
    (search (rules, c.kept_order.type_inv.1.1.1.1)) _ _ _ (λ fits. fits.1) c.send.ensures

pub returns-in-Err : goal.returns-in-Err
returns-in-Err c = rw c.refused.ensures (gives_refusal (resend_decided _ _ _) _ c.resend_refusal.ensures _ c.in-Err.is _)
