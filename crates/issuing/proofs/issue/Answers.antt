use mathlib.Core.Path.{ap, ◌∙◌}
use borrow.Author.Rules.{rules}
use Rattle.frame.specs.View.{meaning}
use Rattle.session.specs.Office.{with_order}
use Rattle.office.proofs.Decided.{fits, gives_frame, gives_refusal}
use Rattle.issuing.proofs.IssueLaws.{issue_decided, issue_refused, asked_back}
use Rattle.issuing.proofs.issue.Goals as goal

pub with_order-after-requires : goal.with_order-after-requires
with_order-after-requires c =
    ((fits (issue_decided _ _ _) _ (c.next_change.ensures.refusal ∙ issue_refused _ _ _) _ c.in-Ok.is).0, (asked_back _ _ c.in-Ok.ensures.change).0)

pub returns-in-Ok : goal.returns-in-Ok
returns-in-Ok c =
    let back = asked_back _ _ c.in-Ok.ensures.change in
    let after_is = c.with_order-after.ensures ∙ ap (with_order c.args.office) back.1 in
    gives_frame (issue_decided _ _ _) _ (c.next_change.ensures.refusal ∙ issue_refused _ _ _) c.order.result _ c.in-Ok.is after_is
    (ap meaning c.order.ensures ∙ rw (after_is, back.1)) (search (rules, c.order.type_inv.1.1.1.1)) _ _ _ (λ fits. fits.2) c.send.ensures

pub returns-in-Err : goal.returns-in-Err
returns-in-Err c =
    rw c.refused.ensures (gives_refusal (issue_decided _ _ _) _ (c.next_change.ensures.refusal ∙ issue_refused _ _ _) _ c.in-Err.is _)
