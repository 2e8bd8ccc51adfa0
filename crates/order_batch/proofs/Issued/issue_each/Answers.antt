use borrow.Author.Rules.{rules}
use Rattle.order_batch.proofs.Rounds.{begun, ready, one_further, refused_all, all_go}
use Rattle.order_batch.proofs.Issued.issue_each.Goals as goal

pub loop-order-init : goal.loop-order-init
loop-order-init c = begun _ _ _ _ c.requires

pub issue-requires : goal.issue-requires
issue-requires c = ready _ _ _ _ c.loop-order.invariant _ (search rules)

pub returns-in_err-issue-clause-leads : goal.returns-in_err-issue-clause-leads
returns-in_err-issue-clause-leads c =
    refused_all _ _ _ _ c.loop-order.invariant _ (search rules) _ _ (search rules) (rw c.in_err-issue.was at c.issue.ensures)

pub loop-order-preserved : goal.loop-order-preserved
loop-order-preserved c =
    one_further _ _ _ _ c.loop-order.invariant _ (search rules) (rw c.in_ok-issue.was at c.issue.ensures) (search rules)

pub returns-clause-leads : goal.returns-clause-leads
returns-clause-leads c = all_go _ _ _ _ c.loop-order.invariant (search rules)
