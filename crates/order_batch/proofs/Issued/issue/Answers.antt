use borrow.Author.Rules.{rules}
use native.Mathlib.Nat.{add-sub_cancel_left}
use Rattle.order_batch.proofs.OneMore.{gives_behind, refused_goes, accepted_goes}
use Rattle.order_batch.proofs.Issued.issue.Goals as goal

pub returns-in_err-next : goal.returns-in_err-next
returns-in_err-next c =
    let next = c.issue-next in
    refused_goes _ _ _ _ _ next.result
    (gives_behind _ _ next.result _ _ _ _ _ (rw add-sub_cancel_left at next.ensures) (search rules) (search rules) (search rules))
    _ _ c.in_err-next.was (search rules)

pub returns : goal.returns
returns c =
    let next = c.issue-next in
    accepted_goes _ _ _ _ _ next.result
    (gives_behind _ _ next.result _ _ _ _ _ (rw add-sub_cancel_left at next.ensures) (search rules) (search rules) (search rules))
    _ c.in_ok-next.was (search rules) _ (rw c.with-self.ensures)
