use borrow.Author.Rules.{rules}
use Rattle.order_batch.proofs.Room.{gives_all, gives_none}
use Rattle.order_batch.proofs.issue_fitting.Goals as goal

pub returns-in-Ok : goal.returns-in-Ok
returns-in-Ok c =
    rw c.store.ensures
    (gives_all _ _ _ _ c.requires c.issue_each.new.self _ c.issue_each.new.frames _ _ _ c.min-limit.ensures (search rules) (search rules) (rw c.none.ensures at c.in-Ok.ensures.leads))

pub returns-in-Err : goal.returns-in-Err
returns-in-Err c =
    rw c.refused.ensures
    (gives_none _ _ _ _ c.requires c.issue_each.new.self _ c.issue_each.new.frames _ _ c.min-limit.ensures (search rules) (rw c.none.ensures at c.in-Err.ensures.leads))
