use Rattle.order_batch.proofs.Rounds.{Underway}
use Rattle.order_batch.proofs.Issued.issue_each.Given as goal

abbrev pub invariant-loop-order : goal.invariant-loop-order
invariant-loop-order l = Underway l.initial.self l.orders l.bytes l.initial.frames l.self l.frames l.order-index
