use borrow.Author.Rules.{rules}
use Rattle.frame_run.proofs.SoFar.{so_far_none, so_far_all, next_fits, so_far_next}
use Rattle.frame_run.proofs.each.Goals as goal

pub loop-len-init : goal.loop-len-init
loop-len-init c = rw c.none.ensures (so_far_none _ _ _ _ c.requires)

pub step-run-requires : goal.step-run-requires
step-run-requires c = next_fits _ _ _ _ c.loop-len.invariant (search rules)

pub loop-len-preserved : goal.loop-len-preserved
loop-len-preserved c = so_far_next _ _ _ _ c.loop-len.invariant (search rules) c.step-run.ensures

pub returns : goal.returns
returns c = so_far_all _ _ _ _ c.loop-len.invariant (search rules)
