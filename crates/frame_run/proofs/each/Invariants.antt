use Rattle.frame_run.proofs.SoFar.{SoFar}
use Rattle.frame_run.proofs.each.Given as goal

abbrev pub invariant-loop-len : goal.invariant-loop-len
invariant-loop-len l = SoFar l.initial.run.cab l.lengths l.bytes l.initial.out l.out l.run l.len-index
