use Rattle.std.proofs.Common.{◌≡◌, drop}
use Rattle.outcome.specs.Batch.{fits}
use Rattle.outcome.proofs.lengths_fit.Given as goal

abbrev pub invariant-loop-len : goal.invariant-loop-len
invariant-loop-len l = fits (drop l.len-index l.lengths) l.left ≡ fits l.lengths l.total
