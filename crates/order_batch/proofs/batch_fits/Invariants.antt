use Rattle.std.proofs.Common.{◌≡◌, length, take}
use Rattle.outcome.specs.Batch.{batch_limit, data_lengths}
use Rattle.order_batch.proofs.batch_fits.Given as goal

abbrev pub invariant-loop-i : goal.invariant-loop-i
invariant-loop-i l = (length l.lengths ≡ batch_limit) × (take l.i l.lengths ≡ take l.i (data_lengths l.orders))
