use Rattle.std.proofs.Common.{◌≡◌, ◌≤◌, ◌++◌, length, take, drop}
use Rattle.controller.specs.BusState.{assembled}
use Rattle.bus.specs.Run.{run, outs}
use Rattle.controller.proofs.run.exchange_all.Given as goal

abbrev pub invariant-loop-i : goal.invariant-loop-i
invariant-loop-i l =
    (l.i ≤ l.n) ×
    (assembled l.state l.settings l.body l.bytes ≡ run (assembled l.initial.state l.initial.settings l.initial.body l.initial.bytes) (take l.i l.input)) ×
    (l.output ≡ outs (assembled l.initial.state l.initial.settings l.initial.body l.initial.bytes) (take l.i l.input) ++ drop l.i l.initial.output) ×
    (length l.output ≡ length l.initial.output)
