use Rattle.std.proofs.Common.{◌≡◌, drop}
use Rattle.wrapping.specs.Receiver.{after_more, receive}
use Rattle.stream.proofs.receiver.receive.Given as goal

abbrev pub invariant-loop-i : goal.invariant-loop-i
invariant-loop-i l = receive l.initial.receiver l.bytes ≡ after_more l.i (receive l.receiver (drop l.i l.bytes))
