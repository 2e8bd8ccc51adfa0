use Rattle.std.proofs.Common.{take}
use Rattle.packet.specs.Packet.{escape}
use Rattle.packet.specs.Steps.{Put}
use Rattle.packet.proofs.builder.put_all.Given as goal

abbrev pub invariant-loop-byte : goal.invariant-loop-byte
invariant-loop-byte l = Put (escape (take l.byte-index l.bytes)) l.start l.initial.out l.out l.at
