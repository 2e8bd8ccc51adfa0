use Rattle.std.proofs.Common.{◌≡◌, ◌∷◌, take}
use Rattle.packet.specs.Packet.{checksum}
use Rattle.packet.proofs.sum.checksum.Given as goal

abbrev pub invariant-loop-byte : goal.invariant-loop-byte
invariant-loop-byte l = l.sum ≡ checksum (l.first ∷ l.count ∷ take l.byte-index l.bytes)
