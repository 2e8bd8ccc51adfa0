use Rattle.std.proofs.Common.{◌≡◌, ◌≤◌, List, ℕ, length, rules}
use borrow.Author.Tests.{le-ltb}
use Rattle.base.specs.Writes.{fitting}
use Rattle.packet.specs.Packet.{data_most, packet}
use Rattle.packet.specs.Writer.{id_most, written}
use Rattle.packet.specs.declared.writer.Access.{Access}
use Rattle.packet.proofs.PacketTheorems.{built_front, data_whole}
use Rattle.packet.proofs.writer.write.Goals as goal

-- with an ID and data that a packet takes, the room decides
written_fitting : (id : ℕ) (access : Access) (bytes : List ℕ) → id ≤ id_most → length bytes ≤ data_most → written id access bytes ≡ fitting (packet id access bytes)
unfolding written fitting
written_fitting id access bytes small short = λ i room. by_room room i
  where
    by_room : (room : ℕ) → written id access bytes room ≡ fitting (packet id access bytes) room
    by_room room = simp (le-ltb id_most id small, le-ltb data_most (length bytes) short)

pub returns : goal.returns
returns c =
    let a = c.args in
    let built = rw (c.as_slice.ensures.value, c.build.ensures, built_front _, c.command_byte.ensures, data_whole a.bytes.now (search rules)) at c.put.ensures in
    rw (written_fitting a.id a.access a.bytes.now (search rules) (search rules)) built
