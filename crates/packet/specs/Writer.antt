-- What the packet writer is to do: document 01, "Refusal numbers".
use Rattle.std.specs.Prelude.{ℕ, cond, List, length, replicate, ltb}
use Rattle.base.specs.Result.{Result, refused, accepted}
use Rattle.base.specs.Lent.{overwritten}
use Rattle.packet.specs.Packet.{data_most, packet_limit, packet}
use Rattle.packet.specs.declared.builder.Packet.{Packet}
use Rattle.packet.specs.declared.writer.Access.{Access}

-- the highest ID: the code's ID_MOST
abbrev pub id_most : ℕ
id_most = 127

-- the bytes to write, or a refusal, in the order 3, 2, 1; `room` is the length of the lent output
unfoldable pub written : ℕ → Access → List ℕ → ℕ → Result (List ℕ)
written id access bytes room =
    cond (ltb id_most id) (refused 3)
    (cond (ltb data_most (length bytes)) (refused 2)
    (cond (ltb room (length (packet id access bytes))) (refused 1)
    (accepted (packet id access bytes))))

-- a packet by value: its bytes at the front of as many as the longest has
abbrev pub built : List ℕ → Packet
built bytes = record { bytes = overwritten bytes (replicate packet_limit 0); len = length bytes }
