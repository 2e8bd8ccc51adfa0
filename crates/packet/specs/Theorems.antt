-- What holds of packets.
use Rattle.std.specs.Prelude.{ℕ, ◌≤◌, ◌≡◌, List, ◌++◌, length, get_or, replicate}
use Rattle.packet.specs.declared.writer.Access.{Access}
use Rattle.packet.specs.declared.writer.Access.TheVariants.{Write}
use Rattle.packet.specs.Packet.{data_most, packet_limit, escape, packet, unescape}

-- taking the escapes out of an escaped list gives the list back
abbrev pub UnescapeEscape : Type 0
UnescapeEscape = (bs : List ℕ) → unescape (escape bs) ≡ bs

-- a packet holds 0xA5 only as its first byte
abbrev pub StartOnly : Type 0
StartOnly = (id : ℕ) (access : Access) (bytes : List ℕ) (i : ℕ) → get_or (packet id access bytes) i 0 ≡ 0xA5 → i ≡ 0

-- two equal packets have the same ID, way and data
abbrev pub PacketDetermines : Type 0
PacketDetermines =
    (id id' : ℕ) (access access' : Access) (bytes bytes' : List ℕ) → packet id access bytes ≡ packet id' access' bytes' →
    (id ≡ id') × (access ≡ access') × (bytes ≡ bytes')

-- no packet is longer than the limit
abbrev pub PacketShort : Type 0
PacketShort = (id : ℕ) (access : Access) (bytes : List ℕ) → length bytes ≤ data_most → length (packet id access bytes) ≤ packet_limit

-- a packet that reaches it: ID 2Dh has command byte 0x5A, and this data's checksum is 0xA5
abbrev pub longest_data : List ℕ
longest_data = replicate 50 0xA5 ++ replicate 205 0x5A

abbrev pub LongestReached : Type 0
LongestReached = (length longest_data ≡ data_most) × (length (packet 0x2D Write longest_data) ≡ packet_limit)
