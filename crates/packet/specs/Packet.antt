-- What a packet is: document 01, "Bytes on the bus".
use Rattle.std.specs.Prelude.{ℕ, ◌+◌, ◌*◌, ◌%◌, Bool, true, false, cond, ◌||◌, List, [], ◌∷◌, ◌++◌, length, flat_map, eqb}
use Rattle.packet.specs.declared.writer.Access.{Access}
use Rattle.packet.specs.declared.writer.Access.TheVariants.{Write, Read}

-- a packet's most data bytes: the code's DATA_MOST, since a clause cannot name a constant of the code
abbrev pub data_most : ℕ
data_most = 255

-- the longest packet's length, as `PacketShort` and `LongestReached` in Theorems say: the code's PACKET_LIMIT
abbrev pub packet_limit : ℕ
packet_limit = 516

-- the lowest bit tells a read from a write
abbrev pub command_byte : ℕ → Access → ℕ
command_byte id Write = 2 * id
command_byte id Read = 2 * id + 1

unfoldable pub total : List ℕ → ℕ
total [] = 0
total (b ∷ bs) = b + total bs

unfoldable pub checksum : List ℕ → ℕ
checksum bs = total bs % 256

-- a byte as it goes over the bus
unfoldable pub escape_byte : ℕ → List ℕ
escape_byte b =
    cond (eqb b 0xA5) (0x5A ∷ 0x00 ∷ [])
    (cond (eqb b 0x5A) (0x5A ∷ 0x5A ∷ [])
    (b ∷ []))

abbrev pub escape : List ℕ → List ℕ
escape bs = flat_map escape_byte bs

-- the start goes out as it is, every other field escaped
unfoldable pub fields : ℕ → ℕ → List ℕ → ℕ → List ℕ
fields command n bytes sum = 0xA5 ∷ (escape_byte command ++ escape_byte n ++ escape bytes ++ escape_byte sum)

-- the packet of a command byte and its data: the checksum covers what stands between the start and itself, before it is escaped
unfoldable pub packet_of : ℕ → List ℕ → List ℕ
packet_of command bytes = fields command (length bytes) bytes (checksum (command ∷ length bytes ∷ bytes))

abbrev pub packet : ℕ → Access → List ℕ → List ℕ
packet id access bytes = packet_of (command_byte id access) bytes

-- the bytes that an escaped list stands for; the flag says that an escape is open
unfoldable pub unescape_from : Bool → List ℕ → List ℕ
unescape_from escaped [] = []
unescape_from false (b ∷ bs) = cond (eqb b 0x5A) (unescape_from true bs) (b ∷ unescape_from false bs)
unescape_from true (b ∷ bs) = cond (eqb b 0x00) 0xA5 b ∷ unescape_from false bs

abbrev pub unescape : List ℕ → List ℕ
unescape bs = unescape_from false bs

-- whether bytes hold an escape
unfoldable pub has_escape : List ℕ → Bool
has_escape [] = false
has_escape (b ∷ bs) = eqb b 0x5A || has_escape bs
