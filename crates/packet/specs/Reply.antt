-- The one reply that has data: document 01, "Bytes on the bus".
use Rattle.std.specs.Prelude.{ℕ, List, [], ◌∷◌, ◌++◌, length}
use Rattle.packet.specs.Packet.{checksum}

-- the whole reply to a read that succeeds
unfoldable pub success : List ℕ → List ℕ
success bytes = 0x01 ∷ length bytes ∷ bytes ++ checksum (0x01 ∷ length bytes ∷ bytes) ∷ []
