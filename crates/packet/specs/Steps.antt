-- What private functions do on the way: definitions that no public contract cites.
use Rattle.std.specs.Prelude.{ℕ, ◌+◌, ◌≡◌, List, ◌∷◌, ◌++◌, length}
use Rattle.std.proofs.lemmas.List.Edits.{sets}
use Rattle.packet.specs.Packet.{escape_byte}

-- bytes stored at a place of a lent output, which is then `after`, and the place after them answered
pub record Put (bytes : List ℕ) (at : ℕ) (before after : List ℕ) (next : ℕ) : Type 0 where
  pub next_is : next ≡ at + length bytes
  pub after_is : after ≡ sets before at bytes

-- a packet as far as its count
abbrev pub head : ℕ → ℕ → List ℕ
head command count = 0xA5 ∷ (escape_byte command ++ escape_byte count)
