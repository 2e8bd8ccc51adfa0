-- What holds of replies.
use Rattle.std.specs.Prelude.{ℕ, ◌+◌, ◌<◌, ◌≤◌, ◌≡◌, List, ◌∷◌, ◌++◌, ◌⊎◌, length, replicate}
use Rattle.base.specs.Result.{refused, accepted}
use Rattle.packet.specs.declared.writer.Access.{Access}
use Rattle.packet.specs.declared.writer.Access.TheVariants.{Read}
use Rattle.packet.specs.Reply.{success}
use Rattle.reply.specs.Reader.{response_only, reply}

-- however many dummies stand before a good read's reply and whatever comes after it, the reader finds its data and its end
abbrev pub SuccessRead : Type 0
SuccessRead =
    (bytes after : List ℕ) (n : ℕ) → reply Read (replicate n 0xFF ++ (success bytes ++ after)) ≡
    accepted (record { response = 0x01; start = n + 1 + 1; count = length bytes; end = n + 1 + 1 + length bytes + 1 })

-- document 01's list of reserved responses
abbrev pub Reserved : ℕ → Type 0
Reserved r = (r ≡ 0x00) ⊎ ((r ≡ 0x06) ⊎ ((0x09 ≤ r) × (r ≤ 0xFE)))

-- whatever stands so before and after it, any other response is a reply by itself, but for 01 where a read was asked
abbrev pub ResponseRead : Type 0
ResponseRead =
    (asked : Access) (r : ℕ) → r < 0xFF → (Reserved r → ⊥) → (asked ≡ Read → r ≡ 0x01 → ⊥) → (after : List ℕ) (n : ℕ) →
    reply asked (replicate n 0xFF ++ r ∷ after) ≡ accepted (response_only r (n + 1))

-- a reserved response is refused, whichever way was asked
abbrev pub ReservedRefused : Type 0
ReservedRefused = (asked : Access) (r : ℕ) → Reserved r → (after : List ℕ) (n : ℕ) → reply asked (replicate n 0xFF ++ r ∷ after) ≡ refused 11

-- dummies alone, or no bytes at all, are no reply
abbrev pub DummiesRefused : Type 0
DummiesRefused = (asked : Access) (n : ℕ) → reply asked (replicate n 0xFF) ≡ refused 12
