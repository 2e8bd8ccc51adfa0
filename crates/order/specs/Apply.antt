-- What an order does to the settings: document 01, "The adjustment link".
use Rattle.std.specs.Prelude.{ℕ, ◌+◌, ◌-◌, min, ◌≡◌, List}
use Rattle.number.specs.Number.{le16_bytes}
use Rattle.packet.specs.Packet.{packet_of}
use Rattle.settings.specs.declared.settings.Settings.{Settings}
use Rattle.bus.specs.Commands.{perform}
use Rattle.bus.specs.Bus.{noted}
use Rattle.frame.specs.Frame.{Change, command, raise, lower}
use Rattle.order.specs.declared.change.Resolved.{Resolved}

-- a change's command byte and data: raise and lower are writes of the backlight, register 00h, stopped at either end
abbrev pub change_command : Change → ℕ
change_command (command k d) = k
change_command (raise n) = 0x00
change_command (lower n) = 0x00

abbrev pub change_data : ℕ → Change → List ℕ
change_data level (command k d) = d
change_data level (raise n) = le16_bytes (min (level + n) 65535)
change_data level (lower n) = le16_bytes (level - n)

-- the packet that the box sends for a change, at this backlight level
abbrev pub order_packet : ℕ → Change → List ℕ
order_packet level change = packet_of (change_command change) (change_data level change)

-- the settings after a change: its command performed, with "escape seen" where its packet holds an escape
unfoldable pub apply : Settings → Change → Settings
apply σ change =
    (perform (noted σ (order_packet σ.backlight change)) (change_command change) (change_data σ.backlight change)).settings

-- ---- the code's struct

-- a command and data that a change comes to
pub record Resolves (level : ℕ) (change : Change) (r : Resolved) : Type 0 where
  pub command_is : r.command ≡ change_command change
  pub data_is : r.body.items ≡ change_data level change
