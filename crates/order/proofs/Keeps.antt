-- A valid change: its data fits a packet, the controller as written obeys it, and settings that a controller could hold stay so.
use Rattle.std.proofs.Common.{ℕ, ◌<◌, ◌≤◌, List, [], length, arith}
use Rattle.packet.specs.Packet.{data_most}
use Rattle.frame.specs.declared.frame.Ask.{Ask}
use Rattle.frame.specs.declared.frame.Ask.TheVariants.{Command, Raise, Lower}
use Rattle.frame.specs.View.{asked_as}
use Rattle.frame.specs.Frame.{data_limit, Change, ValidChange, valid_command, valid_raise, valid_lower}
use Rattle.bus.proofs.Keeps.{perform_held, noted_held}
use Rattle.bus.proofs.SettlesAsWritten.{settles_as_written}
use Rattle.base.specs.Bytes.{Bytes}
use Rattle.number.proofs.NumberLaws.{bytes_le16}
use Rattle.order.specs.Apply.{change_command, change_data, order_packet, apply}
use Rattle.order.specs.Theorems.{ObeysAsWritten, ApplyHeld}

-- a command's data, and those of the backlight write that a raise or lower becomes
pub data_short : (level : ℕ) (ask : Ask) (d : List ℕ) → length d ≤ data_limit → length (change_data level (asked_as ask d)) ≤ data_most
data_short level (Command k) d h = omega arith
data_short level (Raise n) d h = omega arith
data_short level (Lower n) d h = omega arith

pub valid_short : (level : ℕ) (change : Change) → ValidChange change → length (change_data level change) ≤ data_most
valid_short level _ (valid_command {k} {d} _ short _) = data_short level (Command k) d short
valid_short level _ (valid_raise {n} _) = data_short level (Raise n) [] (omega arith)
valid_short level _ (valid_lower {n} _) = data_short level (Lower n) [] (omega arith)

data_bytes : (level : ℕ) (change : Change) → ValidChange change → Bytes (change_data level change)
data_bytes level _ (valid_command _ _ bytes) = bytes
data_bytes level _ (valid_raise _) = bytes_le16 _
data_bytes level _ (valid_lower _) = bytes_le16 _

command_byte : (change : Change) → ValidChange change → change_command change < 256
command_byte _ (valid_command byte _ _) = byte
command_byte _ (valid_raise _) = omega arith
command_byte _ (valid_lower _) = omega arith

pub obeys_as_written : ObeysAsWritten
unfolding apply
obeys_as_written σ change h valid =
    let level = σ.backlight in
    settles_as_written σ (change_command change) (change_data level change) h.status (command_byte change valid)
    (data_bytes level change valid) (valid_short level change valid)

pub apply_held : ApplyHeld
unfolding apply
apply_held σ change valid h =
    let level = σ.backlight in
    perform_held _ (change_command change) _ (data_bytes level change valid) (noted_held σ (order_packet level change) h)
