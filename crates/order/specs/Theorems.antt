-- What holds of an order.
use Rattle.std.specs.Prelude.{◌-◌, ◌≤◌, ◌≡◌, length, replicate}
use Rattle.packet.specs.Packet.{data_most}
use Rattle.settings.specs.declared.settings.Settings.{Settings}
use Rattle.settings.specs.Range.{Held}
use Rattle.bus.specs.declared.Controller.{Controller}
use Rattle.bus.specs.Run.{run, Ready}
use Rattle.bus.specs.AsWritten.{idle, steps}
use Rattle.frame.specs.Frame.{Change, ValidChange}
use Rattle.order.specs.Apply.{change_data, order_packet, apply}

-- a controller that is ready, given a change's packet and then 0x00 until the reply is out, holds what `apply` says and is ready again
abbrev pub Obeys : Type 0
Obeys =
    (c : Controller) (change : Change) → Ready c → length (change_data c.settings.backlight change) ≤ data_most →
    let after = run c (order_packet c.settings.backlight change) in
    let end = run after (replicate (after.reply.len - after.reply.sent) 0x00) in
    Ready end × (end.settings ≡ apply c.settings change)

-- so does the controller as written, from any settings that a controller could hold: idle, it holds what `apply` says and is idle again
abbrev pub ObeysAsWritten : Type 0
ObeysAsWritten =
    (σ : Settings) (change : Change) → Held σ → ValidChange change →
    let after = steps (idle σ) (order_packet σ.backlight change) in
    steps after (replicate (length after.unsent) 0x00) ≡ idle (apply σ change)

-- a valid change keeps settings that a controller could hold
abbrev pub ApplyHeld : Type 0
ApplyHeld = (σ : Settings) (change : Change) → ValidChange change → Held σ → Held (apply σ change)
