-- The controller as written, given a command's packet: idle again, with the command performed.
use Prim.Native.Nat.{ℕ}
use mathlib.Core.Path.{◌≡◌, refl, ap, ◌∙◌}
use mathlib.Core.Bool.{false}
use mathlib.Core.List.{List, [], ◌∷◌}
use mathlib.Core.Option.{none}
use lib.ListN.{length, replicate}
use Rattle.packet.specs.Packet.{packet_of}
use Rattle.packet.proofs.PacketLaws.{packet_bytes}
use Rattle.settings.specs.declared.settings.Settings.{Settings}
use Rattle.bus.specs.Run.{run}
use Rattle.bus.specs.AsWritten.{State, state, idle, step, steps}
use Rattle.bus.specs.BusTheorems.{SettlesAsWritten}
use Rattle.bus.proofs.Agreement.{ready_with, idle_after}
use Rattle.bus.proofs.ReadsBack.{reads_back_command}

-- zeros bring the reply out and change nothing
drained : (us : List ℕ) (σ : Settings) → steps (state σ none false us) (replicate (length us) 0x00) ≡ idle σ
unfolding steps step
drained [] σ = refl
drained (u ∷ us) σ = drained us σ

pub settles_as_written : SettlesAsWritten
settles_as_written σ k d fits hk hd short =
    let p = packet_of k d in
    let read = reads_back_command (ready_with σ) k d short refl in
    ap (λ (s : State). steps s (replicate (length s.unsent) 0x00)) (idle_after σ fits p (packet_bytes k d hk hd short) read.idle read.escape_shut)
    ∙ drained (steps (idle σ) p).unsent (run (ready_with σ) p).settings
    ∙ ap idle read.settings_are
