-- An escape found, and for the box: its order is obeyed.
use Rattle.std.proofs.Common.{ℕ, ◌-◌, ◌≤◌, ◌≡◌, refl, List, [], ◌∷◌, length, replicate, eqb, arith}
use Rattle.std.specs.List.{list_any}
use Rattle.packet.specs.Packet.{data_most, has_escape, packet_of}
use Rattle.bus.specs.declared.Controller.{Controller}
use Rattle.bus.specs.Commands.{perform}
use Rattle.bus.specs.Bus.{waiting, opening, noted}
use Rattle.bus.specs.Run.{run, Ready}
use Rattle.bus.proofs.RunLaws.{run_append}
use Rattle.bus.proofs.ReadsBack.{reads_back_command}
use Rattle.bus.proofs.Settles.{settles_command}
use Rattle.order.specs.Apply.{change_command, change_data, apply}
use Rattle.order.specs.Theorems.{Obeys}

pub any_escape : (l : List ℕ) → list_any (λ (b : ℕ). eqb b 0x5A) l ≡ has_escape l
unfolding has_escape
any_escape [] = refl
any_escape (b ∷ l) = rw (any_escape l)

-- with the packet in and the whole reply out the controller is ready again, and the command is performed
obeys_command : (c : Controller) (k : ℕ) (d : List ℕ) → Ready c → length d ≤ data_most →
    let after = run c (packet_of k d) in
    let end = run after (replicate (after.reply.len - after.reply.sent) 0x00) in
    Ready end × (end.settings ≡ (perform (noted c.settings (packet_of k d)) k d).settings)
obeys_command c k d ready short =
    let p = packet_of k d in
    let σ = noted c.settings p in
    let n = (run c p).reply.len - (run c p).reply.sent in
    let opened : opening c ≡ c.settings = rw ready.idle in
    let replied : (run c p).reply ≡ waiting (perform σ k d).reply = rw opened at (reads_back_command c k d short ready.body_long).reply_is in
    let enough : (perform σ k d).reply.len ≤ n = rw replied (omega arith) in
    rw run_append at (settles_command c k d n ready short enough)

pub obeys : Obeys
unfolding apply
obeys c change = obeys_command c (change_command change) (change_data c.settings.backlight change)
