-- A command's packet and then zeros, for its reply to go out, leave the controller ready for the next, with the command done.
use Prim.Native.Nat.{ℕ, zero, suc, ◌+◌, ◌/◌, ◌≤◌, ◌<◌}
use mathlib.Core.Path.{◌≡◌, refl, ap, ◌∙◌}
use Rattle.std.specs.Prelude.{Option as StdOption, Some, None}
use mathlib.Core.Bool.{Bool, true, false, cond}
use mathlib.Core.List.{List, [], ◌∷◌, ◌++◌}
use native.Mathlib.Omega.{arith}
use native.Mathlib.Numerals.{add-one}
use lib.ListN.{length, take, drop, get_or, replicate, length-append}
use lib.Seq.{drop-cons}
use lib.Dec.{eqb, ltb}
use borrow.Author.Tests.{lt-ltb, ltb-false}
use Rattle.packet.specs.Packet.{data_most, command_byte, packet_of, packet}
use Rattle.packet.specs.Reply.{success}
use Rattle.packet.specs.declared.writer.Access.{Access}
use Rattle.packet.specs.declared.writer.Access.TheVariants.{Write, Read}
use Rattle.bus.specs.declared.Phase.TheVariants.{Idle}
use Rattle.bus.specs.declared.Controller.{Controller}
use Rattle.bus.specs.declared.command.CommandRow.{CommandRow}
use Rattle.bus.specs.declared.command.Performed.{Performed}
use Rattle.bus.specs.declared.command.Register.{Register}
use Rattle.bus.specs.declared.command.Register.TheVariants.{
  Backlight,
  Master,
  Park,
  Splash,
  Strength,
  Heater,
  Bezel,
  Status,
  Pixels,
  CalibrationMode,
  RedLevel,
  GreenLevel,
  BlueLevel,
  CurrentLimit,
  SensorGain,
}
use Rattle.settings.specs.declared.settings.Settings.{Settings}
use Rattle.bus.specs.Commands.{
  lookup,
  access as access_of,
  offers,
  request_length,
  accepts,
  read,
  reply_limit,
  reply_of,
  write_register,
  execute,
  locked,
  perform_offered,
  perform_found,
  perform_looked_up,
  perform,
}
use Rattle.bus.specs.Bus.{waiting, fresh, one_sent, outside, after, out}
use Rattle.bus.specs.Run.{run, outs, Ready}
use Rattle.bus.specs.BusTheorems.{Settles, Replies}
use Rattle.bus.proofs.RunLaws.{run_append}
use Rattle.bus.specs.Bus.{opening, noted}
use Rattle.bus.proofs.ReadsBack.{reads_back_command}

-- ---- a command's reply

-- bytes for which a reply has room
record Replying (p : Performed) : Type 0 where
  bytes : List ℕ
  short : length bytes ≤ reply_limit
  is_reply : p.reply ≡ reply_of bytes

either : (x : Bool) {p q : Performed} → Replying p → Replying q → Replying (cond x p q)
either true h g = h
either false h g = g

one_byte : {σ : Settings} (b : ℕ) → Replying (record { settings = σ; reply = reply_of (b ∷ []) })
one_byte b = record { bytes = b ∷ []; short = omega arith; is_reply = refl }

-- a read gives at most 8 bytes
read_short : (σ : Settings) (r : Register) → length (read σ r) ≤ 8
read_short σ Backlight = omega arith
read_short σ Master = omega arith
read_short σ Park = omega arith
read_short σ Splash = omega arith
read_short σ Strength = omega arith
read_short σ Heater = omega arith
read_short σ Bezel = omega arith
read_short σ Status = omega arith
read_short σ Pixels = omega arith
read_short σ CalibrationMode = omega arith
read_short σ RedLevel = omega arith
read_short σ GreenLevel = omega arith
read_short σ BlueLevel = omega arith
read_short σ CurrentLimit = omega arith
read_short σ SensorGain = omega arith

success_length : (bytes : List ℕ) → length (success bytes) ≡ length bytes + 3
unfolding success
success_length bytes = simp length-append (omega arith)

execute_replying : (σ : Settings) (row : CommandRow) (way : Access) (d : List ℕ) → Replying (execute σ row way d)
unfolding write_register
execute_replying σ row Write d = either (accepts row.register d) (one_byte 0x01) (one_byte 0x07)
execute_replying σ row Read d =
    let bytes = read σ row.register in
    record { bytes = success bytes; short = omega (arith, success_length bytes, read_short σ row.register); is_reply = refl }

looked_up_replying : (l : StdOption CommandRow) (σ : Settings) (k : ℕ) (d : List ℕ) → Replying (perform_looked_up l σ k d)
unfolding perform_found perform_offered
looked_up_replying None σ k d = one_byte 0x03
looked_up_replying (Some row) σ k d =
    let way = access_of k in
    either (offers row way)
    (either (locked σ row way) (one_byte 0x04) (either (eqb (length d) (request_length row way)) (execute_replying σ row way d) (one_byte 0x05)))
    (one_byte 0x03)

replying : (σ : Settings) (k : ℕ) (d : List ℕ) → Replying (perform σ k d)
replying σ k d = looked_up_replying (lookup (k / 2)) σ k d

-- a command's reply is no longer than the bytes that hold it
reply_whole : (σ : Settings) (k : ℕ) (d : List ℕ) → (perform σ k d).reply.len ≤ length (perform σ k d).reply.bytes
reply_whole σ k d = let h = replying σ k d in rw h.is_reply (omega (arith, length-append h.bytes (drop (length h.bytes) (replicate reply_limit 0))))

-- ---- zeros to an idle controller

-- a fresh controller is ready
pub fresh_ready : Ready fresh
fresh_ready = record { idle = refl; all_sent = omega arith; body_long = refl }

-- idle with at most n bytes of a reply unsent
record Sending (n : ℕ) (c : Controller) : Type 0 where
  idle : c.phase ≡ Idle
  few : c.reply.len ≤ c.reply.sent + n
  body_long : length c.packet.body ≡ data_most

-- a zero sends one of them, and is nothing to a controller with none
zero_in : (c : Controller) → c.phase ≡ Idle → after c 0x00 ≡ cond (ltb c.reply.sent c.reply.len) (one_sent c) c
unfolding after outside
zero_in c idle = rw idle

one_fewer : (n : ℕ) (c : Controller) → Sending (suc n) c → Sending n (after c 0x00) × ((after c 0x00).settings ≡ c.settings)
one_fewer n c h = rw (zero_in c h.idle) (by_cases (ltb c.reply.sent c.reply.len) refl)
  where
    by_cases : (x : Bool) → ltb c.reply.sent c.reply.len ≡ x → Sending n (cond x (one_sent c) c) × ((cond x (one_sent c) c).settings ≡ c.settings)
    by_cases true e = (record { idle = h.idle; few = omega arith; body_long = h.body_long }, refl)
    by_cases false e = (record { idle = h.idle; few = omega (arith, ltb-false c.reply.sent c.reply.len e); body_long = h.body_long }, refl)

-- n zeros send all of it and change no setting
drained : (n : ℕ) (c : Controller) → Sending n c → Ready (run c (replicate n 0x00)) × ((run c (replicate n 0x00)).settings ≡ c.settings)
unfolding run
drained zero c h = (record { idle = h.idle; all_sent = omega arith; body_long = h.body_long }, refl)
drained (suc n) c h =
    let next = one_fewer n c h in
    let rest = drained n (after c 0x00) next.0 in
    (rest.0, rest.1 ∙ next.1)

-- as many zeros as bytes are unsent bring these out
drained_out : (n : ℕ) (c : Controller) → c.reply.len ≡ c.reply.sent + n → c.reply.len ≤ length c.reply.bytes →
    outs c (replicate n 0x00) ≡ take n (drop c.reply.sent c.reply.bytes)
unfolding outs out after
drained_out zero c e whole = refl
drained_out (suc n) c e whole =
    let unsent : c.reply.sent < c.reply.len = omega arith in
    let here : c.reply.sent < length c.reply.bytes = omega arith in
    rw (lt-ltb c.reply.sent c.reply.len unsent, drop-cons c.reply.bytes c.reply.sent 0 here, ← (add-one c.reply.sent))
    (ap (λ (l : List ℕ). get_or c.reply.bytes c.reply.sent 0 ∷ l) (drained_out n (one_sent c) (omega arith) whole))

-- ---- the law for the layers above

-- a ready controller reads a packet with the settings that it has
read_ready : (c : Controller) (k : ℕ) (d : List ℕ) → Ready c → length d ≤ data_most →
    let p = packet_of k d in
    let done = perform (noted c.settings p) k d in
    ((run c p).settings ≡ done.settings) × ((run c p).reply ≡ waiting done.reply)
read_ready c k d ready short =
    let opened : opening c ≡ c.settings = rw ready.idle in
    let back = reads_back_command c k d short ready.body_long in
    (rw opened at back.settings_are, rw opened at back.reply_is)

-- a command to a ready controller and zeros enough leave it ready, with the settings that the command gives
pub settles_command : (c : Controller) (k : ℕ) (d : List ℕ) (n : ℕ) → Ready c → length d ≤ data_most →
    let p = packet_of k d in
    let done = perform (noted c.settings p) k d in
    done.reply.len ≤ n → Ready (run c (p ++ replicate n 0x00)) × ((run c (p ++ replicate n 0x00)).settings ≡ done.settings)
settles_command c k d n ready short enough =
    let p = packet_of k d in
    let back = reads_back_command c k d short ready.body_long in
    let read = read_ready c k d ready short in
    let end = drained n (run c p) (record { idle = back.idle; few = rw read.1 (omega arith); body_long = back.body_long }) in
    rw (run_append p (replicate n 0x00) c) (end.0, end.1 ∙ read.0)

pub settles : Settles
settles c id access = settles_command c (command_byte id access)

pub replies : Replies
replies c id access d n ready short e =
    let p = packet id access d in
    let σ = noted c.settings p in
    let k = command_byte id access in
    let is_done = (read_ready c k d ready short).1 in
    drained_out n (run c p) (rw is_done (omega arith)) (rw is_done (reply_whole σ k d)) ∙ rw is_done
