-- What is proved of the exchange. The table of the marked examples has its two statements in Examples.antt.
use Rattle.std.specs.Prelude.{ℕ, ◌≤◌, ◌<◌, ◌≡◌, true, false, cond, length, take, replicate, eqb}
use mathlib.Core.List.{List, [], ◌∷◌, ◌++◌, Memᴰ}
use Rattle.base.specs.Bytes.{Bytes}
use Rattle.packet.specs.Packet.{data_most, command_byte, packet_of, packet}
use Rattle.packet.specs.declared.writer.Access.{Access}
use Rattle.settings.specs.declared.settings.Settings.{Settings}
use Rattle.settings.specs.declared.settings.StatusBytes.{StatusBytes}
use Rattle.settings.specs.declared.settings.Flag.TheVariants.{Incomplete, EscapeSeen, BytesIgnored, WrongChecksum}
use Rattle.settings.specs.Theorems.{bit}
use Rattle.settings.specs.Settings.{flagged, cleared}
use Rattle.bus.specs.Commands.{perform}
use Rattle.bus.specs.declared.Phase.TheVariants.{Idle, Checksum}
use Rattle.bus.specs.declared.Controller.{Controller}
use Rattle.bus.specs.Bus.{is_idle, waiting, fresh, performed, exchange, opening, noted}
use Rattle.bus.specs.Run.{run, outs, Ready}
use Rattle.bus.specs.AsWritten.{idle, begin, steps, sent}
use Rattle.bus.specs.CommandTheorems.{StatusFits}

-- both definitions of the controller answer every list of bytes alike, and hold the same settings after it
abbrev pub Agrees : Type 0
Agrees = (bs : List ℕ) → Bytes bs → (sent begin bs ≡ outs fresh bs) × ((steps begin bs).settings ≡ (run fresh bs).settings)

-- ---- the writer's packet

-- from every controller: idle again, with the settings and the reply that the command byte k with its data gives
pub record PacketRead (c : Controller) (k : ℕ) (d : List ℕ) : Type 0 where
  pub idle : (run c (packet_of k d)).phase ≡ Idle
  pub escape_shut : (run c (packet_of k d)).escape ≡ false
  pub settings_are : (run c (packet_of k d)).settings ≡ (perform (noted (opening c) (packet_of k d)) k d).settings
  pub reply_is : (run c (packet_of k d)).reply ≡ waiting (perform (noted (opening c) (packet_of k d)) k d).reply
  pub body_long : length (run c (packet_of k d)).packet.body ≡ data_most

-- the writer's packet is read as the command that was written, with its data, and as no other
abbrev pub ReadsBack : Type 0
ReadsBack =
    (c : Controller) (id : ℕ) (access : Access) (d : List ℕ) → length d ≤ data_most → length c.packet.body ≡ data_most → PacketRead c (command_byte id access) d

-- over every proper beginning of the packet only "incomplete" and "escape seen" change, and exactly so
abbrev pub NothingBefore : Type 0
NothingBefore =
    (c : Controller) (id : ℕ) (access : Access) (d : List ℕ) (i : ℕ) → i < length (packet id access d) →
    (run c (take i (packet id access d))).settings ≡ cond (eqb i 0) c.settings (noted (opening c) (take i (packet id access d)))

-- so no register but status changes
abbrev pub ClearedBefore : Type 0
ClearedBefore =
    (c : Controller) (id : ℕ) (access : Access) (d : List ℕ) (i : ℕ) → i < length (packet id access d) →
    cleared (run c (take i (packet id access d))).settings ≡ cleared c.settings

-- a command to a ready controller and zeros enough leave it ready, with the settings that the command gives
abbrev pub Settles : Type 0
Settles =
    (c : Controller) (id : ℕ) (access : Access) (d : List ℕ) (n : ℕ) → Ready c → length d ≤ data_most →
    let p = packet id access d in
    let done = perform (noted c.settings p) (command_byte id access) d in
    done.reply.len ≤ n → Ready (run c (p ++ replicate n 0x00)) × ((run c (p ++ replicate n 0x00)).settings ≡ done.settings)

-- the same of the controller as written: idle, given the packet and 0x00 until the reply is out, it is idle again
abbrev pub SettlesAsWritten : Type 0
SettlesAsWritten =
    (σ : Settings) (k : ℕ) (d : List ℕ) → StatusFits σ → k < 256 → Bytes d → length d ≤ data_most →
    let after = steps (idle σ) (packet_of k d) in
    steps after (replicate (length after.unsent) 0x00) ≡ idle (perform (noted σ (packet_of k d)) k d).settings

-- as many zeros as the reply is long bring it out
abbrev pub Replies : Type 0
Replies =
    (c : Controller) (id : ℕ) (access : Access) (d : List ℕ) (n : ℕ) → Ready c → length d ≤ data_most →
    let p = packet id access d in
    let done = perform (noted c.settings p) (command_byte id access) d in
    n ≡ done.reply.len → outs (run c p) (replicate n 0x00) ≡ take n done.reply.bytes

-- ---- one exchange

-- the byte of an open packet, out of its escape
abbrev pub value : Controller → ℕ → ℕ
value c b = cond c.escape (cond (eqb b 0x00) 0xA5 b) b

-- the byte is looked at: it is no start, and no reply byte was unsent
pub record Taken (c : Controller) (b : ℕ) : Type 0 where
  pub no_start : b ≡ 0xA5 → ⊥
  pub all_sent : c.reply.len ≤ c.reply.sent

-- a byte of the open packet that opens no escape
pub record OfPacket (c : Controller) (b : ℕ) : Type 0 where
  pub taken : Taken c b
  pub inside : is_idle c.phase ≡ false
  pub no_escape : c.escape ≡ false → b ≡ 0x5A → ⊥

-- what an exchange does to the settings, each status bit where its own check says so
pub data Effect (c : Controller) (b : ℕ) : Settings → Type 0 where
  starts_packet : b ≡ 0xA5 → is_idle c.phase ≡ true → Effect c b c.settings
  cuts_packet : b ≡ 0xA5 → is_idle c.phase ≡ false → Effect c b (flagged c.settings Incomplete)
  dummy : (b ≡ 0xA5 → ⊥) → c.reply.sent < c.reply.len → Effect c b c.settings
  zero_outside : Taken c b → is_idle c.phase ≡ true → b ≡ 0x00 → Effect c b c.settings
  ignored : Taken c b → is_idle c.phase ≡ true → (b ≡ 0x00 → ⊥) → Effect c b (flagged c.settings BytesIgnored)
  opens_escape : Taken c b → is_idle c.phase ≡ false → c.escape ≡ false → b ≡ 0x5A → Effect c b (flagged c.settings EscapeSeen)
  collected : OfPacket c b → (c.phase ≡ Checksum → ⊥) → Effect c b c.settings
  wrong_checksum : OfPacket c b → c.phase ≡ Checksum → (value c b ≡ c.packet.sum → ⊥) → Effect c b (flagged c.settings WrongChecksum)
  packet_performed : OfPacket c b → c.phase ≡ Checksum → value c b ≡ c.packet.sum → Effect c b (performed c.packet c.settings).settings

-- every exchange comes to one of these
abbrev pub EffectOnly : Type 0
EffectOnly = (c : Controller) (b : ℕ) → Effect c b (exchange c b).controller.settings

-- ---- the status bits

-- of this byte's bits only those with these numbers may be 1
abbrev pub Only : List ℕ → ℕ → Type 0
Only bits b = (j : ℕ) → j < 8 → (Memᴰ j bits → ⊥) → bit j b ≡ 0

-- the bits that document 01 names
pub record OnlyNamed (s : StatusBytes) : Type 0 where
  pub first : Only (3 ∷ 2 ∷ 0 ∷ []) s.first
  pub second : Only (5 ∷ []) s.second
  pub third : Only [] s.third
  pub fourth : Only (7 ∷ 6 ∷ 5 ∷ 4 ∷ []) s.fourth

-- the rest stay 0, whatever bytes come
abbrev pub RestStayZero : Type 0
RestStayZero = (bs : List ℕ) → OnlyNamed (run fresh bs).settings.status
