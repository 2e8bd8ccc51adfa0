-- The byte exchange, one definition a case: document 01, "Bytes on the bus".
use Rattle.std.specs.Prelude.{ℕ, ◌+◌, ◌-◌, ◌%◌, Bool, true, false, cond, List, [], ◌∷◌, get_or, set, take, replicate, eqb, leb, ltb}
use Rattle.bus.specs.declared.Phase.{Phase}
use Rattle.bus.specs.declared.Phase.TheVariants.{Idle, Command, Length, Data, Checksum}
use Rattle.bus.specs.declared.Collected.{Collected}
use Rattle.bus.specs.declared.Controller.{Controller}
use Rattle.bus.specs.declared.Exchanged.{Exchanged}
use Rattle.bus.specs.declared.Outgoing.{Outgoing}
use Rattle.bus.specs.declared.command.ReplyBytes.{ReplyBytes}
use Rattle.bus.specs.declared.command.Performed.{Performed}
use Rattle.settings.specs.declared.settings.Settings.{Settings}
use Rattle.settings.specs.declared.settings.Flag.{Flag}
use Rattle.settings.specs.declared.settings.Flag.TheVariants.{Incomplete, EscapeSeen, BytesIgnored, WrongChecksum}
use Rattle.settings.specs.Settings as settings_spec
use Rattle.packet.specs.Packet.{data_most, has_escape}
use Rattle.bus.specs.Commands.{perform, reply_of}

abbrev pub is_idle : Phase → Bool
is_idle Idle = true
is_idle Command = false
is_idle Length = false
is_idle (Data left) = false
is_idle Checksum = false

-- ---- the open packet

abbrev pub add : ℕ → ℕ → ℕ
add sum byte = (sum + byte) % 256

abbrev pub place : ℕ → ℕ → ℕ
place count left = count - left

abbrev pub none : Collected
none = record { command = 0; count = 0; sum = 0; body = replicate data_most 0 }

abbrev pub with_command : Collected → ℕ → Collected
with_command p v = record p { command = v; count = 0; sum = v }

abbrev pub with_length : Collected → ℕ → Collected
with_length p v = record p { count = v; sum = add p.sum v }

abbrev pub with_data : Collected → ℕ → ℕ → Collected
with_data p left v = record p { sum = add p.sum v; body = set p.body (place p.count left) v }

unfoldable pub after_length : ℕ → Phase
after_length count = cond (eqb count 0) Checksum (Data count)

unfoldable pub after_data : ℕ → Phase
after_data left = cond (leb left 1) Checksum (Data (left - 1))

-- ---- the controller

-- a reply of which nothing is sent yet
abbrev pub waiting : ReplyBytes → Outgoing
waiting r = record { bytes = r.bytes; len = r.len; sent = 0 }

abbrev pub nothing_unsent : Outgoing
nothing_unsent = waiting (reply_of [])

abbrev pub controller_of : Phase → Bool → Collected → Outgoing → Settings → Controller
controller_of phase escape packet reply σ = record { phase = phase; escape = escape; packet = packet; reply = reply; settings = σ }

abbrev pub fresh : Controller
fresh = controller_of Idle false none nothing_unsent settings_spec.fresh

abbrev pub flagged : Controller → Flag → Controller
flagged c flag = record c { settings = settings_spec.flagged c.settings flag }

-- a start drops the open packet, a half escape and the rest of a reply
abbrev pub started : Controller → Controller
started c = record c { phase = Command; escape = false; reply = nothing_unsent }

unfoldable pub start : Controller → Controller
start c = cond (is_idle c.phase) (started c) (started (flagged c Incomplete))

abbrev pub at : Controller → Phase → Collected → Controller
at c phase packet = record c { phase = phase; escape = false; packet = packet }

abbrev pub ended : Controller → Settings → ReplyBytes → Controller
ended c σ reply = record c { phase = Idle; escape = false; reply = waiting reply; settings = σ }

-- the whole packet as a command
abbrev pub performed : Collected → Settings → Performed
performed p σ = perform σ p.command (take p.count p.body)

-- the checksum byte
unfoldable pub judge : Controller → ℕ → Controller
judge c v =
    cond (eqb v c.packet.sum) (ended c (performed c.packet c.settings).settings (performed c.packet c.settings).reply)
    (ended c (settings_spec.flagged c.settings WrongChecksum) (reply_of (0x02 ∷ [])))

unfoldable pub feed_at : Phase → Controller → ℕ → Controller
feed_at Idle c v = c
feed_at Command c v = at c Length (with_command c.packet v)
feed_at Length c v = at c (after_length v) (with_length c.packet v)
feed_at (Data left) c v = at c (after_data left) (with_data c.packet left v)
feed_at Checksum c v = judge c v

-- a byte of the open packet, out of its escape
abbrev pub feed : Controller → ℕ → Controller
feed c v = feed_at c.phase c v

abbrev pub escape_open : Controller → Controller
escape_open c = record c { escape = true; settings = settings_spec.flagged c.settings EscapeSeen }

unfoldable pub inside : Controller → ℕ → Controller
inside c byte =
    cond c.escape (feed c (cond (eqb byte 0x00) 0xA5 byte))
    (cond (eqb byte 0x5A) (escape_open c) (feed c byte))

unfoldable pub outside : Controller → ℕ → Controller
outside c byte = cond (eqb byte 0x00) c (flagged c BytesIgnored)

abbrev pub sent_one : Outgoing → Outgoing
sent_one r = record r { sent = r.sent + 1 }

abbrev pub one_sent : Controller → Controller
one_sent c = record c { reply = sent_one c.reply }

-- while a reply is unsent, all but a start is a dummy
unfoldable pub after : Controller → ℕ → Controller
after c byte =
    cond (eqb byte 0xA5) (start c)
    (cond (ltb c.reply.sent c.reply.len) (one_sent c)
    (cond (is_idle c.phase) (outside c byte) (inside c byte)))

unfoldable pub out : Controller → ℕ
out c = cond (ltb c.reply.sent c.reply.len) (get_or c.reply.bytes c.reply.sent 0) 0xFF

abbrev pub exchange : Controller → ℕ → Exchanged
exchange c byte = record { controller = after c byte; out = out c }

-- ---- what the writer's packet leaves in the status bits, apart from its command

-- the settings once a start has arrived: "incomplete" if a packet was open
abbrev pub opening : Controller → Settings
opening c = cond (is_idle c.phase) c.settings (settings_spec.flagged c.settings Incomplete)

-- "escape seen" where the bytes hold an escape
abbrev pub noted : Settings → List ℕ → Settings
noted σ bytes = cond (has_escape bytes) (settings_spec.flagged σ EscapeSeen) σ
