-- A controller taken apart for a run of bytes: the state that changes from byte to byte, the settings and the two arrays.
-- Each step on a state is told by Bus's step on the controller that the parts make up.
use Rattle.std.specs.Prelude.{◌≡◌, ℕ, cond, List, [], ◌==◌}
use Rattle.bus.specs.declared.Controller.{Controller}
use Rattle.controller.specs.declared.state.BusState.{BusState}
use Rattle.controller.specs.declared.state.Step.{Step}
use Rattle.controller.specs.declared.state.Step.TheVariants.{Next, Checksum}
use Rattle.bus.specs.declared.command.Performed.{Performed}
use Rattle.settings.specs.declared.settings.Settings.{Settings}
use Rattle.settings.specs.Settings.{fresh}
use Rattle.bus.specs.Bus.{controller_of, ended, judge}

abbrev pub state_of : Controller → BusState
state_of c =
    record {
      phase = c.phase;
      escape = c.escape;
      command = c.packet.command;
      count = c.packet.count;
      sum = c.packet.sum;
      len = c.reply.len;
      sent = c.reply.sent;
      status = c.settings.status;
    }

-- the status bits are the state's, whatever those of the settings are
abbrev pub assembled : BusState → Settings → List ℕ → List ℕ → Controller
assembled s σ body bytes =
    controller_of s.phase s.escape (record { command = s.command; count = s.count; sum = s.sum; body = body })
    (record { bytes = bytes; len = s.len; sent = s.sent })
    (record σ { status = s.status })

-- a controller of this state, where the other parts play no role
abbrev pub alone : BusState → Controller
alone s = assembled s fresh [] []

-- what Bus's step does to a state
abbrev pub on_state : (Controller → Controller) → BusState → BusState
on_state step s = state_of (step (alone s))

-- the controller once a step from this state is done with
abbrev pub finished : BusState → Step → Settings → List ℕ → List ℕ → Controller
finished s (Next t) σ body bytes = assembled t σ body bytes
finished s (Checksum v) σ body bytes = judge (assembled s σ body bytes) v

-- the step does what `f` does to the controller, whatever the settings
abbrev pub Steps : (Controller → Controller) → BusState → List ℕ → List ℕ → Step → List ℕ → List ℕ → Type 0
Steps f s body bytes r body' bytes' = (σ : Settings) → finished s r σ body' bytes' ≡ f (assembled s σ body bytes)

-- the controller at a packet's end, with the settings and the reply that its checksum byte leaves
abbrev pub ended_with : BusState → Performed → List ℕ → Controller
ended_with s done body = assembled (state_of (ended (alone s) done.settings done.reply)) done.settings body done.reply.bytes

-- the byte that an escape stands for
unfoldable pub unescaped : ℕ → ℕ
unescaped byte = cond (byte == 0x00) 0xA5 byte
