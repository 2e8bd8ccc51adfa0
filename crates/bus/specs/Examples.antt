-- The twelve fixed examples of document 01, as one table, for both definitions of the controller to meet.
use Rattle.std.specs.Prelude.{ℕ, Bool, true, false, ◌&&◌, List, [], ◌∷◌, ◌++◌, length, replicate, ℤ, pos, negsuc, eqb, T}
use Rattle.settings.specs.declared.settings.Settings.{Settings}
use Rattle.settings.specs.declared.settings.Switches.{Switches}
use Rattle.settings.specs.declared.settings.HeaterDrive.{HeaterDrive}
use Rattle.settings.specs.declared.settings.Offsets.{Offsets}
use Rattle.settings.specs.declared.settings.Area.{Area}
use Rattle.settings.specs.declared.settings.StatusBytes.{StatusBytes}
use Rattle.settings.specs.Settings.{fresh as fresh_settings}
use Rattle.bus.specs.Bus.{fresh}
use Rattle.bus.specs.Run.{run, outs}
use Rattle.bus.specs.AsWritten.{begin, steps, sent}

-- what comes in, what goes out, and the settings afterwards
pub record Example : Type 0 where
  pub received : List ℕ
  pub answered : List ℕ
  pub held : Settings

-- the bytes and their reply: dummies bring it out, and before it 0xFF goes out
abbrev pub example : List ℕ → List ℕ → Settings → Example
example bytes reply held =
    record {
      received = bytes ++ replicate (length reply) 0x00;
      answered = replicate (length bytes) 0xFF ++ reply;
      held = held;
    }

-- an example that goes on from another
abbrev pub then : Example → Example → Example
then e f = record { received = e.received ++ f.received; answered = e.answered ++ f.answered; held = f.held }

-- ---- the settings that the examples lead to: fresh but for these

-- the four status bytes
abbrev pub bits : ℕ → ℕ → ℕ → ℕ → StatusBytes
bits first second third fourth = record { first = first; second = second; third = third; fourth = fourth }

abbrev pub at_level : ℕ → StatusBytes → Settings
at_level backlight status = record fresh_settings { backlight = backlight; status = status }

abbrev pub at_strength : ℕ → StatusBytes → Settings
at_strength strength status = record fresh_settings { switches = record fresh_settings.switches { strength = strength }; status = status }

abbrev pub at_offsets : ℤ → ℤ → StatusBytes → Settings
at_offsets horizontal vertical status = record fresh_settings { bezel = record { horizontal = horizontal; vertical = vertical }; status = status }

-- ---- the table

abbrev pub level_65535 : Example
level_65535 = example (0xA5 ∷ 0x00 ∷ 0x02 ∷ 0xFF ∷ 0xFF ∷ 0x00 ∷ []) (0x01 ∷ []) (at_level 65535 (bits 0 0 0 0))

abbrev pub level_read : Example
level_read = example (0xA5 ∷ 0x01 ∷ 0x00 ∷ 0x01 ∷ []) (0x01 ∷ 0x02 ∷ 0xFF ∷ 0xFF ∷ 0x01 ∷ []) (at_level 65535 (bits 0 0 0 0))

abbrev pub status_read : Example
status_read = example (0xA5 ∷ 0x00 ∷ 0xA5 ∷ 0x67 ∷ 0x00 ∷ 0x67 ∷ []) (0x01 ∷ 0x04 ∷ 0x08 ∷ 0x00 ∷ 0x00 ∷ 0x00 ∷ 0x0D ∷ []) (at_level 0 (bits 0 0 0 0))

abbrev pub bezel_written : Example
bezel_written = example (0xA5 ∷ 0x50 ∷ 0x06 ∷ 0x05 ∷ 0x00 ∷ 0x00 ∷ 0x07 ∷ 0x00 ∷ 0x01 ∷ 0x63 ∷ []) (0x01 ∷ []) (at_offsets (negsuc 4) (pos 7) (bits 0 0 0 0))

unfoldable pub examples : List Example
examples =
    level_65535
    ∷ then level_65535 level_read
    ∷ example (0xA5 ∷ 0x00 ∷ 0x02 ∷ 0xB8 ∷ 0x88 ∷ 0x42 ∷ []) (0x01 ∷ []) (at_level 35000 (bits 0 0 0 0))
    ∷ example (0xA5 ∷ 0x00 ∷ 0x02 ∷ 0x5A ∷ 0x00 ∷ 0x5A ∷ 0x5A ∷ 0x01 ∷ []) (0x01 ∷ []) (at_level 23205 (bits 0 0 0 0x80))
    ∷ example (0xA5 ∷ 0x00 ∷ 0x02 ∷ 0xA3 ∷ 0x00 ∷ 0x5A ∷ 0x00 ∷ []) (0x01 ∷ []) (at_level 163 (bits 0 0 0 0x80))
    ∷ example (0xA5 ∷ 0x00 ∷ 0x02 ∷ 0xFF ∷ 0xFF ∷ 0x01 ∷ []) (0x02 ∷ []) (at_level 0 (bits 0 0 0 0x10))
    ∷ example (0xA5 ∷ 0x07 ∷ 0x00 ∷ 0x07 ∷ []) (0x03 ∷ []) (at_level 0 (bits 0x01 0 0 0))
    ∷ example (0xA5 ∷ 0x00 ∷ 0x01 ∷ 0xFF ∷ 0x00 ∷ []) (0x05 ∷ []) (at_level 0 (bits 0 0 0 0x40))
    ∷ example (0xA5 ∷ 0x4C ∷ 0x01 ∷ 0x02 ∷ 0x4F ∷ []) (0x01 ∷ []) (at_strength 2 (bits 0 0 0 0))
    ∷ example (0xA5 ∷ 0x4C ∷ 0x01 ∷ 0x03 ∷ 0x50 ∷ []) (0x07 ∷ []) (at_level 0 (bits 0 0x20 0 0))
    ∷ status_read
    ∷ bezel_written
    ∷ []

-- ---- the test

unfoldable pub same_bytes : List ℕ → List ℕ → Bool
same_bytes [] [] = true
same_bytes [] (y ∷ ys) = false
same_bytes (x ∷ xs) [] = false
same_bytes (x ∷ xs) (y ∷ ys) = eqb x y && same_bytes xs ys

abbrev same_integer : ℤ → ℤ → Bool
same_integer (pos a) (pos b) = eqb a b
same_integer (pos a) (negsuc b) = false
same_integer (negsuc a) (pos b) = false
same_integer (negsuc a) (negsuc b) = eqb a b

abbrev same_switches : Switches → Switches → Bool
same_switches w x = eqb w.master x.master && eqb w.park x.park && eqb w.splash x.splash && eqb w.strength x.strength

abbrev same_heater : HeaterDrive → HeaterDrive → Bool
same_heater h k = eqb h.khz k.khz && eqb h.duty k.duty

abbrev same_offsets : Offsets → Offsets → Bool
same_offsets o p = same_integer o.horizontal p.horizontal && same_integer o.vertical p.vertical

abbrev same_area : Area → Area → Bool
same_area a b = eqb a.x0 b.x0 && eqb a.y0 b.y0 && eqb a.x1 b.x1 && eqb a.y1 b.y1

abbrev same_status : StatusBytes → StatusBytes → Bool
same_status s t = eqb s.first t.first && eqb s.second t.second && eqb s.third t.third && eqb s.fourth t.fourth

unfoldable pub same_settings : Settings → Settings → Bool
same_settings σ τ =
    eqb σ.backlight τ.backlight
    && same_switches σ.switches τ.switches
    && same_heater σ.heater τ.heater
    && same_offsets σ.bezel τ.bezel
    && same_area σ.pixels τ.pixels
    && same_status σ.status τ.status

-- whether a controller, told by what it answers and what it then holds, does as each example says
unfoldable pub all_met : (List ℕ → List ℕ) → (List ℕ → Settings) → List Example → Bool
all_met answer hold [] = true
all_met answer hold (e ∷ es) = same_bytes (answer e.received) e.answered && same_settings (hold e.received) e.held && all_met answer hold es

-- the definition that the code follows meets the twelve examples
abbrev pub MetByTheBus : Type 0
MetByTheBus = T (all_met (outs fresh) (λ (bs : List ℕ). (run fresh bs).settings) examples)

-- so does the definition as written
abbrev pub MetAsWritten : Type 0
MetAsWritten = T (all_met (sent begin) (λ (bs : List ℕ). (steps begin bs).settings) examples)
