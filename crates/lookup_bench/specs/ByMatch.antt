-- The lookup as it would be without a table, in the same number.
use Rattle.std.specs.Prelude.{ℕ, ◌<◌, ◌≡◌, cond, eqb, ltb, Option, Some, None}
use Rattle.bus.specs.declared.command.Register.{Register}
use Rattle.bus.specs.declared.command.Register.TheVariants.{
  Backlight,
  Master,
  Park,
  Splash,
  Strength,
  Heater,
  Bezel,
  Status,
  Pixels,
  CalibrationMode,
  RedLevel,
  GreenLevel,
  BlueLevel,
  CurrentLimit,
  SensorGain,
}
use Rattle.bus.specs.declared.command.Ways.{Ways}
use Rattle.bus.specs.declared.command.Ways.TheVariants.{ReadWrite, ReadOnly}
use Rattle.bus.specs.declared.command.ModeRight.{ModeRight}
use Rattle.bus.specs.declared.command.ModeRight.TheVariants.{Always, MasterOn, CalibrationOnly}
use Rattle.bus.specs.declared.command.CommandRow.{CommandRow}
use Rattle.bus.specs.Commands.{command_row, lookup}
use Rattle.lookup_bench.specs.Answer.{answer}

unfoldable pub match_id : ℕ → Option Register
match_id id =
    cond (eqb id 0x00) (Some Backlight)
    (cond (eqb id 0x01) (Some Master)
    (cond (eqb id 0x02) (Some Park)
    (cond (eqb id 0x25) (Some Splash)
    (cond (eqb id 0x26) (Some Strength)
    (cond (eqb id 0x27) (Some Heater)
    (cond (eqb id 0x28) (Some Bezel)
    (cond (eqb id 0x33) (Some Status)
    (cond (eqb id 0x53) (Some Pixels)
    (cond (eqb id 0x64) (Some CalibrationMode)
    (cond (eqb id 0x65) (Some RedLevel)
    (cond (eqb id 0x66) (Some GreenLevel)
    (cond (eqb id 0x67) (Some BlueLevel)
    (cond (eqb id 0x68) (Some CurrentLimit)
    (cond (eqb id 0x69) (Some SensorGain)
    None))))))))))))))

abbrev pub data_count : Register → ℕ
data_count Backlight = 2
data_count Master = 1
data_count Park = 1
data_count Splash = 1
data_count Strength = 1
data_count Heater = 3
data_count Bezel = 6
data_count Status = 4
data_count Pixels = 8
data_count CalibrationMode = 1
data_count RedLevel = 2
data_count GreenLevel = 2
data_count BlueLevel = 2
data_count CurrentLimit = 2
data_count SensorGain = 1

abbrev pub ways : ℕ → Ways
ways id = cond (eqb id 0x33) ReadOnly ReadWrite

abbrev pub right : ℕ → ModeRight
right id = cond (eqb id 0x01) Always (cond (ltb id 0x65) MasterOn CalibrationOnly)

abbrev pub row : ℕ → Register → CommandRow
row id r = command_row id r (ways id) (data_count r) (right id)

abbrev pub row_matched : ℕ → Option Register → Option CommandRow
row_matched id (Some r) = Some (row id r)
row_matched id None = None

-- at every ID of a command byte it gives the number that the table gives
abbrev pub MatchAlike : Type 0
MatchAlike = (id : ℕ) → id < 128 → answer (row_matched id (match_id id)) ≡ answer (lookup id)
