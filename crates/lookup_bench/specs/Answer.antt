-- What a lookup answers, in one number: the data count in the lowest byte, then the register, whether it is written, whether it is
-- available at any time, and whether it is written in calibration mode alone; 0 for an ID that has no row.
use Rattle.std.specs.Prelude.{ℕ, ◌+◌, Option, Some, None}
use Rattle.bus.specs.declared.command.Register.{Register}
use Rattle.bus.specs.declared.command.Register.TheVariants.{
  Backlight,
  Master,
  Park,
  Splash,
  Strength,
  Heater,
  Bezel,
  Status,
  Pixels,
  CalibrationMode,
  RedLevel,
  GreenLevel,
  BlueLevel,
  CurrentLimit,
  SensorGain,
}
use Rattle.bus.specs.declared.command.Ways.{Ways}
use Rattle.bus.specs.declared.command.Ways.TheVariants.{ReadWrite, ReadOnly}
use Rattle.bus.specs.declared.command.ModeRight.{ModeRight}
use Rattle.bus.specs.declared.command.ModeRight.TheVariants.{Always, MasterOn, CalibrationOnly}
use Rattle.bus.specs.declared.command.CommandRow.{CommandRow}

abbrev pub register_code : Register → ℕ
register_code Backlight = 0x000
register_code Master = 0x100
register_code Park = 0x200
register_code Splash = 0x300
register_code Strength = 0x400
register_code Heater = 0x500
register_code Bezel = 0x600
register_code Status = 0x700
register_code Pixels = 0x800
register_code CalibrationMode = 0x900
register_code RedLevel = 0xA00
register_code GreenLevel = 0xB00
register_code BlueLevel = 0xC00
register_code CurrentLimit = 0xD00
register_code SensorGain = 0xE00

abbrev pub ways_code : Ways → ℕ
ways_code ReadWrite = 0x1000
ways_code ReadOnly = 0

abbrev pub right_code : ModeRight → ℕ
right_code Always = 0x2000
right_code MasterOn = 0
right_code CalibrationOnly = 0x4000

abbrev pub row_answer : CommandRow → ℕ
row_answer row = row.count + register_code row.register + ways_code row.ways + right_code row.right

abbrev pub answer : Option CommandRow → ℕ
answer (Some row) = row_answer row
answer None = 0
