-- The registers and their commands: document 01, "The registers and their commands"; document 02, Ask 6.
use Rattle.std.specs.Prelude.{ℕ, ◌/◌, ◌%◌, ℤ, Bool, true, false, cond, ◌&&◌, ◌||◌, List, [], ◌∷◌, ◌++◌, length, get_or, drop, replicate, eqb, leb, Option, Some, None}
use Rattle.number.specs.Number.{le16, le16_bytes}
use Rattle.number.specs.Signed.{offset, magnitude, sign}
use Rattle.packet.specs.declared.writer.Access.{Access}
use Rattle.packet.specs.declared.writer.Access.TheVariants.{Write, Read}
use Rattle.packet.specs.Reply.{success}
use Rattle.base.specs.Lent.{overwritten}
use Rattle.bus.specs.declared.command.Register.{Register}
use Rattle.bus.specs.declared.command.Register.TheVariants.{
  Backlight,
  Master,
  Park,
  Splash,
  Strength,
  Heater,
  Bezel,
  Status,
  Pixels,
  CalibrationMode,
  RedLevel,
  GreenLevel,
  BlueLevel,
  CurrentLimit,
  SensorGain,
}
use Rattle.bus.specs.declared.command.Ways.{Ways}
use Rattle.bus.specs.declared.command.Ways.TheVariants.{ReadWrite, ReadOnly}
use Rattle.bus.specs.declared.command.ModeRight.{ModeRight}
use Rattle.bus.specs.declared.command.ModeRight.TheVariants.{Always, MasterOn, CalibrationOnly}
use Rattle.bus.specs.declared.command.CommandRow.{CommandRow}
use Rattle.bus.specs.declared.command.ReplyBytes.{ReplyBytes}
use Rattle.bus.specs.declared.command.Performed.{Performed}
use Rattle.settings.specs.declared.settings.Settings.{Settings}
use Rattle.settings.specs.declared.settings.Switches.{Switches}
use Rattle.settings.specs.declared.settings.HeaterDrive.{HeaterDrive}
use Rattle.settings.specs.declared.settings.Offsets.{Offsets}
use Rattle.settings.specs.declared.settings.Area.{Area}
use Rattle.settings.specs.declared.settings.Calibration.{Calibration}
use Rattle.settings.specs.declared.settings.StatusBytes.{StatusBytes}
use Rattle.settings.specs.declared.settings.Flag.{Flag}
use Rattle.settings.specs.declared.settings.Flag.TheVariants.{NotAvailable, InvalidCommand, OutOfRange, WrongLength}
use Rattle.settings.specs.Settings.{flagged, cleared}
use Rattle.settings.specs.Range.{switch_limit, strength_limit, duty_limit, sign_limit, gain_limit}

-- ---- the command table

abbrev pub command_row : ℕ → Register → Ways → ℕ → ModeRight → CommandRow
command_row id register ways count right = record { id = id; register = register; ways = ways; count = count; right = right }

-- ID, register, ways, data count, mode right
abbrev pub command_rows : List CommandRow
command_rows =
    command_row 0x00 Backlight ReadWrite 2 MasterOn
    ∷ command_row 0x01 Master ReadWrite 1 Always
    ∷ command_row 0x02 Park ReadWrite 1 MasterOn
    ∷ command_row 0x25 Splash ReadWrite 1 MasterOn
    ∷ command_row 0x26 Strength ReadWrite 1 MasterOn
    ∷ command_row 0x27 Heater ReadWrite 3 MasterOn
    ∷ command_row 0x28 Bezel ReadWrite 6 MasterOn
    ∷ command_row 0x33 Status ReadOnly 4 MasterOn
    ∷ command_row 0x53 Pixels ReadWrite 8 MasterOn
    ∷ command_row 0x64 CalibrationMode ReadWrite 1 MasterOn
    ∷ command_row 0x65 RedLevel ReadWrite 2 CalibrationOnly
    ∷ command_row 0x66 GreenLevel ReadWrite 2 CalibrationOnly
    ∷ command_row 0x67 BlueLevel ReadWrite 2 CalibrationOnly
    ∷ command_row 0x68 CurrentLimit ReadWrite 2 CalibrationOnly
    ∷ command_row 0x69 SensorGain ReadWrite 1 CalibrationOnly
    ∷ []

abbrev pub find_row : ℕ → List CommandRow → Option CommandRow
find_row id [] = None
find_row id (row ∷ rows) = cond (eqb id row.id) (Some row) (find_row id rows)

-- ---- what a command byte asks for

-- the row with this ID
unfoldable pub lookup : ℕ → Option CommandRow
lookup id = find_row id command_rows

unfoldable pub access : ℕ → Access
access command = cond (eqb (command % 2) 1) Read Write

-- every register is read
abbrev pub includes : Ways → Access → Bool
includes ReadWrite Write = true
includes ReadOnly Write = false
includes ways Read = true

abbrev pub offers : CommandRow → Access → Bool
offers row way = includes row.ways way

-- the data of a command: of a read there are none
abbrev pub request_length : CommandRow → Access → ℕ
request_length row Write = row.count
request_length row Read = 0

-- whether a mode right denies a way of access, by what master and the calibration mode hold
abbrev pub denies : ModeRight → Access → ℕ → ℕ → Bool
denies Always way master mode = false
denies MasterOn way master mode = eqb master 0
denies CalibrationOnly Write master mode = eqb master 0 || eqb mode 0
denies CalibrationOnly Read master mode = eqb master 0

abbrev pub locked : Settings → CommandRow → Access → Bool
locked σ row way = denies row.right way σ.switches.master σ.calibration.mode

-- ---- which data a write accepts

abbrev pub at_most : List ℕ → ℕ → ℕ → Bool
at_most d i most = leb (get_or d i 0) most

-- the sign bytes of both bezel offsets, horizontal then vertical
abbrev pub signs_accepted : List ℕ → Bool
signs_accepted d = at_most d 2 sign_limit && at_most d 5 sign_limit

abbrev pub accepts : Register → List ℕ → Bool
accepts Backlight d = true
accepts Master d = at_most d 0 switch_limit
accepts Park d = at_most d 0 switch_limit
accepts Splash d = at_most d 0 switch_limit
accepts Strength d = at_most d 0 strength_limit
accepts Heater d = at_most d 2 duty_limit
accepts Bezel d = signs_accepted d
accepts Status d = true
accepts Pixels d = true
accepts CalibrationMode d = at_most d 0 switch_limit
accepts RedLevel d = true
accepts GreenLevel d = true
accepts BlueLevel d = true
accepts CurrentLimit d = true
accepts SensorGain d = at_most d 0 gain_limit

-- ---- what a read gives

abbrev pub parked : ℕ → ℕ
parked park = cond (eqb park 0) 0 2

abbrev pub switch_bytes : Switches → List ℕ
switch_bytes w = w.master ∷ w.park ∷ w.splash ∷ w.strength ∷ []

abbrev pub heater_bytes : HeaterDrive → List ℕ
heater_bytes h = le16_bytes h.khz ++ h.duty ∷ []

abbrev pub offset_bytes : ℤ → List ℕ
offset_bytes z = le16_bytes (magnitude z) ++ sign z ∷ []

abbrev pub bezel_bytes : Offsets → List ℕ
bezel_bytes o = offset_bytes o.horizontal ++ offset_bytes o.vertical

-- two numbers of two bytes
abbrev pub pair_bytes : ℕ → ℕ → List ℕ
pair_bytes x y = le16_bytes x ++ le16_bytes y

abbrev pub area_bytes : Area → List ℕ
area_bytes a = pair_bytes a.x0 a.y0 ++ pair_bytes a.x1 a.y1

-- the six calibration registers in ID order
abbrev pub calibration_bytes : Calibration → List ℕ
calibration_bytes c = c.mode ∷ pair_bytes c.red c.green ++ pair_bytes c.blue c.limit ++ c.gain ∷ []

abbrev pub status_bytes : StatusBytes → List ℕ
status_bytes s = s.first ∷ s.second ∷ s.third ∷ s.fourth ∷ []

abbrev pub read : Settings → Register → List ℕ
read σ Backlight = le16_bytes σ.backlight
read σ Master = σ.switches.master ∷ []
read σ Park = parked σ.switches.park ∷ []
read σ Splash = σ.switches.splash ∷ []
read σ Strength = σ.switches.strength ∷ []
read σ Heater = heater_bytes σ.heater
read σ Bezel = bezel_bytes σ.bezel
read σ Status = status_bytes σ.status
read σ Pixels = area_bytes σ.pixels
read σ CalibrationMode = σ.calibration.mode ∷ []
read σ RedLevel = le16_bytes σ.calibration.red
read σ GreenLevel = le16_bytes σ.calibration.green
read σ BlueLevel = le16_bytes σ.calibration.blue
read σ CurrentLimit = le16_bytes σ.calibration.limit
read σ SensorGain = σ.calibration.gain ∷ []

-- ---- what a write does

abbrev pub switches_from : List ℕ → Switches
switches_from d = record { master = get_or d 0 0; park = get_or d 1 0; splash = get_or d 2 0; strength = get_or d 3 0 }

abbrev pub heater_from : List ℕ → HeaterDrive
heater_from d = record { khz = le16 d; duty = get_or d 2 0 }

abbrev pub offset_from : List ℕ → ℤ
offset_from d = offset (le16 d) (get_or d 2 0)

abbrev pub bezel_from : List ℕ → Offsets
bezel_from d = record { horizontal = offset_from d; vertical = offset_from (drop 3 d) }

abbrev pub area_from : List ℕ → Area
area_from d = record { x0 = le16 d; y0 = le16 (drop 2 d); x1 = le16 (drop 4 d); y1 = le16 (drop 6 d) }

-- this mode and gain, and the levels between them
abbrev pub levels_from : List ℕ → ℕ → ℕ → Calibration
levels_from d mode gain =
    record { mode = mode; red = le16 (drop 1 d); green = le16 (drop 3 d); blue = le16 (drop 5 d); limit = le16 (drop 7 d); gain = gain }

abbrev pub calibration_from : List ℕ → Calibration
calibration_from d = levels_from d (get_or d 0 0) (get_or d 9 0)

abbrev pub status_from : List ℕ → StatusBytes
status_from d = record { first = get_or d 0 0; second = get_or d 1 0; third = get_or d 2 0; fourth = get_or d 3 0 }

abbrev pub written : Settings → Register → List ℕ → Settings
written σ Backlight d = record σ { backlight = le16 d }
written σ Master d = record σ { switches = record σ.switches { master = get_or d 0 0 } }
written σ Park d = record σ { switches = record σ.switches { park = get_or d 0 0 } }
written σ Splash d = record σ { switches = record σ.switches { splash = get_or d 0 0 } }
written σ Strength d = record σ { switches = record σ.switches { strength = get_or d 0 0 } }
written σ Heater d = record σ { heater = heater_from d }
written σ Bezel d = record σ { bezel = bezel_from d }
written σ Status d = σ
written σ Pixels d = record σ { pixels = area_from d }
written σ CalibrationMode d = record σ { calibration = record σ.calibration { mode = get_or d 0 0 } }
written σ RedLevel d = record σ { calibration = record σ.calibration { red = le16 d } }
written σ GreenLevel d = record σ { calibration = record σ.calibration { green = le16 d } }
written σ BlueLevel d = record σ { calibration = record σ.calibration { blue = le16 d } }
written σ CurrentLimit d = record σ { calibration = record σ.calibration { limit = le16 d } }
written σ SensorGain d = record σ { calibration = record σ.calibration { gain = get_or d 0 0 } }

-- ---- a command's effect and reply

-- the longest reply: a response, a length, 8 data bytes and a sum
abbrev pub reply_limit : ℕ
reply_limit = 11

-- a reply of these bytes
abbrev pub reply_of : List ℕ → ReplyBytes
reply_of bytes = record { bytes = overwritten bytes (replicate reply_limit 0); len = length bytes }

abbrev pub failed : Settings → Flag → ℕ → Performed
failed σ flag code = record { settings = flagged σ flag; reply = reply_of (code ∷ []) }

unfoldable pub write_register : Settings → Register → List ℕ → Performed
write_register σ r d =
    cond (accepts r d) (record { settings = written σ r d; reply = reply_of (0x01 ∷ []) })
    (failed σ OutOfRange 0x07)

-- a status read clears what it gives
abbrev pub after_read : Settings → ℕ → Settings
after_read σ id = cond (eqb id 0x33) (cleared σ) σ

abbrev pub read_register : Settings → ℕ → Register → Performed
read_register σ id r = record { settings = after_read σ id; reply = reply_of (success (read σ r)) }

abbrev pub execute : Settings → CommandRow → Access → List ℕ → Performed
execute σ row Write d = write_register σ row.register d
execute σ row Read d = read_register σ row.id row.register

unfoldable pub perform_offered : Settings → CommandRow → Access → List ℕ → Performed
perform_offered σ row way d =
    cond (locked σ row way) (failed σ NotAvailable 0x04)
    (cond (eqb (length d) (request_length row way)) (execute σ row way d)
    (failed σ WrongLength 0x05))

unfoldable pub perform_found : Settings → CommandRow → Access → List ℕ → Performed
perform_found σ row way d = cond (offers row way) (perform_offered σ row way d) (failed σ InvalidCommand 0x03)

abbrev pub perform_looked_up : Option CommandRow → Settings → ℕ → List ℕ → Performed
perform_looked_up (Some row) σ command d = perform_found σ row (access command) d
perform_looked_up None σ command d = failed σ InvalidCommand 0x03

-- the checks after the checksum, and the command's effect and reply
abbrev pub perform : Settings → ℕ → List ℕ → Performed
perform σ command d = perform_looked_up (lookup (command / 2)) σ command d
