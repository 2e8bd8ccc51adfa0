-- The largest values of the registers that have a limit, and which settings a controller could hold: document 01, "The registers and
-- their commands" and "The adjustment link"; document 02, Ask 6.
use Rattle.std.specs.Prelude.{ℕ, ◌<◌, ◌≤◌, Bool, ◌&&◌, nat_abs, leb}
use Rattle.settings.specs.declared.settings.Settings.{Settings}
use Rattle.settings.specs.declared.settings.Switches.{Switches}
use Rattle.settings.specs.declared.settings.HeaterDrive.{HeaterDrive}
use Rattle.settings.specs.declared.settings.Offsets.{Offsets}
use Rattle.settings.specs.declared.settings.Area.{Area}
use Rattle.settings.specs.declared.settings.Calibration.{Calibration}
use Rattle.settings.specs.declared.settings.StatusBytes.{StatusBytes}

-- ---- the largest values

-- of master, park, splash mode and calibration mode
abbrev pub switch_limit : ℕ
switch_limit = 1

abbrev pub strength_limit : ℕ
strength_limit = 2

abbrev pub duty_limit : ℕ
duty_limit = 100

-- of a bezel offset's sign byte
abbrev pub sign_limit : ℕ
sign_limit = 1

abbrev pub gain_limit : ℕ
gain_limit = 3

-- ---- settings that a controller could hold

abbrev pub switches_in_range : Switches → Bool
switches_in_range w =
    leb w.master switch_limit
    && leb w.park switch_limit
    && leb w.splash switch_limit
    && leb w.strength strength_limit

abbrev pub calibration_in_range : Calibration → Bool
calibration_in_range c = leb c.mode switch_limit && leb c.gain gain_limit

-- whether a controller could hold these registers
abbrev pub in_range : Settings → Bool
in_range σ = switches_in_range σ.switches && leb σ.heater.duty duty_limit && calibration_in_range σ.calibration

pub record SwitchesHeld (w : Switches) : Type 0 where
  pub master : w.master ≤ switch_limit
  pub park : w.park ≤ switch_limit
  pub splash : w.splash ≤ switch_limit
  pub strength : w.strength ≤ strength_limit

pub record HeaterHeld (h : HeaterDrive) : Type 0 where
  pub khz : h.khz < 65536
  pub duty : h.duty ≤ duty_limit

pub record OffsetsHeld (o : Offsets) : Type 0 where
  pub horizontal : nat_abs o.horizontal < 65536
  pub vertical : nat_abs o.vertical < 65536

pub record AreaHeld (a : Area) : Type 0 where
  pub x0 : a.x0 < 65536
  pub y0 : a.y0 < 65536
  pub x1 : a.x1 < 65536
  pub y1 : a.y1 < 65536

pub record CalibrationHeld (c : Calibration) : Type 0 where
  pub mode : c.mode ≤ switch_limit
  pub red : c.red < 65536
  pub green : c.green < 65536
  pub blue : c.blue < 65536
  pub limit : c.limit < 65536
  pub gain : c.gain ≤ gain_limit

pub record StatusHeld (s : StatusBytes) : Type 0 where
  pub first : s.first < 256
  pub second : s.second < 256
  pub third : s.third < 256
  pub fourth : s.fourth < 256

-- settings that a controller could hold: those in range, whose numbers fit their bytes
pub record Held (σ : Settings) : Type 0 where
  pub backlight : σ.backlight < 65536
  pub switches : SwitchesHeld σ.switches
  pub heater : HeaterHeld σ.heater
  pub bezel : OffsetsHeld σ.bezel
  pub pixels : AreaHeld σ.pixels
  pub calibration : CalibrationHeld σ.calibration
  pub status : StatusHeld σ.status
