-- The settings block: document 01, "The adjustment link"; document 02, Ask 6.
use Rattle.std.specs.Prelude.{ℕ, List, ◌++◌, drop}
use Rattle.number.specs.Number.{le16, le16_bytes}
use Rattle.settings.specs.declared.settings.Settings.{Settings}
use Rattle.bus.specs.Commands.{
  switch_bytes,
  heater_bytes,
  bezel_bytes,
  area_bytes,
  calibration_bytes,
  status_bytes,
  switches_from,
  heater_from,
  bezel_from,
  area_from,
  calibration_from,
  status_from,
}

-- ---- where the parts begin; the backlight is first

abbrev pub switches_at : ℕ
switches_at = 2

abbrev pub heater_at : ℕ
heater_at = 6

abbrev pub bezel_at : ℕ
bezel_at = 9

abbrev pub pixels_at : ℕ
pixels_at = 15

abbrev pub calibration_at : ℕ
calibration_at = 23

abbrev pub status_at : ℕ
status_at = 33

abbrev pub block_length : ℕ
block_length = 37

-- ---- the block

-- all before the test pixels; park is 0 or 1 here
abbrev pub front_bytes : Settings → List ℕ
front_bytes σ = le16_bytes σ.backlight ++ switch_bytes σ.switches ++ heater_bytes σ.heater ++ bezel_bytes σ.bezel

-- the settings in order
unfoldable pub block : Settings → List ℕ
block σ = front_bytes σ ++ area_bytes σ.pixels ++ calibration_bytes σ.calibration ++ status_bytes σ.status

-- what a block's bytes say
unfoldable pub from_block : List ℕ → Settings
from_block d =
    record {
      backlight = le16 d;
      switches = switches_from (drop switches_at d);
      heater = heater_from (drop heater_at d);
      bezel = bezel_from (drop bezel_at d);
      pixels = area_from (drop pixels_at d);
      calibration = calibration_from (drop calibration_at d);
      status = status_from (drop status_at d);
    }
