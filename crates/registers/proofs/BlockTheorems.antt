-- The theorems on the settings block.
use Rattle.std.proofs.Common.{ℕ, ◌<◌, ◌≡◌, refl, true, List, get_or, drop, leb, leb-true, arith}
use Rattle.base.specs.Bytes.{Bytes}
use Rattle.base.proofs.ByteLaws.{bytes_each, bytes_drop}
use Rattle.base.proofs.Tests.{both_true}
use Rattle.number.proofs.NumberLaws.{le16_below}
use Rattle.number.specs.Number.{le16}
use Rattle.number.proofs.SignedLaws.{sign_range}
use Rattle.settings.specs.Range.{gain_limit, switches_in_range, calibration_in_range, CalibrationHeld, StatusHeld}
use Rattle.settings.proofs.RangeLaws.{switches_held}
use Rattle.bus.specs.Commands.{switches_from, calibration_from, status_from}
use Rattle.bus.proofs.CommandTable.{read_bezel}
use Rattle.bus.proofs.Keeps.{bezel_from_held, area_from_held}
use Rattle.registers.specs.Parts.{level_read, heater_read, bezel_read, area_read, calibration_read}
use Rattle.registers.specs.Block.{
  switches_at,
  heater_at,
  bezel_at,
  pixels_at,
  calibration_at,
  status_at,
  block,
  from_block,
}
use Rattle.registers.specs.Theorems.{BlockAsWritten, BlockLong, BlockRead, FromBlockHeld, BlockBytes}

pub block_as_written : BlockAsWritten
unfolding block
block_as_written σ = rw (← (read_bezel σ))

pub block_long : BlockLong
unfolding block
block_long σ = refl

pub block_read : BlockRead
unfolding block from_block
block_read σ h =
    let backlight = level_read σ.backlight h.backlight in
    let heater = heater_read σ.heater h.heater in
    let bezel = bezel_read σ.bezel h.bezel in
    let pixels = area_read σ.pixels h.pixels in
    let calibration = calibration_read σ.calibration h.calibration in
    λ i. record {
      backlight = backlight i;
      switches = σ.switches;
      heater = heater i;
      bezel = bezel i;
      pixels = pixels i;
      calibration = calibration i;
      status = σ.status;
    }

-- ---- bytes say numbers that fit

status_from_held : (d : List ℕ) → Bytes d → StatusHeld (status_from d)
status_from_held d h = record { first = h 0; second = h 1; third = h 2; fourth = h 3 }

level_below : (i : ℕ) (d : List ℕ) → Bytes d → le16 (drop i d) < 65536
level_below i d h = le16_below (drop i d) (bytes_drop i d h)

calibration_from_held : (d : List ℕ) → Bytes d → calibration_in_range (calibration_from d) ≡ true → CalibrationHeld (calibration_from d)
calibration_from_held d h e =
    let ranges = both_true _ (leb (get_or d 9 0) gain_limit) e in
    record {
      mode = leb-true _ _ ranges.0;
      red = level_below 1 d h;
      green = level_below 3 d h;
      blue = level_below 5 d h;
      limit = level_below 7 d h;
      gain = leb-true _ _ ranges.1;
    }

pub from_block_held : FromBlockHeld
unfolding from_block
from_block_held d h e =
    let parts = both_true _ (calibration_in_range (calibration_from (drop calibration_at d))) e in
    let ranges = both_true (switches_in_range (switches_from (drop switches_at d))) _ parts.0 in
    record {
      backlight = le16_below d h;
      switches = switches_held _ ranges.0;
      heater = record { khz = le16_below (drop heater_at d) (bytes_drop heater_at d h); duty = leb-true _ _ ranges.1 };
      bezel = bezel_from_held (drop bezel_at d) (bytes_drop bezel_at d h);
      pixels = area_from_held (drop pixels_at d) (bytes_drop pixels_at d h);
      calibration = calibration_from_held (drop calibration_at d) (bytes_drop calibration_at d h) parts.1;
      status = status_from_held (drop status_at d) (bytes_drop status_at d h);
    }

pub block_bytes : BlockBytes
unfolding block
block_bytes σ h = bytes_each (block σ) (search (arith, sign_range σ.bezel.horizontal, sign_range σ.bezel.vertical))
