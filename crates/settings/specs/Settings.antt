-- The settings, the fresh settings, and the status bits: document 01, "Status bits".
use Rattle.std.specs.Prelude.{ℕ, ◌+◌, ◌-◌, ◌/◌, ◌%◌, cond, pos, eqb, leb}
use Rattle.settings.specs.declared.settings.Settings.{Settings}
use Rattle.settings.specs.declared.settings.StatusBytes.{StatusBytes}
use Rattle.settings.specs.declared.settings.Flag.{Flag}
use Rattle.settings.specs.declared.settings.Flag.TheVariants.{
  Incomplete,
  NotAvailable,
  InvalidCommand,
  OutOfRange,
  EscapeSeen,
  WrongLength,
  BytesIgnored,
  WrongChecksum,
}

-- ---- the status bits

-- a byte with the bit of this weight set
unfoldable pub set_bit : ℕ → ℕ → ℕ
set_bit b w = cond (eqb (b / w % 2) 1) b (cond (leb b (255 - w)) (b + w) b)

abbrev pub in_first : StatusBytes → ℕ → StatusBytes
in_first s w = record s { first = set_bit s.first w }

abbrev pub in_second : StatusBytes → ℕ → StatusBytes
in_second s w = record s { second = set_bit s.second w }

abbrev pub in_fourth : StatusBytes → ℕ → StatusBytes
in_fourth s w = record s { fourth = set_bit s.fourth w }

abbrev pub with_flag : StatusBytes → Flag → StatusBytes
with_flag s Incomplete = in_first s 0x08
with_flag s NotAvailable = in_first s 0x04
with_flag s InvalidCommand = in_first s 0x01
with_flag s OutOfRange = in_second s 0x20
with_flag s EscapeSeen = in_fourth s 0x80
with_flag s WrongLength = in_fourth s 0x40
with_flag s BytesIgnored = in_fourth s 0x20
with_flag s WrongChecksum = in_fourth s 0x10

unfoldable pub flagged : Settings → Flag → Settings
flagged σ flag = record σ { status = with_flag σ.status flag }

abbrev pub no_flags : StatusBytes
no_flags = record { first = 0; second = 0; third = 0; fourth = 0 }

-- the settings but for their status bits
abbrev pub cleared : Settings → Settings
cleared σ = record σ { status = no_flags }

-- ---- master on, all else 0

abbrev pub fresh : Settings
fresh =
    record {
      backlight = 0;
      switches = record { master = 1; park = 0; splash = 0; strength = 0 };
      heater = record { khz = 0; duty = 0 };
      bezel = record { horizontal = pos 0; vertical = pos 0 };
      pixels = record { x0 = 0; y0 = 0; x1 = 0; y1 = 0 };
      calibration = record { mode = 0; red = 0; green = 0; blue = 0; limit = 0; gain = 0 };
      status = no_flags;
    }
