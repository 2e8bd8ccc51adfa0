-- Settings that a controller could hold stay so whatever command is performed.
use Prim.Native.Nat.{ℕ, ◌<◌}
use mathlib.Core.Path.{◌≡◌}
use mathlib.Core.Bool.{true}
use mathlib.Core.List.{List}
use lib.ListN.{drop}
use lib.IntN.{nat_abs}
use borrow.Author.Tests.{leb-true}
use Rattle.std.proofs.lemmas.Bool.{cond_both}
use Rattle.bus.specs.declared.command.Register.{Register}
use Rattle.bus.specs.declared.command.Register.TheVariants.{
  Backlight,
  Master,
  Park,
  Splash,
  Strength,
  Heater,
  Bezel,
  Status,
  Pixels,
  CalibrationMode,
  RedLevel,
  GreenLevel,
  BlueLevel,
  CurrentLimit,
  SensorGain,
}
use Rattle.settings.specs.declared.settings.Settings.{Settings}
use Rattle.settings.specs.declared.settings.Flag.TheVariants.{EscapeSeen}
use Rattle.settings.specs.Range.{OffsetsHeld, AreaHeld, Held}
use Rattle.settings.proofs.RangeLaws.{flagged_held, cleared_held}
use Rattle.bus.specs.Commands.{accepts, offset_from, bezel_from, area_from, written}
use Rattle.bus.specs.CommandTheorems.{PerformHeld}
use Rattle.bus.proofs.Effect.{command_keeps}
use Rattle.packet.specs.Packet.{has_escape}
use Rattle.bus.specs.Bus.{noted}
use Rattle.base.specs.Bytes.{Bytes}
use Rattle.base.proofs.ByteLaws.{bytes_drop}
use Rattle.number.proofs.NumberLaws.{le16_below}
use Rattle.number.proofs.SignedLaws.{nat_abs_offset}

-- ---- bytes say numbers that fit

offset_below : (d : List ℕ) → Bytes d → nat_abs (offset_from d) < 65536
offset_below d h = rw nat_abs_offset (le16_below d h)

module _ (d : List ℕ) (h : Bytes d) where
  pub bezel_from_held : OffsetsHeld (bezel_from d)
  bezel_from_held = record { horizontal = offset_below d h; vertical = offset_below (drop 3 d) (bytes_drop 3 d h) }

  pub area_from_held : AreaHeld (area_from d)
  area_from_held =
      record {
        x0 = le16_below d h;
        y0 = le16_below (drop 2 d) (bytes_drop 2 d h);
        x1 = le16_below (drop 4 d) (bytes_drop 4 d h);
        y1 = le16_below (drop 6 d) (bytes_drop 6 d h);
      }

-- ---- every command

-- a write of data that its register accepts
written_held : (σ : Settings) (r : Register) (d : List ℕ) → accepts r d ≡ true → Bytes d → Held σ → Held (written σ r d)
written_held σ Backlight d fits bytes h = search le16_below
written_held σ Master d fits bytes h = search leb-true
written_held σ Park d fits bytes h = search leb-true
written_held σ Splash d fits bytes h = search leb-true
written_held σ Strength d fits bytes h = search leb-true
written_held σ Heater d fits bytes h = search (le16_below, leb-true)
written_held σ Bezel d fits bytes h = search bezel_from_held
written_held σ Status d fits bytes h = h
written_held σ Pixels d fits bytes h = search area_from_held
written_held σ CalibrationMode d fits bytes h = search leb-true
written_held σ RedLevel d fits bytes h = search le16_below
written_held σ GreenLevel d fits bytes h = search le16_below
written_held σ BlueLevel d fits bytes h = search le16_below
written_held σ CurrentLimit d fits bytes h = search le16_below
written_held σ SensorGain d fits bytes h = search leb-true

pub perform_held : PerformHeld
perform_held σ k d bytes h = command_keeps Held σ k d h (cleared_held σ h) (λ flag. flagged_held σ flag h) (λ row _ fits. written_held σ row.register d fits bytes h)

pub noted_held : (σ : Settings) (bytes : List ℕ) → Held σ → Held (noted σ bytes)
noted_held σ bytes h = cond_both (has_escape bytes) _ _ Held (λ e. flagged_held σ EscapeSeen h) (λ e. h)
