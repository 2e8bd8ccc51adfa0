-- A part that fits its bytes is read back from them.
use Rattle.std.proofs.Common.{ℕ, ◌<◌, ◌≡◌, refl, ap, ◌∙◌, [], ◌∷◌, get_or, ℤ, nat_abs}
use Rattle.number.specs.Number.{le16, le16_bytes}
use Rattle.number.specs.Signed.{offset, magnitude, sign}
use Rattle.number.proofs.NumberLaws.{le16_read}
use Rattle.number.proofs.SignedLaws.{magnitude_range, offset_read as sign_and_amount_read}
use Rattle.settings.specs.declared.settings.Switches.{Switches}
use Rattle.settings.specs.declared.settings.HeaterDrive.{HeaterDrive}
use Rattle.settings.specs.declared.settings.Offsets.{Offsets}
use Rattle.settings.specs.declared.settings.Area.{Area}
use Rattle.settings.specs.declared.settings.Calibration.{Calibration}
use Rattle.settings.specs.declared.settings.StatusBytes.{StatusBytes}
use Rattle.settings.specs.Range.{SwitchesHeld, HeaterHeld, OffsetsHeld, AreaHeld, CalibrationHeld, StatusHeld}
use Rattle.bus.specs.Commands.{
  switch_bytes,
  heater_bytes,
  offset_bytes,
  bezel_bytes,
  area_bytes,
  calibration_bytes,
  status_bytes,
  switches_from,
  heater_from,
  offset_from,
  bezel_from,
  area_from,
  calibration_from,
  status_from,
}

pub byte_read : (value : ℕ) → value < 256 → get_or (value ∷ []) 0 0 ≡ value
byte_read value h = refl

pub level_read : (level : ℕ) → level < 65536 → le16 (le16_bytes level) ≡ level
level_read = le16_read

pub offset_read : (z : ℤ) → nat_abs z < 65536 → offset_from (offset_bytes z) ≡ z
offset_read z h = ap (λ (x : ℕ). offset x (sign z)) (le16_read (magnitude z) (magnitude_range z)) ∙ sign_and_amount_read z h

pub switches_read : (w : Switches) → SwitchesHeld w → switches_from (switch_bytes w) ≡ w
switches_read w h = refl

pub heater_read : (p : HeaterDrive) → HeaterHeld p → heater_from (heater_bytes p) ≡ p
heater_read p h =
    let khz = le16_read p.khz h.khz in
    λ i. record { khz = khz i; duty = p.duty }

pub bezel_read : (o : Offsets) → OffsetsHeld o → bezel_from (bezel_bytes o) ≡ o
bezel_read o h =
    let horizontal = offset_read o.horizontal h.horizontal in
    let vertical = offset_read o.vertical h.vertical in
    λ i. record { horizontal = horizontal i; vertical = vertical i }

pub area_read : (a : Area) → AreaHeld a → area_from (area_bytes a) ≡ a
area_read a h =
    let x0 = le16_read a.x0 h.x0 in
    let y0 = le16_read a.y0 h.y0 in
    let x1 = le16_read a.x1 h.x1 in
    let y1 = le16_read a.y1 h.y1 in
    λ i. record { x0 = x0 i; y0 = y0 i; x1 = x1 i; y1 = y1 i }

pub calibration_read : (c : Calibration) → CalibrationHeld c → calibration_from (calibration_bytes c) ≡ c
calibration_read c h =
    let red = le16_read c.red h.red in
    let green = le16_read c.green h.green in
    let blue = le16_read c.blue h.blue in
    let limit = le16_read c.limit h.limit in
    λ i. record { mode = c.mode; red = red i; green = green i; blue = blue i; limit = limit i; gain = c.gain }

pub status_read : (s : StatusBytes) → StatusHeld s → status_from (status_bytes s) ≡ s
status_read s h = refl
