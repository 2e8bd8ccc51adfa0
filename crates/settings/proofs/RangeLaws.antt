-- The laws of settings that a controller could hold.
use Rattle.std.proofs.Common.{◌≡◌, ℕ, ◌<◌, ◌≤◌, ◌-◌, ◌/◌, ◌%◌, true, eqb, leb, arith}
use Rattle.std.proofs.lemmas.Bool.{cond_both}
use borrow.Author.Tests.{leb-true, le-leb}
use Rattle.base.proofs.Tests.{both_true}
use Rattle.settings.specs.declared.settings.Settings.{Settings}
use Rattle.settings.specs.declared.settings.Switches.{Switches}
use Rattle.settings.specs.declared.settings.StatusBytes.{StatusBytes}
use Rattle.settings.specs.declared.settings.Flag.{Flag}
use Rattle.settings.specs.declared.settings.Flag.TheVariants.{
  Incomplete,
  NotAvailable,
  InvalidCommand,
  OutOfRange,
  EscapeSeen,
  WrongLength,
  BytesIgnored,
  WrongChecksum,
}
use Rattle.settings.specs.Settings.{set_bit, with_flag, flagged, cleared, fresh}
use Rattle.settings.specs.Range.{switch_limit, strength_limit, switches_in_range, in_range, SwitchesHeld, StatusHeld, Held}

pub switches_held : (w : Switches) → switches_in_range w ≡ true → SwitchesHeld w
switches_held w e =
    let strength = both_true _ (leb w.strength strength_limit) e in
    let splash = both_true _ (leb w.splash switch_limit) strength.0 in
    let park = both_true (leb w.master switch_limit) (leb w.park switch_limit) splash.0 in
    record {
      master = leb-true _ _ park.0;
      park = leb-true _ _ park.1;
      splash = leb-true _ _ splash.1;
      strength = leb-true _ _ strength.1;
    }

-- settings that a controller could hold are in range
pub held_in_range : (σ : Settings) → Held σ → in_range σ ≡ true
held_in_range σ h =
    let w = h.switches in
    let c = h.calibration in
    rw (
      le-leb _ _ w.master,
      le-leb _ _ w.park,
      le-leb _ _ w.splash,
      le-leb _ _ w.strength,
      le-leb _ _ h.heater.duty,
      le-leb _ _ c.mode,
      le-leb _ _ c.gain,
    )

pub fresh_held : Held fresh
fresh_held = search arith

-- ---- the status bits keep it

-- a byte with a bit set is a byte
set_bit_below : (b w : ℕ) → b < 256 → w ≤ 255 → set_bit b w < 256
unfolding set_bit
set_bit_below b w hb hw =
    cond_both (eqb (b / w % 2) 1) _ _ (λ (x : ℕ). x < 256) (λ _. hb)
    (λ _. cond_both (leb b (255 - w)) _ _ (λ (x : ℕ). x < 256) (λ f. omega (arith, leb-true b (255 - w) f)) (λ _. hb))

with_flag_held : (s : StatusBytes) (flag : Flag) → StatusHeld s → StatusHeld (with_flag s flag)
with_flag_held s Incomplete h = search (set_bit_below _ 0x08 h.first (omega arith))
with_flag_held s NotAvailable h = search (set_bit_below _ 0x04 h.first (omega arith))
with_flag_held s InvalidCommand h = search (set_bit_below _ 0x01 h.first (omega arith))
with_flag_held s OutOfRange h = search (set_bit_below _ 0x20 h.second (omega arith))
with_flag_held s EscapeSeen h = search (set_bit_below _ 0x80 h.fourth (omega arith))
with_flag_held s WrongLength h = search (set_bit_below _ 0x40 h.fourth (omega arith))
with_flag_held s BytesIgnored h = search (set_bit_below _ 0x20 h.fourth (omega arith))
with_flag_held s WrongChecksum h = search (set_bit_below _ 0x10 h.fourth (omega arith))

pub flagged_held : (σ : Settings) (flag : Flag) → Held σ → Held (flagged σ flag)
unfolding flagged
flagged_held σ flag h = search (with_flag_held σ.status flag h.status)

pub cleared_held : (σ : Settings) → Held σ → Held (cleared σ)
cleared_held σ h = search arith
