-- The status bits of both definitions are the same, and the status bytes stay bytes.
use Prim.Native.Nat.{ℕ, ◌^◌, ◌<◌}
use mathlib.Core.Path.{◌≡◌}
use mathlib.Core.Bool.{Bool}
use native.Mathlib.Omega.{arith}
use lib.Dec.{eqb, ltb, T, eqb→eq, ltb→lt, lit<}
use Rattle.settings.specs.declared.settings.Settings.{Settings}
use Rattle.settings.specs.declared.settings.Flag.{Flag}
use Rattle.settings.specs.declared.settings.Flag.TheVariants.{
  Incomplete,
  NotAvailable,
  InvalidCommand,
  OutOfRange,
  EscapeSeen,
  WrongLength,
  BytesIgnored,
  WrongChecksum,
}
use Rattle.settings.specs.Settings.{set_bit, in_first, in_second, in_fourth, flagged}
use Rattle.bus.specs.AsWritten as written
use Rattle.bus.specs.CommandTheorems.{StatusFits}
use Rattle.base.proofs.Tests.{all_below, below_each}

-- ---- one bit of a byte

alike_at : ℕ → ℕ → Bool
alike_at bit b = eqb (set_bit b (2 ^ bit)) (written.with_bit bit b)

fits_at : ℕ → ℕ → Bool
fits_at bit b = ltb (written.with_bit bit b) 256

all_bits : (ℕ → ℕ → Bool) → Bool
all_bits test = all_below 8 (λ (bit : ℕ). all_below 256 (test bit))

-- all eight bits of all bytes, computed
bits_alike : T (all_bits alike_at)
unfolding all_bits all_below alike_at set_bit
bits_alike = tt

bits_fit : T (all_bits fits_at)
unfolding all_bits all_below fits_at
bits_fit = tt

module _ (bit b : ℕ) (h : bit < 8) (k : b < 256) where
  one_bit : (test : ℕ → ℕ → Bool) → T (all_bits test) → T (test bit b)
  unfolding all_bits
  one_bit test t = below_each 256 (test bit) (below_each 8 (λ (i : ℕ). all_below 256 (test i)) t bit h) b k

  set_alike : set_bit b (2 ^ bit) ≡ written.with_bit bit b
  unfolding alike_at
  set_alike = eqb→eq (set_bit b (2 ^ bit)) (written.with_bit bit b) (one_bit alike_at bits_alike)

  set_fits : written.with_bit bit b < 256
  unfolding fits_at
  set_fits = ltb→lt (written.with_bit bit b) 256 (one_bit fits_at bits_fit)

-- ---- the eight flags

-- a flag's bit, as written
abbrev pub marked : Flag → Settings → Settings
marked Incomplete σ = written.incomplete σ
marked NotAvailable σ = written.not_available σ
marked InvalidCommand σ = written.invalid_command σ
marked OutOfRange σ = written.out_of_range σ
marked EscapeSeen σ = written.escape_seen σ
marked WrongLength σ = written.wrong_length σ
marked BytesIgnored σ = written.bytes_ignored σ
marked WrongChecksum σ = written.wrong_checksum σ

module _ (σ : Settings) (fits : StatusFits σ) where
  first_alike : (bit : ℕ) → bit < 8 → (record σ { status = in_first σ.status (2 ^ bit) } ≡ written.in_first bit σ) × StatusFits (written.in_first bit σ)
  first_alike bit h = (rw (set_alike bit σ.status.first h fits.first), omega (arith, set_fits bit σ.status.first h fits.first))

  second_alike : (bit : ℕ) → bit < 8 → (record σ { status = in_second σ.status (2 ^ bit) } ≡ written.in_second bit σ) × StatusFits (written.in_second bit σ)
  second_alike bit h = (rw (set_alike bit σ.status.second h fits.second), omega (arith, set_fits bit σ.status.second h fits.second))

  fourth_alike : (bit : ℕ) → bit < 8 → (record σ { status = in_fourth σ.status (2 ^ bit) } ≡ written.in_fourth bit σ) × StatusFits (written.in_fourth bit σ)
  fourth_alike bit h = (rw (set_alike bit σ.status.fourth h fits.fourth), omega (arith, set_fits bit σ.status.fourth h fits.fourth))

  -- every flag sets the bit that the paper gives it, and the status bytes stay bytes
  pub marked_alike : (f : Flag) → (flagged σ f ≡ marked f σ) × StatusFits (marked f σ)
  unfolding flagged
  marked_alike Incomplete = first_alike 3 (lit< tt)
  marked_alike NotAvailable = first_alike 2 (lit< tt)
  marked_alike InvalidCommand = first_alike 0 (lit< tt)
  marked_alike OutOfRange = second_alike 5 (lit< tt)
  marked_alike EscapeSeen = fourth_alike 7 (lit< tt)
  marked_alike WrongLength = fourth_alike 6 (lit< tt)
  marked_alike BytesIgnored = fourth_alike 5 (lit< tt)
  marked_alike WrongChecksum = fourth_alike 4 (lit< tt)
