-- Setting a status bit sets that bit and no other, and is an or of bytes.
use Rattle.std.proofs.Common.{◌≡◌, ℕ, ◌<◌, ◌^◌, Bool, T, cond, eqb, refl, arith}
use Rattle.std.specs.Int.Bits.{bit_or}
use lib.Dec.{eqb→eq}
use Rattle.base.proofs.Tests.{all_below, below_each}
use Rattle.settings.specs.declared.settings.Settings.{Settings}
use Rattle.settings.specs.declared.settings.Flag.{Flag}
use Rattle.settings.specs.Settings.{set_bit, flagged, cleared}
use Rattle.settings.specs.Theorems.{bit, SetBitSets}

abbrev sets_one : ℕ → ℕ → ℕ → Bool
sets_one b k j = eqb (bit j (set_bit b (2 ^ k))) (cond (eqb j k) 1 (bit j b))

all_bytes : T (all_below 256 (λ b. all_below 8 (λ k. all_below 8 (λ j. sets_one b k j))))
unfolding all_below set_bit
all_bytes = tt

pub set_bit_sets : SetBitSets
set_bit_sets b k j hb hk hj = eqb→eq _ _ (below_each 8 _ (below_each 8 _ (below_each 256 _ all_bytes b hb) k hk) j hj)

or_alike : ℕ → ℕ → Bool
or_alike k b = eqb (bit_or b (2 ^ k)) (set_bit b (2 ^ k))

ors_alike : T (all_below 8 (λ k. all_below 256 (or_alike k)))
unfolding all_below or_alike set_bit
ors_alike = tt

-- of a byte and the weight of one of its bits
or_sets : (k b : ℕ) → k < 8 → b < 256 → bit_or b (2 ^ k) ≡ set_bit b (2 ^ k)
unfolding or_alike
or_sets k b hk hb = eqb→eq _ _ (below_each 256 (or_alike k) (below_each 8 (λ i. all_below 256 (or_alike i)) ors_alike k hk) b hb)

module _ (b : ℕ) (h : b < 256) where
  pub or_1 : bit_or b 0x01 ≡ set_bit b 0x01
  or_1 = or_sets 0 b (omega arith) h

  pub or_2 : bit_or b 0x02 ≡ set_bit b 0x02
  or_2 = or_sets 1 b (omega arith) h

  pub or_4 : bit_or b 0x04 ≡ set_bit b 0x04
  or_4 = or_sets 2 b (omega arith) h

  pub or_8 : bit_or b 0x08 ≡ set_bit b 0x08
  or_8 = or_sets 3 b (omega arith) h

  pub or_16 : bit_or b 0x10 ≡ set_bit b 0x10
  or_16 = or_sets 4 b (omega arith) h

  pub or_32 : bit_or b 0x20 ≡ set_bit b 0x20
  or_32 = or_sets 5 b (omega arith) h

  pub or_64 : bit_or b 0x40 ≡ set_bit b 0x40
  or_64 = or_sets 6 b (omega arith) h

  pub or_128 : bit_or b 0x80 ≡ set_bit b 0x80
  or_128 = or_sets 7 b (omega arith) h

pub ruleset ors = (or_1, or_2, or_4, or_8, or_16, or_32, or_64, or_128)

-- a status bit changes no other register
pub cleared_flagged : (σ : Settings) (f : Flag) → cleared (flagged σ f) ≡ cleared σ
unfolding flagged
cleared_flagged σ f = refl
