-- What is proved of the status bits.
use Rattle.std.specs.Prelude.{ℕ, ◌/◌, ◌%◌, ◌^◌, ◌<◌, ◌≡◌, cond, eqb}
use Rattle.settings.specs.Settings.{set_bit}

-- bit j of a byte
abbrev pub bit : ℕ → ℕ → ℕ
bit j b = b / 2 ^ j % 2

-- setting a bit of a byte sets that bit and no other
abbrev pub SetBitSets : Type 0
SetBitSets = (b k j : ℕ) → b < 256 → k < 8 → j < 8 → bit j (set_bit b (2 ^ k)) ≡ cond (eqb j k) 1 (bit j b)
