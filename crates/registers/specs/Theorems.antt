-- What is proved of the settings block: document 01, "The adjustment link"; document 02, Ask 6.
use Rattle.std.specs.Prelude.{ℕ, ◌≡◌, true, List, [], ◌∷◌, ◌++◌, length}
use Rattle.base.specs.Bytes.{Bytes}
use Rattle.settings.specs.declared.settings.Settings.{Settings}
use Rattle.settings.specs.Range.{in_range, Held}
use Rattle.bus.specs.AsWritten.{
  backlight_bytes,
  master_byte,
  splash_byte,
  strength_byte,
  heater_bytes,
  bezel_bytes,
  pixels_bytes,
  mode_byte,
  red_bytes,
  green_bytes,
  blue_bytes,
  limit_bytes,
  gain_byte,
  status_bytes,
}
use Rattle.registers.specs.Block.{block_length, block, from_block}

-- the settings in order, as the paper's reads give them; park is 0 or 1 here
abbrev pub paper_block : Settings → List ℕ
paper_block σ =
    backlight_bytes σ
    ++ master_byte σ
    ++ (σ.switches.park ∷ [])
    ++ splash_byte σ
    ++ strength_byte σ
    ++ heater_bytes σ
    ++ bezel_bytes σ
    ++ pixels_bytes σ
    ++ mode_byte σ
    ++ red_bytes σ
    ++ green_bytes σ
    ++ blue_bytes σ
    ++ limit_bytes σ
    ++ gain_byte σ
    ++ status_bytes σ

-- the block's bytes are those
abbrev pub BlockAsWritten : Type 0
BlockAsWritten = (σ : Settings) → block σ ≡ paper_block σ

-- every block has that length
abbrev pub BlockLong : Type 0
BlockLong = (σ : Settings) → length (block σ) ≡ block_length

-- what a block says is what it was made of
abbrev pub BlockRead : Type 0
BlockRead = (σ : Settings) → Held σ → from_block (block σ) ≡ σ

-- bytes whose settings are in range say settings that a controller could hold
abbrev pub FromBlockHeld : Type 0
FromBlockHeld = (d : List ℕ) → Bytes d → in_range (from_block d) ≡ true → Held (from_block d)

-- a block of settings that a controller could hold is bytes
abbrev pub BlockBytes : Type 0
BlockBytes = (σ : Settings) → Held σ → Bytes (block σ)
