-- The five frames: document 01, "The adjustment link".
use Rattle.std.specs.Prelude.{ℕ, ◌<◌, ◌≤◌, Bool, false, List, length, get_or, ltb}
use Rattle.settings.specs.declared.settings.Settings.{Settings}

-- a command's most data bytes: the code's DATA_LIMIT, since a clause cannot name a constant of the code
abbrev pub data_limit : ℕ
data_limit = 16

-- what an order asks for: a command with its data, or the backlight raised or lowered by a step
pub data Change : Type 0 where
  command : ℕ → List ℕ → Change
  raise : ℕ → Change
  lower : ℕ → Change

-- whether a change has more data than an ORDER can carry
abbrev pub too_long : Change → Bool
too_long (command k d) = ltb data_limit (length d)
too_long (raise n) = false
too_long (lower n) = false

-- sessions come first, then an order's number, an acknowledged count or a refusal's number
pub data Frame : Type 0 where
  opening : ℕ → Frame
  welcome : ℕ → Settings → Frame
  order : ℕ → ℕ → Change → Frame
  ack : ℕ → ℕ → Frame
  refuse : ℕ → ℕ → Frame

-- a change that an ORDER can carry
pub data ValidChange : Change → Type 0 where
  valid_command : {k : ℕ} {d : List ℕ} → k < 256 → length d ≤ data_limit → ((i : ℕ) → get_or d i 0 < 256) → ValidChange (command k d)
  valid_raise : {n : ℕ} → n < 65536 → ValidChange (raise n)
  valid_lower : {n : ℕ} → n < 65536 → ValidChange (lower n)
