-- Lent bytes after a call.
use Rattle.std.specs.Prelude.{List, ◌++◌, ℕ, length, drop}

-- a lent output with `bytes` at its start, and past them as it was
abbrev pub overwritten : List ℕ → List ℕ → List ℕ
overwritten bytes out = bytes ++ drop (length bytes) out
