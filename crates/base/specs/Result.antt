-- What a call is to answer.
use Rattle.std.specs.Prelude.{ℕ}

-- a refusal's number, or a value
pub data Result (A : Type 0) : Type 0 where
  refused : ℕ → Result A
  accepted : A → Result A
