-- What a call answers that writes into a lent output, and what it makes of the output.
use Rattle.std.specs.Prelude.{ℕ, ◌≡◌, cond, List, [], length, ltb, Ok, Err}
use Rattle.std.specs.Prelude.{Result as StdResult}
use Rattle.base.specs.declared.refusal.Refusal.{Refusal}
use Rattle.base.specs.Lent.{overwritten}
use Rattle.base.specs.Refusal.{number}
use Rattle.base.specs.Result.{Result, refused, accepted}

-- the answer tells the length of what is written
abbrev pub length_of : Result (List ℕ) → Result ℕ
length_of (refused n) = refused n
length_of (accepted bytes) = accepted (length bytes)

abbrev pub answer : {A : Type 0} → StdResult A Refusal → Result A
answer (Err r) = refused (number r)
answer (Ok a) = accepted a

-- what is written on a refusal is nothing
abbrev pub bytes_of : Result (List ℕ) → List ℕ
bytes_of (refused n) = []
bytes_of (accepted bytes) = bytes

-- bytes for an output of `room` bytes: all or nothing
unfoldable pub fitting : List ℕ → ℕ → Result (List ℕ)
fitting bytes room = cond (ltb room (length bytes)) (refused 1) (accepted bytes)

-- what a call answered and made of its lent output, where `result` says by the output's length what is to be written
pub record Writes (result : ℕ → Result (List ℕ)) (r : StdResult ℕ Refusal) (before after : List ℕ) : Type 0 where
  pub answer_is : answer r ≡ length_of (result (length before))
  pub output_is : after ≡ overwritten (bytes_of (result (length before))) before
