-- What a call at either end gives.
use Rattle.std.specs.Prelude.{ℕ, ◌≡◌, List, length, Err}
use Rattle.std.proofs.Math.Option.{Option, none, some}
use Rattle.base.specs.Lent.{overwritten}
use Rattle.base.specs.Refusal.{Fault, Told, plain, faulty, number_told}
use Rattle.base.specs.declared.refusal.Refusal.{Refusal}
use Rattle.frame.specs.Frame.{Frame, refuse}
use Rattle.frame.specs.View.{refusal_of}
use Rattle.outcome.specs.declared.Answered.{Answered}
use Rattle.link.specs.View.{encoding_of}

-- the state afterwards, what a refusal tells if there is one, and the frame written if there is one
pub record Turn (A : Type 0) : Type 0 where
  pub state : A
  pub refusal : Option Told
  pub frame : Option Frame

abbrev pub wrote : {A : Type 0} → A → Frame → Turn A
wrote a f = record { state = a; refusal = none; frame = some f }

abbrev pub silent : {A : Type 0} → A → Turn A
silent a = record { state = a; refusal = none; frame = none }

abbrev pub refused : {A : Type 0} → A → ℕ → Turn A
refused a number = record { state = a; refusal = some (plain number); frame = none }

-- a frame's fault: 14 to 19
abbrev pub faulted : {A : Type 0} → A → Fault → Turn A
faulted a f = record { state = a; refusal = some (faulty f); frame = none }

-- the box writes REFUSE
abbrev pub refuses : {A : Type 0} → A → ℕ → Told → Turn A
refuses a session told = record { state = a; refusal = some told; frame = some (refuse session (number_told told)) }

-- for 5 to 7, and for a frame's fault, whose session is not told
abbrev pub refused_by : {A : Type 0} → A → ℕ → ℕ → Turn A
refused_by a session number = refuses a session (plain number)

abbrev pub faulted_by : {A : Type 0} → A → Fault → Turn A
faulted_by a f = refuses a 0 (faulty f)

-- the bytes written, none where no frame is
abbrev pub bytes_written : {A : Type 0} → Turn A → List ℕ
bytes_written t = encoding_of t.frame

-- The turn fixes what a call of the code returned, and what it made of its lent output: the state, what a refusal tells, the length and every byte.
pub record Gives {A : Type 0} (t : Turn A) (r : Answered A) (before after : List ℕ) : Type 0 where
  pub state_is : r.state ≡ t.state
  pub refusal_is : refusal_of r.verdict ≡ t.refusal
  pub length_is : r.len ≡ length (bytes_written t)
  pub output_is : after ≡ overwritten (bytes_written t) before

abbrev pub refused_answer : {A : Type 0} → A → Refusal → Answered A
refused_answer a r = record { state = a; verdict = Err r; len = 0 }
