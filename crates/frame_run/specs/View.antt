-- Steps of private functions.
use Rattle.std.specs.Prelude.{ℕ, ◌+◌, ◌*◌, ◌≤◌, ◌≡◌, true, List, ◌++◌, length, take, drop}
use Rattle.base.specs.Lent.{overwritten}
use Rattle.frame.specs.View.{refusal_of}
use Rattle.judging.specs.declared.End.TheVariants.{Box}
use Rattle.judging.specs.Decoding.{decode}
use Rattle.link.specs.View.{frame_limit}
use Rattle.session.specs.declared.Cab.{Cab}
use Rattle.outcome.specs.declared.Answered.{Answered}
use Rattle.outcome.specs.Batch.{batch_limit, fits, with_part}
use Rattle.session.specs.Box.{judged}
use Rattle.outcome.specs.Turn.{Turn, bytes_written}
use Rattle.frame_run.specs.declared.Running.{Running}

-- lengths that are right, and room for all answers
pub record Roomy (lengths bytes out : List ℕ) : Type 0 where
  pub few : length lengths ≤ batch_limit
  pub fit : fits lengths (length bytes) ≡ true
  pub room : frame_limit * length lengths ≤ length out

-- a frame's answer behind what was written before it
pub record Follows (t : Turn Cab) (r : Answered Cab) (written : ℕ) (before after : List ℕ) : Type 0 where
  pub state_is : r.state ≡ t.state
  pub refusal_is : refusal_of r.verdict ≡ t.refusal
  pub length_is : r.len ≡ length (bytes_written t)
  pub short : r.len ≤ frame_limit
  pub output_is : after ≡ take written before ++ overwritten (bytes_written t) (drop written before)

-- a run after one frame more, of the next `len` bytes
pub record Steps (run : Running) (len : ℕ) (bytes : List ℕ) (r : Running) (before after : List ℕ) : Type 0 where
  pub answer : Answered Cab
  pub follows : Follows (judged run.cab (decode Box (take len (drop run.at bytes)))) answer run.written before after
  pub state_is : r.cab ≡ answer.state
  pub parts_are : r.parts ≡ with_part run.parts (record { verdict = answer.verdict; len = answer.len })
  pub at_is : r.at ≡ run.at + len
  pub written_is : r.written ≡ run.written + answer.len
