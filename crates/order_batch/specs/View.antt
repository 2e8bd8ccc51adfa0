-- Steps of private functions.
use Rattle.std.specs.Prelude.{ℕ, ◌+◌, ◌*◌, ◌-◌, ◌≤◌, ◌<◌, ◌≡◌, true, length, take, drop, Result, Ok, Err, IfOk, Bool, false, cond, ltb}
use mathlib.Core.List.{List, ◌++◌, map, foldl}
use Rattle.std.proofs.Math.Option.{none, some}
use Rattle.base.specs.Refusal.{told}
use Rattle.base.specs.declared.refusal.Refusal.{Refusal}
use Rattle.frame.specs.View.{asked_as, refusal_of}
use Rattle.link.specs.View.{frame_limit}
use Rattle.outcome.specs.declared.Answered.{Answered}
use Rattle.outcome.specs.declared.BatchOrder.{BatchOrder}
use Rattle.outcome.specs.Batch.{batch_limit, data_lengths, changes, fits, Outcome, bytes_of_parts, reported, reports}
use Rattle.outcome.specs.Turn.{Turn, bytes_written}
use Rattle.session.specs.declared.Office.{Office}
use Rattle.session.specs.Office.{issue_next}
use Rattle.order_batch.specs.declared.Issued.{Issued}

-- the two tests of `issue_all`
unfoldable pub batch_fits : List BatchOrder → ℕ → Bool
batch_fits orders total = cond (ltb batch_limit (length orders)) false (fits (data_lengths orders) total)

-- a batch that passes them
pub record Fitting (orders : List BatchOrder) (bytes : List ℕ) : Type 0 where
  pub few : length orders ≤ batch_limit
  pub data_fit : fits (data_lengths orders) (length bytes) ≡ true

-- the most bytes that the frames of a batch take: the code's FRAMES_LIMIT
abbrev pub frames_limit : ℕ
frames_limit = batch_limit * frame_limit

-- ---- one order

-- what one order gave, with its frame behind the first `from` bytes of the buffer
pub record Behind (turn : Turn Office) (next : Answered Office) (from : ℕ) (before after : List ℕ) : Type 0 where
  pub state_is : next.state ≡ turn.state
  pub refusal_is : refusal_of next.verdict ≡ turn.refusal
  pub length_is : next.len ≡ length (bytes_written turn)
  pub within : from + next.len ≤ length before
  pub bytes_are : take (from + next.len) after ≡ take from before ++ bytes_written turn

-- what the orders so far gave, with their frames at the start of the buffer
pub record Holds (t : Outcome Office) (s : Issued) (buffer : List ℕ) : Type 0 where
  pub going : t.refusal ≡ none
  pub state_is : s.office ≡ t.state
  pub count_is : s.parts.count ≡ length t.parts
  pub parts_are : map reported s.parts.each ≡ reports t.parts
  pub within : s.written ≤ length buffer
  pub bytes_are : take s.written buffer ≡ bytes_of_parts t.parts

-- what further orders gave, where one may be refused
abbrev pub Leads : Outcome Office → Result Unit Refusal → Issued → List ℕ → Type 0
Leads t (Ok _) s buffer = Holds t s buffer
Leads t (Err why) s buffer = t.refusal ≡ some (told why)

-- the next order's data are there, and so is what was written
pub record Ready (s : Issued) (order : BatchOrder) (bytes frames : List ℕ) : Type 0 where
  pub data_within : s.used + order.len ≤ length bytes
  pub within : s.written ≤ length frames
  pub short : length frames ≤ frames_limit

-- the next order, with its data behind those of the earlier ones
pub record Goes (s : Issued) (order : BatchOrder) (bytes : List ℕ) (r : Result Unit Refusal) (s' : Issued) (before after : List ℕ) : Type 0 where
  pub moved : IfOk r (λ _. (s'.used ≡ s.used + order.len) × (s'.written ≤ length after))
  pub leads : (t : Outcome Office) → length t.parts < batch_limit → Holds t s before →
      Leads (issue_next (length before) t (asked_as order.ask (take order.len (drop s.used bytes)))) r s' after

-- ---- each order of a batch

-- the data of all orders are what is left of the bytes
pub record AllReady (s : Issued) (orders : List BatchOrder) (bytes frames : List ℕ) : Type 0 where
  pub data_within : s.used ≤ length bytes
  pub data_fit : fits (data_lengths orders) (length bytes - s.used) ≡ true
  pub within : s.written ≤ length frames
  pub short : length frames ≤ frames_limit

abbrev pub AllGo : Issued → List BatchOrder → List ℕ → Result Unit Refusal → Issued → List ℕ → List ℕ → Type 0
AllGo s orders bytes r s' before after =
    (t : Outcome Office) → length t.parts + length orders ≤ batch_limit → Holds t s before →
    Leads (foldl (issue_next (length before)) t (changes orders (drop s.used bytes))) r s' after
