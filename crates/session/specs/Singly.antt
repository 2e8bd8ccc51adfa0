-- A batch and a run give answers, state and settings equal to doing their parts singly: document 02, Ask 3. It is proved in proofs/Singly.antt.
use Rattle.std.specs.Prelude.{ℕ, ◌+◌, ◌-◌, ◌*◌, ◌<◌, ◌≤◌, ◌≡◌, length}
use mathlib.Core.List.{List, [], ◌∷◌, ◌++◌, foldr}
use Rattle.std.proofs.Math.Option.{Option, none, some}
use Rattle.base.specs.Refusal.{Told, plain}
use Rattle.frame.specs.Frame.{Change}
use Rattle.link.specs.View.{frame_limit}
use Rattle.outcome.specs.declared.BatchOrder.{BatchOrder}
use Rattle.session.specs.declared.Cab.{Cab}
use Rattle.session.specs.declared.Office.{Office}
use Rattle.outcome.specs.Batch.{batch_limit, cut, data_lengths, changes, Outcome, refused_whole, bytes_of_parts}
use Rattle.session.specs.Calls.{BoxCall, box_frame, box_frames, OfficeCall, issue, issue_all, Reply, Answer, answer_of, refusals, state_after, answers, box_rules, office_rules}

-- ---- the single calls: each is given the output that the earlier ones left

abbrev pub room_left : {A : Type 0} → ℕ → Outcome A → ℕ
room_left room t = room - length (bytes_of_parts t.parts)

abbrev pub issued_singly : Office → List Change → ℕ → List OfficeCall
issued_singly o [] room = []
issued_singly o (c ∷ cs) room = let t = office_rules o (issue c room) in issue c room ∷ issued_singly t.state cs (room_left room t)

abbrev pub given_singly : Cab → List (List ℕ) → ℕ → List BoxCall
given_singly c [] room = []
given_singly c (f ∷ fs) room = let t = box_rules c (box_frame f room) in box_frame f room ∷ given_singly t.state fs (room_left room t)

-- ---- what they give together

-- what the first refusal tells
abbrev pub first_of : List Told → Option Told → Option Told
first_of [] later = later
first_of (told ∷ more) later = some told

abbrev pub first_told : List Answer → Option Told
first_told [] = none
first_told (a ∷ rest) = first_of (refusals a) (first_told rest)

-- the replies of all in one answer
abbrev pub all_replies : List Answer → List Reply
all_replies [] = []
all_replies (a ∷ rest) = a.replies ++ all_replies rest

abbrev pub joined : List Answer → Answer
joined given = record { refusal = none; replies = all_replies given }

-- an outcome is that of these calls, one after another from the state a
pub record SameAs {A C : Type 0} (rules : A → C → Outcome A) (a : A) (calls : List C) (t : Outcome A) : Type 0 where
  pub same_state : t.state ≡ state_after rules a calls
  pub same_answer : answer_of t ≡ joined (answers rules a calls)

-- ---- the two calls, from every state and whatever is lent

-- at most 8, whose lengths sum to the bytes lent
pub record Fits (lengths bytes : List ℕ) : Type 0 where
  pub few : length lengths ≤ batch_limit
  pub sums : foldr ◌+◌ 0 lengths ≡ length bytes

-- a batch of orders with these data lengths, and the single calls that it comes to
pub record BatchSingly (o : Office) (lengths bytes : List ℕ) (singles : List OfficeCall) (batch : Outcome Office) : Type 0 where
  -- 2 before all else
  pub misfit : (Fits lengths bytes → ⊥) → batch ≡ refused_whole o (plain 2)
  -- if any order would be refused, nothing is issued, and the refusal is the first one's
  pub nothing : Fits lengths bytes → (told : Told) → first_told (answers office_rules o singles) ≡ some told → batch ≡ refused_whole o told
  pub all : Fits lengths bytes → first_told (answers office_rules o singles) ≡ none → SameAs office_rules o singles batch

-- a run of frames with these lengths, and the single calls that it comes to
pub record RunSingly (c : Cab) (lengths bytes : List ℕ) (room : ℕ) (singles : List BoxCall) (run : Outcome Cab) : Type 0 where
  -- 2 before all else
  pub misfit : (Fits lengths bytes → ⊥) → run ≡ refused_whole c (plain 2)
  -- output room is checked once, before any frame
  pub output_short : Fits lengths bytes → room < frame_limit * length lengths → run ≡ refused_whole c (plain 1)
  -- each frame is judged alone
  pub each : Fits lengths bytes → frame_limit * length lengths ≤ room → SameAs box_rules c singles run

abbrev pub BatchesSingly : Type 0
BatchesSingly = (o : Office) (orders : List BatchOrder) (bytes : List ℕ) (room : ℕ) →
    BatchSingly o (data_lengths orders) bytes (issued_singly o (changes orders bytes) room) (office_rules o (issue_all orders bytes room))

abbrev pub RunsSingly : Type 0
RunsSingly = (c : Cab) (lengths bytes : List ℕ) (room : ℕ) →
    RunSingly c lengths bytes room (given_singly c (cut lengths bytes) room) (box_rules c (box_frames lengths bytes room))
