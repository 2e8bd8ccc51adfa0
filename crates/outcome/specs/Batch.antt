-- What a call at either end gives that may have several parts: a batch of orders at the office, a run of frames at the box (document 02, Ask 3).
-- What is lent to them is told here too; their rules stand in Office.antt, Box.antt and History.antt.
use Rattle.std.specs.Prelude.{ℕ, ◌+◌, ◌-◌, ◌≡◌, Bool, false, cond, List, [], ◌∷◌, ◌++◌, map, length, take, drop, set, replicate, eqb, leb, ltb, Result, Ok, Err}
use Rattle.std.proofs.Math.Option.{Option, none, some}
use Rattle.base.specs.Lent.{overwritten}
use Rattle.base.specs.Refusal.{Told}
use Rattle.base.specs.declared.refusal.Refusal.{Refusal}
use Rattle.frame.specs.Frame.{Change, Frame}
use Rattle.frame.specs.View.{asked_as, refusal_of}
use Rattle.link.specs.View.{encoding_of}
use Rattle.outcome.specs.declared.BatchOrder.{BatchOrder}
use Rattle.outcome.specs.declared.BatchAnswered.{BatchAnswered}
use Rattle.outcome.specs.declared.Part.{Part as PartStruct}
use Rattle.outcome.specs.declared.Parts.{Parts}
use Rattle.outcome.specs.Turn.{Turn}

-- the most orders of a batch, and frames of a run
abbrev pub batch_limit : ℕ
batch_limit = 8

-- ---- what is lent

-- the frames of a run, by their lengths
abbrev pub cut : List ℕ → List ℕ → List (List ℕ)
cut [] bytes = []
cut (n ∷ lengths) bytes = take n bytes ∷ cut lengths (drop n bytes)

abbrev pub data_lengths : List BatchOrder → List ℕ
data_lengths orders = map (λ o. o.len) orders

-- the changes of a batch: the data of each are as many of the bytes as it says, behind those of the earlier ones
abbrev pub changes : List BatchOrder → List ℕ → List Change
changes [] bytes = []
changes (o ∷ orders) bytes = asked_as o.ask (take o.len bytes) ∷ changes orders (drop o.len bytes)

-- The ends' test of lengths, as the code makes it: each is taken from what the earlier ones left, and nothing is left at the end. The history makes the sum.
unfoldable pub fits : List ℕ → ℕ → Bool
fits [] left = eqb left 0
fits (n ∷ lengths) left = cond (leb n left) (fits lengths (left - n)) false

-- ---- what a call gives

-- of one order or one frame in: what its refusal tells if there is one, and the frame written if there is one
pub record Part : Type 0 where
  pub refusal : Option Told
  pub frame : Option Frame

-- the state afterwards, what the refusal of the whole tells if there is one, and the parts
pub record Outcome (A : Type 0) : Type 0 where
  pub state : A
  pub refusal : Option Told
  pub parts : List Part

abbrev pub part_of : {A : Type 0} → Turn A → Part
part_of t = record { refusal = t.refusal; frame = t.frame }

-- a single call is its only part
abbrev pub alone : {A : Type 0} → Turn A → Outcome A
alone t = record { state = t.state; refusal = none; parts = part_of t ∷ [] }

-- no part yet
abbrev pub begun : {A : Type 0} → A → Outcome A
begun a = record { state = a; refusal = none; parts = [] }

-- one part more
abbrev pub extended : {A : Type 0} → Outcome A → Turn A → Outcome A
extended t next = record { state = next.state; refusal = t.refusal; parts = t.parts ++ (part_of next ∷ []) }

-- refused as a whole
abbrev pub refused_whole : {A : Type 0} → A → Told → Outcome A
refused_whole a told = record { state = a; refusal = some told; parts = [] }

-- the bytes written, those of one part behind those of another
abbrev pub bytes_of_parts : List Part → List ℕ
bytes_of_parts [] = []
bytes_of_parts (p ∷ parts) = encoding_of p.frame ++ bytes_of_parts parts

-- ---- what the code returns

-- what a part tells: its refusal, and the length of the frame written
pub record Report : Type 0 where
  pub refusal : Option Told
  pub len : ℕ

abbrev pub report : Part → Report
report p = record { refusal = p.refusal; len = length (encoding_of p.frame) }

abbrev pub reported : PartStruct → Report
reported p = record { refusal = refusal_of p.verdict; len = p.len }

abbrev pub no_report : Report
no_report = record { refusal = none; len = 0 }

-- places past the count tell nothing
abbrev pub reports : List Part → List Report
reports parts = map report parts ++ replicate (batch_limit - length parts) no_report

abbrev pub no_parts : Parts
no_parts = record { count = 0; each = replicate batch_limit (record { verdict = Ok tt; len = 0 }) }

-- of a call refused as a whole none is told
abbrev pub parts_told : Result Parts Refusal → Parts
parts_told (Ok parts) = parts
parts_told (Err why) = no_parts

-- past the last place none is told
unfoldable pub with_part : Parts → PartStruct → Parts
with_part p part = cond (ltb p.count batch_limit) (record { count = p.count + 1; each = set p.each p.count part }) p

-- The outcome fixes what a call of the code returned, and what it made of its lent output: the state, what a refusal tells, every part and every byte.
pub record GivesParts {A : Type 0} (t : Outcome A) (r : BatchAnswered A) (before after : List ℕ) : Type 0 where
  pub state_is : r.state ≡ t.state
  pub refusal_is : refusal_of r.parts ≡ t.refusal
  pub count_is : (parts_told r.parts).count ≡ length t.parts
  pub parts_are : map reported (parts_told r.parts).each ≡ reports t.parts
  pub output_is : after ≡ overwritten (bytes_of_parts t.parts) before

abbrev pub refused_answer : {A : Type 0} → A → Refusal → BatchAnswered A
refused_answer a r = record { state = a; parts = Err r }
