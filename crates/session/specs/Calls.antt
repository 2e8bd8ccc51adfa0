-- Demand 3's list of calls, and what it keeps to: document 01, "Demand 3's list and book", List; batches and runs: document 02, Ask 3; several offices: Ask 12.
use Rattle.std.specs.Prelude.{ℕ, ◌<◌, max, ◌≡◌, cond, get_or, eqb}
use mathlib.Core.List.{List, [], ◌∷◌, ◌++◌, map, Memᴰ}
use Rattle.std.proofs.Math.Option
use Rattle.std.proofs.Math.Option.{Option, none, some}
use Rattle.base.specs.Refusal.{Told}
use Rattle.frame.specs.Frame.{Change, command, raise, lower}
use Rattle.link.specs.Encoding.{encode}
use Rattle.outcome.specs.declared.BatchOrder.{BatchOrder}
use Rattle.session.specs.declared.Cab.{Cab}
use Rattle.session.specs.declared.Office.{Office}
use Rattle.outcome.specs.Batch.{cut, changes, Part, Outcome, alone}
use Rattle.outcome.specs.Turn.{silent}
use Rattle.session.specs.Box as box
use Rattle.session.specs.Office as office

-- ---- the calls. A lent output is told by its length.

pub data BoxCall : Type 0 where
  -- told this highest session
  restart : ℕ → BoxCall
  box_frame : List ℕ → ℕ → BoxCall
  -- a run of frames: the length of each, and the bytes of all
  box_frames : List ℕ → List ℕ → ℕ → BoxCall

pub data OfficeCall : Type 0 where
  open_session : ℕ → ℕ → OfficeCall
  issue : Change → ℕ → OfficeCall
  -- an order, by its number, again
  resend : ℕ → ℕ → OfficeCall
  -- OPEN again
  reopen : ℕ → OfficeCall
  office_frame : List ℕ → OfficeCall
  -- a batch of orders, and the data of all
  issue_all : List BatchOrder → List ℕ → ℕ → OfficeCall

-- at the box, or at an office, by its number
pub data Call : Type 0 where
  at_box : BoxCall → Call
  at_office : ℕ → OfficeCall → Call

-- to one order or one frame in: what a refusal tells, its number and offset, or none; the bytes of the frame written or none
pub record Reply : Type 0 where
  pub refusal : Option Told
  pub bytes : Option (List ℕ)

-- to a call: what a refusal of the whole tells, or none; each part's reply. A single call has one part, and is not refused as a whole.
pub record Answer : Type 0 where
  pub refusal : Option Told
  pub replies : List Reply

abbrev pub reply_of : Part → Reply
reply_of p = record { refusal = p.refusal; bytes = Option.map encode p.frame }

abbrev pub answer_of : {A : Type 0} → Outcome A → Answer
answer_of t = record { refusal = t.refusal; replies = map reply_of t.parts }

abbrev pub listed : {A : Type 0} → Option A → List A
listed none = []
listed (some a) = a ∷ []

-- all that refusals in an answer tell, and all frames in the order in which they were written
abbrev pub told_by : List Reply → List Told
told_by [] = []
told_by (r ∷ rs) = listed r.refusal ++ told_by rs

abbrev pub refusals : Answer → List Told
refusals a = listed a.refusal ++ told_by a.replies

abbrev pub frames_of : List Reply → List (List ℕ)
frames_of [] = []
frames_of (r ∷ rs) = listed r.bytes ++ frames_of rs

-- ---- along a list of calls, by rules that turn a state at each call

abbrev pub state_after : {A C : Type 0} → (A → C → Outcome A) → A → List C → A
state_after rules a [] = a
state_after rules a (c ∷ cs) = state_after rules (rules a c).state cs

abbrev pub answers : {A C : Type 0} → (A → C → Outcome A) → A → List C → List Answer
answers rules a [] = []
answers rules a (c ∷ cs) = answer_of (rules a c) ∷ answers rules (rules a c).state cs

-- ---- the ends: each call is the definition that its contract cites, and changes its own end alone

abbrev pub box_rules : Cab → BoxCall → Outcome Cab
box_rules c (restart told) = alone (silent (box.started told))
box_rules c (box_frame bytes room) = alone (box.frame_in c bytes room)
box_rules c (box_frames lengths bytes room) = box.frames_in c lengths bytes room

abbrev pub office_rules : Office → OfficeCall → Outcome Office
office_rules o (open_session s room) = alone (office.open_session o s room)
office_rules o (issue c room) = alone (office.issue o c room)
office_rules o (resend n room) = alone (office.resend o n room)
office_rules o (reopen room) = alone (office.reopen o room)
office_rules o (office_frame bytes) = alone (office.frame_in o bytes)
office_rules o (issue_all orders bytes room) = office.issue_all o orders bytes room

-- one box, and the offices by number
pub record Ends : Type 0 where
  pub cab : Cab
  pub offices : ℕ → Office

-- a box at its first start, and offices never opened
abbrev pub first_ends : Ends
first_ends = record { cab = box.started 0; offices = λ _. office.never }

abbrev pub updated : {A : Type 0} → (ℕ → A) → ℕ → A → ℕ → A
updated f n a m = cond (eqb n m) a (f m)

abbrev pub with_cab : Ends → Outcome Cab → Outcome Ends
with_cab e t = record { state = record { cab = t.state; offices = e.offices }; refusal = t.refusal; parts = t.parts }

abbrev pub with_office : Ends → ℕ → Outcome Office → Outcome Ends
with_office e i t = record { state = record { cab = e.cab; offices = updated e.offices i t.state }; refusal = t.refusal; parts = t.parts }

abbrev pub ends_rules : Ends → Call → Outcome Ends
ends_rules e (at_box c) = with_cab e (box_rules e.cab c)
ends_rules e (at_office i c) = with_office e i (office_rules (e.offices i) c)

-- the session open at the box
abbrev pub cab_session : Cab → Option ℕ
cab_session c = cond c.active (some c.highest.0) none

-- ---- what a list of calls keeps to

-- of the calls so far: the frames that the box wrote, those that the offices wrote, the sessions that openings at any of them named, refused ones aside, and the
-- highest session opened at the box, else 0
pub record Log : Type 0 where
  pub from_box : List (List ℕ)
  pub from_offices : List (List ℕ)
  pub named : List ℕ
  pub highest : ℕ

abbrev pub first_log : Log
first_log = record { from_box = []; from_offices = []; named = []; highest = 0 }

-- the last one first
abbrev pub with_frames : List (List ℕ) → List (List ℕ) → List (List ℕ)
with_frames [] frames = frames
with_frames (f ∷ written) frames = with_frames written (f ∷ frames)

abbrev pub named_unless : List Told → ℕ → List ℕ → List ℕ
named_unless [] s named = s ∷ named
named_unless (told ∷ refusals) s named = named

abbrev pub named_by : OfficeCall → Answer → List ℕ → List ℕ
named_by (open_session s room) a named = named_unless (refusals a) s named
named_by (issue c room) a named = named
named_by (resend n room) a named = named
named_by (reopen room) a named = named
named_by (office_frame bytes) a named = named
named_by (issue_all orders bytes room) a named = named

abbrev pub logged_at_box : Log → Answer → Option ℕ → Log
logged_at_box l a session =
    record { from_box = with_frames (frames_of a.replies) l.from_box; from_offices = l.from_offices; named = l.named; highest = max l.highest (Option.get_or session 0) }

abbrev pub logged_at_office : Log → Answer → List ℕ → Log
logged_at_office l a named = record { from_box = l.from_box; from_offices = with_frames (frames_of a.replies) l.from_offices; named = named; highest = l.highest }

-- after a call, its answer and the session then open at the box
abbrev pub logged : Log → Call → Answer → Option ℕ → Log
logged l (at_box c) a session = logged_at_box l a session
logged l (at_office i c) a session = logged_at_office l a (named_by c a l.named)

-- along a list of calls at the ends
abbrev pub log_after : Ends → Log → List Call → Log
log_after e l [] = l
log_after e l (c ∷ cs) =
    let t = ends_rules e c in
    log_after t.state (logged l c (answer_of t) (cab_session t.state.cab)) cs

-- sessions and changes that the code's types hold
abbrev pub FitsSession : ℕ → Type 0
FitsSession s = s < 4294967296

abbrev pub FitsChange : Change → Type 0
FitsChange (command k d) = (k < 256) × ((i : ℕ) → get_or d i 0 < 256)
FitsChange (raise n) = n < 65536
FitsChange (lower n) = n < 65536

-- A restart is told the highest session opened at the box. A frame in was written by some office; so was each frame of a run, unless the run is refused as a whole.
abbrev pub PermittedAtBox : Log → BoxCall → Answer → Type 0
PermittedAtBox l (restart told) a = told ≡ l.highest
PermittedAtBox l (box_frame bytes room) a = Memᴰ bytes l.from_offices
PermittedAtBox l (box_frames lengths bytes room) a = a.refusal ≡ none → (f : List ℕ) → Memᴰ f (cut lengths bytes) → Memᴰ f l.from_offices

-- An opening names a session that none named before, at any office, unless it is refused. A frame in was written by the box, to whomever.
-- Sessions and changes fit the code's types; nothing is asked of other arguments.
abbrev pub PermittedAtOffice : Log → OfficeCall → Answer → Type 0
PermittedAtOffice l (open_session s room) a = FitsSession s × (refusals a ≡ [] → Memᴰ s l.named → ⊥)
PermittedAtOffice l (issue c room) a = FitsChange c
PermittedAtOffice l (resend n room) a = Unit {0}
PermittedAtOffice l (reopen room) a = Unit {0}
PermittedAtOffice l (office_frame bytes) a = Memᴰ bytes l.from_box
PermittedAtOffice l (issue_all orders bytes room) a = (c : Change) → Memᴰ c (changes orders bytes) → FitsChange c

abbrev pub Permitted : Log → Call → Answer → Type 0
Permitted l (at_box c) a = PermittedAtBox l c a
Permitted l (at_office i c) a = PermittedAtOffice l c a

abbrev pub AllowedFrom : Ends → Log → List Call → Type 0
AllowedFrom e l [] = Unit {0}
AllowedFrom e l (c ∷ cs) =
    let t = ends_rules e c in
    Permitted l c (answer_of t) × AllowedFrom t.state (logged l c (answer_of t) (cab_session t.state.cab)) cs

abbrev pub Allowed : List Call → Type 0
Allowed cs = AllowedFrom first_ends first_log cs
