-- Lists of calls in which frames arrive as bytes, the calls that these come to, and what such a list keeps to: document 02, Ask 1.
-- Box and offices have a receiver each.
use Rattle.std.specs.Prelude.{ℕ, ◌≡◌}
use mathlib.Core.List.{List, [], ◌∷◌, ◌++◌, map, flat_map, Memᴰ}
use Rattle.wrapping.specs.declared.Receiver.{Receiver}
use Rattle.wrapping.specs.Wrapping.{wrapped}
use Rattle.wrapping.specs.Receiver.{fresh}
use Rattle.wrapping.specs.Reading.{Handed, frame, refused, given}
use Rattle.session.specs.Calls.{restart, box_frame, box_frames, office_frame, Call, at_box, at_office}
use Rattle.session.specs.Calls.{answer_of, state_after, Ends, first_ends, updated, ends_rules, Log, first_log, log_after, Permitted}

pub data ByteCall : Type 0 where
  -- a call of 01's list
  whole : Call → ByteCall
  -- a piece for the box's receiver; each frame that it hands on is a frame in, with so many bytes lent for the answer
  box_bytes : List ℕ → ℕ → ByteCall
  -- a piece for the receiver of an office, by its number
  office_bytes : ℕ → List ℕ → ByteCall

-- ---- what arrives at each end

-- an end's receiver, and what it was given and has handed on since its start or restart
pub record Incoming : Type 0 where
  pub receiver : Receiver
  pub given : List ℕ
  pub handed : List Handed

pub record Arrivals : Type 0 where
  pub box : Incoming
  pub offices : ℕ → Incoming

abbrev pub started : Incoming
started = record { receiver = fresh; given = []; handed = [] }

abbrev pub first_arrivals : Arrivals
first_arrivals = record { box = started; offices = λ _. started }

abbrev pub with_piece : Incoming → List ℕ → Incoming
with_piece i piece =
    let t = given i.receiver piece in
    record { receiver = t.receiver; given = i.given ++ piece; handed = i.handed ++ t.handed }

-- a restart starts the box's receiver anew
abbrev pub arrivals_with : Arrivals → ByteCall → Arrivals
arrivals_with a (whole (at_box (restart told))) = record { box = started; offices = a.offices }
arrivals_with a (whole (at_box (box_frame bytes room))) = a
arrivals_with a (whole (at_box (box_frames lengths bytes room))) = a
arrivals_with a (whole (at_office i c)) = a
arrivals_with a (box_bytes piece room) = record { box = with_piece a.box piece; offices = a.offices }
arrivals_with a (office_bytes i piece) = record { box = a.box; offices = updated a.offices i (with_piece (a.offices i) piece) }

abbrev pub arrivals_after : Arrivals → List ByteCall → Arrivals
arrivals_after a [] = a
arrivals_after a (c ∷ cs) = arrivals_after (arrivals_with a c) cs

-- ---- the calls delivered

abbrev pub frames : List Handed → List (List ℕ)
frames [] = []
frames (frame f ∷ handed) = f ∷ frames handed
frames (refused n ∷ handed) = frames handed

-- each frame that a receiver hands on is a frame in at its end
abbrev pub delivered_by : Arrivals → ByteCall → List Call
delivered_by a (whole c) = c ∷ []
delivered_by a (box_bytes piece room) = map (λ f. at_box (box_frame f room)) (frames (given a.box.receiver piece).handed)
delivered_by a (office_bytes i piece) = map (λ f. at_office i (office_frame f)) (frames (given (a.offices i).receiver piece).handed)

abbrev pub delivered_from : Arrivals → List ByteCall → List Call
delivered_from a [] = []
delivered_from a (c ∷ cs) = delivered_by a c ++ delivered_from (arrivals_with a c) cs

abbrev pub delivered : List ByteCall → List Call
delivered cs = delivered_from first_arrivals cs

-- ---- what a list keeps to

-- bytes are the beginning of a row of wrapped frames, each of them written
pub record Begins (bytes : List ℕ) (written : List (List ℕ)) : Type 0 where
  pub row : List (List ℕ)
  pub rest : List ℕ
  pub joined : bytes ++ rest ≡ flat_map wrapped row
  pub each : (f : List ℕ) → Memᴰ f row → Memᴰ f written

-- A receiver is given, since its start or restart, whole wrapped frames, cut anyhow, each written earlier by the other end; the last one may still be on its way, and what
-- remains of it at a restart is lost. Other calls keep to 01's List.
abbrev pub SupposedOf : Ends → Log → Arrivals → ByteCall → Type 0
SupposedOf e l a (whole c) = Permitted l c (answer_of (ends_rules e c))
SupposedOf e l a (box_bytes piece room) = Begins (a.box.given ++ piece) l.from_offices
SupposedOf e l a (office_bytes i piece) = Begins ((a.offices i).given ++ piece) l.from_box

abbrev pub SupposedFrom : Ends → Log → Arrivals → List ByteCall → Type 0
SupposedFrom e l a [] = Unit {0}
SupposedFrom e l a (c ∷ cs) =
    let calls = delivered_by a c in
    SupposedOf e l a c × SupposedFrom (state_after ends_rules e calls) (log_after e l calls) (arrivals_with a c) cs

abbrev pub Supposed : List ByteCall → Type 0
Supposed cs = SupposedFrom first_ends first_log first_arrivals cs
