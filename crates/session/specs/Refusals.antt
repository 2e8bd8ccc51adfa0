-- Demand 1 at both ends, stated: a call that refuses changes nothing, and writes nothing but the box's REFUSE; what is no frame is refused. It is proved in proofs/Refusals.antt.
use Rattle.std.specs.Prelude.{ℕ, ◌≤◌, ◌≡◌, List, [], ◌∷◌, map}
use Rattle.std.proofs.Math.Option.{Option, none}
use Rattle.base.specs.Bytes.{Bytes}
use Rattle.base.specs.Refusal.{Fault, Told, plain}
use Rattle.frame.specs.Frame.{Change, Frame, opening, order}
use Rattle.judging.specs.declared.End.TheVariants.{Box, Office as AtOffice}
use Rattle.judging.specs.Decoding.{a_frame, decode}
use Rattle.judging.specs.Faults.{faults, Least}
use Rattle.link.specs.View.{frame_limit}
use Rattle.outcome.specs.declared.BatchOrder.{BatchOrder}
use Rattle.session.specs.declared.Cab.{Cab}
use Rattle.session.specs.declared.Office.{Office}
use Rattle.outcome.specs.Batch.{cut, Part, Outcome, part_of, alone, refused_whole}
use Rattle.session.specs.Calls.{BoxCall, restart, box_frame, box_frames, OfficeCall, open_session, issue, resend, reopen, office_frame, issue_all, Call, at_box, at_office, Ends, box_rules, office_rules, ends_rules}
use Rattle.outcome.specs.Turn.{Turn, silent, refused, refused_by, faulted, faulted_by}

-- A frame in at the box c, with room for its answer: it is accepted, or c is kept and REFUSE written, for a fault naming session 0, for 5 to 7 the refused frame's session.
pub data FrameKeeps (c : Cab) (bytes : List ℕ) : Turn Cab → Type 0 where
  frame_accepted : {after : Cab} {frame : Option Frame} → FrameKeeps c bytes (record { state = after; refusal = none; frame = frame })
  frame_faulty : {f : Fault} → (Bytes bytes → Least f (faults Box bytes)) → FrameKeeps c bytes (faulted_by c f)
  open_refused : {s : ℕ} → decode Box bytes ≡ a_frame (opening s) → FrameKeeps c bytes (refused_by c s 6)
  order_refused : {s n number : ℕ} {change : Change} → decode Box bytes ≡ a_frame (order s n change) → 5 ≤ number → number ≤ 7 → FrameKeeps c bytes (refused_by c s number)

-- frames one after another, each from the box that the earlier ones left; the box and the parts at last
pub data FramesKeep : Cab → List (List ℕ) → Cab → List Part → Type 0 where
  no_frame : {c : Cab} → FramesKeep c [] c []
  one_frame : {c after : Cab} {bytes : List ℕ} {frames : List (List ℕ)} {t : Turn Cab} {parts : List Part} →
      FrameKeeps c bytes t → FramesKeep t.state frames after parts → FramesKeep c (bytes ∷ frames) after (part_of t ∷ parts)

-- A call at the box c, and its outcome: it accepts, or it keeps c and writes what is said here.
pub data BoxKeeps (c : Cab) : BoxCall → Outcome Cab → Type 0 where
  restart_accepts : {told : ℕ} {after : Cab} → BoxKeeps c (restart told) (alone (silent after))
  -- no frame for 1
  output_short : {bytes : List ℕ} {room : ℕ} → BoxKeeps c (box_frame bytes room) (alone (refused c 1))
  frame_judged : {bytes : List ℕ} {room : ℕ} {t : Turn Cab} → FrameKeeps c bytes t → BoxKeeps c (box_frame bytes room) (alone t)
  -- a run: none for 1 and 2, as a whole; else each frame as by itself
  run_refused : {lengths bytes : List ℕ} {room number : ℕ} → BoxKeeps c (box_frames lengths bytes room) (refused_whole c (plain number))
  run_judged : {lengths bytes : List ℕ} {room : ℕ} {after : Cab} {parts : List Part} → FramesKeep c (cut lengths bytes) after parts →
      BoxKeeps c (box_frames lengths bytes room) (record { state = after; refusal = none; parts = parts })

abbrev pub accepted_part : Option Frame → Part
accepted_part frame = record { refusal = none; frame = frame }

-- A call at the office o: where it refuses, it keeps o and writes no frame.
pub data OfficeKeeps (o : Office) : OfficeCall → Outcome Office → Type 0 where
  accepts : {c : OfficeCall} {after : Office} {frame : Option Frame} → OfficeKeeps o c (alone (record { state = after; refusal = none; frame = frame }))
  opening_refused : {s room number : ℕ} → OfficeKeeps o (open_session s room) (alone (refused o number))
  issuing_refused : {c : Change} {room number : ℕ} → OfficeKeeps o (issue c room) (alone (refused o number))
  resending_refused : {n room number : ℕ} → OfficeKeeps o (resend n room) (alone (refused o number))
  reopening_refused : {room number : ℕ} → OfficeKeeps o (reopen room) (alone (refused o number))
  office_frame_faulty : {bytes : List ℕ} {f : Fault} → (Bytes bytes → Least f (faults AtOffice bytes)) → OfficeKeeps o (office_frame bytes) (alone (faulted o f))
  -- a batch: as a whole, or no order of it
  batch_refused : {orders : List BatchOrder} {bytes : List ℕ} {room : ℕ} {told : Told} → OfficeKeeps o (issue_all orders bytes room) (refused_whole o told)
  batch_accepted : {orders : List BatchOrder} {bytes : List ℕ} {room : ℕ} {after : Office} (frames : List (Option Frame)) →
      OfficeKeeps o (issue_all orders bytes room) (record { state = after; refusal = none; parts = map accepted_part frames })

-- A call, refused or not, and the ends after it: those at which it is not made are as they were.
abbrev pub KeepsOthers : Ends → Call → Ends → Type 0
KeepsOthers e (at_box c) after = (i : ℕ) → after.offices i ≡ e.offices i
KeepsOthers e (at_office i c) after = (after.cab ≡ e.cab) × ((j : ℕ) → (i ≡ j → ⊥) → after.offices j ≡ e.offices j)

-- every call, from every state
pub record RefusalsKeep : Type 0 where
  pub at_box : (c : Cab) (call : BoxCall) → BoxKeeps c call (box_rules c call)
  pub at_office : (o : Office) (call : OfficeCall) → OfficeKeeps o call (office_rules o call)
  pub elsewhere : (e : Ends) (call : Call) → KeepsOthers e call (ends_rules e call).state

-- And the other way: bytes with a fault are refused as the least one says, at the box where there is room for its answer. Nothing else is made of them.
-- A frame of a run is treated as by itself (Singly.antt).
pub record FaultTold (bytes : List ℕ) (f : Fault) : Type 0 where
  pub at_box : (c : Cab) (room : ℕ) → frame_limit ≤ room → Least f (faults Box bytes) → box_rules c (box_frame bytes room) ≡ alone (faulted_by c f)
  pub at_office : (o : Office) → Least f (faults AtOffice bytes) → office_rules o (office_frame bytes) ≡ alone (faulted o f)

abbrev pub FaultsTold : Type 0
FaultsTold = (bytes : List ℕ) → Bytes bytes → (f : Fault) → FaultTold bytes f
