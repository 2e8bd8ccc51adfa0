-- Demand 1 at both ends, proved: refusals keep the state, and what is no frame is refused.
use Prim.Native.Nat.{ℕ, ◌-◌, ◌*◌}
use native.Mathlib.Omega.{arith}
use mathlib.Core.Path.{◌≡◌, refl, sym, ap, ◌∙◌, subst}
use mathlib.Core.List.{List, [], ◌∷◌, map}
use mathlib.Core.Option.{Option, none, some, none-ne-some}
use lib.ListN.{length}
use lib.Dec.{eqb, leb, ltb}
use borrow.Author.Tests.{eqb-true, le-ltb}
use Rattle.base.specs.Bytes.{Bytes}
use Rattle.base.specs.Refusal.{Fault, Told}
use Rattle.std.proofs.lemmas.Bool.{cond_both}
use Rattle.frame.specs.Frame.{Change, opening, welcome, order, ack, refuse}
use Rattle.judging.specs.declared.End.{End}
use Rattle.judging.specs.declared.End.TheVariants.{Box, Office as AtOffice}
use Rattle.judging.specs.Decoding.{Decoded, a_fault, a_frame, decode}
use Rattle.judging.specs.Faults.{faults, Least}
use Rattle.judging.proofs.Agreement.{fault_exact}
use Rattle.judging.proofs.Exact.{given_to_reader}
use Rattle.link.specs.View.{frame_limit}
use Rattle.outcome.specs.declared.BatchOrder.{BatchOrder}
use Rattle.session.specs.declared.Cab.{Cab}
use Rattle.session.specs.declared.Office.{Office}
use Rattle.outcome.specs.Batch.{batch_limit, cut, data_lengths, changes, fits, Part, Outcome, part_of, alone}
use Rattle.session.specs.Box.{opened_again, opened, ordered_here, ordered, received, judged, frame_in, frames_in}
use Rattle.session.specs.Calls.{BoxCall, restart, box_frame, box_frames, OfficeCall, open_session, issue, resend, reopen, office_frame, issue_all, Call, at_box, at_office, Ends, box_rules, office_rules, ends_rules}
use Rattle.session.specs.History.{or_else, last_state, first_refusal, batch_unless}
use Rattle.session.specs.Office as office
use Rattle.session.specs.Refusals.{OfficeKeeps, accepts, opening_refused, issuing_refused, resending_refused, reopening_refused, office_frame_faulty}
use Rattle.session.specs.Refusals.{FrameKeeps, frame_accepted, frame_faulty, open_refused, order_refused, FramesKeep, no_frame, one_frame, accepted_part}
use Rattle.session.specs.Refusals.{batch_refused, batch_accepted, BoxKeeps, restart_accepts, output_short, frame_judged, run_refused, run_judged, KeepsOthers, RefusalsKeep, FaultsTold}
use Rattle.outcome.specs.Turn.{Turn}
use Rattle.session.proofs.Tools.{updated_other}
use Rattle.session.proofs.Batches.{orders_singly, issue_each_singly, frames_judged, all_judged_singly}

-- the ends differ
one_way : Box ≡ AtOffice → ⊥
one_way e = let z : ◌≡◌ {A = ℕ} 0 1 = cc in absurd (omega arith)

other_way : AtOffice ≡ Box → ⊥
other_way e = one_way (sym e)

told_least : (end : End) (bytes : List ℕ) (f : Fault) → decode end bytes ≡ a_fault f → Bytes bytes → Least f (faults end bytes)
told_least end bytes f told are_bytes = (fault_exact end bytes are_bytes f).0 told

-- ---- the box

module _ (c : Cab) where
  module _ (bytes : List ℕ) where
    opened_keeps : (s : ℕ) → decode Box bytes ≡ a_frame (opening s) → FrameKeeps c bytes (opened c s)
    unfolding opened opened_again
    opened_keeps s read =
        cond_both (ltb c.highest.0 s) _ _ (FrameKeeps c bytes) (λ _. frame_accepted)
        (λ _. cond_both c.active _ _ (FrameKeeps c bytes)
        (λ _. cond_both (eqb s c.highest.0) _ _ (FrameKeeps c bytes)
        (λ _. cond_both (eqb c.taken.0 0) _ _ (FrameKeeps c bytes) (λ _. frame_accepted) (λ _. frame_accepted)) (λ _. open_refused read))
        (λ _. open_refused read))

    ordered_keeps : (s n : ℕ) (change : Change) → decode Box bytes ≡ a_frame (order s n change) → FrameKeeps c bytes (ordered c s n change)
    unfolding ordered ordered_here
    ordered_keeps s n change read =
        cond_both c.active _ _ (FrameKeeps c bytes)
        (λ _. cond_both (eqb s c.highest.0) _ _ (FrameKeeps c bytes)
        (λ own. cond_both (leb n c.taken.0) _ _ (FrameKeeps c bytes) (λ _. frame_accepted)
        (λ _. cond_both (eqb (n - c.taken.0) 1) _ _ (FrameKeeps c bytes) (λ _. frame_accepted)
        (λ _. order_refused (read ∙ ap (λ (t : ℕ). a_frame (order t n change)) (eqb-true _ _ own)) (omega arith) (omega arith))))
        (λ _. order_refused read (omega arith) (omega arith)))
        (λ _. order_refused read (omega arith) (omega arith))

    received_keeps : (m : Decoded) → decode Box bytes ≡ m → FrameKeeps c bytes (judged c m)
    unfolding received
    received_keeps (a_fault f) read = frame_faulty (told_least Box bytes f read)
    received_keeps (a_frame (opening s)) read = opened_keeps s read
    received_keeps (a_frame (welcome s σ)) read = absurd (other_way (given_to_reader Box bytes (welcome s σ) read))
    received_keeps (a_frame (order s n change)) read = ordered_keeps s n change read
    received_keeps (a_frame (ack s k)) read = absurd (other_way (given_to_reader Box bytes (ack s k) read))
    received_keeps (a_frame (refuse s r)) read = absurd (other_way (given_to_reader Box bytes (refuse s r) read))

    frame_keeps : FrameKeeps c bytes (judged c (decode Box bytes))
    frame_keeps = received_keeps (decode Box bytes) refl

  framed_keeps : (bytes : List ℕ) (room : ℕ) → BoxKeeps c (box_frame bytes room) (alone (frame_in c bytes room))
  unfolding frame_in
  framed_keeps bytes room =
      cond_both (ltb room frame_limit) _ _ (λ t. BoxKeeps c (box_frame bytes room) (alone t)) (λ _. output_short) (λ _. frame_judged (frame_keeps bytes))

-- ---- the office

module _ (o : Office) where
  abbrev Keeps : OfficeCall → Turn Office → Type 0
  Keeps c t = OfficeKeeps o c (alone t)

  open_keeps : (s room : ℕ) → Keeps (open_session s room) (office.open_session o s room)
  unfolding office.open_session
  open_keeps s room =
      cond_both (eqb s 0) _ _ (Keeps (open_session s room)) (λ _. opening_refused)
      (λ _. cond_both (ltb room frame_limit) _ _ (Keeps (open_session s room)) (λ _. opening_refused) (λ _. accepts))

  issue_keeps : (c : Change) (room : ℕ) (refusal : Option ℕ) → Keeps (issue c room) (office.issue_unless refusal o c)
  issue_keeps c room none = accepts
  issue_keeps c room (some number) = issuing_refused

  resend_keeps : (n room : ℕ) → Keeps (resend n room) (office.resend o n room)
  unfolding office.resend
  resend_keeps n room =
      let P = Keeps (resend n room) in
      cond_both (office.is_live o.stage) _ _ P
      (λ _. cond_both (ltb o.confirmed.0 n) _ _ P
      (λ _. cond_both (leb n o.issued.0) _ _ P
      (λ _. cond_both (ltb room frame_limit) _ _ P (λ _. resending_refused) (λ _. accepts)) (λ _. resending_refused)) (λ _. resending_refused))
      (λ _. resending_refused)

  reopen_keeps : (room : ℕ) → Keeps (reopen room) (office.reopen o room)
  unfolding office.reopen
  reopen_keeps room =
      cond_both (office.is_awaiting o.stage) _ _ (Keeps (reopen room))
      (λ _. cond_both (ltb room frame_limit) _ _ (Keeps (reopen room)) (λ _. reopening_refused) (λ _. accepts)) (λ _. reopening_refused)

  read_keeps : (bytes : List ℕ) (m : Decoded) → decode AtOffice bytes ≡ m → Keeps (office_frame bytes) (office.judged o m)
  unfolding office.received
  read_keeps bytes (a_fault f) read = office_frame_faulty (told_least AtOffice bytes f read)
  read_keeps bytes (a_frame (opening s)) read = absurd (one_way (given_to_reader AtOffice bytes (opening s) read))
  read_keeps bytes (a_frame (welcome s σ)) read = accepts
  read_keeps bytes (a_frame (order s n c)) read = absurd (one_way (given_to_reader AtOffice bytes (order s n c) read))
  read_keeps bytes (a_frame (ack s k)) read = accepts
  read_keeps bytes (a_frame (refuse s r)) read = accepts

  -- ---- a batch

  none_refused : (ts : List (Turn Office)) → first_refusal ts ≡ none → map part_of ts ≡ map accepted_part (map (λ t. t.frame) ts)
  none_refused [] all = refl
  none_refused (t ∷ ts) all = by_refusal t.refusal refl all (none_refused ts)
    where
      by_refusal : (m : Option Told) → t.refusal ≡ m → or_else m (first_refusal ts) ≡ none → (first_refusal ts ≡ none → map part_of ts ≡ map accepted_part (map (λ t. t.frame) ts)) →
          map part_of (t ∷ ts) ≡ map accepted_part (map (λ t. t.frame) (t ∷ ts))
      by_refusal none own all later = λ i. record { refusal = own i; frame = t.frame } ∷ later all i
      by_refusal (some told) own all later = absurd (none-ne-some told (sym all))

  module _ (orders : List BatchOrder) (bytes : List ℕ) (room : ℕ) where
    abbrev BatchKeeps : Outcome Office → Type 0
    BatchKeeps t = OfficeKeeps o (issue_all orders bytes room) t

    issued_keeps : (ts : List (Turn Office)) (m : Option Told) → first_refusal ts ≡ m → BatchKeeps (batch_unless m o ts)
    issued_keeps ts none all =
        subst (λ (parts : List Part). BatchKeeps (record { state = last_state o ts; refusal = none; parts = parts })) (sym (none_refused ts all))
        (batch_accepted (map (λ t. t.frame) ts))
    issued_keeps ts (some told) _ = batch_refused

    batch_keeps : BatchKeeps (office.issue_all o orders bytes room)
    unfolding office.issue_all
    batch_keeps =
        cond_both (ltb batch_limit (length orders)) _ _ BatchKeeps (λ _. batch_refused)
        (λ _. cond_both (fits (data_lengths orders) (length bytes)) _ _ BatchKeeps
        (λ _. rw issue_each_singly (issued_keeps (orders_singly o (changes orders bytes) room) _ refl)) (λ _. batch_refused))

-- ---- a run of frames

frames_keep : (fs : List (List ℕ)) (c : Cab) →
    let ts = frames_judged c fs in
    FramesKeep c fs (last_state c ts) (map part_of ts)
frames_keep [] c = no_frame
frames_keep (f ∷ fs) c = one_frame (frame_keeps c f) (frames_keep fs (judged c (decode Box f)).state)

run_keeps : (c : Cab) (lengths bytes : List ℕ) (room : ℕ) → BoxKeeps c (box_frames lengths bytes room) (frames_in c lengths bytes room)
unfolding frames_in
run_keeps c lengths bytes room =
    cond_both (ltb batch_limit (length lengths)) _ _ P (λ _. run_refused)
    (λ _. cond_both (fits lengths (length bytes)) _ _ P
    (λ _. cond_both (ltb room (frame_limit * length lengths)) _ _ P (λ _. run_refused)
    (λ _. rw all_judged_singly (run_judged (frames_keep (cut lengths bytes) c))))
    (λ _. run_refused))
  where
    P : Outcome Cab → Type 0
    P t = BoxKeeps c (box_frames lengths bytes room) t

-- ---- every call

box_keeps : (c : Cab) (call : BoxCall) → BoxKeeps c call (box_rules c call)
box_keeps c (restart told) = restart_accepts
box_keeps c (box_frame bytes room) = framed_keeps c bytes room
box_keeps c (box_frames lengths bytes room) = run_keeps c lengths bytes room

office_keeps : (o : Office) (call : OfficeCall) → OfficeKeeps o call (office_rules o call)
unfolding office.issue
office_keeps o (open_session s room) = open_keeps o s room
office_keeps o (issue c room) = issue_keeps o c room (office.issue_refusal o c room)
office_keeps o (resend n room) = resend_keeps o n room
office_keeps o (reopen room) = reopen_keeps o room
office_keeps o (office_frame bytes) = read_keeps o bytes (decode AtOffice bytes) refl
office_keeps o (issue_all orders bytes room) = batch_keeps o orders bytes room

others_kept : (e : Ends) (call : Call) → KeepsOthers e call (ends_rules e call).state
others_kept e (at_box c) = λ i. refl
others_kept e (at_office i c) = (refl, λ j. updated_other e.offices i (office_rules (e.offices i) c).state j)

pub refusals_keep : RefusalsKeep
refusals_keep = record { at_box = box_keeps; at_office = office_keeps; elsewhere = others_kept }

-- ---- bytes with a fault

pub faults_told : FaultsTold
unfolding frame_in
faults_told bytes are_bytes f =
    record {
      at_box = λ c room fits least. rw (le-ltb room frame_limit fits, (fault_exact Box bytes are_bytes f).1 least);
      at_office = λ o least. rw ((fault_exact AtOffice bytes are_bytes f).1 least);
    }
