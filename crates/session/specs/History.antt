-- The history, fed the calls alone: document 01, "Demand 3's list and book", Book.
-- With the ends it shares the types of changes, frames, settings and progress; the limits; in outcome the kinds of turn, and what is lent, but for the test of
-- lengths, and the types of what a call gives; `decode`, `frame_limit`, `fresh` and `too_long`; `apply`, which of the ends only the office uses; and the calls, their fold,
-- `updated` and `encode` in Calls.antt. The rules, their stages and the refusals' numbers are told anew.
use Rattle.std.specs.Prelude.{ℕ, ◌+◌, ◌-◌, ◌*◌, ◌<◌, ◌≤◌, ◌≡◌, Bool, true, false, cond, not, ◌&&◌, ◌||◌, length, eqb, leb, ltb}
use mathlib.Core.List.{List, [], ◌∷◌, ◌++◌, map, foldl, foldr, Memᴰ}
use Rattle.std.proofs.Math.Option.{Option, none, some}
use Rattle.std.proofs.Math.ListN.{get_elem?}
use Rattle.base.specs.Refusal.{Told, fault, plain}
use Rattle.settings.specs.declared.settings.Settings.{Settings}
use Rattle.settings.specs.Settings.{fresh}
use Rattle.frame.specs.Frame.{Change, too_long, opening, welcome, order, ack, refuse}
use Rattle.judging.specs.declared.End.TheVariants.{Box, Office}
use Rattle.judging.specs.Decoding.{Decoded, a_fault, a_frame, decode}
use Rattle.link.specs.View.{frame_limit}
use Rattle.order.specs.Apply.{apply}
use Rattle.outcome.specs.declared.BatchOrder.{BatchOrder}
use Rattle.session.specs.declared.Progress.{Progress}
use Rattle.session.specs.declared.Progress.TheVariants.{Settled, Waiting, Over}
use Rattle.session.specs.Calls.{BoxCall, restart, box_frame, box_frames, OfficeCall, open_session, issue, resend, reopen, office_frame, issue_all, Call, at_box, at_office, updated}
use Rattle.outcome.specs.Batch.{batch_limit, cut, data_lengths, changes, Outcome, part_of, alone, refused_whole}
use Rattle.session.specs.Limits.{window_limit, order_limit}
use Rattle.outcome.specs.Turn.{Turn, bytes_written, wrote, silent, refused, refused_by, faulted, faulted_by}

pub record BoxHistory : Type 0 where
  pub highest : ℕ
  pub session : Option ℕ
  pub settings : Settings
  -- the sessions opened since the start or the last restart, in this order
  pub since_restart : List ℕ
  -- by session, the settings it opened with
  pub opened : ℕ → Settings
  -- by session, the changes taken: as many as 01's k
  pub taken : ℕ → List Change

-- where the office stands with its session; in document 01's words: never opened, opening, open, over
pub data Stage : Type 0 where
  unopened awaiting live ended : Stage

abbrev pub is_awaiting : Stage → Bool
is_awaiting unopened = false
is_awaiting awaiting = true
is_awaiting live = false
is_awaiting ended = false

abbrev pub is_live : Stage → Bool
is_live unopened = false
is_live awaiting = false
is_live live = true
is_live ended = false

pub record OfficeHistory : Type 0 where
  pub stage : Stage
  pub session : ℕ
  pub settings : Settings
  -- 01's a
  pub confirmed : ℕ
  -- by session, the changes issued: the n-th is order n
  pub issued : ℕ → List Change
  -- the sessions that its openings named, refused ones aside
  pub named : List ℕ

-- one box, and the offices by number
pub record History : Type 0 where
  pub box : BoxHistory
  pub offices : ℕ → OfficeHistory

abbrev pub first_box : BoxHistory
first_box = record { highest = 0; session = none; settings = fresh; since_restart = []; opened = λ _. fresh; taken = λ _. [] }

abbrev pub first_office : OfficeHistory
first_office = record { stage = unopened; session = 0; settings = fresh; confirmed = 0; issued = λ _. []; named = [] }

abbrev pub first_history : History
first_history = record { box = first_box; offices = λ _. first_office }

-- an opening at office i named session s
abbrev pub NamedBy : (ℕ → OfficeHistory) → ℕ → ℕ → Type 0
NamedBy offices i s = Memᴰ s (offices i).named

-- the settings after a list of changes
abbrev pub settings_after : Settings → List Change → Settings
settings_after σ changes = foldl apply σ changes

-- the changes taken in a row of sessions, one session after the other
abbrev pub taken_along : (ℕ → List Change) → List ℕ → List Change
taken_along taken [] = []
taken_along taken (s ∷ row) = taken s ++ taken_along taken row

-- each below all that follow it
abbrev pub Rising : List ℕ → Type 0
Rising [] = Unit {0}
Rising (s ∷ row) = ((t : ℕ) → Memᴰ t row → s < t) × Rising row

-- neither open nor yet to open: overtaken by a higher session, passed over by one, or ended by a restart
abbrev pub Closed : BoxHistory → ℕ → Type 0
Closed b s = (s ≤ b.highest) × (b.session ≡ some s → ⊥)

-- ---- the box's rules

abbrev pub restarted : BoxHistory → ℕ → BoxHistory
restarted b told = record { highest = told; session = none; settings = fresh; since_restart = []; opened = b.opened; taken = b.taken }

abbrev pub with_session : BoxHistory → ℕ → BoxHistory
with_session b s =
    record {
      highest = s;
      session = some s;
      settings = b.settings;
      since_restart = b.since_restart ++ (s ∷ []);
      opened = updated b.opened s b.settings;
      taken = updated b.taken s [];
    }

abbrev pub with_taken : BoxHistory → ℕ → Change → BoxHistory
with_taken b s c =
    record {
      highest = b.highest;
      session = b.session;
      settings = apply b.settings c;
      since_restart = b.since_restart;
      opened = b.opened;
      taken = updated b.taken s (b.taken s ++ (c ∷ []));
    }

-- whether s is the open session
abbrev pub is_open : Option ℕ → ℕ → Bool
is_open none s = false
is_open (some t) s = eqb t s

unfoldable pub rule_open : BoxHistory → ℕ → Turn BoxHistory
rule_open b s =
    let k = length (b.taken s) in
    cond (ltb b.highest s) (wrote (with_session b s) (welcome s b.settings))
    (cond (is_open b.session s)
    (cond (eqb k 0) (wrote b (welcome s b.settings)) (wrote b (ack s k)))
    (refused_by b s 6))

unfoldable pub rule_order : Option ℕ → BoxHistory → ℕ → ℕ → Change → Turn BoxHistory
rule_order none b s n c = refused_by b s 5
rule_order (some t) b s n c =
    let k = length (b.taken s) in
    cond (eqb t s)
    (cond (leb n k) (wrote b (ack s k))
    (cond (eqb n (k + 1)) (wrote (with_taken b s c) (ack s n))
    (refused_by b s 7)))
    (refused_by b s 6)

-- frames that are not for the box are told as such
unfoldable pub rule_box_frame : BoxHistory → Decoded → Turn BoxHistory
rule_box_frame b (a_fault f) = faulted_by b f
rule_box_frame b (a_frame (opening s)) = rule_open b s
rule_box_frame b (a_frame (welcome s σ)) = faulted_by b (fault 19 0)
rule_box_frame b (a_frame (order s n c)) = rule_order b.session b s n c
rule_box_frame b (a_frame (ack s k)) = faulted_by b (fault 19 0)
rule_box_frame b (a_frame (refuse s r)) = faulted_by b (fault 19 0)

-- ---- the office's rules

-- the changes issued in the office's session
abbrev pub orders : OfficeHistory → List Change
orders o = o.issued o.session

abbrev pub with_orders : OfficeHistory → Stage → Settings → ℕ → List Change → OfficeHistory
with_orders o stage settings confirmed changes =
    record { stage = stage; session = o.session; settings = settings; confirmed = confirmed; issued = updated o.issued o.session changes; named = o.named }

-- until WELCOME tells the settings, those that stand here mean nothing
abbrev pub with_opening : OfficeHistory → ℕ → OfficeHistory
with_opening o s =
    record { stage = awaiting; session = s; settings = fresh; confirmed = 0; issued = updated o.issued s []; named = s ∷ o.named }

-- WELCOME opens the office's session with its settings, none issued and none confirmed
abbrev pub with_welcome : OfficeHistory → Settings → OfficeHistory
with_welcome o σ = with_orders o live σ 0 []

abbrev pub with_issued : OfficeHistory → Change → OfficeHistory
with_issued o c = with_orders o live (apply o.settings c) o.confirmed (orders o ++ (c ∷ []))

abbrev pub with_confirmed : OfficeHistory → ℕ → OfficeHistory
with_confirmed o k = record { stage = live; session = o.session; settings = o.settings; confirmed = k; issued = o.issued; named = o.named }

abbrev pub with_end : OfficeHistory → OfficeHistory
with_end o = record { stage = ended; session = o.session; settings = o.settings; confirmed = o.confirmed; issued = o.issued; named = o.named }

unfoldable pub rule_opening : OfficeHistory → ℕ → ℕ → Turn OfficeHistory
rule_opening o s room =
    cond (eqb s 0) (refused o 6)
    (cond (ltb room frame_limit) (refused o 1)
    (wrote (with_opening o s) (opening s)))

unfoldable pub rule_issue : OfficeHistory → Change → ℕ → Turn OfficeHistory
rule_issue o c room =
    let count = length (orders o) in
    cond (is_live o.stage)
    (cond (ltb room frame_limit) (refused o 1)
    (cond (too_long c) (refused o 2)
    (cond (eqb count order_limit) (refused o 9)
    (cond (leb window_limit (count - o.confirmed)) (refused o 8)
    (wrote (with_issued o c) (order o.session (count + 1) c))))))
    (refused o 10)

-- order n, if it is unanswered
abbrev pub unanswered : OfficeHistory → ℕ → Option Change
unanswered o n = cond (ltb o.confirmed n) (get_elem? (orders o) (n - 1)) none

unfoldable pub sent_again : Option Change → OfficeHistory → ℕ → ℕ → Turn OfficeHistory
sent_again none o n room = refused o 13
sent_again (some c) o n room = cond (ltb room frame_limit) (refused o 1) (wrote o (order o.session n c))

unfoldable pub rule_resend : OfficeHistory → ℕ → ℕ → Turn OfficeHistory
rule_resend o n room = cond (is_live o.stage) (sent_again (unanswered o n) o n room) (refused o 10)

unfoldable pub rule_reopen : OfficeHistory → ℕ → Turn OfficeHistory
rule_reopen o room =
    cond (is_awaiting o.stage)
    (cond (ltb room frame_limit) (refused o 1) (wrote o (opening o.session)))
    (refused o 13)

-- frames in: those of another session change nothing

unfoldable pub rule_welcome : OfficeHistory → ℕ → Settings → OfficeHistory
rule_welcome o s σ = cond (is_awaiting o.stage && eqb s o.session) (with_welcome o σ) o

unfoldable pub rule_ack : OfficeHistory → ℕ → ℕ → OfficeHistory
rule_ack o s k = cond (is_live o.stage && eqb s o.session && ltb o.confirmed k && leb k (length (orders o))) (with_confirmed o k) o

unfoldable pub rule_refuse : OfficeHistory → ℕ → ℕ → OfficeHistory
rule_refuse o s r = cond ((is_awaiting o.stage || is_live o.stage) && eqb s o.session && (eqb r 5 || eqb r 6)) (with_end o) o

-- frames that are not for the office are told as such
unfoldable pub rule_office_frame : OfficeHistory → Decoded → Turn OfficeHistory
rule_office_frame o (a_fault f) = faulted o f
rule_office_frame o (a_frame (opening s)) = faulted o (fault 19 0)
rule_office_frame o (a_frame (welcome s σ)) = silent (rule_welcome o s σ)
rule_office_frame o (a_frame (order s n c)) = faulted o (fault 19 0)
rule_office_frame o (a_frame (ack s k)) = silent (rule_ack o s k)
rule_office_frame o (a_frame (refuse s r)) = silent (rule_refuse o s r)

-- ---- several at once

-- more than 8, or lengths that do not sum to the bytes lent
abbrev pub misfit : List ℕ → List ℕ → Bool
misfit lengths bytes = ltb batch_limit (length lengths) || not (eqb (foldr ◌+◌ 0 lengths) (length bytes))

-- the state after turns one after another, each from the one before; what the first refusal among them tells
abbrev pub last_state : {A : Type 0} → A → List (Turn A) → A
last_state a [] = a
last_state a (t ∷ ts) = last_state t.state ts

abbrev pub or_else : Option Told → Option Told → Option Told
or_else none later = later
or_else (some told) later = some told

abbrev pub first_refusal : {A : Type 0} → List (Turn A) → Option Told
first_refusal [] = none
first_refusal (t ∷ ts) = or_else t.refusal (first_refusal ts)

abbrev pub after_turns : {A : Type 0} → A → List (Turn A) → Outcome A
after_turns a ts = record { state = last_state a ts; refusal = none; parts = map part_of ts }

-- each frame of a run by itself
abbrev pub frames_singly : BoxHistory → List (List ℕ) → List (Turn BoxHistory)
frames_singly b [] = []
frames_singly b (f ∷ fs) = let t = rule_box_frame b (decode Box f) in t ∷ frames_singly t.state fs

unfoldable pub rule_box_frames : BoxHistory → List ℕ → List ℕ → ℕ → Outcome BoxHistory
rule_box_frames b lengths bytes room =
    cond (misfit lengths bytes) (refused_whole b (plain 2))
    (cond (ltb room (frame_limit * length lengths)) (refused_whole b (plain 1))
    (after_turns b (frames_singly b (cut lengths bytes))))

-- each order of a batch by itself, given the output that the earlier ones left
abbrev pub issued_singly : OfficeHistory → List Change → ℕ → List (Turn OfficeHistory)
issued_singly o [] room = []
issued_singly o (c ∷ cs) room = let t = rule_issue o c room in t ∷ issued_singly t.state cs (room - length (bytes_written t))

-- if one of them would be refused, nothing is issued, and the refusal is the first one's
abbrev pub batch_unless : {A : Type 0} → Option Told → A → List (Turn A) → Outcome A
batch_unless none a ts = after_turns a ts
batch_unless (some told) a ts = refused_whole a told

unfoldable pub rule_issue_all : OfficeHistory → List BatchOrder → List ℕ → ℕ → Outcome OfficeHistory
rule_issue_all o batch bytes room =
    let ts = issued_singly o (changes batch bytes) room in
    cond (misfit (data_lengths batch) bytes) (refused_whole o (plain 2))
    (batch_unless (first_refusal ts) o ts)

-- what the office says of its session: 01's word
abbrev pub progress_at : Stage → OfficeHistory → Progress
progress_at unopened o = Waiting
progress_at awaiting o = Waiting
progress_at live o = cond (eqb o.confirmed (length (orders o))) Settled Waiting
progress_at ended o = Over

abbrev pub progress : OfficeHistory → Progress
progress o = progress_at o.stage o

-- ---- the rules by call

abbrev pub rules_at_box : BoxHistory → BoxCall → Outcome BoxHistory
rules_at_box b (restart told) = alone (silent (restarted b told))
rules_at_box b (box_frame bytes room) = alone (cond (ltb room frame_limit) (refused b 1) (rule_box_frame b (decode Box bytes)))
rules_at_box b (box_frames lengths bytes room) = rule_box_frames b lengths bytes room

abbrev pub rules_at_office : OfficeHistory → OfficeCall → Outcome OfficeHistory
rules_at_office o (open_session s room) = alone (rule_opening o s room)
rules_at_office o (issue c room) = alone (rule_issue o c room)
rules_at_office o (resend n room) = alone (rule_resend o n room)
rules_at_office o (reopen room) = alone (rule_reopen o room)
rules_at_office o (office_frame bytes) = alone (rule_office_frame o (decode Office bytes))
rules_at_office o (issue_all batch bytes room) = rule_issue_all o batch bytes room

abbrev pub rules : History → Call → Outcome History
rules h (at_box c) =
    let t = rules_at_box h.box c in
    record { state = record { box = t.state; offices = h.offices }; refusal = t.refusal; parts = t.parts }
rules h (at_office i c) =
    let t = rules_at_office (h.offices i) c in
    record { state = record { box = h.box; offices = updated h.offices i t.state }; refusal = t.refusal; parts = t.parts }
