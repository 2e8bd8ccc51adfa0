-- Safety of a batch and of a run: the invariant holds after each order and each frame, and so after all.
use Prim.Native.Nat.{ℕ, ◌-◌, ◌*◌, max}
use native.Mathlib.Omega.{arith}
use mathlib.Core.Path.{◌≡◌, refl, sym, subst}
use mathlib.Core.List.{List, [], ◌∷◌, ◌++◌, map, Memᴰ}
use mathlib.Core.Option
use mathlib.Core.Option.{Option, none, some, get_or}
use lib.ListN.{length}
use lib.Dec.{ltb}
use Rattle.base.specs.Refusal.{Told}
use Rattle.std.proofs.lemmas.Bool.{cond_both}
use Rattle.frame.specs.Frame.{Change}
use Rattle.judging.specs.declared.End.TheVariants.{Box}
use Rattle.judging.specs.Decoding.{decode}
use Rattle.link.specs.Encoding.{encode}
use Rattle.link.specs.View.{frame_limit}
use Rattle.outcome.specs.declared.BatchOrder.{BatchOrder}
use Rattle.outcome.specs.Batch.{cut, data_lengths, changes, Outcome, part_of, alone}
use Rattle.session.specs.Calls.{listed, frames_of, reply_of, answer_of, Log, with_frames, logged_at_box, logged_at_office, FitsChange}
use Rattle.session.specs.History.{BoxHistory, OfficeHistory, History, rule_box_frame, rule_issue}
use Rattle.session.specs.History.{misfit, last_state, first_refusal, after_turns, batch_unless, frames_singly, rule_box_frames, issued_singly, rule_issue_all}
use Rattle.outcome.specs.Turn.{Turn, bytes_written}
use Rattle.session.proofs.BoxSafe.{BoxOutcomeSafe, box_kept, frame_safe}
use Rattle.session.proofs.Invariant.{Safe}
use Rattle.session.proofs.Later.{run_rises}
use Rattle.session.proofs.OfficeSafe.{among, OfficeOutcomeSafe, issue_safe}

-- the frames of one part, then those of the others
one_then_others : (frame : Option (List ℕ)) (others log : List (List ℕ)) → with_frames (listed frame ++ others) log ≡ with_frames others (with_frames (listed frame ++ []) log)
one_then_others none others log = refl
one_then_others (some f) others log = refl

-- ---- a batch of orders

module _ (box : BoxHistory) (others : ℕ → OfficeHistory) (i : ℕ) where
  orders_safe : (cs : List Change) (o : OfficeHistory) (l : Log) → Safe (among box others i o) l → ((c : Change) → Memᴰ c cs → FitsChange c) → (room : ℕ) →
      OfficeOutcomeSafe box others i l (after_turns o (issued_singly o cs room))
  orders_safe [] o l safe fits room = safe
  orders_safe (c ∷ cs) o l safe fits room =
      let t = rule_issue o c room in
      let one = issue_safe box others i o l safe c room (fits c (Memᴰ.head refl)) in
      let left = room - length (bytes_written t) in
      let ts = issued_singly t.state cs left in
      let later = orders_safe cs t.state (logged_at_office l (answer_of (alone t)) l.named) one (λ d m. fits d (Memᴰ.tail m)) left in
      subst (λ (frames : List (List ℕ)). Safe (among box others i (last_state t.state ts)) (record { from_box = l.from_box; from_offices = frames; named = l.named; highest = l.highest }))
      (sym (one_then_others (Option.map encode t.frame) (frames_of (map reply_of (map part_of ts))) l.from_offices)) later

  pub batch_safe : (o : OfficeHistory) (l : Log) → Safe (among box others i o) l → (orders : List BatchOrder) (bytes : List ℕ) (room : ℕ) →
      ((c : Change) → Memᴰ c (changes orders bytes) → FitsChange c) → OfficeOutcomeSafe box others i l (rule_issue_all o orders bytes room)
  unfolding rule_issue_all
  batch_safe o l safe orders bytes room fits =
      cond_both (misfit (data_lengths orders) bytes) _ _ (OfficeOutcomeSafe box others i l) (λ _. safe) (λ _. by_refusal (first_refusal ts))
    where
      ts : List (Turn OfficeHistory)
      ts = issued_singly o (changes orders bytes) room

      by_refusal : (m : Option Told) → OfficeOutcomeSafe box others i l (batch_unless m o ts)
      by_refusal none = orders_safe (changes orders bytes) o l safe fits room
      by_refusal (some told) = safe

-- ---- a run of frames

frames_safe : (fs : List (List ℕ)) (h : History) (l : Log) → Safe h l → ((f : List ℕ) → Memᴰ f fs → Memᴰ f l.from_offices) →
    BoxOutcomeSafe h l (after_turns h.box (frames_singly h.box fs))
frames_safe [] h l safe written = box_kept h l safe none
frames_safe (f ∷ fs) h l safe written =
    let t = rule_box_frame h.box (decode Box f) in
    let one = frame_safe h l safe f (written f (Memᴰ.head refl)) in
    let after : History = record { box = t.state; offices = h.offices } in
    let later = frames_safe fs after (logged_at_box l (answer_of (alone t)) t.state.session) one (λ g m. written g (Memᴰ.tail m)) in
    let ts = frames_singly t.state fs in
    let last = last_state t.state ts in
    let highest : max (max l.highest (get_or t.state.session 0)) (get_or last.session 0) ≡ max l.highest (get_or last.session 0) =
    omega (arith, run_rises fs t.state one.box.bounded) in
    subst (λ (w : Log). Safe (record { box = last; offices = h.offices }) w)
    (λ i. record { from_box = sym (one_then_others (Option.map encode t.frame) (frames_of (map reply_of (map part_of ts))) l.from_box) i; from_offices = l.from_offices; named = l.named; highest = highest i })
    later

pub run_safe : (h : History) (l : Log) → Safe h l → (lengths bytes : List ℕ) (room : ℕ) →
    let t = rule_box_frames h.box lengths bytes room in
    (t.refusal ≡ none → (f : List ℕ) → Memᴰ f (cut lengths bytes) → Memᴰ f l.from_offices) → BoxOutcomeSafe h l t
unfolding rule_box_frames
run_safe h l safe lengths bytes room =
    cond_both (misfit lengths bytes) _ _ P (λ _ _. box_kept h l safe none)
    (λ _. cond_both (ltb room (frame_limit * length lengths)) _ _ P (λ _ _. box_kept h l safe none)
    (λ _ written. frames_safe (cut lengths bytes) h l safe (written refl)))
  where
    P : Outcome BoxHistory → Type 0
    P t = (t.refusal ≡ none → (f : List ℕ) → Memᴰ f (cut lengths bytes) → Memᴰ f l.from_offices) → BoxOutcomeSafe h l t
