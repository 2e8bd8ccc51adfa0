-- Refinement at the box: each call turns the box as the history's rules turn its history, with the same answer.
use Prim.Native.Nat.{ℕ, ◌+◌, ◌-◌, ◌*◌}
use native.Mathlib.Omega.{arith}
use mathlib.Core.Path.{◌≡◌, refl, sym, ap, ◌∙◌, subst}
use mathlib.Core.Bool.{true, false, cond}
use mathlib.Core.List.{List, [], ◌∷◌, ◌++◌, foldr, Memᴰ}
use mathlib.Core.Option.{Option, none, some}
use lib.ListN.{length}
use lib.Dec.{eqb, leb, ltb}
use borrow.Author.Tests.{eqb-true, eq-eqb}
use Rattle.bus.specs.declared.Controller.{Controller}
use Rattle.settings.specs.declared.settings.Settings.{Settings}
use Rattle.bus.specs.Run.{Ready}
use Rattle.bus.proofs.Settles.{fresh_ready}
use Rattle.frame.specs.Frame.{Change, Frame, opening, welcome, order, ack, refuse, ValidChange}
use Rattle.link.specs.Encoding.{Valid, valid_order}
use Rattle.judging.specs.declared.End.TheVariants.{Box}
use Rattle.judging.specs.Decoding.{Decoded, a_fault, a_frame, decode}
use Rattle.link.specs.View.{frame_limit}
use Rattle.order.proofs.Keeps.{valid_short}
use Rattle.order.proofs.Laws.{obeys}
use Rattle.session.specs.declared.Cab.{Cab}
use Rattle.session.proofs.Alike.{Alike, answered_alike, OutcomesAlike, alone_alike, refused_alike, AllAlike, none_alike, one_alike, turns_alike, cond_both, cond_or_not, same_test, eqb_sym}
use Rattle.session.proofs.Batches.{fits_sum, frames_judged, all_judged_singly}
use Rattle.outcome.specs.Batch.{batch_limit, cut, Outcome}
use Rattle.session.specs.Box.{cab_of, welcomed, acknowledged, with_session, opened_again, opened, sent, obeyed, ordered_here, ordered, received, judged, frame_in, frames_in}
use Rattle.session.specs.Calls.{BoxCall, restart, box_frame, box_frames, updated, box_rules}
use Rattle.session.specs.History.{BoxHistory, with_session as with_opened, with_taken, rule_open, rule_order, rule_box_frame, frames_singly, rule_box_frames, rules_at_box}
use Rattle.session.proofs.Tools.{updated_same, length_one_more}
use Rattle.outcome.specs.Turn.{Turn, wrote, refused, refused_by}

-- histories and boxes that hold the settings of the controller κ; an open session is the highest
abbrev history_of : Controller → ℕ → Option ℕ → List ℕ → (ℕ → Settings) → (ℕ → List Change) → BoxHistory
history_of κ highest session row opened taken =
    record { highest = highest; session = session; settings = κ.settings; since_restart = row; opened = opened; taken = taken }

pub data CabAlike : Cab → BoxHistory → Type 0 where
  closed : {κ : Controller} {highest count : ℕ} {row : List ℕ} {initial : ℕ → Settings} {taken : ℕ → List Change} → Ready κ →
      CabAlike (cab_of κ highest false count) (history_of κ highest none row initial taken)
  active : {κ : Controller} {highest : ℕ} {row : List ℕ} {initial : ℕ → Settings} {taken : ℕ → List Change} → Ready κ →
      CabAlike (cab_of κ highest true (length (taken highest))) (history_of κ highest (some highest) row initial taken)

abbrev pub BoxAlike : Turn Cab → Turn BoxHistory → Type 0
BoxAlike t u = Alike CabAlike t u

-- ---- OPEN

newly_opened : (κ : Controller) (row : List ℕ) (initial : ℕ → Settings) (taken : ℕ → List Change) (s : ℕ) → Ready κ →
    CabAlike (cab_of κ s true 0) (history_of κ s (some s) row initial (updated taken s []))
newly_opened κ row initial taken s ready =
    subst (λ (n : ℕ). CabAlike (cab_of κ s true n) (history_of κ s (some s) row initial (updated taken s [])))
    (ap length (updated_same taken s [])) (active ready)

-- OPEN of the open session
again_alike : (κ : Controller) (highest : ℕ) (row : List ℕ) (initial : ℕ → Settings) (taken : ℕ → List Change) → Ready κ → (s : ℕ) → highest ≡ s →
    let c = cab_of κ highest true (length (taken highest)) in
    let b = history_of κ highest (some highest) row initial taken in
    BoxAlike (cond (eqb (length (taken highest)) 0) (welcomed c) (acknowledged c))
    (cond (eqb (length (taken s)) 0) (wrote b (welcome s b.settings)) (wrote b (ack s (length (taken s)))))
again_alike κ highest row initial taken ready s e =
    rw (← e) (cond_both BoxAlike (eqb (length (taken highest)) 0) (λ _. answered_alike (active ready)) (λ _. answered_alike (active ready)))

-- OPEN above the highest
higher_alike : {c : Cab} {b : BoxHistory} → CabAlike c b → (s : ℕ) → BoxAlike (welcomed (with_session c s)) (wrote (with_opened b s) (welcome s b.settings))
higher_alike (closed {κ} {taken = taken} ready) s = answered_alike (newly_opened κ _ _ taken s ready)
higher_alike (active {κ} {taken = taken} ready) s = answered_alike (newly_opened κ _ _ taken s ready)

open_alike : {c : Cab} {b : BoxHistory} → CabAlike c b → (s : ℕ) → BoxAlike (opened c s) (rule_open b s)
unfolding opened opened_again rule_open
open_alike (closed {highest = highest} {count = count} {row = row} ready) s =
    cond_both BoxAlike (ltb highest s) (λ _. higher_alike (closed {highest = highest} {count = count} {row = row} ready) s) (λ _. answered_alike (closed ready))
open_alike (active {κ} {highest} {row} {initial} {taken} ready) s =
    cond_both BoxAlike (ltb highest s) (λ _. higher_alike (active {highest = highest} {row = row} ready) s)
    (λ _. rw (eqb_sym s highest) (cond_both BoxAlike (eqb highest s)
    (λ e. again_alike κ highest row initial taken ready s (eqb-true highest s e))
    (λ _. answered_alike (active ready))))

-- ---- ORDER

-- the next order, run: the controller comes to what the change means
taken_alike : (κ : Controller) (highest : ℕ) (row : List ℕ) (initial : ℕ → Settings) (taken : ℕ → List Change) (n : ℕ) (change : Change) → Ready κ → ValidChange change → n ≡ length (taken highest) + 1 →
    CabAlike (cab_of (obeyed κ change) highest true n) (with_taken (history_of κ highest (some highest) row initial taken) highest change)
unfolding sent
taken_alike κ highest row initial taken n change ready valid next =
    let obeyed_well = obeys κ change ready (valid_short κ.settings.backlight change valid) in
    let more = updated taken highest (taken highest ++ (change ∷ [])) in
    let count : length (more highest) ≡ n = ap length (updated_same taken highest (taken highest ++ (change ∷ []))) ∙ length_one_more (taken highest) change ∙ sym next in
    subst (λ (m : ℕ). CabAlike (cab_of (obeyed κ change) highest true m) (with_taken (history_of κ highest (some highest) row initial taken) highest change)) count
    (subst (λ (σ : Settings). CabAlike (cab_of (obeyed κ change) highest true (length (more highest)))
    (record { highest = highest; session = some highest; settings = σ; since_restart = row; opened = initial; taken = more }))
    obeyed_well.1 (active obeyed_well.0))

next_test : (n k : ℕ) → eqb (n - k) 1 ≡ eqb n (k + 1)
next_test n k =
    same_test (eqb (n - k) 1) (eqb n (k + 1))
    (λ e. eq-eqb n (k + 1) (omega (arith, eqb-true (n - k) 1 e)))
    (λ e. eq-eqb (n - k) 1 (omega (arith, eqb-true n (k + 1) e)))

-- ORDER of the open session
here_alike : (κ : Controller) (highest : ℕ) (row : List ℕ) (initial : ℕ → Settings) (taken : ℕ → List Change) (n : ℕ) (change : Change) → Ready κ → ValidChange change → (s : ℕ) → highest ≡ s →
    let c = cab_of κ highest true (length (taken highest)) in
    let b = history_of κ highest (some highest) row initial taken in
    BoxAlike (ordered_here c n change)
    (cond (leb n (length (taken s))) (wrote b (ack s (length (taken s))))
    (cond (eqb n (length (taken s) + 1)) (wrote (with_taken b s change) (ack s n))
    (refused_by b s 7)))
unfolding ordered_here
here_alike κ highest row initial taken n change ready valid s e =
    rw (← e) (cond_both BoxAlike (leb n (length (taken highest))) (λ _. answered_alike (active ready))
    (λ _. rw (next_test n (length (taken highest))) (cond_both BoxAlike (eqb n (length (taken highest) + 1))
    (λ next. answered_alike (taken_alike κ highest row initial taken n change ready valid (eqb-true n (length (taken highest) + 1) next)))
    (λ _. answered_alike (active ready)))))

order_alike : {c : Cab} {b : BoxHistory} → CabAlike c b → (s n : ℕ) (change : Change) → ValidChange change →
    BoxAlike (ordered c s n change) (rule_order b.session b s n change)
unfolding ordered rule_order
order_alike (closed ready) s n change valid = answered_alike (closed ready)
order_alike (active {κ} {highest} {row} {initial} {taken} ready) s n change valid =
    rw (eqb_sym s highest) (cond_both BoxAlike (eqb highest s)
    (λ e. here_alike κ highest row initial taken n change ready valid s (eqb-true highest s e))
    (λ _. answered_alike (active ready)))

-- ---- any frame

read_alike : {c : Cab} {b : BoxHistory} → CabAlike c b → (m : Decoded) → ((f : Frame) → m ≡ a_frame f → Valid f) →
    BoxAlike (judged c m) (rule_box_frame b m)
unfolding received rule_box_frame
read_alike a (a_fault f) valid = answered_alike a
read_alike a (a_frame (opening s)) valid = open_alike a s
read_alike a (a_frame (welcome s σ)) valid = answered_alike a
read_alike {c} {b} a (a_frame (order s n change)) valid = by_valid (valid (order s n change) refl)
  where
    by_valid : Valid (order s n change) → BoxAlike (ordered c s n change) (rule_order b.session b s n change)
    by_valid (valid_order _ _ _ v) = order_alike a s n change v
read_alike a (a_frame (ack s k)) valid = answered_alike a
read_alike a (a_frame (refuse s r)) valid = answered_alike a

frame_alike : {c : Cab} {b : BoxHistory} → CabAlike c b → (bytes : List ℕ) → ((f : Frame) → decode Box bytes ≡ a_frame f → Valid f) →
    BoxAlike (judged c (decode Box bytes)) (rule_box_frame b (decode Box bytes))
frame_alike a bytes valid = read_alike a (decode Box bytes) valid

framed_alike : {c : Cab} {b : BoxHistory} → CabAlike c b → (bytes : List ℕ) (room : ℕ) → ((f : Frame) → decode Box bytes ≡ a_frame f → Valid f) →
    BoxAlike (frame_in c bytes room) (cond (ltb room frame_limit) (refused b 1) (rule_box_frame b (decode Box bytes)))
unfolding frame_in
framed_alike a bytes room valid = cond_both BoxAlike (ltb room frame_limit) (λ _. answered_alike a) (λ _. frame_alike a bytes valid)

-- ---- a run of frames

-- what the frames decode to is valid
abbrev pub EachValid : List (List ℕ) → Type 0
EachValid fs = (bytes : List ℕ) → Memᴰ bytes fs → (f : Frame) → decode Box bytes ≡ a_frame f → Valid f

frames_alike : {c : Cab} {b : BoxHistory} → CabAlike c b → (fs : List (List ℕ)) → EachValid fs → AllAlike CabAlike (frames_judged c fs) (frames_singly b fs)
frames_alike a [] valid = none_alike
frames_alike {c} {b} a (f ∷ fs) valid =
    let first = frame_alike a f (valid f (Memᴰ.head refl)) in
    one_alike first (frames_alike {c = (judged c (decode Box f)).state} first.states fs (λ g m. valid g (Memᴰ.tail m)))

run_alike : {c : Cab} {b : BoxHistory} → CabAlike c b → (lengths bytes : List ℕ) (room : ℕ) → ((frames_in c lengths bytes room).refusal ≡ none → EachValid (cut lengths bytes)) →
    OutcomesAlike CabAlike (frames_in c lengths bytes room) (rule_box_frames b lengths bytes room)
unfolding frames_in rule_box_frames
run_alike {c} {b} a lengths bytes room =
    rw (cond_or_not, fits_sum lengths (length bytes), all_judged_singly) (cond_both P (ltb batch_limit (length lengths)) (λ _ _. refused_alike a)
    (λ _. cond_both P (eqb (foldr ◌+◌ 0 lengths) (length bytes))
    (λ _. cond_both P (ltb room (frame_limit * length lengths)) (λ _ _. refused_alike a)
    (λ _ valid. turns_alike CabAlike (frames_alike a (cut lengths bytes) (valid refl)) c b a))
    (λ _ _. refused_alike a)))
  where
    P : Outcome Cab → Outcome BoxHistory → Type 0
    P t u = (t.refusal ≡ none → EachValid (cut lengths bytes)) → OutcomesAlike CabAlike t u

-- ---- every call, where the frames in are valid

abbrev pub FramesValid : Cab → BoxCall → Type 0
FramesValid c (restart told) = Unit {0}
FramesValid c (box_frame bytes room) = (f : Frame) → decode Box bytes ≡ a_frame f → Valid f
FramesValid c (box_frames lengths bytes room) = (frames_in c lengths bytes room).refusal ≡ none → EachValid (cut lengths bytes)

pub box_alike : {c : Cab} {b : BoxHistory} → CabAlike c b → (call : BoxCall) → FramesValid c call → OutcomesAlike CabAlike (box_rules c call) (rules_at_box b call)
box_alike a (restart told) _ = alone_alike (answered_alike (closed fresh_ready))
box_alike a (box_frame bytes room) valid = alone_alike (framed_alike a bytes room valid)
box_alike a (box_frames lengths bytes room) valid = run_alike a lengths bytes room valid
