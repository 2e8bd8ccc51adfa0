-- When an office says over, proved: from every state, at every call.
use Prim.Native.Nat.{ℕ, ◌-◌}
use native.Mathlib.Omega.{arith}
use mathlib.Core.Path.{◌≡◌, refl, sym, ap, ◌∙◌, subst}
use mathlib.Core.Bool.{Bool, true, false, ◌||◌}
use mathlib.Core.List.{List, [], ◌∷◌}
use mathlib.Core.Logic.{◌⊎◌, inl, inr}
use mathlib.Core.Option.{Option, none, some}
use lib.ListN.{length}
use lib.Dec.{eqb, leb, ltb}
use borrow.Author.Tests.{eqb-true, eqb-false, eq-eqb}
use Rattle.base.specs.Refusal.{Told}
use Rattle.std.proofs.lemmas.Bool.{cond_both}
use Rattle.frame.specs.Frame.{Change, too_long, opening, welcome, order, ack, refuse}
use Rattle.judging.specs.declared.End.TheVariants.{Office as AtOffice}
use Rattle.judging.specs.Decoding.{Decoded, a_fault, a_frame, decode}
use Rattle.link.specs.View.{frame_limit}
use Rattle.outcome.specs.declared.BatchOrder.{BatchOrder}
use Rattle.outcome.specs.Batch.{batch_limit, data_lengths, changes, fits, Outcome, alone}
use Rattle.outcome.specs.Turn.{Turn}
use Rattle.session.specs.declared.Office.{Office}
use Rattle.session.specs.declared.Progress.TheVariants.{Waiting, Over}
use Rattle.session.specs.declared.Stage.{Stage}
use Rattle.session.specs.declared.Stage.TheVariants.{Unopened, Awaiting, Live, Ended}
use Rattle.session.specs.Calls.{OfficeCall, open_session, issue, resend, reopen, office_frame, issue_all, Call, at_box, at_office, answer_of, refusals, Ends, office_rules, ends_rules}
use Rattle.session.specs.History.{last_state, first_refusal, batch_unless}
use Rattle.session.specs.Limits.{window_limit, order_limit}
use Rattle.session.specs.Office as office
use Rattle.session.specs.Over.{TellsOver, refuse_reaches, OpensAnew, opening_accepted, is_over, OverFollows, EachCall}
use Rattle.session.proofs.Batches.{orders_singly, issue_each_singly}
use Rattle.session.proofs.RuleTests.{names_session}
use Rattle.session.proofs.Tools.{updated_same, updated_other}

-- ---- by the stage

abbrev is_ended : Stage → Bool
is_ended Unopened = false
is_ended Awaiting = false
is_ended Live = false
is_ended Ended = true

over_of : (g : Stage) (o : Office) → is_over (office.progress_at g o) ≡ is_ended g
over_of Unopened o = refl
over_of Awaiting o = refl
over_of Live o = cond_both (eqb o.confirmed.0 o.issued.0) _ _ (λ p. is_over p ≡ false) (λ _. refl) (λ _. refl)
over_of Ended o = refl

live_goes_on : (g : Stage) → office.is_live g ≡ true → false ≡ is_ended g
live_goes_on Unopened e = refl
live_goes_on Awaiting e = refl
live_goes_on Live e = refl
live_goes_on Ended e = e

awaiting_goes_on : (g : Stage) → office.is_awaiting g ≡ true → false ≡ is_ended g
awaiting_goes_on Unopened e = refl
awaiting_goes_on Awaiting e = refl
awaiting_goes_on Live e = refl
awaiting_goes_on Ended e = e

-- ---- calls by which an office neither becomes nor ceases to be over

abbrev Same : Office → Office → Type 0
Same o after = is_ended after.stage ≡ is_ended o.stage

module _ (o : Office) where
  issue_same : (c : Change) (room : ℕ) → Same o (office.issue o c room).state
  unfolding office.issue office.issue_refusal
  issue_same c room =
      let P : Option ℕ → Type 0 = λ m. Same o (office.issue_unless m o c).state in
      cond_both (office.is_live o.stage) _ _ P
      (λ lives. cond_both (ltb room frame_limit) _ _ P (λ _. refl)
      (λ _. cond_both (too_long c) _ _ P (λ _. refl)
      (λ _. cond_both (eqb o.issued.0 order_limit) _ _ P (λ _. refl)
      (λ _. cond_both (leb window_limit (o.issued.0 - o.confirmed.0)) _ _ P (λ _. refl) (λ _. live_goes_on o.stage lives)))))
      (λ _. refl)

  resend_same : (n room : ℕ) → Same o (office.resend o n room).state
  unfolding office.resend
  resend_same n room =
      let P : Turn Office → Type 0 = λ t. Same o t.state in
      cond_both (office.is_live o.stage) _ _ P
      (λ _. cond_both (ltb o.confirmed.0 n) _ _ P
      (λ _. cond_both (leb n o.issued.0) _ _ P
      (λ _. cond_both (ltb room frame_limit) _ _ P (λ _. refl) (λ _. refl)) (λ _. refl)) (λ _. refl))
      (λ _. refl)

  reopen_same : (room : ℕ) → Same o (office.reopen o room).state
  unfolding office.reopen
  reopen_same room =
      let P : Turn Office → Type 0 = λ t. Same o t.state in
      cond_both (office.is_awaiting o.stage) _ _ P (λ _. cond_both (ltb room frame_limit) _ _ P (λ _. refl) (λ _. refl)) (λ _. refl)

  welcomed_same : (s : ℕ) (σ : _) → Same o (office.welcomed o s σ)
  unfolding office.welcomed
  welcomed_same s σ =
      cond_both (office.is_awaiting o.stage) _ _ (Same o)
      (λ waits. cond_both (eqb s o.session.0) _ _ (Same o) (λ _. awaiting_goes_on o.stage waits) (λ _. refl)) (λ _. refl)

  acknowledged_same : (s k : ℕ) → Same o (office.acknowledged o s k)
  unfolding office.acknowledged
  acknowledged_same s k =
      cond_both (office.is_live o.stage) _ _ (Same o)
      (λ lives. cond_both (eqb s o.session.0) _ _ (Same o)
      (λ _. cond_both (ltb o.confirmed.0 k) _ _ (Same o)
      (λ _. cond_both (leb k o.issued.0) _ _ (Same o) (λ _. live_goes_on o.stage lives) (λ _. refl)) (λ _. refl)) (λ _. refl)) (λ _. refl)

orders_same : (cs : List Change) (o : Office) (room : ℕ) → Same o (last_state o (orders_singly o cs room))
orders_same [] o room = refl
orders_same (c ∷ cs) o room =
    let t = office.issue o c room in
    orders_same cs t.state _ ∙ issue_same o c room

batch_same : (o : Office) (orders : List BatchOrder) (bytes : List ℕ) (room : ℕ) → Same o (office.issue_all o orders bytes room).state
unfolding office.issue_all
batch_same o orders bytes room =
    cond_both (ltb batch_limit (length orders)) _ _ P (λ _. refl)
    (λ _. cond_both (fits (data_lengths orders) (length bytes)) _ _ P (λ _. rw issue_each_singly (either (first_refusal ts))) (λ _. refl))
  where
    P : Outcome Office → Type 0
    P t = Same o t.state

    ts : List (Turn Office)
    ts = orders_singly o (changes orders bytes) room

    either : (m : Option Told) → P (batch_unless m o ts)
    either none = orders_same (changes orders bytes) o room
    either (some told) = refl

-- ---- a REFUSE

five_or_six : (r : ℕ) → (r ≡ 5) ⊎ (r ≡ 6) → eqb r 5 || eqb r 6 ≡ true
five_or_six r (inl e) = rw e
five_or_six r (inr e) = rw e

which : (r : ℕ) → eqb r 5 || eqb r 6 ≡ true → (r ≡ 5) ⊎ (r ≡ 6)
which r e = by_cases (eqb r 5) refl e
  where
    by_cases : (t : Bool) → eqb r 5 ≡ t → t || eqb r 6 ≡ true → (r ≡ 5) ⊎ (r ≡ 6)
    by_cases true five _ = inl (eqb-true r 5 five)
    by_cases false _ six = inr (eqb-true r 6 six)

ended_over : (o : Office) (r : ℕ) → (r ≡ 5) ⊎ (r ≡ 6) → (g : Stage) → o.stage ≡ g → (g ≡ Unopened → ⊥) → is_ended (office.ended o o.session.0 r).stage ≡ true
unfolding office.ended
ended_over o r number Unopened e opened = absurd (opened refl)
ended_over o r number Awaiting e opened = rw (e, eq-eqb o.session.0 o.session.0 refl, five_or_six r number)
ended_over o r number Live e opened = rw (e, eq-eqb o.session.0 o.session.0 refl, five_or_six r number)
ended_over o r number Ended e opened = rw e

over_then : (o : Office) (g : Stage) → o.stage ≡ g → is_ended g ≡ true → office.progress o ≡ Over
over_then o Unopened e ended = absurd (let z : ◌≡◌ {A = ℕ} 0 1 = cc in omega arith)
over_then o Awaiting e ended = absurd (let z : ◌≡◌ {A = ℕ} 0 1 = cc in omega arith)
over_then o Live e ended = absurd (let z : ◌≡◌ {A = ℕ} 0 1 = cc in omega arith)
over_then o Ended e ended = rw e

-- ---- a call at office i itself

module _ (i : ℕ) (e : Ends) where
  abbrev o : Office
  o = e.offices i

  -- after a call at it, office i is as its own rules say
  now : (c : OfficeCall) → (ends_rules e (at_office i c)).state.offices i ≡ (office_rules o c).state
  now c = updated_same e.offices i (office_rules o c).state

  told_over : {j : ℕ} (c : OfficeCall) → TellsOver i o (at_office j c) → (o.stage ≡ Unopened → ⊥) → office.progress (office_rules o c).state ≡ Over
  unfolding office.received
  told_over c (refuse_reaches {r = r} decoded number) opened =
      rw decoded (over_then (office.ended o o.session.0 r) _ refl (ended_over o r number o.stage refl opened))

  opened_anew : {j : ℕ} (c : OfficeCall) → OpensAnew i (answer_of (office_rules o c)) (at_office j c) → office.progress (office_rules o c).state ≡ Waiting
  unfolding office.open_session
  opened_anew c (opening_accepted {s = s} {room = room} accepted) = by_test s room accepted
    where
      P : Turn Office → Type 0
      P t = refusals (answer_of (alone t)) ≡ [] → office.progress t.state ≡ Waiting

      by_test : (s room : ℕ) → P (office.open_session o s room)
      by_test s room =
          cond_both (eqb s 0) _ _ P (λ _ e. absurd (let z : ◌≡◌ {A = ℕ} 0 1 = cc in omega arith))
          (λ _. cond_both (ltb room frame_limit) _ _ P (λ _ e. absurd (let z : ◌≡◌ {A = ℕ} 0 1 = cc in omega arith)) (λ _ _. refl))

  module _ (bytes : List ℕ) (untold : TellsOver i o (at_office i (office_frame bytes)) → ⊥) where
    refuse_same : (s r : ℕ) → decode AtOffice bytes ≡ a_frame (refuse s r) → Same o (office.ended o s r)
    unfolding office.ended
    refuse_same s r decoded =
        cond_both (office.is_awaiting o.stage || office.is_live o.stage) _ _ (Same o)
        (λ _. cond_both (names_session o s) _ _ (Same o)
        (λ own. cond_both (eqb r 5 || eqb r 6) _ _ (Same o)
        (λ number. absurd (untold (refuse_reaches (decoded ∙ ap (λ (t : ℕ). a_frame (refuse t r)) (eqb-true s o.session.0 own)) (which r number)))) (λ _. refl)) (λ _. refl))
        (λ _. refl)

    frame_same : (m : Decoded) → decode AtOffice bytes ≡ m → Same o (office.judged o m).state
    unfolding office.received
    frame_same (a_fault f) _ = refl
    frame_same (a_frame (opening s)) _ = refl
    frame_same (a_frame (welcome s σ)) _ = welcomed_same o s σ
    frame_same (a_frame (order s n c)) _ = refl
    frame_same (a_frame (ack s k)) _ = acknowledged_same o s k
    frame_same (a_frame (refuse s r)) decoded = refuse_same s r decoded

  opening_same : (s room : ℕ) → (OpensAnew i (answer_of (alone (office.open_session o s room))) (at_office i (open_session s room)) → ⊥) → Same o (office.open_session o s room).state
  unfolding office.open_session
  opening_same s room refused = by_test (λ accepted. refused (opening_accepted accepted))
    where
      P : Turn Office → Type 0
      P t = (refusals (answer_of (alone t)) ≡ [] → ⊥) → Same o t.state

      by_test : P (office.open_session o s room)
      by_test = cond_both (eqb s 0) _ _ P (λ _ _. refl) (λ _. cond_both (ltb room frame_limit) _ _ P (λ _ _. refl) (λ _ no_refusal. absurd (no_refusal refl)))

  otherwise_same : (c : OfficeCall) → (TellsOver i o (at_office i c) → ⊥) → (OpensAnew i (answer_of (office_rules o c)) (at_office i c) → ⊥) → Same o (office_rules o c).state
  otherwise_same (open_session s room) _ refused = opening_same s room refused
  otherwise_same (issue c room) _ _ = issue_same o c room
  otherwise_same (resend n room) _ _ = resend_same o n room
  otherwise_same (reopen room) _ _ = reopen_same o room
  otherwise_same (office_frame bytes) untold _ = frame_same bytes untold (decode AtOffice bytes) refl
  otherwise_same (issue_all orders bytes room) _ _ = batch_same o orders bytes room

  own_call : (c : OfficeCall) → OverFollows i e (at_office i c)
  own_call c =
      record {
        told = λ tells opened. rw now (told_over c tells opened);
        opened = λ opens. rw now (opened_anew c opens);
        otherwise = λ untold refused. rw now (over_of (office_rules o c).state.stage _ ∙ otherwise_same c untold refused ∙ sym (over_of o.stage o));
      }

  -- ---- any call

  tells_at : (j : ℕ) (c : OfficeCall) → TellsOver i o (at_office j c) → j ≡ i
  tells_at j c (refuse_reaches _ _) = refl

  opens_at : (j : ℕ) (c : OfficeCall) {a : _} → OpensAnew i a (at_office j c) → j ≡ i
  opens_at j c (opening_accepted _) = refl

  other_call : (j : ℕ) (c : OfficeCall) → (j ≡ i → ⊥) → OverFollows i e (at_office j c)
  other_call j c other =
      record {
        told = λ tells _. absurd (other (tells_at j c tells));
        opened = λ opens. absurd (other (opens_at j c opens));
        otherwise = λ _ _. ap (λ (x : Office). is_over (office.progress x)) (updated_other e.offices j (office_rules (e.offices j) c).state i other);
      }

  over_follows : (c : Call) → OverFollows i e c
  over_follows (at_box c) = record { told = λ tells. absurd (elim tells [ ]); opened = λ opens. absurd (elim opens [ ]); otherwise = λ _ _. refl }
  over_follows (at_office j c) = by_number (eqb j i) refl
    where
      by_number : (t : Bool) → eqb j i ≡ t → OverFollows i e (at_office j c)
      by_number true same = subst (λ (k : ℕ). OverFollows i e (at_office k c)) (sym (eqb-true j i same)) (own_call c)
      by_number false differs = other_call j c (eqb-false j i differs)

pub over_when_told : (i : ℕ) (cs : List Call) (e : Ends) → EachCall (OverFollows i) e cs
over_when_told i [] e = tt
over_when_told i (c ∷ cs) e = (over_follows i e c, over_when_told i cs (ends_rules e c).state)
