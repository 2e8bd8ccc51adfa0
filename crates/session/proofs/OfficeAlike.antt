-- Refinement at the office: each call turns the office as the history's rules turn the history, with the same answer.
use Prim.Native.Nat.{ℕ, ◌+◌, ◌-◌, ◌%◌, ◌<◌, ◌≤◌}
use native.Mathlib.Omega.{arith}
use mathlib.Core.Path.{◌≡◌, refl, sym, ap, ◌∙◌, subst}
use mathlib.Core.Bool.{Bool, true, false, cond, ◌||◌}
use mathlib.Core.List.{List, [], ◌∷◌, ◌++◌, foldr}
use mathlib.Core.Option.{Option, none, some, some-injective, none-ne-some}
use lib.ListN.{length, get_or, get_elem?, set, length-set, length-map}
use lib.Seq.{get_or-set_same, get_or-set_other}
use lib.Dec.{eqb, leb, ltb}
use borrow.Author.Tests.{eqb-true, eqb-false, leb-true, leb-false, ltb-true}
use Rattle.base.specs.Refusal.{Told}
use Rattle.std.proofs.lemmas.Bool.{cond_both as cond_cases}
use Rattle.settings.specs.declared.settings.Settings.{Settings}
use Rattle.settings.specs.Settings.{fresh}
use Rattle.frame.specs.Frame.{Change, Frame, too_long, opening, welcome, order, ack, refuse}
use Rattle.judging.specs.declared.End.TheVariants.{Office as AtOffice}
use Rattle.judging.specs.Decoding.{Decoded, a_fault, a_frame, decode}
use Rattle.frame.proofs.Laws.{asked_change_of}
use Rattle.frame.specs.View.{asked}
use Rattle.link.specs.View.{frame_limit, encoding_of}
use Rattle.order.specs.Apply.{apply}
use Rattle.outcome.specs.declared.BatchOrder.{BatchOrder}
use Rattle.session.specs.declared.Office.{Office}
use Rattle.session.specs.declared.Order.{Order}
use Rattle.session.specs.declared.Stage.{Stage as OfficeStage}
use Rattle.session.specs.declared.Stage.TheVariants.{Unopened, Awaiting, Live, Ended}
use Rattle.outcome.specs.Batch.{batch_limit, data_lengths, changes, Outcome}
use Rattle.session.proofs.Alike.{Alike, answered_alike, OutcomesAlike, alone_alike, refused_alike, AllAlike, none_alike, one_alike, turns_alike, first_refusals_alike, cond_both, cond_and, cond_or_not}
use Rattle.session.proofs.Batches.{fits_sum, orders_singly, issue_each_singly}
use Rattle.session.specs.Calls.{OfficeCall, open_session, issue, resend, reopen, office_frame, issue_all, updated, office_rules}
use Rattle.session.specs.History.{Stage, unopened, awaiting, live, ended, is_awaiting, is_live, OfficeHistory, first_office}
use Rattle.session.specs.History.{orders, with_opening, with_welcome, with_issued, with_confirmed}
use Rattle.session.specs.History.{rule_opening, rule_issue, sent_again, rule_resend, rule_reopen, rule_welcome, rule_ack, rule_refuse, rule_office_frame, first_refusal, batch_unless, issued_singly, rule_issue_all, progress_at, progress, rules_at_office}
use Rattle.session.specs.Office as office
use Rattle.session.specs.Office.{order_of, no_order, empty_window, office_of, never, with_order, issue_unless, kept_change, received, judged}
use Rattle.session.proofs.Tools.{updated_same, length_one_more, get_elem?_below, get_elem?_append, get_elem?_last}
use Rattle.session.specs.Limits.{window_limit, order_limit}
use Rattle.outcome.specs.Turn.{Turn, wrote, refused, bytes_written}

-- ---- the window

-- by number, the changes of the list after the first `confirmed`
abbrev pub Holds : List Order → List Change → ℕ → Type 0
Holds window l confirmed = (n : ℕ) → confirmed < n → n ≤ length l → get_elem? l (n - 1) ≡ some (kept_change window n)

holds_more : (l : List Change) (c : Change) (window : List Order) (confirmed : ℕ) → length window ≡ window_limit → Holds window l confirmed → length l < confirmed + window_limit →
    Holds (set window (length l % window_limit) (order_of (length l + 1) c)) (l ++ (c ∷ [])) confirmed
holds_more l c window confirmed sized holds room n above within = by_cases (eqb n (length l + 1)) refl
  where
    new : Order
    new = order_of (length l + 1) c

    by_cases : (t : Bool) → eqb n (length l + 1) ≡ t → get_elem? (l ++ (c ∷ [])) (n - 1) ≡ some (kept_change (set window (length l % window_limit) new) n)
    by_cases true e =
        let next : n ≡ length l + 1 = eqb-true n (length l + 1) e in
        let last : n - 1 ≡ length l = omega arith in
        let stored : get_or (set window (length l % window_limit) new) (length l % window_limit) no_order ≡ new = get_or-set_same window (length l % window_limit) new no_order (omega arith) in
        rw last (get_elem?_last l c ∙ ap {B = Option Change} some (sym (asked_change_of c) ∙ ap (λ (o : Order). asked o.change) (sym stored)))
    by_cases false e =
        let other : n ≡ length l + 1 → ⊥ = eqb-false n (length l + 1) e in
        let before : n ≤ length l = omega (arith, other, length_one_more l c) in
        let kept : get_or (set window (length l % window_limit) new) ((n - 1) % window_limit) no_order ≡ get_or window ((n - 1) % window_limit) no_order =
        get_or-set_other window (length l % window_limit) ((n - 1) % window_limit) new no_order (λ same. omega arith) in
        get_elem?_append l (c ∷ []) (n - 1) (omega arith) ∙ holds n above before ∙ ap {B = Option Change} some (ap (λ (o : Order). asked o.change) (sym kept))

-- a window of the right length that holds the unanswered orders
pub record Backed (window : List Order) (l : List Change) (confirmed : ℕ) : Type 0 where
  pub sized : length window ≡ window_limit
  pub holds : Holds window l confirmed

-- ---- the office beside its history

abbrev pub stage_of : Stage → OfficeStage
stage_of unopened = Unopened
stage_of awaiting = Awaiting
stage_of live = Live
stage_of ended = Ended

live_of : (g : Stage) → office.is_live (stage_of g) ≡ is_live g
live_of unopened = refl
live_of awaiting = refl
live_of live = refl
live_of ended = refl

awaiting_of : (g : Stage) → office.is_awaiting (stage_of g) ≡ is_awaiting g
awaiting_of unopened = refl
awaiting_of awaiting = refl
awaiting_of live = refl
awaiting_of ended = refl

abbrev pub office_with : OfficeHistory → List Order → Office
office_with h window = office_of (stage_of h.stage) h.session h.settings (length (orders h)) h.confirmed window

pub data OfficeAlike : Office → OfficeHistory → Type 0 where
  backed : {h : OfficeHistory} {window : List Order} → Backed window (orders h) h.confirmed → OfficeAlike (office_with h window) h

abbrev pub TurnAlike : Turn Office → Turn OfficeHistory → Type 0
TurnAlike t u = Alike OfficeAlike t u

none_held : {window : List Order} {l : List Change} → length window ≡ window_limit → length l ≡ 0 → Backed window l 0
none_held sized count = record { sized = sized; holds = λ n above within. absurd (omega (arith, count)) }

pub first_alike : OfficeAlike never first_office
first_alike = backed {h = first_office} {window = empty_window} (none_held refl refl)

-- ---- opening

begun : (h : OfficeHistory) (s : ℕ) → OfficeAlike (office_of Awaiting s fresh 0 0 empty_window) (with_opening h s)
begun h s =
    let count : length (updated h.issued s [] s) ≡ 0 = ap length (updated_same h.issued s []) in
    subst (λ (n : ℕ). OfficeAlike (office_of Awaiting s fresh n 0 empty_window) (with_opening h s)) count
    (backed (none_held refl count))

opening_alike : {x : Office} {h : OfficeHistory} → OfficeAlike x h → (s room : ℕ) → TurnAlike (office.open_session x s room) (rule_opening h s room)
unfolding office.open_session rule_opening
opening_alike (backed {h} b) s room =
    cond_both TurnAlike (eqb s 0) (λ _. answered_alike (backed b))
    (λ _. cond_both TurnAlike (ltb room frame_limit) (λ _. answered_alike (backed b))
    (λ _. answered_alike (begun h s)))

-- ---- issuing

issued_alike : (h : OfficeHistory) (window : List Order) (c : Change) → Backed window (orders h) h.confirmed → length (orders h) < h.confirmed + window_limit →
    OfficeAlike (with_order (office_with h window) c) (with_issued h c)
issued_alike h window c b room =
    let l = orders h in
    let here : updated h.issued h.session (l ++ (c ∷ [])) h.session ≡ l ++ (c ∷ []) = updated_same h.issued h.session (l ++ (c ∷ [])) in
    let count : length (updated h.issued h.session (l ++ (c ∷ [])) h.session) ≡ length l + 1 = ap length here ∙ length_one_more l c in
    let after = set window (length l % window_limit) (order_of (length l + 1) c) in
    subst (λ (n : ℕ). OfficeAlike (office_of Live h.session (apply h.settings c) n h.confirmed after) (with_issued h c)) count
    (backed (record {
      sized = length-set window (length l % window_limit) (order_of (length l + 1) c) ∙ b.sized;
      holds = rw here (holds_more l c window h.confirmed b.sized b.holds room);
    }))

issue_alike : {x : Office} {h : OfficeHistory} → OfficeAlike x h → (c : Change) (room : ℕ) → TurnAlike (office.issue x c room) (rule_issue h c room)
unfolding office.issue office.issue_refusal rule_issue
issue_alike (backed {h} {window} b) c room =
    let Both : Option ℕ → Turn OfficeHistory → Type 0 = λ refusal u. TurnAlike (issue_unless refusal (office_with h window) c) u in
    rw (live_of h.stage) (cond_both Both (is_live h.stage)
    (λ _. cond_both Both (ltb room frame_limit) (λ _. answered_alike (backed b))
    (λ _. cond_both Both (too_long c) (λ _. answered_alike (backed b))
    (λ _. cond_both Both (eqb (length (orders h)) order_limit) (λ _. answered_alike (backed b))
    (λ _. cond_both Both (leb window_limit (length (orders h) - h.confirmed)) (λ _. answered_alike (backed b))
    (λ few. answered_alike (issued_alike h window c b (omega (arith, leb-false window_limit (length (orders h) - h.confirmed) few))))))))
    (λ _. answered_alike (backed b)))

-- ---- issuing a batch

orders_alike : {x : Office} {h : OfficeHistory} → OfficeAlike x h → (cs : List Change) (room : ℕ) →
    AllAlike OfficeAlike (orders_singly x cs room) (issued_singly h cs room)
orders_alike a [] room = none_alike
orders_alike {x} {h} a (c ∷ cs) room =
    let first = issue_alike a c room in
    let t = office.issue x c room in
    let u = rule_issue h c room in
    one_alike first (subst (λ (frame : Option Frame). AllAlike OfficeAlike (orders_singly t.state cs (room - length (bytes_written t))) (issued_singly u.state cs (room - length (encoding_of frame))))
    first.same_frame (orders_alike {x = t.state} {h = u.state} first.states cs (room - length (bytes_written t))))

batch_alike : {x : Office} {h : OfficeHistory} → OfficeAlike x h → (orders : List BatchOrder) (bytes : List ℕ) (room : ℕ) →
    OutcomesAlike OfficeAlike (office.issue_all x orders bytes room) (rule_issue_all h orders bytes room)
unfolding office.issue_all rule_issue_all
batch_alike {x} {h} a orders bytes room =
    rw (cond_or_not, length-map, fits_sum (data_lengths orders) (length bytes), issue_each_singly) (cond_both P (ltb batch_limit (length orders)) (λ _. refused_alike a)
    (λ _. cond_both P (eqb (foldr ◌+◌ 0 (data_lengths orders)) (length bytes))
    (λ _. by_refusal (first_refusal us) (first_refusals_alike OfficeAlike each))
    (λ _. refused_alike a)))
  where
    P : Outcome Office → Outcome OfficeHistory → Type 0
    P t u = OutcomesAlike OfficeAlike t u

    ts : List (Turn Office)
    ts = orders_singly x (changes orders bytes) room

    us : List (Turn OfficeHistory)
    us = issued_singly h (changes orders bytes) room

    each : AllAlike OfficeAlike ts us
    each = orders_alike a (changes orders bytes) room

    by_refusal : (m : Option Told) → first_refusal ts ≡ m → P (batch_unless (first_refusal ts) x ts) (batch_unless m h us)
    by_refusal none e = rw e (turns_alike OfficeAlike each x h a)
    by_refusal (some told) e = rw e (refused_alike a)

-- ---- sending again

-- order n, by what the list has at its place: the window has the same, and neither has an order that was not issued
sent_again_alike : (h : OfficeHistory) (window : List Order) (m : Option Change) (n room : ℕ) → OfficeAlike (office_with h window) h → Holds window (orders h) h.confirmed →
    h.confirmed < n → get_elem? (orders h) (n - 1) ≡ m →
    TurnAlike
    (cond (leb n (length (orders h)))
    (cond (ltb room frame_limit) (refused (office_with h window) 1) (wrote (office_with h window) (order h.session n (kept_change window n))))
    (refused (office_with h window) 13))
    (sent_again m h n room)
unfolding sent_again
sent_again_alike h window none n room a holds above e =
    cond_cases (leb n (length (orders h))) _ _ (λ t. TurnAlike t (refused h 13))
    (λ within. absurd (none-ne-some _ (sym e ∙ holds n above (leb-true n (length (orders h)) within))))
    (λ _. answered_alike a)
sent_again_alike h window (some c) n room a holds above e =
    let inside : n - 1 < length (orders h) = get_elem?_below (orders h) (n - 1) c e in
    let held : some (kept_change window n) ≡ some c = sym (holds n above (omega arith)) ∙ e in
    cond_cases (leb n (length (orders h))) _ _ (λ t. TurnAlike t (cond (ltb room frame_limit) (refused h 1) (wrote h (order h.session n c))))
    (λ _. cond_both TurnAlike (ltb room frame_limit) (λ _. answered_alike a)
    (λ _. record { states = a; same_refusal = refl; same_frame = ap (λ (d : Change). some (order h.session n d)) (some-injective _ _ held) }))
    (λ beyond. absurd (omega (arith, leb-false n (length (orders h)) beyond)))

resend_alike : {x : Office} {h : OfficeHistory} → OfficeAlike x h → (n room : ℕ) → TurnAlike (office.resend x n room) (rule_resend h n room)
unfolding office.resend rule_resend sent_again
resend_alike (backed {h} {window} b) n room =
    rw (live_of h.stage) (cond_both TurnAlike (is_live h.stage)
    (λ _. cond_both (λ (t : Turn Office) (m : Option Change). TurnAlike t (sent_again m h n room)) (ltb h.confirmed n)
    (λ above. sent_again_alike h window (get_elem? (orders h) (n - 1)) n room (backed b) b.holds (ltb-true _ n above) refl)
    (λ _. answered_alike (backed b)))
    (λ _. answered_alike (backed b)))

reopen_alike : {x : Office} {h : OfficeHistory} → OfficeAlike x h → (room : ℕ) → TurnAlike (office.reopen x room) (rule_reopen h room)
unfolding office.reopen rule_reopen
reopen_alike (backed {h} b) room =
    rw (awaiting_of h.stage) (cond_both TurnAlike (is_awaiting h.stage)
    (λ _. cond_both TurnAlike (ltb room frame_limit) (λ _. answered_alike (backed b)) (λ _. answered_alike (backed b)))
    (λ _. answered_alike (backed b)))

-- ---- frames in

welcome_alike : {x : Office} {h : OfficeHistory} → OfficeAlike x h → (s : ℕ) (σ : Settings) → OfficeAlike (office.welcomed x s σ) (rule_welcome h s σ)
unfolding office.welcomed rule_welcome
welcome_alike (backed {h} {window} b) s σ =
    rw (awaiting_of h.stage, cond_and) (cond_both OfficeAlike (is_awaiting h.stage)
    (λ _. cond_both OfficeAlike (eqb s h.session) (λ own. rw (eqb-true s h.session own) opened) (λ _. backed b))
    (λ _. backed b))
  where
    opened : OfficeAlike (office_of Live h.session σ 0 0 window) (with_welcome h σ)
    opened =
        let count : length (updated h.issued h.session [] h.session) ≡ 0 = ap length (updated_same h.issued h.session []) in
        subst (λ (n : ℕ). OfficeAlike (office_of Live h.session σ n 0 window) (with_welcome h σ)) count
        (backed (none_held b.sized count))

ack_alike : {x : Office} {h : OfficeHistory} → OfficeAlike x h → (s k : ℕ) → OfficeAlike (office.acknowledged x s k) (rule_ack h s k)
unfolding office.acknowledged rule_ack
ack_alike (backed {h} {window} b) s k =
    rw (live_of h.stage, cond_and, cond_and, cond_and) (cond_both OfficeAlike (is_live h.stage)
    (λ _. cond_both OfficeAlike (eqb s h.session) (λ own. cond_both OfficeAlike (ltb h.confirmed k)
    (λ above. cond_both OfficeAlike (leb k (length (orders h)))
    (λ _. rw (eqb-true s h.session own) (news (ltb-true _ k above))) (λ _. backed b))
    (λ _. backed b))
    (λ _. backed b))
    (λ _. backed b))
  where
    news : h.confirmed < k → OfficeAlike (office_of Live h.session h.settings (length (orders h)) k window) (with_confirmed h k)
    news above = backed {h = with_confirmed h k} (record { sized = b.sized; holds = λ n higher inside. b.holds n (omega arith) inside })

refuse_alike : {x : Office} {h : OfficeHistory} → OfficeAlike x h → (s r : ℕ) → OfficeAlike (office.ended x s r) (rule_refuse h s r)
unfolding office.ended rule_refuse
refuse_alike (backed {h} b) s r =
    let g = h.stage in
    rw (awaiting_of g, live_of g, cond_and, cond_and) (cond_both OfficeAlike (is_awaiting g || is_live g)
    (λ _. cond_both OfficeAlike (eqb s h.session) (λ _. cond_both OfficeAlike (eqb r 5 || eqb r 6) (λ _. backed b) (λ _. backed b)) (λ _. backed b))
    (λ _. backed b))

read_alike : {x : Office} {h : OfficeHistory} → OfficeAlike x h → (m : Decoded) → TurnAlike (judged x m) (rule_office_frame h m)
unfolding received rule_office_frame
read_alike a (a_fault f) = answered_alike a
read_alike a (a_frame (opening s)) = answered_alike a
read_alike a (a_frame (welcome s σ)) = answered_alike (welcome_alike a s σ)
read_alike a (a_frame (order s n c)) = answered_alike a
read_alike a (a_frame (ack s k)) = answered_alike (ack_alike a s k)
read_alike a (a_frame (refuse s r)) = answered_alike (refuse_alike a s r)

-- ---- the progress

progress_of : (h : OfficeHistory) (g : Stage) (window : List Order) → office.progress_at (stage_of g) (office_with h window) ≡ progress_at g h
progress_of h unopened window = refl
progress_of h awaiting window = refl
progress_of h live window = refl
progress_of h ended window = refl

pub same_progress : {x : Office} {h : OfficeHistory} → OfficeAlike x h → office.progress x ≡ progress h
same_progress (backed {h} {window} _) = progress_of h h.stage window

-- ---- every call

pub office_alike : {x : Office} {h : OfficeHistory} → OfficeAlike x h → (c : OfficeCall) → OutcomesAlike OfficeAlike (office_rules x c) (rules_at_office h c)
office_alike a (open_session s room) = alone_alike (opening_alike a s room)
office_alike a (issue c room) = alone_alike (issue_alike a c room)
office_alike a (resend n room) = alone_alike (resend_alike a n room)
office_alike a (reopen room) = alone_alike (reopen_alike a room)
office_alike a (office_frame bytes) = alone_alike (read_alike a (decode AtOffice bytes))
office_alike a (issue_all orders bytes room) = batch_alike a orders bytes room
