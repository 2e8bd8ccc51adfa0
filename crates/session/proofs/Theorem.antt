-- Demand 3, proved: along every allowed list of calls the ends are as the history tells (refinement), and the history is safe; so their settings meet (settlement).
use Prim.Native.Nat.{ℕ, zero, suc}
use mathlib.Core.Path.{◌≡◌, refl, sym, ap, ◌∙◌, subst}
use mathlib.Core.List.{List, [], ◌∷◌}
use mathlib.Core.Option.{Option, some, some-injective, none-ne-some}
use lib.ListN.{length, take}
use Rattle.registers.specs.Block.{block}
use Rattle.session.specs.declared.Cab.{Cab}
use Rattle.session.specs.declared.Office.{Office}
use Rattle.session.specs.declared.Progress.TheVariants.{Settled}
use Rattle.session.specs.Calls.{BoxCall, restart, box_frame, box_frames, Call, at_box, at_office, Answer, answer_of, state_after, answers, Ends, first_ends, ends_rules, cab_session, Log, first_log, logged, log_after, PermittedAtBox, Permitted, AllowedFrom}
use Rattle.session.specs.Claim.{BoxAgrees, SessionsInOrder, OfficeAgrees, Demand3}
use Rattle.session.specs.History.{BoxHistory, NamedBy, OfficeHistory, History, first_history, settings_after, orders, rules}
use Rattle.session.specs.Office as office
use Rattle.session.proofs.Alike.{same_answer}
use Rattle.session.proofs.BoxAlike.{CabAlike, closed, active}
use Rattle.session.proofs.Invariant.{Safe, safe_first}
use Rattle.session.proofs.Later.{Still, still_kept, still_then, RightlyTold, still_after}
use Rattle.session.proofs.OfficeAlike.{OfficeAlike, backed, same_progress}
use Rattle.session.proofs.Over.{over_when_told}
use Rattle.session.proofs.Refinement.{EndsAlike, first_ends_alike, call_alike}
use Rattle.session.proofs.Safety.{safe_step}
use Rattle.session.proofs.Settlement.{confirmed_at_most_taken, confirmed_were_taken, settled_settings}

-- ---- what the box and its history have in common

same_session : {c : Cab} {b : BoxHistory} → CabAlike c b → cab_session c ≡ b.session
same_session (closed _) = refl
same_session (active _) = refl

same_settings : {c : Cab} {b : BoxHistory} → CabAlike c b → c.controller.settings ≡ b.settings
same_settings (closed _) = refl
same_settings (active _) = refl

same_highest : {c : Cab} {b : BoxHistory} → CabAlike c b → c.highest.0 ≡ b.highest
same_highest (closed _) = refl
same_highest (active _) = refl

same_taken : {c : Cab} {b : BoxHistory} → CabAlike c b → (s : ℕ) → b.session ≡ some s → c.taken.0 ≡ length (b.taken s)
same_taken (closed _) s e = absurd (none-ne-some s e)
same_taken (active {highest = highest} {taken = taken} _) s e = ap (λ (t : ℕ). length (taken t)) (some-injective highest s e)

-- ---- along a list

rightly_told : (h : History) (l : Log) → Safe h l → (c : BoxCall) (a : Answer) → PermittedAtBox l c a → RightlyTold h.box c
rightly_told h l safe (restart told) a permitted = permitted ∙ safe.highest
rightly_told h l safe (box_frame bytes room) a permitted = tt
rightly_told h l safe (box_frames lengths bytes room) a permitted = tt

still_step : (h : History) (l : Log) → Safe h l → (c : Call) → Permitted l c (answer_of (rules h c)) → Still h.box (rules h c).state.box
still_step h l safe (at_box c) permitted = still_after h.box safe.box.bounded c (rightly_told h l safe c _ permitted)
still_step h l safe (at_office i c) permitted = still_kept h.box

pub record Followed (e : Ends) (h : History) (l : Log) (cs : List Call) : Type 0 where
  pub same_answers : answers ends_rules e cs ≡ answers rules h cs
  pub alike : EndsAlike (state_after ends_rules e cs) (state_after rules h cs)
  pub safe : Safe (state_after rules h cs) (log_after e l cs)
  pub still : (n : ℕ) → Still (state_after rules h (take n cs)).box (state_after rules h cs).box

pub follows : (cs : List Call) (e : Ends) (h : History) (l : Log) → EndsAlike e h → Safe h l → AllowedFrom e l cs → Followed e h l cs
follows [] e h l a safe allowed = record { same_answers = refl; alike = a; safe = safe; still = still }
  where
    still : (n : ℕ) → Still (state_after rules h (take n [])).box h.box
    still zero = still_kept h.box
    still (suc n) = still_kept h.box
follows (c ∷ cs) e h l a safe (permitted, allowed) =
    let both = call_alike e h a l safe c permitted in
    let answered = same_answer EndsAlike (ends_rules e c) (rules h c) both in
    let session = same_session both.states.cab in
    let logs : logged l c (answer_of (rules h c)) (rules h c).state.box.session ≡ logged l c (answer_of (ends_rules e c)) (cab_session (ends_rules e c).state.cab) =
    λ i. logged l c (sym answered i) (sym session i) in
    let permitted_too = subst (Permitted l c) answered permitted in
    let safe_after = subst (Safe (rules h c).state) logs (safe_step h l safe c permitted_too) in
    let rest = follows cs (ends_rules e c).state (rules h c).state _ both.states safe_after allowed in
    record {
      same_answers = λ i. answered i ∷ rest.same_answers i;
      alike = rest.alike;
      safe = rest.safe;
      still = still (still_step h l safe c permitted_too) rest.still;
    }
  where
    still : Still h.box (rules h c).state.box → ((n : ℕ) → Still (state_after rules (rules h c).state (take n cs)).box (state_after rules h (c ∷ cs)).box) →
        (n : ℕ) → Still (state_after rules h (take n (c ∷ cs))).box (state_after rules h (c ∷ cs)).box
    still first rest zero = still_then h.box (rules h c).state.box (state_after rules h (c ∷ cs)).box first (rest zero)
    still first rest (suc n) = rest n

-- ---- what is compared

same_office : {x : Office} {h : OfficeHistory} → OfficeAlike x h →
    (x.session.0 ≡ h.session) × (x.confirmed.0 ≡ h.confirmed) × (x.issued.0 ≡ length (orders h)) × (x.settings ≡ h.settings)
same_office (backed _) = (refl, refl, refl, refl)

module _ (e : Ends) (h : History) (a : EndsAlike e h) (l : Log) (safe : Safe h l) where
  box_agrees : BoxAgrees e.cab h
  box_agrees =
      record {
        session = same_session a.cab;
        highest = same_highest a.cab;
        settings = same_settings a.cab;
        taken_count = same_taken a.cab;
        first_taken = first_taken;
        settings_follow = λ i s here named. same_settings a.cab ∙ safe.box.followed s here ∙ ap (settings_after (h.box.opened s)) (first_k i s here named);
      }
    where
      first_taken : (i s : ℕ) → NamedBy h.offices i s → h.box.taken s ≡ take (length (h.box.taken s)) ((h.offices i).issued s)
      first_taken i s = ((safe.offices i).sessions s).prefix

      first_k : (i s : ℕ) → h.box.session ≡ some s → NamedBy h.offices i s → h.box.taken s ≡ take e.cab.taken.0 ((h.offices i).issued s)
      first_k i s here named = first_taken i s named ∙ ap (λ (k : ℕ). take k ((h.offices i).issued s)) (sym (same_taken a.cab s here))

  sessions_in_order : SessionsInOrder e.cab h
  sessions_in_order =
      record {
        rising = safe.box.row.rising;
        open_last = safe.box.row.last;
        own_office = safe.own_office;
        no_other_office = safe.apart;
        settings_along = same_settings a.cab ∙ safe.box.row.along;
      }

  office_agrees : (i : ℕ) → OfficeAgrees (e.offices i) (h.offices i) e.cab h.box
  office_agrees i =
      let (session_is, confirmed_is, issued_is, settings_are) = same_office (a.offices i) in
      record {
        same_progress = same_progress (a.offices i);
        session = λ _. session_is;
        confirmed = λ _. confirmed_is;
        issued_count = λ _. issued_is;
        settings = λ _. settings_are;
        confirmed_taken = rw (session_is, confirmed_is) (confirmed_at_most_taken h l safe i);
        confirmed_first = λ opened. rw (session_is, confirmed_is) (confirmed_were_taken h l safe i opened);
        settled_equal = settled_equal;
      }
    where
      settled_equal : office.progress (e.offices i) ≡ Settled → cab_session e.cab ≡ some (e.offices i).session.0 →
          block (e.offices i).settings ≡ block e.cab.controller.settings
      settled_equal settled open_here =
          let (session_is, _, _, settings_are) = same_office (a.offices i) in
          let here : h.box.session ≡ some (h.offices i).session = sym (same_session a.cab) ∙ open_here ∙ ap {B = Option ℕ} some session_is in
          ap block (settings_are ∙ settled_settings h l safe i (sym (same_progress (a.offices i)) ∙ settled) here ∙ sym (same_settings a.cab))

pub demand_3 : Demand3
demand_3 cs allowed =
    let end = follows cs first_ends first_history first_log first_ends_alike safe_first allowed in
    record {
      same_answers = end.same_answers;
      box_agrees = box_agrees _ _ end.alike _ end.safe;
      sessions_in_order = sessions_in_order _ _ end.alike _ end.safe;
      office_agrees = office_agrees _ _ end.alike _ end.safe;
      closed_for_good = λ n s closed. (end.still n s closed).1;
      over_when_told = λ i. over_when_told i cs first_ends;
    }
