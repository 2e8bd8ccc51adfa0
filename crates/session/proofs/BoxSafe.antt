-- Safety of a call at the box: the invariant holds after it.
use Prim.Native.Nat.{ℕ, ◌+◌, ◌-◌, ◌<◌, ◌≤◌}
use native.Mathlib.Omega.{arith}
use mathlib.Core.Path.{◌≡◌, refl, sym, ap, ◌∙◌, subst}
use mathlib.Core.Bool.{true, cond}
use mathlib.Core.List.Memᴰ
use mathlib.Core.List.{List, [], ◌∷◌, ◌++◌, append-nil, append_assoc, Memᴰ}
use mathlib.Core.Logic.{inl, inr}
use mathlib.Core.Option.{Option, none, some, get_or, some-injective}
use lib.ListN.{length, get_elem?}
use lib.Seq.{take_all}
use lib.Dec.{eqb, leb, ltb}
use borrow.Author.Tests.{eqb-true, ltb-true}
use Rattle.std.proofs.lemmas.Bool.{cond_both}
use Rattle.settings.specs.Settings.{fresh}
use Rattle.settings.specs.Range.{Held}
use Rattle.base.specs.Refusal.{Told, plain}
use Rattle.frame.specs.Frame.{Change, ValidChange, Frame, welcome, ack, refuse}
use Rattle.link.specs.Encoding.{Valid, valid_opening, valid_welcome, valid_order, valid_ack, valid_refuse, valid_refuse_fault}
use Rattle.judging.specs.declared.End.TheVariants.{Box}
use Rattle.judging.specs.Decoding.{a_frame, decode}
use Rattle.link.specs.View.{frame_limit}
use Rattle.order.proofs.Keeps.{apply_held}
use Rattle.outcome.specs.Turn.{Turn, wrote, silent, refused, refused_by}
use Rattle.outcome.specs.Batch.{Outcome, alone}
use Rattle.session.specs.Calls.{answer_of, frames_of, reply_of, updated, Log, with_frames, logged_at_box, FitsSession}
use Rattle.session.specs.History.{taken_along, Rising, BoxHistory, NamedBy, History, settings_after, restarted, with_session, with_taken, is_open, rule_open, rule_order, rule_box_frame}
use Rattle.session.proofs.BoxFollows.{BoxFollows, taken_first, restart_follows, begun_held}
use Rattle.session.proofs.RuleTests.{is_higher}
use Rattle.session.proofs.Tools.{updated_same, updated_other, updated_each, updated_by_own, get_elem?_below, length_one_more}
use Rattle.session.proofs.Tools.{Prefix, prefix_length, prefix_next, EachDecodes, decodes_weaker, decodes_one_more, decoded_at}
use Rattle.session.proofs.Invariant.{settings_next, Request, request_opening, request_order, Reply, reply_welcome, reply_ack, reply_refuse, RowSafe, OfficeSafe, Safe, request_reader}
use Rattle.session.proofs.Row.{rising_one_more, below_last, along_one_more, along_same}

abbrev pub BoxOutcomeSafe : History → Log → Outcome BoxHistory → Type 0
BoxOutcomeSafe h l t = Safe (record { box = t.state; offices = h.offices }) (logged_at_box l (answer_of t) t.state.session)

abbrev pub BoxTurnSafe : History → Log → Turn BoxHistory → Type 0
BoxTurnSafe h l t = BoxOutcomeSafe h l (alone t)

open_session : (session : Option ℕ) (s : ℕ) → is_open session s ≡ true → session ≡ some s
open_session none s e = cc
open_session (some t) s e = ap {B = Option ℕ} some (eqb-true t s e)

module _ (h : History) (l : Log) (safe : Safe h l) where
  module _ (b : BoxHistory) (follows : BoxFollows h l b) (refusal : Option Told) where
    office_follows : (i : ℕ) → OfficeSafe (h.offices i) b l.named
    office_follows i =
        let old = safe.offices i in
        record {
          fits = old.fits;
          known = old.known;
          own = old.own;
          sessions = λ s. record { unnamed = (old.sessions s).unnamed; counted = (old.sessions s).counted; valid = (old.sessions s).valid; prefix = follows.prefix i s };
          confirmed = follows.stays _ old.confirmed;
          while_awaiting = old.while_awaiting;
          while_live = λ e. let live = old.while_live e in record { welcomed = live.welcomed; reply = follows.stays _ live.reply; followed = live.followed };
        }

    box_turn : (frame : Option Frame) → EachDecodes (Reply b) (with_frames (frames_of (reply_of (record { refusal = refusal; frame = frame }) ∷ [])) l.from_box) →
        BoxTurnSafe h l (record { state = b; refusal = refusal; frame = frame })
    box_turn frame replies =
        record {
          box = follows.box;
          offices = office_follows;
          apart = safe.apart;
          untaken = follows.untaken;
          own_office = follows.own_office;
          highest = follows.highest;
          requests = safe.requests;
          replies = replies;
        }

    replies_stay : EachDecodes (Reply b) l.from_box
    replies_stay = decodes_weaker (Reply h.box) l.from_box safe.replies (Reply b) follows.stays

    box_silent : BoxTurnSafe h l (record { state = b; refusal = refusal; frame = none })
    box_silent = box_turn none replies_stay

    box_wrote : (f : Frame) → Valid f → Reply b f → BoxTurnSafe h l (record { state = b; refusal = refusal; frame = some f })
    box_wrote f valid reply = box_turn (some f) (decodes_one_more (Reply b) l.from_box replies_stay f valid reply)

  -- ---- nothing changes

  unchanged : BoxFollows h l h.box
  unchanged =
      record {
        box = safe.box;
        stays = λ _ reply. reply;
        prefix = taken_first h l safe;
        untaken = safe.untaken;
        own_office = safe.own_office;
        highest = let bounded = safe.box.bounded in omega (arith, safe.highest);
      }

  pub box_kept : (refusal : Option Told) → BoxTurnSafe h l (record { state = h.box; refusal = refusal; frame = none })
  box_kept = box_silent h.box unchanged

  replied : (refusal : Option Told) (f : Frame) → Valid f → Reply h.box f →
      BoxTurnSafe h l (record { state = h.box; refusal = refusal; frame = some f })
  replied = box_wrote h.box unchanged

  replied_refuse : (s r : ℕ) → FitsSession s → 5 ≤ r → r ≤ 7 → BoxTurnSafe h l (refused_by h.box s r)
  replied_refuse s r fits low high = replied (some (plain r)) (refuse s r) (valid_refuse fits low high) reply_refuse

  replied_ack : (i s : ℕ) → NamedBy h.offices i s → FitsSession s → BoxTurnSafe h l (wrote h.box (ack s (length (h.box.taken s))))
  replied_ack i s named fits =
      replied none (ack s (length (h.box.taken s)))
      (valid_ack fits (omega (arith, prefix_length (h.box.taken s) ((h.offices i).issued s) (taken_first h l safe i s named), ((safe.offices i).sessions s).counted)))
      (reply_ack (omega arith))

  -- ---- a restart

  pub restart_safe : (told : ℕ) → told ≡ l.highest → BoxTurnSafe h l (silent (restarted h.box told))
  restart_safe told e = box_silent (restarted h.box told) (restart_follows h l safe told e) none

  -- ---- a session opens above the highest: it was never open, and nothing was taken in it

  module _ (i s : ℕ) (named : NamedBy h.offices i s) (higher : h.box.highest < s) where
    abbrev begun : BoxHistory
    begun = with_session h.box s

    abbrev opened : (ℕ → List Change) → BoxHistory
    opened taken =
        record { highest = s; session = some s; settings = begun.settings; since_restart = begun.since_restart; opened = begun.opened; taken = taken }

    -- a session of the row now
    either : {A : Type 0} (t : ℕ) → Memᴰ t begun.since_restart → (Memᴰ t h.box.since_restart → A) → (t ≡ s → A) → A
    either t m before now = elim (Memᴰ.append_cases h.box.since_restart m) [ inl old ↦ before old | inr new ↦ now (Memᴰ.eq_of_singleton new) ]

    nothing_more : taken_along h.box.taken h.box.since_restart ++ h.box.taken s ≡ taken_along h.box.taken h.box.since_restart
    nothing_more = rw (safe.box.above s higher, append-nil)

    opened_row : RowSafe (opened h.box.taken)
    opened_row =
        let old = safe.box.row in
        let below : (t : ℕ) → Memᴰ t h.box.since_restart → t < s = λ t m. omega (arith, old.below t m) in
        record {
          rising = rising_one_more h.box.since_restart s old.rising below;
          below = λ t m. either t m (λ m. omega (arith, below t m)) (λ e. omega arith);
          last = λ t here. (h.box.since_restart, ap (λ (x : ℕ). h.box.since_restart ++ (x ∷ [])) (some-injective s t here));
          along = old.along ∙ ap (settings_after fresh) (sym (along_one_more h.box.taken h.box.since_restart s ∙ nothing_more));
        }

    held_still : Held begun.settings
    held_still = begun_held h.box s safe.box.held

    opened_follows : BoxFollows h l (opened h.box.taken)
    opened_follows =
        record {
          box = record { bounded = omega arith; above = λ t above. safe.box.above t (omega arith); followed = followed; row = opened_row; held = held_still };
          stays = stays;
          prefix = taken_first h l safe;
          untaken = safe.untaken;
          own_office = λ t m. either t m (safe.own_office t) (λ e. (i, Memᴰ.cast e named));
          highest = omega (arith, safe.highest);
        }
      where
        followed : (t : ℕ) → some s ≡ some t → begun.settings ≡ settings_after (begun.opened t) (h.box.taken t)
        followed t here = rw (← some-injective s t here, updated_same h.box.opened s _, safe.box.above s higher)

        stays : (f : Frame) → Reply h.box f → Reply (opened h.box.taken) f
        stays _ (reply_welcome {s = t} below settings) =
            reply_welcome {s = t} (omega arith) (settings ∙ sym (updated_other h.box.opened s _ t (λ e. omega arith)))
        stays _ (reply_ack count) = reply_ack count
        stays _ reply_refuse = reply_refuse

    opened_safe : FitsSession s → BoxTurnSafe h l (wrote begun (welcome s begun.settings))
    opened_safe fits =
        let empty = safe.box.above s higher in
        let reply = welcome s begun.settings in
        subst (λ (taken : ℕ → List Change). BoxTurnSafe h l (wrote (opened taken) reply)) (sym (updated_by_own h.box.taken s [] empty))
        (box_wrote (opened h.box.taken) opened_follows none reply (valid_welcome fits held_still)
        (reply_welcome (omega arith) (sym (updated_same h.box.opened s _))))

  session_below : (s : ℕ) → h.box.session ≡ some s → s ≤ h.box.highest
  session_below s here = subst (λ (session : Option ℕ). get_or session 0 ≤ h.box.highest) here safe.box.bounded

  -- before the first order the settings are those that the session opened with
  opened_still : (s : ℕ) → h.box.session ≡ some s → length (h.box.taken s) ≡ 0 → h.box.settings ≡ h.box.opened s
  opened_still s here none_taken =
      let empty : h.box.taken s ≡ [] = sym (take_all 0 (h.box.taken s) (omega arith)) in
      safe.box.followed s here ∙ ap (settings_after (h.box.opened s)) empty

  -- OPEN of the open session again
  again_safe : (i s : ℕ) → NamedBy h.offices i s → FitsSession s → h.box.session ≡ some s →
      BoxTurnSafe h l (cond (eqb (length (h.box.taken s)) 0) (wrote h.box (welcome s h.box.settings)) (wrote h.box (ack s (length (h.box.taken s)))))
  again_safe i s named fits here =
      cond_both (eqb (length (h.box.taken s)) 0) _ _ (BoxTurnSafe h l)
      (λ empty. replied none (welcome s h.box.settings) (valid_welcome fits safe.box.held)
      (reply_welcome (session_below s here) (opened_still s here (eqb-true _ _ empty))))
      (λ _. replied_ack i s named fits)

  open_safe : (i s : ℕ) → NamedBy h.offices i s → FitsSession s → BoxTurnSafe h l (rule_open h.box s)
  unfolding rule_open
  open_safe i s named fits =
      cond_both (is_higher h.box s) _ _ (BoxTurnSafe h l) (λ e. opened_safe i s named (ltb-true _ _ e) fits)
      (λ _. cond_both (is_open h.box.session s) _ _ (BoxTurnSafe h l) (λ e. again_safe i s named fits (open_session _ s e))
      (λ _. replied_refuse s 6 fits (omega arith) (omega arith)))

  -- ---- the next change of the open session is taken

  module _ (i s : ℕ) (c : Change) (named : NamedBy h.offices i s) (here : h.box.session ≡ some s) (next : get_elem? ((h.offices i).issued s) (length (h.box.taken s)) ≡ some c) where
    abbrev taken_now : List Change
    taken_now = h.box.taken s ++ (c ∷ [])

    abbrev all_now : ℕ → List Change
    all_now = updated h.box.taken s taken_now

    taken_in : (t : ℕ) → h.box.session ≡ some t → all_now t ≡ h.box.taken t ++ (c ∷ [])
    taken_in =
        updated_each h.box.taken s taken_now (λ t now. h.box.session ≡ some t → now ≡ h.box.taken t ++ (c ∷ []))
        (λ _. refl) (λ t other e. absurd (other (some-injective s t (sym here ∙ e))))

    -- the open session is the row's last, so its change is the last of all
    along_now : taken_along all_now h.box.since_restart ≡ taken_along h.box.taken h.box.since_restart ++ (c ∷ [])
    along_now =
        let (earlier, ends) = safe.box.row.last s here in
        let risen : Rising (earlier ++ (s ∷ [])) = subst Rising ends safe.box.row.rising in
        let before : taken_along all_now earlier ≡ taken_along h.box.taken earlier =
        along_same h.box.taken all_now earlier (λ t m. updated_other h.box.taken s taken_now t (λ e. omega (arith, below_last earlier s risen t m))) in
        rw ends (along_one_more all_now earlier s ∙ (λ j. before j ++ updated_same h.box.taken s taken_now j)
        ∙ sym (append_assoc (taken_along h.box.taken earlier) (h.box.taken s) (c ∷ []))
        ∙ ap (λ (changes : List Change). changes ++ (c ∷ [])) (sym (along_one_more h.box.taken earlier s)))

    taken_row : RowSafe (with_taken h.box s c)
    taken_row =
        let old = safe.box.row in
        record {
          rising = old.rising;
          below = old.below;
          last = old.last;
          along = settings_next fresh h.box.settings (taken_along h.box.taken h.box.since_restart) c old.along ∙ ap (settings_after fresh) (sym along_now);
        }

    -- no other office named the session
    first_now : (j t : ℕ) → NamedBy h.offices j t → Prefix (all_now t) ((h.offices j).issued t)
    first_now j =
        updated_each h.box.taken s taken_now (λ t taken. NamedBy h.offices j t → Prefix taken ((h.offices j).issued t))
        (λ m. subst (λ (n : ℕ). Prefix taken_now ((h.offices n).issued s)) (safe.apart i j s named m)
        (prefix_next (h.box.taken s) ((h.offices i).issued s) c (taken_first h l safe i s named) next))
        (λ t _. taken_first h l safe j t)

    taken_follows : ValidChange c → BoxFollows h l (with_taken h.box s c)
    taken_follows valid =
        record {
          box = record {
            bounded = safe.box.bounded;
            above = λ t above. updated_other h.box.taken s taken_now t (λ e. omega (arith, session_below s here)) ∙ safe.box.above t above;
            followed = λ t e. rw (taken_in t e) (settings_next (h.box.opened t) h.box.settings (h.box.taken t) c (safe.box.followed t e));
            row = taken_row;
            held = apply_held h.box.settings c valid safe.box.held;
          };
          stays = stays;
          prefix = first_now;
          untaken =
              updated_each h.box.taken s taken_now (λ t taken. (Memᴰ t l.named → ⊥) → taken ≡ [])
              (λ unnamed. absurd (unnamed ((safe.offices i).known s named))) (λ t _. safe.untaken t);
          own_office = safe.own_office;
          highest = let bounded = safe.box.bounded in omega (arith, safe.highest);
        }
      where
        stays : (f : Frame) → Reply h.box f → Reply (with_taken h.box s c) f
        stays _ (reply_welcome below settings) = reply_welcome below settings
        stays _ (reply_ack {s = t} {k = k} count) =
            reply_ack (updated_each h.box.taken s taken_now (λ t taken. k ≤ length (h.box.taken t) → k ≤ length taken)
            (λ before. omega (arith, length_one_more (h.box.taken s) c)) (λ _ _ before. before) t count)
        stays _ reply_refuse = reply_refuse

    taken_safe : (n : ℕ) → n ≡ length (h.box.taken s) + 1 → FitsSession s → ValidChange c →
        BoxTurnSafe h l (wrote (with_taken h.box s c) (ack s n))
    taken_safe n counted fits valid =
        box_wrote (with_taken h.box s c) (taken_follows valid) none (ack s n)
        (valid_ack fits (omega (arith, get_elem?_below ((h.offices i).issued s) (length (h.box.taken s)) c next, ((safe.offices i).sessions s).counted)))
        (reply_ack (rw (updated_same h.box.taken s taken_now) (omega (arith, length_one_more (h.box.taken s) c))))

  module _ (i s n : ℕ) (c : Change) (named : NamedBy h.offices i s) (fits : FitsSession s) (valid : ValidChange c) (issued : get_elem? ((h.offices i).issued s) (n - 1) ≡ some c) where
    order_safe : (session : Option ℕ) → h.box.session ≡ session → BoxTurnSafe h l (rule_order session h.box s n c)
    unfolding rule_order
    order_safe none _ = replied_refuse s 5 fits (omega arith) (omega arith)
    order_safe (some t) here =
        cond_both (eqb t s) _ _ (BoxTurnSafe h l)
        (λ own. cond_both (leb n (length (h.box.taken s))) _ _ (BoxTurnSafe h l) (λ _. replied_ack i s named fits)
        (λ _. cond_both (eqb n (length (h.box.taken s) + 1)) _ _ (BoxTurnSafe h l)
        (λ e. let next : n ≡ length (h.box.taken s) + 1 = eqb-true _ _ e in
        let before : n - 1 ≡ length (h.box.taken s) = omega arith in
        taken_safe i s c named (here ∙ ap {B = Option ℕ} some (eqb-true t s own)) (rw before at issued) n next fits valid)
        (λ _. replied_refuse s 7 fits (omega arith) (omega arith))))
        (λ _. replied_refuse s 6 fits (omega arith) (omega arith))

  -- ---- a frame in, which an office wrote

  read_safe : (f : Frame) → Valid f → Request h.offices f → BoxTurnSafe h l (rule_box_frame h.box (a_frame f))
  unfolding rule_box_frame
  read_safe _ (valid_welcome {s = s} {σ = σ} _ _) request = elim request [ ]
  read_safe _ (valid_ack {s = s} {k = k} _ _) request = elim request [ ]
  read_safe _ (valid_refuse {s = s} {r = r} _ _ _) request = elim request [ ]
  read_safe _ (valid_refuse_fault {s = s} {r = r} _ _ _) request = elim request [ ]
  read_safe _ (valid_opening fits) (request_opening {i = i} {s = s} named) = open_safe i s named fits
  read_safe _ (valid_order fits _ _ valid) (request_order {i = i} {s = s} {n = n} {c = c} named issued) =
      order_safe i s n c named fits valid issued h.box.session refl

  pub frame_safe : (bytes : List ℕ) → Memᴰ bytes l.from_offices → BoxTurnSafe h l (rule_box_frame h.box (decode Box bytes))
  frame_safe bytes m =
      let written = safe.requests bytes m in
      rw (decoded_at Box request_reader written) (read_safe written.frame written.valid written.holds)

  pub box_frame_safe : (bytes : List ℕ) (room : ℕ) → Memᴰ bytes l.from_offices →
      BoxTurnSafe h l (cond (ltb room frame_limit) (refused h.box 1) (rule_box_frame h.box (decode Box bytes)))
  box_frame_safe bytes room m =
      cond_both (ltb room frame_limit) _ _ (BoxTurnSafe h l) (λ _. box_kept (some (plain 1))) (λ _. frame_safe bytes m)
