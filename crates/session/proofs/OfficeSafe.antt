-- Safety of a call at an office: the invariant holds after it.
use Prim.Native.Nat.{ℕ, ◌+◌, ◌-◌, ◌<◌, ◌≤◌}
use native.Mathlib.Omega.{arith}
use mathlib.Core.Path.{◌≡◌, refl, sym, ap, ◌∙◌, subst}
use mathlib.Core.Bool.{Bool, true, false, ◌&&◌, ◌||◌}
use mathlib.Core.List.{List, [], ◌∷◌, ◌++◌, Memᴰ}
use mathlib.Core.Logic.{◌⊎◌, inl, inr}
use mathlib.Core.Option.{Option, none, some, none-ne-some}
use lib.ListN.{length, get_elem?}
use lib.Dec.{eqb, leb, ltb}
use borrow.Author.Tests.{eqb-true, eqb-false, ltb-true, ltb-false}
use Rattle.base.proofs.Tests.{both_true}
use Rattle.std.proofs.lemmas.Bool.{cond_both as cond_cases}
use Rattle.settings.specs.declared.settings.Settings.{Settings}
use Rattle.frame.specs.Frame.{too_long, Change, command, raise, lower, ValidChange, valid_command, valid_raise, valid_lower, Frame, opening, welcome, order, ack, refuse}
use Rattle.link.specs.Encoding.{encode, Valid, valid_opening, valid_order}
use Rattle.judging.specs.declared.End.TheVariants.{Office}
use Rattle.judging.specs.Decoding.{a_frame, decode}
use Rattle.link.specs.View.{frame_limit}
use Rattle.session.specs.Limits.{window_limit, order_limit}
use Rattle.outcome.specs.Turn.{Turn, wrote}
use Rattle.outcome.specs.Batch.{Outcome, alone}
use Rattle.session.specs.Calls.{answer_of, refusals, updated, Log, named_unless, logged_at_office, FitsSession, FitsChange}
use Rattle.session.specs.History.{is_awaiting, is_live, BoxHistory, NamedBy, OfficeHistory, History, settings_after, orders, with_opening, with_welcome, with_issued, with_confirmed, with_end, unanswered, sent_again}
use Rattle.session.specs.History.{rule_opening, rule_issue, rule_resend, rule_reopen, rule_welcome, rule_ack, rule_refuse, rule_office_frame}
use Rattle.session.proofs.Alike.{cond_both}
use Rattle.session.proofs.Opening.{opening_now, now_known, now_sessions, now_keeps, now_new}
use Rattle.session.proofs.RuleTests.{welcome_heeded, ack_heeded}
use Rattle.session.proofs.Tools.{impossible, updated_same, updated_other, updated_each, updated_by_own, get_elem?_below, get_elem?_append, get_elem?_last, get_elem?_each, length_one_more}
use Rattle.session.proofs.Tools.{prefix_append, EachDecodes, decodes_weaker, decodes_one_more, decoded_at}
use Rattle.session.proofs.Invariant.{settings_next, Request, request_opening, request_order, Reply, SessionSafe, OfficeSafe, Safe, none_confirmed, opened_by, reply_reader}

fitting_valid : (c : Change) → FitsChange c → too_long c ≡ false → ValidChange c
fitting_valid (command k d) (byte, bytes) short = valid_command byte (ltb-false _ _ short) bytes
fitting_valid (raise n) fits _ = valid_raise fits
fitting_valid (lower n) fits _ = valid_lower fits

-- office i among the others
module _ (box : BoxHistory) (others : ℕ → OfficeHistory) (i : ℕ) where
  abbrev pub among : OfficeHistory → History
  among o = record { box = box; offices = updated others i o }

  abbrev pub OfficeOutcomeSafe : Log → Outcome OfficeHistory → Type 0
  OfficeOutcomeSafe l t = Safe (among t.state) (logged_at_office l (answer_of t) l.named)

  abbrev OfficeTurnSafe : Log → Turn OfficeHistory → Type 0
  OfficeTurnSafe l t = OfficeOutcomeSafe l (alone t)

  -- an opening names its session unless it is refused
  abbrev pub OpeningTurnSafe : Log → ℕ → Turn OfficeHistory → Type 0
  OpeningTurnSafe l s t =
      (refusals (answer_of (alone t)) ≡ [] → Memᴰ s l.named → ⊥) →
      Safe (among t.state) (logged_at_office l (answer_of (alone t)) (named_unless (refusals (answer_of (alone t))) s l.named))

  module _ (o : OfficeHistory) (l : Log) (safe : Safe (among o) l) where
    old : OfficeSafe o box l.named
    old = subst (λ (x : OfficeHistory). OfficeSafe x box l.named) (updated_same others i o) (safe.offices i)

    own_named : (s : ℕ) → Memᴰ s o.named → NamedBy (updated others i o) i s
    own_named s m = subst (λ (x : OfficeHistory). Memᴰ s x.named) (sym (updated_same others i o)) m

    -- what is asked of the office's next history, where `named` are the sessions that openings have then named: it keeps its own sessions, and adds none that was named before
    record OfficeFollows (named : List ℕ) (now : OfficeHistory) : Type 0 where
      office : OfficeSafe now box named
      all_named : (s : ℕ) → Memᴰ s l.named → Memᴰ s named
      keeps : (s : ℕ) → Memᴰ s o.named → Memᴰ s now.named
      adds_new : (s : ℕ) → Memᴰ s now.named → Memᴰ s l.named → Memᴰ s o.named
      issued_stay : (s n : ℕ) (c : Change) → get_elem? (o.issued s) n ≡ some c → get_elem? (now.issued s) n ≡ some c

    module _ (named : List ℕ) (now : OfficeHistory) (follows : OfficeFollows named now) where
      abbrev before : ℕ → OfficeHistory
      before = updated others i o

      abbrev after : ℕ → OfficeHistory
      after = updated others i now

      still_named : (j s : ℕ) → NamedBy before j s → NamedBy after j s
      still_named j s = cond_both (λ (x y : OfficeHistory). Memᴰ s x.named → Memᴰ s y.named) (eqb i j) (λ _. follows.keeps s) (λ _ m. m)

      named_before : (j s : ℕ) → Memᴰ s l.named → NamedBy after j s → NamedBy before j s
      named_before j s known =
          cond_both (λ (x y : OfficeHistory). Memᴰ s y.named → Memᴰ s x.named) (eqb i j) (λ _ m. follows.adds_new s m known) (λ _ m. m)

      still_issued : (j s n : ℕ) (c : Change) → get_elem? ((before j).issued s) n ≡ some c → get_elem? ((after j).issued s) n ≡ some c
      still_issued j s n c =
          cond_both (λ (x y : OfficeHistory). get_elem? (x.issued s) n ≡ some c → get_elem? (y.issued s) n ≡ some c) (eqb i j) (λ _. follows.issued_stay s n c) (λ _ e. e)

      requests_stay : (f : Frame) → Request before f → Request after f
      requests_stay _ (request_opening {i = j} {s = s} m) = request_opening {i = j} (still_named j s m)
      requests_stay _ (request_order {i = j} {s = s} {n = n} {c = c} m issued) = request_order {i = j} (still_named j s m) (still_issued j s (n - 1) c issued)

      -- a session that another office has was named before
      known_at : (j s : ℕ) → NamedBy after j s → (i ≡ j) ⊎ Memᴰ s l.named
      known_at j s = by_cases (eqb i j) refl
        where
          by_cases : (t : Bool) → eqb i j ≡ t → NamedBy after j s → (i ≡ j) ⊎ Memᴰ s l.named
          by_cases true e _ = inl (eqb-true i j e)
          by_cases false e m = inr ((safe.offices j).known s (rw e (rw e at m)))

      apart_now : (j k s : ℕ) → NamedBy after j s → NamedBy after k s → j ≡ k
      apart_now j k s m n = by_cases (known_at j s m) (known_at k s n)
        where
          one : Memᴰ s l.named → j ≡ k
          one known = safe.apart j k s (named_before j s known m) (named_before k s known n)

          by_cases : (i ≡ j) ⊎ Memᴰ s l.named → (i ≡ k) ⊎ Memᴰ s l.named → j ≡ k
          by_cases (inr known) _ = one known
          by_cases (inl e) (inr known) = one known
          by_cases (inl e) (inl f) = sym e ∙ f

      others_safe : (j : ℕ) → (i ≡ j → ⊥) → OfficeSafe (others j) box named
      others_safe j other =
          let kept : OfficeSafe (others j) box l.named = subst (λ (x : OfficeHistory). OfficeSafe x box l.named) (updated_other others i o j other) (safe.offices j) in
          record {
            fits = kept.fits;
            known = λ s m. follows.all_named s (kept.known s m);
            own = kept.own;
            sessions = kept.sessions;
            confirmed = kept.confirmed;
            while_awaiting = kept.while_awaiting;
            while_live = kept.while_live;
          }

      office_turn : (frames : List (List ℕ)) → EachDecodes (Request after) frames →
          Safe (among now) (record { from_box = l.from_box; from_offices = frames; named = named; highest = l.highest })
      office_turn frames requests =
          record {
            box = safe.box;
            offices = updated_each others i now (λ _ x. OfficeSafe x box named) follows.office others_safe;
            apart = apart_now;
            untaken = λ s unnamed. safe.untaken s (λ m. unnamed (follows.all_named s m));
            own_office = λ s m. let (j, own) = safe.own_office s m in (j, still_named j s own);
            highest = safe.highest;
            requests = requests;
            replies = safe.replies;
          }

    -- the same sessions named
    module _ (now : OfficeHistory) (office : OfficeSafe now box l.named) (same_named : now.named ≡ o.named)
        (issued_stay : (s n : ℕ) (c : Change) → get_elem? (o.issued s) n ≡ some c → get_elem? (now.issued s) n ≡ some c) where
      abbrev same_sessions : OfficeFollows l.named now
      same_sessions =
          record {
            office = office;
            all_named = λ _ m. m;
            keeps = λ s m. subst (Memᴰ s) (sym same_named) m;
            adds_new = λ s m _. subst (Memᴰ s) same_named m;
            issued_stay = issued_stay;
          }

      taken_in : Safe (among now) l
      taken_in = office_turn l.named now same_sessions l.from_offices (decodes_weaker _ _ safe.requests _ (requests_stay l.named now same_sessions))

      sent : (f : Frame) → Valid f → Request (updated others i now) f → OfficeTurnSafe l (wrote now f)
      sent f valid request =
          office_turn l.named now same_sessions (encode f ∷ l.from_offices)
          (decodes_one_more _ _ (decodes_weaker _ _ safe.requests _ (requests_stay l.named now same_sessions)) f valid request)

    sent_safe : (f : Frame) → Valid f → Request (updated others i o) f → OfficeTurnSafe l (wrote o f)
    sent_safe = sent o old refl (λ _ _ _ e. e)

    -- ---- a session is named: nothing was issued in it before, nor taken

    module _ (s : ℕ) (fits : FitsSession s) (new : Memᴰ s l.named → ⊥) where
      unnamed : Memᴰ s o.named → ⊥
      unnamed m = new (old.known s m)

      opening_follows : OfficeFollows (s ∷ l.named) (opening_now o s o.issued)
      opening_follows =
          record {
            office = record {
              fits = fits;
              known = now_known o s box l.named old;
              own = λ _. Memᴰ.head refl;
              sessions = now_sessions o s box l.named old (safe.untaken s new);
              confirmed = none_confirmed box s;
              while_awaiting = λ _. (old.sessions s).unnamed unnamed;
              while_live = impossible;
            };
            all_named = λ _ m. Memᴰ.tail m;
            keeps = now_keeps o s;
            adds_new = now_new o s l.named new;
            issued_stay = λ _ _ _ e. e;
          }

      named_safe : Safe (among (with_opening o s)) (logged_at_office l (answer_of (alone (wrote (with_opening o s) (opening s)))) (s ∷ l.named))
      named_safe =
          let now = opening_now o s o.issued in
          let named_now : NamedBy (updated others i now) i s = subst (λ (x : OfficeHistory). Memᴰ s x.named) (sym (updated_same others i now)) (Memᴰ.head refl) in
          let requests = decodes_weaker _ _ safe.requests _ (requests_stay (s ∷ l.named) now opening_follows) in
          subst (λ (issued : ℕ → List Change). Safe (among (opening_now o s issued)) (logged_at_office l (answer_of (alone (wrote (with_opening o s) (opening s)))) (s ∷ l.named)))
          (sym (updated_by_own o.issued s [] ((old.sessions s).unnamed unnamed)))
          (office_turn (s ∷ l.named) now opening_follows (encode (opening s) ∷ l.from_offices)
          (decodes_one_more _ _ requests (opening s) (valid_opening fits) (request_opening {i = i} named_now)))

    pub opening_safe : (s room : ℕ) → FitsSession s → OpeningTurnSafe l s (rule_opening o s room)
    unfolding rule_opening
    opening_safe s room fits =
        cond_cases (eqb s 0) _ _ (OpeningTurnSafe l s) (λ _ _. safe)
        (λ _. cond_cases (ltb room frame_limit) _ _ (OpeningTurnSafe l s) (λ _ _. safe) (λ _ new. named_safe s fits (new refl)))

    -- ---- a change is issued

    module _ (c : Change) (valid : ValidChange c) (room : length (orders o) < order_limit) (while_live : is_live o.stage ≡ true) where
      abbrev orders_now : List Change
      orders_now = orders o ++ (c ∷ [])

      abbrev issued_now : ℕ → List Change
      issued_now = updated o.issued o.session orders_now

      own_session : Memᴰ o.session o.named
      own_session = old.own (opened_by is_live refl o.stage while_live)

      still_there : (s n : ℕ) (d : Change) → get_elem? (o.issued s) n ≡ some d → get_elem? (issued_now s) n ≡ some d
      still_there s n d =
          updated_each o.issued o.session orders_now (λ t now. get_elem? (o.issued t) n ≡ some d → get_elem? now n ≡ some d)
          (λ e. get_elem?_append (orders o) (c ∷ []) n (get_elem?_below (orders o) n d e) ∙ e) (λ _ _ e. e) s

      session_issued : (s : ℕ) → SessionSafe s o.named (issued_now s) (box.taken s)
      session_issued =
          let before = old.sessions o.session in
          updated_each o.issued o.session orders_now (λ s now. SessionSafe s o.named now (box.taken s))
          (record {
            unnamed = λ unnamed. absurd (unnamed own_session);
            counted = omega (arith, length_one_more (orders o) c);
            valid = get_elem?_each ValidChange (orders o) c valid before.valid;
            prefix = λ m. prefix_append _ (orders o) (c ∷ []) (before.prefix m);
          })
          (λ s _. old.sessions s)

      now_orders : issued_now o.session ≡ orders_now
      now_orders = updated_same o.issued o.session orders_now

      issued_safe : OfficeTurnSafe l (wrote (with_issued o c) (order o.session (length (orders o) + 1) c))
      issued_safe =
          sent (with_issued o c) office_now refl still_there (order o.session (length (orders o) + 1) c)
          (valid_order old.fits (omega arith) (omega arith) valid) (request_order {i = i} named_now nth)
        where
          office_now : OfficeSafe (with_issued o c) box l.named
          office_now =
              let live = old.while_live while_live in
              record {
                fits = old.fits;
                known = old.known;
                own = λ _. own_session;
                sessions = session_issued;
                confirmed = old.confirmed;
                while_awaiting = impossible;
                while_live = λ _. record {
                  welcomed = live.welcomed;
                  reply = live.reply;
                  followed = settings_next live.welcomed o.settings (orders o) c live.followed ∙ ap (settings_after live.welcomed) (sym now_orders);
                };
              }

          named_now : NamedBy (updated others i (with_issued o c)) i o.session
          named_now = subst (λ (x : OfficeHistory). Memᴰ o.session x.named) (sym (updated_same others i (with_issued o c))) own_session

          nth : get_elem? ((updated others i (with_issued o c) i).issued o.session) (length (orders o) + 1 - 1) ≡ some c
          nth =
              let last : length (orders o) + 1 - 1 ≡ length (orders o) = omega arith in
              rw (updated_same others i (with_issued o c), now_orders, last) (get_elem?_last (orders o) c)

    pub issue_safe : (c : Change) (room : ℕ) → FitsChange c → OfficeTurnSafe l (rule_issue o c room)
    unfolding rule_issue
    issue_safe c room fits =
        cond_cases (is_live o.stage) _ _ (OfficeTurnSafe l)
        (λ while_live. cond_cases (ltb room frame_limit) _ _ (OfficeTurnSafe l) (λ _. safe)
        (λ _. cond_cases (too_long c) _ _ (OfficeTurnSafe l) (λ _. safe)
        (λ short. cond_cases (eqb (length (orders o)) order_limit) _ _ (OfficeTurnSafe l) (λ _. safe)
        (λ below. cond_cases (leb window_limit (length (orders o) - o.confirmed)) _ _ (OfficeTurnSafe l) (λ _. safe)
        (λ _. issued_safe c (fitting_valid c fits short) (omega (arith, eqb-false (length (orders o)) order_limit below, (old.sessions o.session).counted)) while_live)))))
        (λ _. safe)

    -- ---- a frame is sent again

    unanswered_order : (n : ℕ) (c : Change) → unanswered o n ≡ some c → (1 ≤ n) × (get_elem? (orders o) (n - 1) ≡ some c)
    unanswered_order n c =
        cond_cases (ltb o.confirmed n) _ _ (λ change. change ≡ some c → (1 ≤ n) × (get_elem? (orders o) (n - 1) ≡ some c))
        (λ above e. (omega (arith, ltb-true), e)) (λ _ e. absurd (none-ne-some c e))

    own_order : (n : ℕ) (c : Change) → Memᴰ o.session o.named → get_elem? (orders o) (n - 1) ≡ some c → Request (updated others i o) (order o.session n c)
    own_order n c m nth =
        request_order {i = i} (own_named o.session m) (subst (λ (x : OfficeHistory). get_elem? (x.issued o.session) (n - 1) ≡ some c) (sym (updated_same others i o)) nth)

    sent_again_safe : (change : Option Change) (n room : ℕ) → Memᴰ o.session o.named → unanswered o n ≡ change → OfficeTurnSafe l (sent_again change o n room)
    unfolding sent_again
    sent_again_safe none n room own _ = safe
    sent_again_safe (some c) n room own e =
        let (positive, nth) = unanswered_order n c e in
        let issued = old.sessions o.session in
        cond_cases (ltb room frame_limit) _ _ (OfficeTurnSafe l) (λ _. safe)
        (λ _. sent_safe (order o.session n c)
        (valid_order old.fits positive (omega (arith, get_elem?_below (orders o) (n - 1) c nth, issued.counted)) (issued.valid (n - 1) c nth))
        (own_order n c own nth))

    pub resend_safe : (n room : ℕ) → OfficeTurnSafe l (rule_resend o n room)
    unfolding rule_resend
    resend_safe n room =
        cond_cases (is_live o.stage) _ _ (OfficeTurnSafe l)
        (λ live. sent_again_safe (unanswered o n) n room (old.own (opened_by is_live refl o.stage live)) refl) (λ _. safe)

    pub reopen_safe : (room : ℕ) → OfficeTurnSafe l (rule_reopen o room)
    unfolding rule_reopen
    reopen_safe room =
        cond_cases (is_awaiting o.stage) _ _ (OfficeTurnSafe l)
        (λ waits. cond_cases (ltb room frame_limit) _ _ (OfficeTurnSafe l) (λ _. safe)
        (λ _. sent_safe (opening o.session) (valid_opening old.fits)
        (request_opening {i = i} (own_named o.session (old.own (opened_by is_awaiting refl o.stage waits))))))
        (λ _. safe)

    -- ---- a frame in, which the box wrote

    welcome_safe : (s : ℕ) (σ : Settings) → Reply box (welcome s σ) → Safe (among (rule_welcome o s σ)) l
    unfolding rule_welcome
    welcome_safe s σ reply =
        cond_cases (welcome_heeded o s) _ _ (λ x. Safe (among x) l)
        (λ both. let (waits, own) = both_true _ _ both in opened waits (rw (eqb-true s o.session own) at reply)) (λ _. safe)
      where
        welcomed_now : (ℕ → List Change) → OfficeHistory
        welcomed_now issued = record { stage = (with_welcome o σ).stage; session = o.session; settings = σ; confirmed = 0; issued = issued; named = o.named }

        opened : is_awaiting o.stage ≡ true → Reply box (welcome o.session σ) → Safe (among (with_welcome o σ)) l
        opened waits own_reply =
            let empty = old.while_awaiting waits in
            let office : OfficeSafe (welcomed_now o.issued) box l.named =
            record {
              fits = old.fits;
              known = old.known;
              own = λ _. old.own (opened_by is_awaiting refl o.stage waits);
              sessions = old.sessions;
              confirmed = none_confirmed box o.session;
              while_awaiting = impossible;
              while_live = λ _. record { welcomed = σ; reply = own_reply; followed = ap (settings_after σ) (sym empty) };
            } in
            subst (λ (issued : ℕ → List Change). Safe (among (welcomed_now issued)) l) (sym (updated_by_own o.issued o.session [] empty))
            (taken_in (welcomed_now o.issued) office refl (λ _ _ _ e. e))

    ack_safe : (s k : ℕ) → Reply box (ack s k) → Safe (among (rule_ack o s k)) l
    unfolding rule_ack
    ack_safe s k reply =
        cond_cases (ack_heeded o s k) _ _ (λ x. Safe (among x) l)
        (λ all. let (lives, own) = both_true _ _ (both_true _ _ (both_true _ _ all).0).0 in news lives (rw (eqb-true s o.session own) at reply)) (λ _. safe)
      where
        news : is_live o.stage ≡ true → Reply box (ack o.session k) → Safe (among (with_confirmed o k)) l
        news lives own_reply =
            taken_in (with_confirmed o k)
            (record {
              fits = old.fits;
              known = old.known;
              own = λ _. old.own (opened_by is_live refl o.stage lives);
              sessions = old.sessions;
              confirmed = own_reply;
              while_awaiting = impossible;
              while_live = λ _. old.while_live lives;
            }) refl (λ _ _ _ e. e)

    refuse_safe : (s r : ℕ) → Safe (among (rule_refuse o s r)) l
    unfolding rule_refuse
    refuse_safe s r =
        let g = o.stage in
        cond_cases ((is_awaiting g || is_live g) && eqb s o.session && (eqb r 5 || eqb r 6)) _ _ (λ x. Safe (among x) l)
        (λ all. ended (both_true _ _ (both_true _ _ all).0).0) (λ _. safe)
      where
        ended : is_awaiting o.stage || is_live o.stage ≡ true → Safe (among (with_end o)) l
        ended open_before =
            taken_in (with_end o)
            (record {
              fits = old.fits;
              known = old.known;
              own = λ _. old.own (opened_by (λ g. is_awaiting g || is_live g) refl o.stage open_before);
              sessions = old.sessions;
              confirmed = old.confirmed;
              while_awaiting = impossible;
              while_live = impossible;
            }) refl (λ _ _ _ e. e)

    read_safe : (f : Frame) → Reply box f → OfficeTurnSafe l (rule_office_frame o (a_frame f))
    unfolding rule_office_frame
    read_safe (opening _) reply = elim reply [ ]
    read_safe (order _ _ _) reply = elim reply [ ]
    read_safe (welcome s σ) reply = welcome_safe s σ reply
    read_safe (ack s k) reply = ack_safe s k reply
    read_safe (refuse s r) _ = refuse_safe s r

    pub office_frame_safe : (bytes : List ℕ) → Memᴰ bytes l.from_box → OfficeTurnSafe l (rule_office_frame o (decode Office bytes))
    office_frame_safe bytes m = let written = safe.replies bytes m in rw (decoded_at Office reply_reader written) (read_safe written.frame written.holds)
