-- Safety: the invariant holds after every call that is permitted.
use Prim.Native.Nat.{ℕ}
use mathlib.Core.Path.{refl, sym, subst}
use Rattle.session.specs.Calls.{BoxCall, restart, box_frame, box_frames, OfficeCall, open_session, issue, resend, reopen, office_frame, issue_all, Call, at_box, at_office}
use Rattle.session.specs.Calls.{answer_of, named_by, Log, logged_at_office, logged, PermittedAtBox, PermittedAtOffice, Permitted}
use Rattle.session.specs.History.{OfficeHistory, History, rules_at_box, rules_at_office, rules}
use Rattle.session.proofs.BatchSafe.{batch_safe, run_safe}
use Rattle.session.proofs.BoxSafe.{BoxOutcomeSafe, restart_safe, box_frame_safe}
use Rattle.session.proofs.Invariant.{Safe}
use Rattle.session.proofs.OfficeSafe.{among, opening_safe, issue_safe, resend_safe, reopen_safe, office_frame_safe}
use Rattle.session.proofs.Tools.{updated_by_own}

module _ (h : History) (l : Log) (safe : Safe h l) where
  box_safe : (c : BoxCall) → PermittedAtBox l c (answer_of (rules_at_box h.box c)) → BoxOutcomeSafe h l (rules_at_box h.box c)
  box_safe (restart told) permitted = restart_safe h l safe told permitted
  box_safe (box_frame bytes room) permitted = box_frame_safe h l safe bytes room permitted
  box_safe (box_frames lengths bytes room) permitted = run_safe h l safe lengths bytes room permitted

  module _ (i : ℕ) where
    abbrev o : OfficeHistory
    o = h.offices i

    -- office i stands among the others as it is
    safe_among : Safe (among h.box h.offices i o) l
    safe_among = subst (λ (offices : ℕ → OfficeHistory). Safe (record { box = h.box; offices = offices }) l) (sym (updated_by_own h.offices i o refl)) safe

    office_safe : (c : OfficeCall) → PermittedAtOffice l c (answer_of (rules_at_office o c)) →
        let t = rules_at_office o c in
        Safe (among h.box h.offices i t.state) (logged_at_office l (answer_of t) (named_by c (answer_of t) l.named))
    office_safe (open_session s room) (fits, new) = opening_safe h.box h.offices i o l safe_among s room fits new
    office_safe (issue c room) fits = issue_safe h.box h.offices i o l safe_among c room fits
    office_safe (resend n room) _ = resend_safe h.box h.offices i o l safe_among n room
    office_safe (reopen room) _ = reopen_safe h.box h.offices i o l safe_among room
    office_safe (office_frame bytes) permitted = office_frame_safe h.box h.offices i o l safe_among bytes permitted
    office_safe (issue_all orders bytes room) fits = batch_safe h.box h.offices i o l safe_among orders bytes room fits

  pub safe_step : (c : Call) → Permitted l c (answer_of (rules h c)) → Safe (rules h c).state (logged l c (answer_of (rules h c)) (rules h c).state.box.session)
  safe_step (at_box c) permitted = box_safe c permitted
  safe_step (at_office i c) permitted = office_safe i c permitted
