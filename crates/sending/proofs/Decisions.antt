-- The rules' turns.
use Prim.Native.Nat.{ℕ, ◌≤◌}
use native.Mathlib.Omega.{arith}
use lib.Dec.{eqb, leb, ltb}
use borrow.Author.Tests.{ltb-true, ltb-false}
use Rattle.std.proofs.lemmas.Bool.{cond_both}
use Rattle.frame.specs.Frame.{opening}
use Rattle.link.specs.View.{frame_limit}
use Rattle.session.specs.declared.Office.{Office}
use Rattle.session.specs.Office.{is_awaiting, is_live, open_session, reopen, resend}
use Rattle.office.proofs.Decided.{Decided, no, yes}
use Rattle.sending.specs.View.{awaiting, kept_order}

pub open_decided : (o : Office) (s room : ℕ) → Decided o (frame_limit ≤ room) (awaiting s) (opening s) (open_session o s room)
unfolding open_session
open_decided o s room =
    let D = Decided o (frame_limit ≤ room) (awaiting s) (opening s) in
    cond_both (eqb s 0) _ _ D (λ _. no)
    (λ _. cond_both (ltb room frame_limit) _ _ D (λ _. no) (λ fitting. yes (ltb-false room frame_limit fitting)))

pub reopen_decided : (o : Office) (room : ℕ) → Decided o (frame_limit ≤ room) o (opening o.session.0) (reopen o room)
unfolding reopen
reopen_decided o room =
    let D = Decided o (frame_limit ≤ room) o (opening o.session.0) in
    cond_both (is_awaiting o.stage) _ _ D
    (λ _. cond_both (ltb room frame_limit) _ _ D (λ _. no) (λ fitting. yes (ltb-false room frame_limit fitting)))
    (λ _. no)

pub resend_decided : (o : Office) (n room : ℕ) → Decided o ((1 ≤ n) × (frame_limit ≤ room)) o (kept_order o n) (resend o n room)
unfolding resend
resend_decided o n room =
    let D = Decided o ((1 ≤ n) × (frame_limit ≤ room)) o (kept_order o n) in
    cond_both (is_live o.stage) _ _ D
    (λ _. cond_both (ltb o.confirmed.0 n) _ _ D
    (λ above. cond_both (leb n o.issued.0) _ _ D
    (λ _. cond_both (ltb room frame_limit) _ _ D (λ _. no)
    (λ fitting. yes (omega (arith, ltb-true o.confirmed.0 n above), ltb-false room frame_limit fitting)))
    (λ _. no))
    (λ _. no))
    (λ _. no)
