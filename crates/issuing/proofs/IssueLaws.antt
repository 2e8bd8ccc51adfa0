-- What is asked for as a change, and when issuing is not refused.
use mathlib.Core.Path.{◌≡◌, refl, sym, ap, ◌∙◌}
use mathlib.Core.Option.{Option, none, some, map}
use mathlib.Core.Bool.{false}
use Prim.Native.Nat.{ℕ, ◌+◌, ◌-◌, ◌≤◌}
use lib.Dec.{eqb, leb, ltb}
use borrow.Author.Tests.{ltb-false, eqb-false}
use Rattle.base.specs.Refusal.{plain}
use Rattle.std.proofs.lemmas.Bool.{cond_both}
use Rattle.frame.specs.Frame.{Change, too_long, order}
use Rattle.frame.specs.View.{asked, change_of}
use Rattle.frame.proofs.Laws.{asked_change_of}
use Rattle.frame.specs.declared.frame.Change.{Change as ChangeStruct}
use Rattle.link.specs.View.{frame_limit}
use Rattle.session.specs.declared.Office.{Office}
use Rattle.session.specs.Office.{is_live, with_order, issue_refusal, issue_unless, issue}
use Rattle.session.specs.Limits.{window_limit, order_limit}
use Rattle.office.proofs.Decided.{Decided, no, yes}

-- the change in its struct, as it was asked for
pub asked_back : (x : ChangeStruct) (c : Change) → x ≡ change_of c → (x ≡ change_of (asked x)) × (asked x ≡ c)
asked_back x c e =
    let back : asked x ≡ c = rw e (asked_change_of c) in
    (e ∙ ap change_of (sym back), back)

-- ---- the next order

abbrev pub Issuable : Office → Change → ℕ → Type 0
Issuable o change room = (o.issued.0 ≡ order_limit → ⊥) × (too_long change ≡ false) × (frame_limit ≤ room)

pub issue_decided : (o : Office) (change : Change) (room : ℕ) →
    Decided o (Issuable o change room) (with_order o change) (order o.session.0 (o.issued.0 + 1) change) (issue o change room)
unfolding issue issue_refusal
issue_decided o change room =
    let D : Option ℕ → Type 0 = λ why. Decided o (Issuable o change room) (with_order o change) (order o.session.0 (o.issued.0 + 1) change) (issue_unless why o change) in
    cond_both (is_live o.stage) _ _ D
    (λ _. cond_both (ltb room frame_limit) _ _ D (λ _. no)
    (λ fitting. cond_both (too_long change) _ _ D (λ _. no)
    (λ short. cond_both (eqb o.issued.0 order_limit) _ _ D (λ _. no)
    (λ left. cond_both (leb window_limit (o.issued.0 - o.confirmed.0)) _ _ D (λ _. no)
    (λ _. yes (eqb-false o.issued.0 order_limit left, short, ltb-false room frame_limit fitting))))))
    (λ _. no)

pub issue_refused : (o : Office) (change : Change) (room : ℕ) → map plain (issue_refusal o change room) ≡ (issue o change room).refusal
unfolding issue
issue_refused o change room = by (issue_refusal o change room)
  where
    by : (why : Option ℕ) → map plain why ≡ (issue_unless why o change).refusal
    by none = refl
    by (some number) = refl
