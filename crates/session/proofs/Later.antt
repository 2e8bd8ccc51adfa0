-- How the box's history goes on: the open session rises, and a closed one stays closed and takes no further order.
use Prim.Native.Nat.{ℕ, ◌+◌, ◌*◌, ◌≤◌}
use native.Mathlib.Omega.{arith}
use mathlib.Core.Path.{◌≡◌, refl, ap, ◌∙◌}
use mathlib.Core.Bool.{true}
use mathlib.Core.List.{List, [], ◌∷◌, ◌++◌}
use mathlib.Core.Option.{Option, none, some, get_or, some-injective, none-ne-some}
use lib.ListN.{length}
use lib.Dec.{eqb, leb, ltb}
use borrow.Author.Tests.{eqb-true, ltb-true}
use Rattle.std.proofs.lemmas.Bool.{cond_both}
use Rattle.frame.specs.Frame.{Change, opening, welcome, order, ack, refuse}
use Rattle.judging.specs.declared.End.TheVariants.{Box}
use Rattle.judging.specs.Decoding.{Decoded, a_fault, a_frame, decode}
use Rattle.link.specs.View.{frame_limit}
use Rattle.outcome.specs.Batch.{cut, Outcome}
use Rattle.outcome.specs.Turn.{Turn}
use Rattle.session.specs.Calls.{BoxCall, restart, box_frame, box_frames}
use Rattle.session.specs.History.{BoxHistory, Closed, with_session, with_taken, is_open, rule_open, rule_order, rule_box_frame, misfit, last_state, frames_singly, rule_box_frames, rules_at_box}
use Rattle.session.proofs.RuleTests.{is_higher}
use Rattle.session.proofs.Tools.{updated_other}

-- the sessions that are closed in b take no further order
abbrev pub Still : BoxHistory → BoxHistory → Type 0
Still b after = (s : ℕ) → Closed b s → Closed after s × (after.taken s ≡ b.taken s)

pub still_kept : (b : BoxHistory) → Still b b
still_kept b s closed = (closed, refl)

pub still_then : (a b c : BoxHistory) → Still a b → Still b c → Still a c
still_then a b c first second s closed =
    let (now, same) = first s closed in
    let (then, later) = second s now in
    (then, later ∙ same)

-- no frame closes the open session but by a higher one
pub record Later (b after : BoxHistory) : Type 0 where
  pub bounded : get_or after.session 0 ≤ after.highest
  pub rises : get_or b.session 0 ≤ get_or after.session 0
  pub still : Still b after

abbrev LaterTurn : BoxHistory → Turn BoxHistory → Type 0
LaterTurn b t = Later b t.state

module _ (b : BoxHistory) (bounded : get_or b.session 0 ≤ b.highest) where
  kept : Later b b
  kept = record { bounded = bounded; rises = omega arith; still = still_kept b }

  opened_later : (s : ℕ) → ltb b.highest s ≡ true → Later b (with_session b s)
  opened_later s e =
      let above = ltb-true b.highest s e in
      record {
        bounded = omega arith;
        rises = omega arith;
        still = λ t closed. let below = closed.0 in
            let other : s ≡ t → ⊥ = λ e. omega arith in
            ((omega arith, λ here. other (some-injective s t here)), updated_other b.taken s [] t other);
      }

  taken_later : (s : ℕ) (c : Change) → b.session ≡ some s → Later b (with_taken b s c)
  taken_later s c here =
      record {
        bounded = bounded;
        rises = omega arith;
        still = λ t closed. (closed, updated_other b.taken s (b.taken s ++ (c ∷ [])) t (λ e. closed.1 (here ∙ ap {B = Option ℕ} some e)));
      }

  open_later : (s : ℕ) → LaterTurn b (rule_open b s)
  unfolding rule_open
  open_later s =
      cond_both (is_higher b s) _ _ (LaterTurn b) (opened_later s)
      (λ _. cond_both (is_open b.session s) _ _ (LaterTurn b)
      (λ _. cond_both (eqb (length (b.taken s)) 0) _ _ (LaterTurn b) (λ _. kept) (λ _. kept)) (λ _. kept))

  order_later : (session : Option ℕ) → b.session ≡ session → (s n : ℕ) (c : Change) → LaterTurn b (rule_order session b s n c)
  unfolding rule_order
  order_later none _ s n c = kept
  order_later (some t) here s n c =
      cond_both (eqb t s) _ _ (LaterTurn b)
      (λ own. cond_both (leb n (length (b.taken s))) _ _ (LaterTurn b) (λ _. kept)
      (λ _. cond_both (eqb n (length (b.taken s) + 1)) _ _ (LaterTurn b)
      (λ _. taken_later s c (here ∙ ap {B = Option ℕ} some (eqb-true t s own))) (λ _. kept)))
      (λ _. kept)

  pub frame_later : (m : Decoded) → Later b (rule_box_frame b m).state
  unfolding rule_box_frame
  frame_later (a_fault f) = kept
  frame_later (a_frame (opening s)) = open_later s
  frame_later (a_frame (welcome s σ)) = kept
  frame_later (a_frame (order s n c)) = order_later b.session refl s n c
  frame_later (a_frame (ack s k)) = kept
  frame_later (a_frame (refuse s r)) = kept

-- ---- every call

frames_later : (fs : List (List ℕ)) (b : BoxHistory) → get_or b.session 0 ≤ b.highest → Later b (last_state b (frames_singly b fs))
frames_later [] b bounded = kept b bounded
frames_later (f ∷ fs) b bounded =
    let one = frame_later b bounded (decode Box f) in
    let next = (rule_box_frame b (decode Box f)).state in
    let rest = frames_later fs next one.bounded in
    record {
      bounded = rest.bounded;
      rises = omega (arith, one.rises, rest.rises);
      still = still_then b next (last_state next (frames_singly next fs)) one.still rest.still;
    }

pub run_rises : (fs : List (List ℕ)) (b : BoxHistory) → get_or b.session 0 ≤ b.highest →
    get_or b.session 0 ≤ get_or (last_state b (frames_singly b fs)).session 0
run_rises fs b bounded = (frames_later fs b bounded).rises

-- a restart is told the highest session
abbrev pub RightlyTold : BoxHistory → BoxCall → Type 0
RightlyTold b (restart told) = told ≡ b.highest
RightlyTold b (box_frame bytes room) = Unit {0}
RightlyTold b (box_frames lengths bytes room) = Unit {0}

pub still_after : (b : BoxHistory) → get_or b.session 0 ≤ b.highest → (c : BoxCall) → RightlyTold b c → Still b (rules_at_box b c).state
unfolding rule_box_frames
still_after b bounded (restart told) right =
    λ s closed. let below = closed.0 in ((omega (arith, right), λ here. none-ne-some s here), refl)
still_after b bounded (box_frame bytes room) _ =
    cond_both (ltb room frame_limit) _ _ (λ (t : Turn BoxHistory). Still b t.state) (λ _. still_kept b) (λ _. (frame_later b bounded (decode Box bytes)).still)
still_after b bounded (box_frames lengths bytes room) _ =
    cond_both (misfit lengths bytes) _ _ (λ (t : Outcome BoxHistory). Still b t.state) (λ _. still_kept b)
    (λ _. cond_both (ltb room (frame_limit * length lengths)) _ _ (λ (t : Outcome BoxHistory). Still b t.state) (λ _. still_kept b)
    (λ _. (frames_later (cut lengths bytes) b bounded).still))
