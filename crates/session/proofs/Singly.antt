-- A batch and a run are their parts done singly, proved.
use Prim.Native.Nat.{ℕ, suc, ◌-◌, ◌*◌, ◌<◌, ◌≤◌}
use native.Mathlib.Omega.{arith}
use mathlib.Core.Path.{◌≡◌, refl, sym, ap, ◌∙◌, subst}
use mathlib.Core.Bool.{true, false}
use mathlib.Core.List.{List, [], ◌∷◌, ◌++◌, map, append-nil}
use mathlib.Core.Option.{Option, none, some}
use lib.ListN.{length, drop, length-map}
use lib.Dec.{ltb}
use borrow.Author.Tests.{eqb-true, eq-eqb, ltb-false, le-ltb, lt-ltb}
use Rattle.base.specs.Refusal.{Told, plain}
use Rattle.std.proofs.lemmas.Bool.{cond_both}
use Rattle.frame.specs.Frame.{Change}
use Rattle.judging.specs.declared.End.TheVariants.{Box}
use Rattle.judging.specs.Decoding.{decode}
use Rattle.link.specs.View.{frame_limit, encoding_of}
use Rattle.outcome.specs.declared.BatchOrder.{BatchOrder}
use Rattle.session.specs.declared.Cab.{Cab}
use Rattle.session.specs.declared.Office.{Office}
use Rattle.outcome.specs.Batch.{batch_limit, cut, data_lengths, changes, fits, Outcome, part_of, alone, refused_whole}
use Rattle.session.specs.Box.{judged, frames_in}
use Rattle.session.specs.Calls.{BoxCall, issue, Answer, listed, reply_of, answer_of, state_after, answers, box_rules, office_rules}
use Rattle.session.specs.History.{or_else, last_state, first_refusal, after_turns, batch_unless}
use Rattle.session.specs.Office as office
use Rattle.session.specs.Singly.{issued_singly, given_singly, first_of, first_told, all_replies, SameAs, Fits, BatchesSingly, RunsSingly}
use Rattle.outcome.specs.Turn.{Turn, bytes_written}
use Rattle.session.proofs.Batches.{fits_sum, orders_singly, issue_each_singly, frames_judged, all_judged_singly}
use Rattle.session.proofs.BoxLaws.{frame_in_roomy, answer_short}

-- ---- turns, and the answers to single calls

abbrev answers_to : {A : Type 0} → List (Turn A) → List Answer
answers_to ts = map (λ t. answer_of (alone t)) ts

first_one : (m later : Option Told) → first_of (listed m ++ []) later ≡ or_else m later
first_one none later = refl
first_one (some told) later = refl

first_told_is : {A : Type 0} (ts : List (Turn A)) → first_told (answers_to ts) ≡ first_refusal ts
first_told_is [] = refl
first_told_is (t ∷ ts) = first_one t.refusal _ ∙ ap (or_else t.refusal) (first_told_is ts)

replies_are : {A : Type 0} (ts : List (Turn A)) → all_replies (answers_to ts) ≡ map reply_of (map part_of ts)
replies_are [] = refl
replies_are (t ∷ ts) = λ i. reply_of (part_of t) ∷ replies_are ts i

-- calls that give these turns, and leave this state
record Gives {A C : Type 0} (rules : A → C → Outcome A) (a : A) (calls : List C) (ts : List (Turn A)) (after : A) : Type 0 where
  answers_are : answers rules a calls ≡ answers_to ts
  state_is : state_after rules a calls ≡ after

same_as : {A C : Type 0} {rules : A → C → Outcome A} {a after : A} {calls : List C} {ts : List (Turn A)} → Gives rules a calls ts after →
    SameAs rules a calls (record { state = after; refusal = none; parts = map part_of ts })
same_as {ts = ts} g =
    record {
      same_state = sym g.state_is;
      same_answer = λ i. record { refusal = none; replies = (sym (replies_are ts) ∙ ap all_replies (sym g.answers_are)) i };
    }

-- ---- lengths

fitting : (lengths bytes : List ℕ) → ltb batch_limit (length lengths) ≡ false → fits lengths (length bytes) ≡ true → Fits lengths bytes
fitting lengths bytes few all =
    record { few = ltb-false batch_limit (length lengths) few; sums = eqb-true _ _ (sym (fits_sum lengths (length bytes)) ∙ all) }

fits_all : (lengths bytes : List ℕ) → Fits lengths bytes → fits lengths (length bytes) ≡ true
fits_all lengths bytes f = fits_sum lengths (length bytes) ∙ eq-eqb _ _ f.sums

-- ---- a batch of orders

orders_give : (cs : List Change) (o : Office) (room : ℕ) →
    let ts = orders_singly o cs room in
    Gives office_rules o (issued_singly o cs room) ts (last_state o ts)
orders_give [] o room = record { answers_are = refl; state_is = refl }
orders_give (c ∷ cs) o room =
    let t = office.issue o c room in
    let left = room - length (bytes_written t) in
    let ts = orders_singly t.state cs left in
    let later = orders_give cs t.state left in
    subst (λ (bytes : List ℕ). Gives office_rules o (issue c room ∷ issued_singly t.state cs (room - length bytes)) (t ∷ ts) (last_state t.state ts))
    (sym (append-nil (bytes_written t)))
    (record { answers_are = λ i. answer_of (alone t) ∷ later.answers_are i; state_is = later.state_is })

module _ (o : Office) (orders : List BatchOrder) (bytes : List ℕ) (room : ℕ) where
  abbrev turns : List (Turn Office)
  turns = orders_singly o (changes orders bytes) room

  batch_fits : Fits (data_lengths orders) bytes → office.issue_all o orders bytes room ≡ batch_unless (first_refusal turns) o turns
  unfolding office.issue_all
  batch_fits f =
      rw (le-ltb batch_limit (length orders) (subst (λ (n : ℕ). n ≤ batch_limit) (length-map orders _) f.few), fits_all (data_lengths orders) bytes f)
      (issue_each_singly o (changes orders bytes) room)

  batch_misfits : (Fits (data_lengths orders) bytes → ⊥) → office.issue_all o orders bytes room ≡ refused_whole o (plain 2)
  unfolding office.issue_all
  batch_misfits misfit =
      cond_both (ltb batch_limit (length orders)) _ _ (λ t. t ≡ refused_whole o (plain 2)) (λ _. refl)
      (λ few. cond_both (fits (data_lengths orders) (length bytes)) _ _ (λ t. t ≡ refused_whole o (plain 2))
      (λ all. absurd (misfit (fitting (data_lengths orders) bytes (ap (ltb batch_limit) (length-map orders _) ∙ few) all))) (λ _. refl))

pub batches_singly : BatchesSingly
batches_singly o orders bytes room =
    record {
      misfit = batch_misfits o orders bytes room;
      nothing = λ f told first. rw (batch_fits o orders bytes room f, sym first_is ∙ first);
      all = λ f none_refused. rw (batch_fits o orders bytes room f, sym first_is ∙ none_refused) (same_as together);
    }
  where
    ts : List (Turn Office)
    ts = orders_singly o (changes orders bytes) room

    together : Gives office_rules o (issued_singly o (changes orders bytes) room) ts (last_state o ts)
    together = orders_give (changes orders bytes) o room

    first_is : first_told (answers office_rules o (issued_singly o (changes orders bytes) room)) ≡ first_refusal ts
    first_is = ap first_told together.answers_are ∙ first_told_is ts

-- ---- a run of frames

-- the calls behind the first frame, given the answer u to it
abbrev calls_next : List (List ℕ) → ℕ → Turn Cab → List BoxCall
calls_next fs room u = given_singly u.state fs (room - length (encoding_of u.frame ++ []))

frames_give : (fs : List (List ℕ)) (c : Cab) (room : ℕ) → frame_limit * length fs ≤ room →
    let ts = frames_judged c fs in
    Gives box_rules c (given_singly c fs room) ts (last_state c ts)
frames_give [] c room enough = record { answers_are = refl; state_is = refl }
frames_give (f ∷ fs) c room enough =
    let t = judged c (decode Box f) in
    let ts = frames_judged t.state fs in
    let last = last_state t.state ts in
    let short = answer_short c (decode Box f) in
    let later = frames_give fs t.state (room - length (bytes_written t)) (omega arith) in
    let behind : Gives box_rules t.state (calls_next fs room t) ts last =
    subst (λ (bytes : List ℕ). Gives box_rules t.state (given_singly t.state fs (room - length bytes)) ts last) (sym (append-nil (bytes_written t))) later in
    let roomy = sym (frame_in_roomy c f room (omega arith)) in
    record {
      answers_are =
          subst (λ (u : Turn Cab). answer_of (alone u) ∷ answers box_rules u.state (calls_next fs room u) ≡ answer_of (alone t) ∷ answers_to ts) roomy
          (λ i. answer_of (alone t) ∷ behind.answers_are i);
      state_is = subst (λ (u : Turn Cab). state_after box_rules u.state (calls_next fs room u) ≡ last) roomy behind.state_is;
    }

module _ (c : Cab) (lengths bytes : List ℕ) (room : ℕ) where
  run_misfits : (Fits lengths bytes → ⊥) → frames_in c lengths bytes room ≡ refused_whole c (plain 2)
  unfolding frames_in
  run_misfits misfit =
      cond_both (ltb batch_limit (length lengths)) _ _ (λ t. t ≡ refused_whole c (plain 2)) (λ _. refl)
      (λ few. cond_both (fits lengths (length bytes)) _ _ (λ t. t ≡ refused_whole c (plain 2))
      (λ all. absurd (misfit (fitting lengths bytes few all))) (λ _. refl))

  run_short : Fits lengths bytes → room < frame_limit * length lengths → frames_in c lengths bytes room ≡ refused_whole c (plain 1)
  unfolding frames_in
  run_short f short = rw (le-ltb batch_limit (length lengths) f.few, fits_all lengths bytes f, lt-ltb room (frame_limit * length lengths) short)

  run_fits : Fits lengths bytes → frame_limit * length lengths ≤ room → frames_in c lengths bytes room ≡ after_turns c (frames_judged c (cut lengths bytes))
  unfolding frames_in
  run_fits f enough =
      rw (le-ltb batch_limit (length lengths) f.few, fits_all lengths bytes f, le-ltb room (frame_limit * length lengths) enough)
      (all_judged_singly c (cut lengths bytes))

cut_length : (lengths bytes : List ℕ) → length (cut lengths bytes) ≡ length lengths
cut_length [] bytes = refl
cut_length (n ∷ lengths) bytes = ap suc (cut_length lengths (drop n bytes))

pub runs_singly : RunsSingly
runs_singly c lengths bytes room =
    record {
      misfit = run_misfits c lengths bytes room;
      output_short = run_short c lengths bytes room;
      each = λ f enough. rw (run_fits c lengths bytes room f enough) (same_as (frames_give (cut lengths bytes) c room (rw (cut_length lengths bytes) enough)));
    }
