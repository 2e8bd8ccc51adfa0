-- Batches and runs of the ends, part by part from the front; and the test of lengths.
use Prim.Native.Nat.{ℕ, ◌+◌, ◌-◌}
use native.Mathlib.Omega.{arith}
use mathlib.Core.Path.{◌≡◌, refl, sym, ap, ◌∙◌, subst}
use mathlib.Core.Bool.{Bool, true, false, cond}
use mathlib.Core.List.{List, [], ◌∷◌, ◌++◌, map, foldl, foldr, append-nil, append_assoc}
use mathlib.Core.Option.{Option, none, some, none-ne-some}
use lib.ListN.{length, length-append}
use lib.Dec.{eqb, leb}
use borrow.Author.Tests.{eqb-true, eq-eqb, ne_eqb, leb-true, leb-false}
use Rattle.base.specs.Refusal.{Told}
use Rattle.frame.specs.Frame.{Change, Frame}
use Rattle.judging.specs.declared.End.TheVariants.{Box}
use Rattle.judging.specs.Decoding.{decode}
use Rattle.link.specs.View.{encoding_of}
use Rattle.session.specs.declared.Cab.{Cab}
use Rattle.session.specs.declared.Office.{Office}
use Rattle.outcome.specs.Batch.{fits, Part, Outcome, part_of, begun, refused_whole, bytes_of_parts}
use Rattle.session.specs.Box.{judged, judged_next, all_judged}
use Rattle.session.specs.History.{last_state, first_refusal, after_turns, batch_unless}
use Rattle.session.specs.Office.{issue, extended_unless, issue_next, all_or_none, issue_each}
use Rattle.outcome.specs.Turn.{Turn, bytes_written}
use Rattle.session.proofs.Alike.{same_test, eqb_sym}
use Rattle.outcome.proofs.PartsLaws.{bytes_one_more}

-- ---- lengths

pub fits_sum : (lengths : List ℕ) (left : ℕ) → fits lengths left ≡ eqb (foldr ◌+◌ 0 lengths) left
unfolding fits
fits_sum [] left = eqb_sym left 0
fits_sum (n ∷ lengths) left = by_cases (fits_sum lengths (left - n)) (leb n left) refl
  where
    by_cases : fits lengths (left - n) ≡ eqb (foldr ◌+◌ 0 lengths) (left - n) → (t : Bool) → leb n left ≡ t → cond t (fits lengths (left - n)) false ≡ eqb (n + foldr ◌+◌ 0 lengths) left
    by_cases later true e =
        let within = leb-true n left e in
        later ∙ same_test (eqb (foldr ◌+◌ 0 lengths) (left - n)) (eqb (n + foldr ◌+◌ 0 lengths) left)
        (λ h. eq-eqb (n + foldr ◌+◌ 0 lengths) left (omega (arith, eqb-true (foldr ◌+◌ 0 lengths) (left - n) h)))
        (λ h. eq-eqb (foldr ◌+◌ 0 lengths) (left - n) (omega (arith, eqb-true (n + foldr ◌+◌ 0 lengths) left h)))
    by_cases later false e = let beyond = leb-false n left e in sym (ne_eqb (n + foldr ◌+◌ 0 lengths) left (λ h. omega arith))

-- ---- a batch of orders

-- each order by itself, given the output that the earlier ones left
abbrev pub orders_singly : Office → List Change → ℕ → List (Turn Office)
orders_singly o [] room = []
orders_singly o (c ∷ cs) room = let t = issue o c room in t ∷ orders_singly t.state cs (room - length (bytes_written t))

module _ (room : ℕ) where
  refused_stays : (cs : List Change) (o : Office) (told : Told) → foldl (issue_next room) (refused_whole o told) cs ≡ refused_whole o told
  refused_stays [] o told = refl
  refused_stays (c ∷ cs) o told = refused_stays cs o told

  -- what a fold from the parts before comes to
  record Folded (o : Office) (parts : List Part) (ts : List (Turn Office)) (t : Outcome Office) : Type 0 where
    refusal_is : t.refusal ≡ first_refusal ts
    whole : first_refusal ts ≡ none → t ≡ record { state = last_state o ts; refusal = none; parts = parts ++ map part_of ts }

  folds : (cs : List Change) (o : Office) (parts : List Part) (left : ℕ) → left ≡ room - length (bytes_of_parts parts) →
      Folded o parts (orders_singly o cs left) (foldl (issue_next room) (record { state = o; refusal = none; parts = parts }) cs)
  folds [] o parts left e = record { refusal_is = refl; whole = λ _ i. record { state = o; refusal = none; parts = sym (append-nil parts) i } }
  folds (c ∷ cs) o parts left e =
      subst (λ (r : ℕ). Folded o parts (orders_singly o (c ∷ cs) left) (foldl (issue_next room) (extended_unless (issue o c r).refusal before (issue o c r)) cs)) e
      (step (issue o c left).state (issue o c left).refusal (issue o c left).frame (folds cs (issue o c left).state))
    where
      before : Outcome Office
      before = record { state = o; refusal = none; parts = parts }

      step : (s : Office) (refusal : Option Told) (frame : Option Frame) →
          let next : Turn Office = record { state = s; refusal = refusal; frame = frame } in
          ((ps : List Part) (r : ℕ) → r ≡ room - length (bytes_of_parts ps) →
          Folded s ps (orders_singly s cs r) (foldl (issue_next room) (record { state = s; refusal = none; parts = ps }) cs)) →
          Folded o parts (next ∷ orders_singly s cs (left - length (encoding_of frame))) (foldl (issue_next room) (extended_unless refusal before next) cs)
      step s none frame rest =
          let p : Part = record { refusal = none; frame = frame } in
          let less : left - length (encoding_of frame) ≡ room - length (bytes_of_parts (parts ++ (p ∷ []))) = rw (bytes_one_more parts p, length-append) (omega arith) in
          let later = rest (parts ++ (p ∷ [])) (left - length (encoding_of frame)) less in
          let ts = orders_singly s cs (left - length (encoding_of frame)) in
          record {
            refusal_is = later.refusal_is;
            whole = λ none_refused. later.whole none_refused ∙ (λ i. record { state = last_state s ts; refusal = none; parts = append_assoc parts (p ∷ []) (map part_of ts) i });
          }
      step s (some told) frame rest = record { refusal_is = ap (λ (t : Outcome Office). t.refusal) (refused_stays cs o told); whole = λ e. absurd (none-ne-some told (sym e)) }

pub issue_each_singly : (o : Office) (cs : List Change) (room : ℕ) →
    let ts = orders_singly o cs room in
    issue_each o cs room ≡ batch_unless (first_refusal ts) o ts
unfolding issue_each
issue_each_singly o cs room = by_refusal (first_refusal ts) refl
  where
    ts : List (Turn Office)
    ts = orders_singly o cs room

    t : Outcome Office
    t = foldl (issue_next room) (begun o) cs

    folded : Folded room o [] ts t
    folded = folds room cs o [] room (omega arith)

    by_refusal : (m : Option Told) → first_refusal ts ≡ m → all_or_none t.refusal o t ≡ batch_unless m o ts
    by_refusal none e = (λ i. all_or_none ((folded.refusal_is ∙ e) i) o t) ∙ folded.whole e
    by_refusal (some told) e = λ i. all_or_none ((folded.refusal_is ∙ e) i) o t

-- ---- a run of frames

-- each frame by itself
abbrev pub frames_judged : Cab → List (List ℕ) → List (Turn Cab)
frames_judged c [] = []
frames_judged c (f ∷ fs) = let t = judged c (decode Box f) in t ∷ frames_judged t.state fs

judges : (fs : List (List ℕ)) (c : Cab) (parts : List Part) →
    let ts = frames_judged c fs in
    foldl judged_next (record { state = c; refusal = none; parts = parts }) fs ≡ record { state = last_state c ts; refusal = none; parts = parts ++ map part_of ts }
judges [] c parts = λ i. record { state = c; refusal = none; parts = sym (append-nil parts) i }
judges (f ∷ fs) c parts =
    let t = judged c (decode Box f) in
    let ts = frames_judged t.state fs in
    judges fs t.state (parts ++ (part_of t ∷ [])) ∙ (λ i. record { state = last_state t.state ts; refusal = none; parts = append_assoc parts (part_of t ∷ []) (map part_of ts) i })

pub all_judged_singly : (c : Cab) (fs : List (List ℕ)) → all_judged c fs ≡ after_turns c (frames_judged c fs)
all_judged_singly c fs = judges fs c []
