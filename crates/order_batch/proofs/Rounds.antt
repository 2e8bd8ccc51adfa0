-- The loop over the orders of a batch: what is done, and what is left.
use Prim.Native.Nat.{ℕ, ◌+◌, ◌-◌, ◌<◌, ◌≤◌}
use native.Mathlib.Nat.{sub-add-eq}
use native.Mathlib.Numerals.{add-one}
use native.Mathlib.Omega.{arith}
use mathlib.Core.Path.{◌≡◌, refl, sym, ◌∙◌}
use mathlib.Core.Bool.{true}
use mathlib.Core.List.{List, [], ◌∷◌, foldl}
use mathlib.Core.Option.{Option, none, some}
use lib.ListN.{length, get_or, drop, take, drop_of_length-le}
use lib.Seq.{drop-cons, drop-drop}
use Rattle.std.specs.Prelude.{Result, Ok, Err}
use Rattle.base.specs.Refusal.{Told, told}
use Rattle.base.specs.declared.refusal.Refusal.{Refusal}
use Rattle.frame.specs.Frame.{Change}
use Rattle.frame.specs.View.{asked_as}
use Rattle.outcome.specs.declared.BatchOrder.{BatchOrder}
use Rattle.outcome.specs.Turn.{Turn}
use Rattle.outcome.specs.Batch.{batch_limit, changes, data_lengths, fits, Outcome, part_of, bytes_of_parts}
use Rattle.outcome.proofs.PartsLaws.{fits_next, fits_within}
use Rattle.session.specs.declared.Office.{Office}
use Rattle.session.specs.Office.{issue, extended_unless, issue_unless_refused, issue_next}
use Rattle.session.proofs.Tools.{length_one_more}
use Rattle.order_batch.specs.declared.Issued.{Issued}
use Rattle.order_batch.specs.View.{Holds, Ready, Goes, AllReady, AllGo}

-- ---- one order more is one part more at most, and behind a refused one none is issued

one_more_unless : (why : Option Told) (t : Outcome Office) (next : Turn Office) → length (extended_unless why t next).parts ≤ length t.parts + 1
one_more_unless none t next = omega (arith, length_one_more t.parts (part_of next))
one_more_unless (some told) t next = omega arith

one_more : (why : Option Told) (room : ℕ) (t : Outcome Office) (change : Change) → length (issue_unless_refused why room t change).parts ≤ length t.parts + 1
one_more none room t change =
    let next = issue t.state change (room - length (bytes_of_parts t.parts)) in
    one_more_unless next.refusal t next
one_more (some told) room t change = omega arith

stays_refused : (room : ℕ) (t : Outcome Office) (why : Told) (cs : List Change) → t.refusal ≡ some why → (foldl (issue_next room) t cs).refusal ≡ some why
stays_refused room t why [] e = e
stays_refused room t why (change ∷ cs) e =
    let still : issue_next room t change ≡ t = rw e in
    stays_refused room (issue_next room t change) why cs (rw still e)

-- ---- the orders that are left

-- from what t says, the orders so far lead to an outcome from which those left lead where all do
pub record Reached (room : ℕ) (whole : Outcome Office) (orders : List BatchOrder) (bytes : List ℕ) (s : Issued) (frames : List ℕ) : Type 0 where
  pub so_far : Outcome Office
  pub holds : Holds so_far s frames
  pub rest : foldl (issue_next room) so_far (changes orders (drop s.used bytes)) ≡ whole
  pub few : length so_far.parts + length orders ≤ batch_limit

module _ (first : Issued) (orders : List BatchOrder) (bytes before : List ℕ) where
  pub record Underway (s : Issued) (frames : List ℕ) (i : ℕ) : Type 0 where
    pub same : length frames ≡ length before
    pub few : i ≤ length orders
    pub ready : AllReady s (drop i orders) bytes frames
    pub reached : (t : Outcome Office) → length t.parts + length orders ≤ batch_limit → Holds t first before →
        Reached (length before) (foldl (issue_next (length before)) t (changes orders (drop first.used bytes))) (drop i orders) bytes s frames

  pub begun : AllReady first orders bytes before → Underway first before 0
  begun ready =
      record {
        same = refl;
        few = omega arith;
        ready = ready;
        reached = λ t few h. record { so_far = t; holds = h; rest = refl; few = few };
      }

  module _ {s : Issued} {frames : List ℕ} {i : ℕ} (u : Underway s frames i) where
    pub all_go : length orders ≤ i → AllGo first orders bytes (Ok tt) s before frames
    all_go over t few h =
        let at = u.reached t few h in
        let none_left = drop_of_length-le orders {i = i} over in
        let whole = rw none_left at at.rest in
        rw (← whole) at.holds

    module _ (d : BatchOrder) (h : i < length orders) where
      next : drop i orders ≡ get_or orders i d ∷ drop (i + 1) orders
      next = drop-cons orders i d h ∙ rw add-one

      data_left : ((get_or orders i d).len ≤ length bytes - s.used) × (fits (data_lengths (drop (i + 1) orders)) (length bytes - s.used - (get_or orders i d).len) ≡ true)
      data_left =
          let lengths = data_lengths (get_or orders i d ∷ drop (i + 1) orders) in
          let left = length bytes - s.used in
          let fit : fits lengths left ≡ true = rw next at u.ready.data_fit in
          let enough = fits_within lengths left 0 (omega arith) fit in
          (enough, sym (fits_next lengths left 0 (omega arith) enough) ∙ fit)

      pub ready : Ready s (get_or orders i d) bytes frames
      ready = record { data_within = omega (arith, data_left.0, u.ready.data_within); within = u.ready.within; short = u.ready.short }

      module _ {s' : Issued} {after : List ℕ} where
        pub one_further : Goes s (get_or orders i d) bytes (Ok tt) s' frames after → length after ≡ length frames → Underway s' after (i + 1)
        one_further goes same =
            record {
              same = same ∙ u.same;
              few = omega arith;
              ready =
                  record {
                    data_within = omega (arith, goes.moved.0, data_left.0, u.ready.data_within);
                    data_fit = rw (goes.moved.0, sub-add-eq) data_left.1;
                    within = goes.moved.1;
                    short = omega (arith, u.ready.short);
                  };
              reached = λ (t : Outcome Office) (few : length t.parts + length orders ≤ batch_limit) (h' : Holds t first before).
                  let at = rw next at (u.reached t few h') in
                  let change = asked_as (get_or orders i d).ask (take (get_or orders i d).len (drop s.used bytes)) in
                  record {
                    so_far = issue_next (length before) at.so_far change;
                    holds = rw (← u.same) (goes.leads at.so_far (omega (arith, at.few)) at.holds);
                    rest = rw (goes.moved.0, ← drop-drop (get_or orders i d).len s.used bytes) at.rest;
                    few = omega (arith, at.few, one_more at.so_far.refusal (length before) at.so_far change);
                  };
            }

        pub refused_all : (r : Result Unit Refusal) (why : Refusal) → r ≡ Err why → Goes s (get_or orders i d) bytes (Err why) s' frames after → AllGo first orders bytes r s' before after
        refused_all r why e goes t few h' =
            let at = rw next at (u.reached t few h') in
            let o = get_or orders i d in
            let after_it = issue_next (length before) at.so_far (asked_as o.ask (take o.len (drop s.used bytes))) in
            let over : after_it.refusal ≡ some (told why) = rw u.same at (goes.leads at.so_far (omega (arith, at.few)) at.holds) in
            rw (e, ← at.rest) (stays_refused (length before) after_it (told why) (changes (drop (i + 1) orders) (drop o.len (drop s.used bytes))) over)
