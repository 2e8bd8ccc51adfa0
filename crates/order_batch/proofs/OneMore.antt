-- One order more: what the code did with it is what the definition says.
use Prim.Native.Nat.{ℕ, ◌+◌, ◌-◌, ◌<◌, ◌≤◌}
use native.Mathlib.Omega.{arith}
use mathlib.Core.Path.{◌≡◌, refl, sym, subst, ap, ◌∙◌}
use mathlib.Core.List.{List, ◌++◌, append_assoc}
use mathlib.Core.Option.{Option, none, some}
use lib.ListN.{length, take, drop, length-append, length-drop}
use lib.Seq.{length-take-le, take-append-add, take-append_seam}
use Rattle.std.specs.Prelude.{Result, Ok, Err}
use Rattle.base.specs.Refusal.{Told, told}
use Rattle.base.specs.declared.refusal.Refusal.{Refusal}
use Rattle.frame.specs.Frame.{Change}
use Rattle.frame.specs.View.{asked_as, refusal_of}
use Rattle.outcome.specs.declared.Answered.{Answered}
use Rattle.outcome.specs.declared.BatchOrder.{BatchOrder}
use Rattle.outcome.specs.Turn.{Gives, bytes_written}
use Rattle.outcome.specs.Batch.{batch_limit, Outcome, part_of, bytes_of_parts, with_part}
use Rattle.outcome.proofs.PartsLaws.{with_part_tells, bytes_one_more}
use Rattle.session.specs.declared.Office.{Office}
use Rattle.session.specs.Office.{issue, extended_unless, issue_next}
use Rattle.order_batch.specs.declared.Issued.{Issued}
use Rattle.order_batch.specs.View.{Behind, Holds, Goes}

-- ---- an order whose frame stands behind others

-- bytes behind others, from the front
take_behind : {w n : ℕ} (xs ys more rest : List ℕ) → length xs ≡ w → n ≡ length ys → take (w + n) (xs ++ (ys ++ more ++ rest)) ≡ xs ++ ys
take_behind xs ys more rest e f = rw (← e, f, take-append-add xs (ys ++ more ++ rest) (length ys), append_assoc, take-append_seam)

pub gives_behind : (o : Office) (change : Change) (next : Answered Office) (from : ℕ) (before part part' rest : List ℕ) →
    Gives (issue o change (length part)) next part part' → from ≤ length before → length part ≡ length before - from → length part' ≡ length part →
    Behind (issue o change (length before - from)) next from before (take from before ++ (part' ++ rest))
gives_behind o change next from before part part' rest given_part fits room same =
    let given = rw room at given_part in
    let bytes = bytes_written (issue o change (length before - from)) in
    record {
      state_is = given.state_is;
      refusal_is = given.refusal_is;
      length_is = given.length_is;
      within = omega (arith, given.length_is, ap length given.output_is, length-append bytes (drop (length bytes) part), length-drop (length bytes) part);
      bytes_are = rw given.output_is (take_behind (take from before) bytes (drop (length bytes) part) rest (length-take-le from before fits) given.length_is);
    }

-- ---- one order more

abbrev change_of : Issued → BatchOrder → List ℕ → Change
change_of s order bytes = asked_as order.ask (take order.len (drop s.used bytes))

abbrev after_one : Issued → BatchOrder → Answered Office → Issued
after_one s order next =
    record { office = next.state; parts = with_part s.parts (record { verdict = Ok tt; len = next.len }); used = s.used + order.len; written = s.written + next.len }

module _ {t : Outcome Office} {s : Issued} {before : List ℕ} (h : Holds t s before) (change : Change) where
  next_is : issue_next (length before) t change ≡ extended_unless (issue s.office change (length before - s.written)).refusal t (issue s.office change (length before - s.written))
  next_is =
      let written_is : s.written ≡ length (bytes_of_parts t.parts) = sym (length-take-le s.written before h.within) ∙ ap length h.bytes_are in
      rw (h.going, h.state_is, written_is)

module _ (s : Issued) (order : BatchOrder) (bytes before after : List ℕ) (next : Answered Office)
    (given : Behind (issue s.office (change_of s order bytes) (length before - s.written)) next s.written before after) where
  pub refused_goes : (r : Result Unit Refusal) (why : Refusal) → next.verdict ≡ Err why → r ≡ Err why → Goes s order bytes r s before after
  refused_goes r why refused e =
      let over : (issue s.office (change_of s order bytes) (length before - s.written)).refusal ≡ some (told why) = sym given.refusal_is ∙ ap refusal_of refused in
      rw e (record { moved = tt; leads = λ t few h. rw (next_is h (change_of s order bytes), over) })

  pub accepted_goes : (u : Unit) → next.verdict ≡ Ok u → length after ≡ length before → (s' : Issued) →
      s' ≡ after_one s order next →
      Goes s order bytes (Ok tt) s' before after
  accepted_goes u accepted same s' e =
      let turn = issue s.office (change_of s order bytes) (length before - s.written) in
      let going : turn.refusal ≡ none = sym given.refusal_is ∙ ap refusal_of accepted in
      rw e (record {
        moved = (refl, omega (arith, given.within));
        leads = λ (t : Outcome Office) (few : length t.parts < batch_limit) (h : Holds t s before).
            let tells = with_part_tells s.parts t.parts (record { verdict = Ok tt; len = next.len }) (part_of turn)
            (record { count_is = h.count_is; parts_are = h.parts_are }) few (λ i. record { refusal = sym going i; len = given.length_is i }) in
            rw (next_is h (change_of s order bytes)) (subst (λ (x : Option Told). Holds (extended_unless x t turn) (after_one s order next) after) (sym going) (record {
              going = h.going;
              state_is = given.state_is;
              count_is = tells.count_is;
              parts_are = tells.parts_are;
              within = omega (arith, given.within);
              bytes_are = given.bytes_are ∙ rw h.bytes_are (sym (bytes_one_more t.parts (part_of turn)));
            }));
      })
