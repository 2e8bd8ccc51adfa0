-- What a call with several parts gives: one refused as a whole, and the same beside another state.
use Rattle.std.proofs.Common.{ℕ, List, ap, refl}
use Rattle.base.specs.Refusal.{told}
use Rattle.base.specs.declared.refusal.Refusal.{Refusal}
use Rattle.outcome.specs.declared.BatchAnswered.{BatchAnswered}
use Rattle.outcome.specs.Batch.{Outcome, GivesParts, refused_whole, refused_answer}

pub gives_refused : {A : Type 0} (a : A) (why : Refusal) (out : List ℕ) → GivesParts (refused_whole a (told why)) (refused_answer a why) out out
gives_refused a why out = record { state_is = refl; refusal_is = refl; count_is = refl; parts_are = refl; output_is = refl }

pub gives_with_state : {A B : Type 0} (f : A → B) (t : Outcome A) (r : BatchAnswered A) (before after : List ℕ) → GivesParts t r before after →
    GivesParts (record { state = f t.state; refusal = t.refusal; parts = t.parts }) (record { state = f r.state; parts = r.parts }) before after
gives_with_state f t r before after given =
    record {
      state_is = ap f given.state_is;
      refusal_is = given.refusal_is;
      count_is = given.count_is;
      parts_are = given.parts_are;
      output_is = given.output_is;
    }
