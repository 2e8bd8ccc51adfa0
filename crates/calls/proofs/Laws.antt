-- What a call at one end did is what it did at both.
use Prim.Native.Nat.{ℕ}
use mathlib.Core.Path.{◌≡◌, refl, sym, ap}
use mathlib.Core.List.{List, [], ◌∷◌, append-nil}
use mathlib.Core.Option.{none}
use Rattle.std.specs.Prelude.{Result, Ok, Err}
use Rattle.base.specs.declared.refusal.Refusal.{Refusal}
use Rattle.frame.specs.Frame.{opening, welcome, order, ack, refuse}
use Rattle.frame.specs.View.{refusal_of}
use Rattle.judging.specs.declared.End.TheVariants.{Office as AtOffice}
use Rattle.judging.specs.Decoding.{Decoded, a_fault, a_frame, decode}
use Rattle.outcome.specs.declared.Answered.{Answered}
use Rattle.outcome.specs.Batch.{part_of, alone}
use Rattle.outcome.specs.Turn.{Turn, silent, Gives}
use Rattle.session.specs.declared.Cab.{Cab}
use Rattle.session.specs.declared.Pair.{Pair}
use Rattle.session.specs.declared.Office.{Office}
use Rattle.session.specs.OneOffice.{at_cab, at_its_office}
use Rattle.session.specs.Office.{received, judged, frame_in}
use Rattle.receiving.specs.View.{Takes}
use Rattle.calls.specs.View.{Runs}

-- the office writes nothing to a frame in
no_frame : (o : Office) (m : Decoded) → (judged o m).frame ≡ none
unfolding received
no_frame o (a_fault f) = refl
no_frame o (a_frame (opening s)) = refl
no_frame o (a_frame (welcome s σ)) = refl
no_frame o (a_frame (order s n change)) = refl
no_frame o (a_frame (ack s k)) = refl
no_frame o (a_frame (refuse s why)) = refl

-- a single call's turn
single_runs : {A : Type 0} (t : Turn A) (r : Answered A) (ends : A → Pair) (before after : List ℕ) → Gives t r before after →
    Runs (record { state = ends t.state; refusal = none; parts = part_of t ∷ [] }) (record { state = ends r.state; verdict = r.verdict; len = r.len }) before after
single_runs t r ends before after given =
    record {
      state_is = ap ends given.state_is;
      whole_is = refl;
      part_is = λ i. record { refusal = sym given.refusal_is i; len = sym given.length_is i } ∷ [];
      output_is = rw append-nil given.output_is;
    }

module _ (p : Pair) (r : Answered Pair) where
  pub cab_runs : (t : Turn Cab) (done : Answered Cab) (before after : List ℕ) → Gives t done before after →
      r ≡ record { state = record p { cab = done.state }; verdict = done.verdict; len = done.len } → Runs (at_cab p (alone t)) r before after
  cab_runs t done before after given made = rw made (single_runs t done (λ c. record p { cab = c }) before after given)

  pub office_runs : (t : Turn Office) (done : Answered Office) (before after : List ℕ) → Gives t done before after →
      r ≡ record { state = record p { office = done.state }; verdict = done.verdict; len = done.len } → Runs (at_its_office p (alone t)) r before after
  office_runs t done before after given made = rw made (single_runs t done (λ o. record p { office = o }) before after given)

  -- no output is used
  pub restart_runs : (c : Cab) (out : List ℕ) → r ≡ record { state = record p { cab = c }; verdict = Ok tt; len = 0 } → Runs (at_cab p (alone (silent c))) r out out
  restart_runs c out made = rw made (record { state_is = refl; whole_is = refl; part_is = refl; output_is = refl })

  frame_runs : (bytes : List ℕ) (o : Office) (verdict : Result Unit Refusal) (out : List ℕ) → o ≡ (frame_in p.office bytes).state →
      refusal_of verdict ≡ (frame_in p.office bytes).refusal → r ≡ record { state = record p { office = o }; verdict = verdict; len = 0 } →
      Runs (at_its_office p (alone (frame_in p.office bytes))) r out out
  frame_runs bytes o verdict out state_is refusal_is made =
      rw (made, no_frame p.office (decode AtOffice bytes)) (record {
        state_is = ap (λ (x : Office). record p { office = x }) state_is;
        whole_is = refl;
        part_is = λ i. record { refusal = sym refusal_is i; len = 0 } ∷ [];
        output_is = refl;
      })

  pub taken_runs : (bytes : List ℕ) (o : Office) (found : Result Office Refusal) (out : List ℕ) → Takes (frame_in p.office bytes) p.office found → found ≡ Ok o →
      r ≡ record { state = record p { office = o }; verdict = Ok tt; len = 0 } → Runs (at_its_office p (alone (frame_in p.office bytes))) r out out
  taken_runs bytes o found out given e made =
      let takes = rw e at given in
      frame_runs bytes o (Ok tt) out takes.state_is takes.refusal_is made

  pub refused_runs : (bytes : List ℕ) (why : Refusal) (found : Result Office Refusal) (out : List ℕ) → Takes (frame_in p.office bytes) p.office found → found ≡ Err why →
      r ≡ record { state = p; verdict = Err why; len = 0 } → Runs (at_its_office p (alone (frame_in p.office bytes))) r out out
  refused_runs bytes why found out given e made =
      let takes = rw e at given in
      frame_runs bytes p.office (Err why) out takes.state_is takes.refusal_is made
