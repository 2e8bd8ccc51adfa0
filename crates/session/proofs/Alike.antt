-- Turns and outcomes of an end and of its history that are alike, and the tools that both refinements share.
use Prim.Native.Nat.{ℕ}
use mathlib.Core.Path.{◌≡◌, refl, sym}
use mathlib.Core.Bool.{Bool, true, false, cond, not, ◌&&◌, ◌||◌}
use mathlib.Core.List.{List, [], ◌∷◌, map}
use mathlib.Core.Option.{Option}
use lib.Dec.{eqb}
use borrow.Author.Tests.{eqb-true, eq-eqb}
use Rattle.base.specs.Refusal.{Told}
use Rattle.frame.specs.Frame.{Frame}
use Rattle.outcome.specs.Batch.{Outcome, alone, refused_whole}
use Rattle.session.specs.Calls.{reply_of, answer_of}
use Rattle.session.specs.History.{or_else, first_refusal, after_turns}
use Rattle.outcome.specs.Turn.{Turn}

pub record Alike {A B : Type 0} (R : A → B → Type 0) (t : Turn A) (u : Turn B) : Type 0 where
  pub states : R t.state u.state
  pub same_refusal : t.refusal ≡ u.refusal
  pub same_frame : t.frame ≡ u.frame

pub answered_alike : {A B : Type 0} {R : A → B → Type 0} {a : A} {b : B} {refusal : Option Told} {frame : Option Frame} → R a b →
    Alike R (record { state = a; refusal = refusal; frame = frame }) (record { state = b; refusal = refusal; frame = frame })
answered_alike related = record { states = related; same_refusal = refl; same_frame = refl }

pub record OutcomesAlike {A B : Type 0} (R : A → B → Type 0) (t : Outcome A) (u : Outcome B) : Type 0 where
  pub states : R t.state u.state
  pub same_refusal : t.refusal ≡ u.refusal
  pub same_parts : t.parts ≡ u.parts

pub alone_alike : {A B : Type 0} {R : A → B → Type 0} {t : Turn A} {u : Turn B} → Alike R t u → OutcomesAlike R (alone t) (alone u)
alone_alike a = record { states = a.states; same_refusal = refl; same_parts = λ i. record { refusal = a.same_refusal i; frame = a.same_frame i } ∷ [] }

pub refused_alike : {A B : Type 0} {R : A → B → Type 0} {a : A} {b : B} {told : Told} → R a b → OutcomesAlike R (refused_whole a told) (refused_whole b told)
refused_alike related = record { states = related; same_refusal = refl; same_parts = refl }

-- turns one after another, each like the other's
pub data AllAlike {A B : Type 0} (R : A → B → Type 0) : List (Turn A) → List (Turn B) → Type 0 where
  none_alike : AllAlike R [] []
  one_alike : {t : Turn A} {u : Turn B} {ts : List (Turn A)} {us : List (Turn B)} → Alike R t u → AllAlike R ts us → AllAlike R (t ∷ ts) (u ∷ us)

pub turns_alike : {A B : Type 0} (R : A → B → Type 0) {ts : List (Turn A)} {us : List (Turn B)} → AllAlike R ts us → (a : A) (b : B) → R a b →
    OutcomesAlike R (after_turns a ts) (after_turns b us)
turns_alike R none_alike a b related = record { states = related; same_refusal = refl; same_parts = refl }
turns_alike R (one_alike {t} {u} first rest) a b related =
    let later = turns_alike R rest t.state u.state first.states in
    record {
      states = later.states;
      same_refusal = refl;
      same_parts = λ i. record { refusal = first.same_refusal i; frame = first.same_frame i } ∷ later.same_parts i;
    }

pub first_refusals_alike : {A B : Type 0} (R : A → B → Type 0) {ts : List (Turn A)} {us : List (Turn B)} → AllAlike R ts us → first_refusal ts ≡ first_refusal us
first_refusals_alike R none_alike = refl
first_refusals_alike R (one_alike first rest) = λ i. or_else (first.same_refusal i) (first_refusals_alike R rest i)

pub same_answer : {A B : Type 0} (R : A → B → Type 0) (t : Outcome A) (u : Outcome B) → OutcomesAlike R t u → answer_of t ≡ answer_of u
same_answer R t u a = λ i. record { refusal = a.same_refusal i; replies = map reply_of (a.same_parts i) }

-- a relation between two choices by one test
pub cond_both : {A B : Type 0} (R : A → B → Type 0) (test : Bool) {a a' : A} {b b' : B} →
    (test ≡ true → R a b) → (test ≡ false → R a' b') → R (cond test a a') (cond test b b')
cond_both R true yes_case no_case = yes_case refl
cond_both R false yes_case no_case = no_case refl

-- a choice by two tests, one after the other
pub cond_and : {A : Type 0} (x y : Bool) (a b : A) → cond (x && y) a b ≡ cond x (cond y a b) b
cond_and true y a b = refl
cond_and false y a b = refl

pub cond_or_not : {A : Type 0} (x y : Bool) (a b : A) → cond (x || not y) a b ≡ cond x a (cond y b a)
cond_or_not true y a b = refl
cond_or_not false true a b = refl
cond_or_not false false a b = refl

-- tests of which each holds when the other does
pub same_test : (x y : Bool) → (x ≡ true → y ≡ true) → (y ≡ true → x ≡ true) → x ≡ y
same_test true y to from = sym (to refl)
same_test false true to from = from refl
same_test false false to from = refl

pub eqb_sym : (a b : ℕ) → eqb a b ≡ eqb b a
eqb_sym a b = same_test (eqb a b) (eqb b a) (λ e. eq-eqb b a (sym (eqb-true a b e))) (λ e. eq-eqb a b (sym (eqb-true b a e)))
