-- Laws of reading: a host's calls come to the bytes one by one, so that it does not matter how they are cut.
use Prim.Native.Nat.{ℕ, zero, suc, ◌+◌, ◌*◌, ◌<◌, ◌≤◌}
use native.Mathlib.Omega.{arith}
use mathlib.Core.Path.{◌≡◌, refl, sym, ap, ◌∙◌}
use mathlib.Core.Bool.{true, false, false≢true}
use lib.Dec.{eqb, leb, ltb}
use mathlib.Core.List.{List, [], ◌∷◌, ◌++◌, append_assoc, append-nil, flatten}
use lib.ListN.{length, take, drop, length-drop}
use Rattle.wrapping.specs.declared.Event.{Event}
use Rattle.wrapping.specs.declared.Event.TheVariants.{Nothing, Frame, Refused}
use Rattle.wrapping.specs.declared.Received.{Received}
use Rattle.wrapping.specs.declared.Receiver.{Receiver}
use Rattle.wrapping.specs.declared.Place.{Place}
use Rattle.wrapping.specs.declared.Place.TheVariants.{Tag, LengthLow, LengthHigh, Contents, Skipped}
use Rattle.wrapping.specs.Wrapping.{outer_tag, fits}
use Rattle.wrapping.specs.Receiver.{dropped_most, counted, at_tag, at_length, at_contents, step_at, step, is_nothing, after_more, receive}
use Rattle.wrapping.specs.Reading.{Handed, came_with, came, Reading, earlier, read, calls, given_all}
use Rattle.wrapping.specs.Theorems.{GivenReads, CutAnyhow, UpToEvent, TakesUpToEvent}
use Rattle.std.proofs.lemmas.Bool.{cond_both}
use Rattle.wrapping.proofs.ReceiverLaws.{either, step_takes}

earlier_twice : (xs ys : List Handed) (t : Reading) → earlier xs (earlier ys t) ≡ earlier (xs ++ ys) t
earlier_twice xs ys t = rw append_assoc

pub read_append : (r : Receiver) (xs ys : List ℕ) → read r (xs ++ ys) ≡ earlier (read r xs).handed (read (read r xs).receiver ys)
read_append r [] ys = refl
read_append r (x ∷ xs) ys = ap (earlier (came (step r x))) (read_append (step r x).receiver xs ys) ∙ earlier_twice (came (step r x)) (read (step r x).receiver xs).handed _

-- the count of dropped bytes never falls
counts_on : (place : Place) (r : Receiver) (byte : ℕ) → r.dropped ≤ (step_at place r byte).receiver.dropped
unfolding counted at_tag at_length at_contents
counts_on Tag r byte =
    either (λ (t : Received). r.dropped ≤ t.receiver.dropped) (eqb byte outer_tag) _ _ (omega arith)
    (cond_both (ltb r.dropped dropped_most) (r.dropped + 1) r.dropped (λ (n : ℕ). r.dropped ≤ n) (λ _. omega arith) (λ _. omega arith))
counts_on LengthLow r byte = omega arith
counts_on (LengthHigh low) r byte = either (λ (t : Received). r.dropped ≤ t.receiver.dropped) (fits (low + byte * 256)) _ _ (omega arith) (omega arith)
counts_on (Contents n filled) r byte = either (λ (t : Received). r.dropped ≤ t.receiver.dropped) (leb n (filled + 1)) _ _ (omega arith) (omega arith)
counts_on (Skipped left) r byte = omega arith

pub dropped_grows : (r : Receiver) (bytes : List ℕ) → r.dropped ≤ (read r bytes).receiver.dropped
dropped_grows r [] = omega arith
dropped_grows r (byte ∷ bytes) = omega (arith, counts_on r.place r byte, dropped_grows (step r byte).receiver bytes)

-- ---- one call

nothing_came : (e : Event) (r : Receiver) → is_nothing e ≡ true → came_with e r ≡ []
nothing_came Nothing r e = refl
nothing_came (Frame n) r e = absurd (false≢true e)
nothing_came (Refused fault) r e = absurd (false≢true e)

-- a call, and what is read behind it
pub receive_read : (r : Receiver) (bytes : List ℕ) → earlier (came (receive r bytes)) (read (receive r bytes).receiver (drop (receive r bytes).took bytes)) ≡ read r bytes
unfolding receive
receive_read r [] = refl
receive_read r (byte ∷ bytes) =
    let next = (step r byte).receiver in
    let more : 1 + (receive next bytes).took ≡ suc (receive next bytes).took = omega arith in
    cond_both (is_nothing (step r byte).event) (after_more 1 (receive next bytes)) (step r byte) (λ (t : Received). earlier (came t) (read t.receiver (drop t.took (byte ∷ bytes))) ≡ read r (byte ∷ bytes))
    (λ e. rw (more, nothing_came (step r byte).event next e) (receive_read next bytes))
    (λ _. rw (step_takes r byte))

takes_some : (r : Receiver) (byte : ℕ) (bytes : List ℕ) → 1 ≤ (receive r (byte ∷ bytes)).took
unfolding receive
takes_some r byte bytes =
    cond_both (is_nothing (step r byte).event) (after_more 1 (receive (step r byte).receiver bytes)) (step r byte) (λ (t : Received). 1 ≤ t.took)
    (λ _. omega arith) (λ _. rw (step_takes r byte) (omega arith))

something_came : (e : Event) (r : Receiver) → is_nothing e ≡ false → came_with e r ≡ [] → ⊥
something_came Nothing r e = λ _. false≢true (sym e)
something_came (Frame n) r e = λ none. let z : ◌≡◌ {A = ℕ} 0 1 = cc in omega arith
something_came (Refused fault) r e = λ none. let z : ◌≡◌ {A = ℕ} 0 1 = cc in omega arith

before_first : (r : Receiver) (bytes : List ℕ) (k : ℕ) → k < 1 → (read r (take k bytes)).handed ≡ []
before_first r bytes zero less = refl
before_first r bytes (suc k) less = absurd (omega arith)

before_next : (r : Receiver) (byte : ℕ) (bytes : List ℕ) (took : ℕ) → came (step r byte) ≡ [] → ((k : ℕ) → k < took → (read (step r byte).receiver (take k bytes)).handed ≡ []) →
    (k : ℕ) → k < 1 + took → (read r (take k (byte ∷ bytes))).handed ≡ []
before_next r byte bytes took quiet before zero less = refl
before_next r byte bytes took quiet before (suc k) less = rw quiet (before k (omega arith))

pub takes_up_to_event : TakesUpToEvent
unfolding receive
takes_up_to_event r [] = record { takes = refl; not_before = λ k less. absurd (omega arith); else_all = λ _. refl }
takes_up_to_event r (byte ∷ bytes) =
    let next = (step r byte).receiver in
    let later = takes_up_to_event next bytes in
    let one_more : 1 + (receive next bytes).took ≡ suc (receive next bytes).took = omega arith in
    cond_both (is_nothing (step r byte).event) (after_more 1 (receive next bytes)) (step r byte) (UpToEvent r (byte ∷ bytes))
    (λ e. let quiet = nothing_came (step r byte).event next e in record {
      takes = rw (one_more, quiet) later.takes;
      not_before = before_next r byte bytes _ quiet later.not_before;
      else_all = λ none. rw (one_more, later.else_all none);
    })
    (λ e. record {
      takes = rw (step_takes r byte, append-nil);
      not_before = λ k less. before_first r (byte ∷ bytes) k (rw (step_takes r byte) at less);
      else_all = λ none. absurd (something_came (step r byte).event next e none);
    })

-- ---- call after call

calls_read : (n : ℕ) (r : Receiver) (bytes : List ℕ) → length bytes ≤ n → calls n r bytes ≡ read r bytes
unfolding calls
calls_read zero r [] enough = refl
calls_read zero r (byte ∷ bytes) enough = absurd (omega arith)
calls_read (suc n) r [] enough = refl
calls_read (suc n) r (byte ∷ bytes) enough =
    let t = receive r (byte ∷ bytes) in
    let less : length (drop t.took (byte ∷ bytes)) ≤ n = simp length-drop (omega (arith, takes_some r byte bytes)) in
    ap (earlier (came t)) (calls_read n t.receiver (drop t.took (byte ∷ bytes)) less) ∙ receive_read r (byte ∷ bytes)

pub given_reads : GivenReads
given_reads r piece = calls_read (length piece) r piece (omega arith)

read_all : (r : Receiver) (pieces : List (List ℕ)) → given_all r pieces ≡ read r (flatten pieces)
unfolding flatten
read_all r [] = refl
read_all r (piece ∷ pieces) =
    rw (given_reads r piece, read_all (read r piece).receiver pieces) (sym (read_append r piece (flatten pieces)))

pub cut_anyhow : CutAnyhow
cut_anyhow r pieces = read_all r pieces ∙ sym (given_reads r (flatten pieces))
