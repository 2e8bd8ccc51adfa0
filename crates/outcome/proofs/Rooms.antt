-- A call that is lent the front of an output: its contract over the whole of it.
use Rattle.std.proofs.Common.{◌≡◌, ◌∙◌, ℕ, ◌≤◌, List, ◌++◌, length, take, drop, ap, sym, arith, append_assoc, length-take-le, take-append-drop}
use Rattle.std.proofs.lemmas.List.{drop-append-le}
use Rattle.outcome.specs.declared.Answered.{Answered}
use Rattle.outcome.specs.Turn.{Turn, Gives, bytes_written}
use Rattle.base.specs.Lent.{overwritten}

-- the front of the output, written, and behind it the rest
overwritten_at_front : (b out : List ℕ) (n : ℕ) → n ≤ length out → length b ≤ n → overwritten b (take n out) ++ drop n out ≡ overwritten b out
overwritten_at_front b out n room short =
    let fits : length b ≤ length (take n out) = omega (arith, length-take-le n out room) in
    let rest : drop (length b) out ≡ drop (length b) (take n out) ++ drop n out =
    ap (drop (length b)) (sym (take-append-drop n out)) ∙ drop-append-le (length b) (take n out) (drop n out) fits in
    rw rest (append_assoc b (drop (length b) (take n out)) (drop n out))

pub gives_at_front : {A : Type 0} (t : Turn A) (r : Answered A) (n : ℕ) (out front : List ℕ) → n ≤ length out → length (bytes_written t) ≤ n →
    Gives t r (take n out) front → Gives t r out (front ++ drop n out)
gives_at_front t r n out front room short given =
    record {
      state_is = given.state_is;
      refusal_is = given.refusal_is;
      length_is = given.length_is;
      output_is = rw given.output_is (overwritten_at_front (bytes_written t) out n room short);
    }
