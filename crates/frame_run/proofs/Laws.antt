-- A frame's answer behind what was written before it.
use Prim.Native.Nat.{ℕ, ◌+◌, ◌-◌, ◌≤◌}
use native.Mathlib.Omega.{arith}
use mathlib.Core.Path.{◌≡◌}
use mathlib.Core.List.{List, ◌++◌, append-nil}
use lib.ListN.{length, take, drop, length-drop, drop_of_length-le}
use lib.Seq.{take_all}
use Rattle.judging.specs.declared.End.TheVariants.{Box}
use Rattle.judging.specs.Decoding.{decode}
use Rattle.link.specs.View.{frame_limit}
use Rattle.session.specs.declared.Cab.{Cab}
use Rattle.session.specs.Box.{judged, frame_in}
use Rattle.session.proofs.BoxLaws.{frame_in_roomy, answer_short}
use Rattle.outcome.specs.declared.Answered.{Answered}
use Rattle.outcome.specs.Turn.{Gives}
use Rattle.frame_run.specs.View.{Follows}

-- what is behind the bytes written, as the code lends it
abbrev rest : List ℕ → ℕ → List ℕ
rest before written = take (length before - written) (drop written before)

-- a call with the rest of an output, which becomes `mid`
pub follows : (c : Cab) (bytes before mid : List ℕ) (written : ℕ) (r : Answered Cab) → frame_limit + written ≤ length before →
    Gives (frame_in c bytes (length (rest before written))) r (rest before written) mid →
    Follows (judged c (decode Box bytes)) r written before (take written before ++ (mid ++ drop (length before - written) (drop written before)))
follows c bytes before mid written r room gives =
    let size = length before - written in
    let long : length (drop written before) ≡ size = length-drop written before in
    let whole : rest before written ≡ drop written before = take_all size (drop written before) (omega arith) in
    let alone = rw (whole, frame_in_roomy c bytes (length (drop written before)) (omega arith)) at gives in
    record {
      state_is = alone.state_is;
      refusal_is = alone.refusal_is;
      length_is = alone.length_is;
      short = rw alone.length_is (answer_short c (decode Box bytes));
      output_is = rw (drop_of_length-le (drop written before) {i = size} (omega arith), append-nil, alone.output_is);
    }
