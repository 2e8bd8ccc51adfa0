-- A run of frames after the first i of them: what the code holds, and what is left to do.
use Prim.Native.Nat.{ℕ, ◌+◌, ◌-◌, ◌*◌, ◌<◌, ◌≤◌}
use native.Mathlib.Omega.{arith}
use native.Mathlib.Nat.{sub-zero}
use native.Mathlib.Numerals.{add-one}
use mathlib.Core.Path.{◌≡◌, refl, sym, ◌∙◌, ap}
use mathlib.Core.Bool.{true}
use mathlib.Core.List.{List, [], ◌∷◌, ◌++◌, foldl}
use mathlib.Core.Option.{none}
use lib.ListN.{length, get_or, take, drop, length-append, length-drop, drop_of_length-le}
use lib.Seq.{drop-cons, drop-drop}
use Rattle.base.specs.Lent.{overwritten}
use Rattle.std.specs.Prelude.{Ok}
use Rattle.judging.specs.declared.End.TheVariants.{Box}
use Rattle.judging.specs.Decoding.{decode}
use Rattle.link.specs.View.{frame_limit}
use Rattle.session.specs.declared.Cab.{Cab}
use Rattle.outcome.specs.Batch.{cut, fits, Part, Outcome, begun, extended, part_of, bytes_of_parts, no_parts, GivesParts}
use Rattle.session.specs.Box.{judged, judged_next, all_judged}
use Rattle.outcome.specs.Turn.{Turn, bytes_written}
use Rattle.session.proofs.Tools.{length_one_more}
use Rattle.outcome.proofs.PartsLaws.{fits_next, fits_within, Tells, none_tells, with_part_tells, bytes_one_more, overwritten_behind}
use Rattle.frame_run.specs.declared.Running.{Running}
use Rattle.frame_run.specs.View.{Roomy, Follows, Steps}

cut_next : (lengths bytes : List ℕ) (at i : ℕ) → i < length lengths →
    cut (drop i lengths) (drop at bytes) ≡ take (get_or lengths i 0) (drop at bytes) ∷ cut (drop (i + 1) lengths) (drop (at + get_or lengths i 0) bytes)
cut_next lengths bytes at i h = rw (drop-cons lengths i 0 h, drop-drop, add-one)

overwritten_length : (xs l : List ℕ) → length xs ≤ length l → length (overwritten xs l) ≡ length l
overwritten_length xs l h = rw (length-append, length-drop) (omega arith)

-- one answer more behind the earlier ones
output_next : (parts : List Part) (turn : Turn Cab) (before : List ℕ) {written : ℕ} {after after' : List ℕ} → written ≡ length (bytes_of_parts parts) →
    after ≡ overwritten (bytes_of_parts parts) before → after' ≡ take written after ++ overwritten (bytes_written turn) (drop written after) →
    after' ≡ overwritten (bytes_of_parts (parts ++ part_of turn ∷ [])) before
output_next parts turn before long earlier now = now ∙ rw (long, earlier, overwritten_behind, bytes_one_more)

pub record SoFar (c : Cab) (lengths bytes before after : List ℕ) (run : Running) (i : ℕ) : Type 0 where
  pub outcome : Outcome Cab
  pub left : foldl judged_next outcome (cut (drop i lengths) (drop run.at bytes)) ≡ all_judged c (cut lengths bytes)
  pub state_is : run.cab ≡ outcome.state
  pub refusal_is : none ≡ outcome.refusal
  pub tells : Tells run.parts outcome.parts
  pub count_is : length outcome.parts ≡ i
  pub written_is : run.written ≡ length (bytes_of_parts outcome.parts)
  pub output_is : after ≡ overwritten (bytes_of_parts outcome.parts) before
  pub same_length : length after ≡ length before
  pub few : i ≤ length lengths
  pub short : run.written ≤ frame_limit * i
  pub within : run.at ≤ length bytes
  pub fit : fits (drop i lengths) (length bytes - run.at) ≡ true
  pub roomy : Roomy lengths bytes before

module _ (c : Cab) (lengths bytes before : List ℕ) where
  pub so_far_none : Roomy lengths bytes before → SoFar c lengths bytes before before (record { cab = c; parts = no_parts; at = 0; written = 0 }) 0
  so_far_none roomy =
      record {
        outcome = begun c;
        left = refl;
        state_is = refl;
        refusal_is = refl;
        tells = none_tells;
        count_is = refl;
        written_is = refl;
        output_is = refl;
        same_length = refl;
        few = omega arith;
        short = omega arith;
        within = omega arith;
        fit = rw sub-zero roomy.fit;
        roomy = roomy;
      }

  module _ {after : List ℕ} {run : Running} {i : ℕ} (s : SoFar c lengths bytes before after run i) where
    pub so_far_all : length lengths ≤ i → GivesParts (all_judged c (cut lengths bytes)) (record { state = run.cab; parts = Ok run.parts }) before after
    so_far_all h =
        rw (← s.left, drop_of_length-le lengths h)
        (record {
          state_is = s.state_is;
          refusal_is = s.refusal_is;
          count_is = s.tells.count_is;
          parts_are = s.tells.parts_are;
          output_is = s.output_is;
        })

    module _ (h : i < length lengths) where
      next_length : get_or lengths i 0 ≤ length bytes - run.at
      next_length = fits_within lengths (length bytes - run.at) i h s.fit

      -- the next frame lies within the bytes, and there is room for its answer
      pub next_fits : (run.at + get_or lengths i 0 ≤ length bytes) × (frame_limit + run.written ≤ length after)
      next_fits = (omega (arith, next_length), omega (arith, s.roomy.room))

      pub so_far_next : {next : Running} {after' : List ℕ} → Steps run (get_or lengths i 0) bytes next after after' → SoFar c lengths bytes before after' next (i + 1)
      so_far_next {next} {after'} stepped =
          let n = get_or lengths i 0 in
          let earlier = s.outcome.parts in
          let turn = judged s.outcome.state (decode Box (take n (drop run.at bytes))) in
          let answer = stepped.answer in
          let follows : Follows turn answer run.written after after' = rw s.state_is at stepped.follows in
          let output = output_next earlier turn before s.written_is s.output_is follows.output_is in
          let long : next.written ≡ length (bytes_of_parts (earlier ++ part_of turn ∷ [])) =
          rw (bytes_one_more earlier (part_of turn), length-append, stepped.written_is, s.written_is, follows.length_is) in
          let rest : length bytes - (run.at + n) ≡ length bytes - run.at - n = omega arith in
          record {
            outcome = extended s.outcome turn;
            left = rw stepped.at_is (sym (ap (foldl judged_next s.outcome) (cut_next lengths bytes run.at i h)) ∙ s.left);
            state_is = stepped.state_is ∙ follows.state_is;
            refusal_is = s.refusal_is;
            tells = rw stepped.parts_are (with_part_tells run.parts earlier _ (part_of turn) s.tells (omega (arith, s.roomy.few)) (rw (follows.refusal_is, follows.length_is)));
            count_is = length_one_more earlier (part_of turn) ∙ rw s.count_is;
            written_is = long;
            output_is = output;
            same_length = rw output (overwritten_length (bytes_of_parts (earlier ++ part_of turn ∷ [])) before (omega (arith, s.roomy.room)));
            few = omega arith;
            short = omega arith;
            within = rw stepped.at_is next_fits.0;
            fit = rw (stepped.at_is, rest) (sym (fits_next lengths (length bytes - run.at) i h next_length) ∙ s.fit);
            roomy = s.roomy;
          }
