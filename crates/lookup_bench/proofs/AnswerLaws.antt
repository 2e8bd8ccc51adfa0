-- Both answers are one.
use Prim.Native.Nat.{ℕ}
use mathlib.Core.Bool.{Bool}
use lib.Dec.{T, eqb, eqb→eq}
use Rattle.base.proofs.Tests.{all_below, below_each}
use Rattle.bus.specs.Commands.{lookup}
use Rattle.lookup_bench.specs.Answer.{answer}
use Rattle.lookup_bench.specs.ByMatch.{match_id, row_matched, MatchAlike}

abbrev alike_at : ℕ → Bool
alike_at id = eqb (answer (row_matched id (match_id id))) (answer (lookup id))

alike_everywhere : T (all_below 128 alike_at)
unfolding all_below match_id lookup
alike_everywhere = tt

pub match_alike : MatchAlike
match_alike id h = eqb→eq _ _ (below_each 128 alike_at alike_everywhere id h)
