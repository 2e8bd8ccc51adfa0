-- Laws of the exchange over a list of bytes.
use Prim.Native.Nat.{ℕ, ◌+◌, ◌<◌}
use mathlib.Core.Path.{◌≡◌, refl, ap}
use mathlib.Core.List.{List, [], ◌∷◌, ◌++◌}
use lib.ListN.{length, take, get_or}
use Rattle.std.proofs.lemmas.List.{take_more}
use Rattle.bus.specs.declared.Controller.{Controller}
use Rattle.bus.specs.Bus.{exchange}
use Rattle.bus.specs.Run.{run, outs}

pub run_append : (xs ys : List ℕ) (c : Controller) → run c (xs ++ ys) ≡ run (run c xs) ys
unfolding run
run_append [] ys c = refl
run_append (x ∷ xs) ys c = run_append xs ys (exchange c x).controller

pub outs_append : (xs ys : List ℕ) (c : Controller) → outs c (xs ++ ys) ≡ outs c xs ++ outs (run c xs) ys
unfolding run outs
outs_append [] ys c = refl
outs_append (x ∷ xs) ys c = ap (λ (l : List ℕ). (exchange c x).out ∷ l) (outs_append xs ys (exchange c x).controller)

-- one more byte, for a loop over a list
pub run_more : (c : Controller) (l : List ℕ) (i : ℕ) → i < length l → run c (take (i + 1) l) ≡ (exchange (run c (take i l)) (get_or l i 0)).controller
unfolding run
run_more c l i h = rw (take_more l i 0 h, run_append (take i l) (get_or l i 0 ∷ []) c)
