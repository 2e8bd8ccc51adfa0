-- The loop of `exchange_all`: what one more byte adds to its output.
use Rattle.std.proofs.Common.{◌≡◌, ℕ, suc, ◌+◌, ◌<◌, List, [], ◌∷◌, ◌++◌, length, get_or, take, drop, set, sym, refl, ap, ◌∙◌, add-one, arith, length-take-le, drop-cons, take-suc}
use lib.Seq.{set-append_seam, append_snoc}
use Rattle.bus.specs.declared.Controller.{Controller}
use Rattle.bus.specs.Bus.{exchange}
use Rattle.bus.specs.Run.{run, outs}
use Rattle.bus.proofs.RunLaws.{outs_append}

outs_length : (l : List ℕ) (c : Controller) → length (outs c l) ≡ length l
unfolding outs
outs_length [] c = refl
outs_length (b ∷ bs) c = ap suc (outs_length bs (exchange c b).controller)

outs_more : (c : Controller) (l : List ℕ) (i : ℕ) → i < length l → outs c (take (i + 1) l) ≡ outs c (take i l) ++ (exchange (run c (take i l)) (get_or l i 0)).out ∷ []
unfolding outs
outs_more c l i h = rw (add-one, take-suc l i 0 h, outs_append (take i l) (get_or l i 0 ∷ []) c)

-- a store at the seam between what is written and what is not
store_next : (xs d : List ℕ) (i o : ℕ) → i ≡ length xs → i < length d → set (xs ++ drop i d) i o ≡ (xs ++ o ∷ []) ++ drop (i + 1) d
store_next xs d i o e h =
    rw (drop-cons d i 0 h, e, set-append_seam xs (get_or d (length xs) 0) (drop (suc (length xs)) d) o, add-one)
    (sym (append_snoc xs o (drop (suc (length xs)) d)))

pub sent_more : (c : Controller) (l d : List ℕ) (i : ℕ) → i < length l → i < length d →
    set (outs c (take i l) ++ drop i d) i (exchange (run c (take i l)) (get_or l i 0)).out ≡ outs c (take (i + 1) l) ++ drop (i + 1) d
sent_more c l d i h k =
    let passed : length (outs c (take i l)) ≡ i = outs_length (take i l) c ∙ length-take-le i l (omega arith) in
    rw (outs_more c l i h) (store_next (outs c (take i l)) d i (exchange (run c (take i l)) (get_or l i 0)).out (sym passed) k)
