-- The box's answer to a frame: what it is where there is room for any, and how long it can be.
use Prim.Native.Nat.{ℕ, ◌-◌, ◌≤◌}
use mathlib.Core.Path.{◌≡◌, refl}
use mathlib.Core.List.{List}
use lib.ListN.{length}
use lib.Dec.{eqb, leb, ltb}
use borrow.Author.Tests.{le-ltb}
use Rattle.std.proofs.lemmas.Bool.{cond_both}
use Rattle.frame.specs.Frame.{Change, opening, welcome, order, ack, refuse}
use Rattle.judging.specs.declared.End.TheVariants.{Box}
use Rattle.judging.specs.Decoding.{Decoded, a_fault, a_frame, decode}
use Rattle.link.specs.View.{frame_limit}
use Rattle.link.proofs.FrameLaws.{encode_length}
use Rattle.session.specs.declared.Cab.{Cab}
use Rattle.session.specs.Box.{opened_again, opened, ordered_here, ordered, received, judged, frame_in}
use Rattle.outcome.specs.Turn.{Turn, bytes_written}

pub frame_in_roomy : (c : Cab) (bytes : List ℕ) (room : ℕ) → frame_limit ≤ room → frame_in c bytes room ≡ judged c (decode Box bytes)
unfolding frame_in
frame_in_roomy c bytes room h = rw (le-ltb room frame_limit h)

abbrev Short : Turn Cab → Type 0
Short t = length (bytes_written t) ≤ frame_limit

module _ (c : Cab) where
  opened_short : (s : ℕ) → Short (opened c s)
  unfolding opened opened_again
  opened_short s =
      cond_both (ltb c.highest.0 s) _ _ Short (λ _. encode_length (welcome _ _) refl)
      (λ _. cond_both c.active _ _ Short
      (λ _. cond_both (eqb s c.highest.0) _ _ Short
      (λ _. cond_both (eqb c.taken.0 0) _ _ Short (λ _. encode_length (welcome _ _) refl) (λ _. encode_length (ack _ _) refl)) (λ _. encode_length (refuse _ _) refl))
      (λ _. encode_length (refuse _ _) refl))

  ordered_short : (s n : ℕ) (change : Change) → Short (ordered c s n change)
  unfolding ordered ordered_here
  ordered_short s n change =
      cond_both c.active _ _ Short
      (λ _. cond_both (eqb s c.highest.0) _ _ Short
      (λ _. cond_both (leb n c.taken.0) _ _ Short (λ _. encode_length (ack _ _) refl)
      (λ _. cond_both (eqb (n - c.taken.0) 1) _ _ Short (λ _. encode_length (ack _ _) refl) (λ _. encode_length (refuse _ _) refl)))
      (λ _. encode_length (refuse _ _) refl))
      (λ _. encode_length (refuse _ _) refl)

  pub answer_short : (m : Decoded) → Short (judged c m)
  unfolding received
  answer_short (a_fault f) = encode_length (refuse _ _) refl
  answer_short (a_frame (opening s)) = opened_short s
  answer_short (a_frame (welcome s σ)) = encode_length (refuse _ _) refl
  answer_short (a_frame (order s n change)) = ordered_short s n change
  answer_short (a_frame (ack s k)) = encode_length (refuse _ _) refl
  answer_short (a_frame (refuse s r)) = encode_length (refuse _ _) refl
