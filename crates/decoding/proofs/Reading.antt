-- The frame read, where no fault is told: its struct can hold it.
use Prim.Native.Nat.{ℕ}
use native.Mathlib.Omega.{arith}
use mathlib.Core.Path.{◌≡◌, refl}
use mathlib.Core.Bool.{false}
use mathlib.Core.List.{List}
use mathlib.Core.Option.{none, some}
use lib.ListN.{get_or}
use mir.Syntax.{w8}
use mir.Val.{Fits}
use Rattle.base.specs.Bytes.{Bytes}
use Rattle.base.specs.Refusal.{Fault}
use Rattle.frame.specs.declared.frame.Frame.{Frame as FrameStruct}
use Rattle.frame.specs.Frame.{Frame, opening, welcome, order, ack, refuse}
use Rattle.frame.specs.View.{frame_of, meaning}
use Rattle.frame.proofs.Laws.{meaning_frame_of}
use Rattle.link.specs.Steps.{frame_too_long}
use Rattle.link.proofs.FrameTheorems.{valid_short}
use Rattle.judging.specs.declared.End.{End}
use Rattle.judging.specs.Decoding.{a_fault, a_frame, fault_told, frame_in, decode}
use Rattle.judging.specs.View.{fault_in, frame_read}
use Rattle.judging.proofs.Exact.{decode_exact}
use Rattle.decoding.specs.Steps.{carried}

-- what a lent slice has
pub lent_bytes : (b : List ℕ) → ((i : ℕ) → Fits w8 (get_or b i 0)) → Bytes b
lent_bytes b h = λ i. omega (arith, h i)

carried_short : (f : Frame) → frame_too_long f ≡ false → carried f ≡ f
carried_short (opening s) e = refl
carried_short (welcome s σ) e = refl
carried_short (order s n c) e = rw e
carried_short (ack s k) e = refl
carried_short (refuse s r) e = refl

module _ (end : End) (b : List ℕ) where
  pub decode_fault : (f : Fault) → fault_told end b ≡ some f → decode end b ≡ a_fault f
  unfolding decode
  decode_fault f e = rw e

  module _ (bytes : Bytes b) (f : FrameStruct) (sound : fault_told end b ≡ none) (read : f ≡ frame_of (some (carried (frame_in b)))) where
    told : decode end b ≡ a_frame (frame_in b)
    unfolding decode
    told = rw sound

    held : carried (frame_in b) ≡ frame_in b
    held = carried_short (frame_in b) (valid_short (frame_in b) ((decode_exact end b bytes (frame_in b)).0 told).0)

    pub decode_sound : (none ≡ fault_in (decode end b)) × ((f ≡ frame_of (frame_read (decode end b))) × (meaning f ≡ frame_read (decode end b)))
    decode_sound =
        let whole : f ≡ frame_of (some (frame_in b)) = rw held at read in
        rw told (refl, (whole, rw whole (meaning_frame_of (some (frame_in b)))))
