-- A call that is refused, or writes a frame: its contract from the refusal found and from what was done.
use mathlib.Core.Path.{◌≡◌, refl, sym, subst, ap, ◌∙◌}
use mathlib.Core.Option.{Option, none, some, some-injective, none-ne-some}
use mathlib.Core.List.{List}
use Prim.Native.Nat.{ℕ, ◌≤◌}
use lib.ListN.{length}
use Rattle.std.specs.Prelude.{Result, Ok, Err}
use Rattle.base.specs.Refusal.{Told, told as told_by}
use Rattle.base.specs.declared.refusal.Refusal.{Refusal}
use Rattle.frame.specs.Frame.{data_limit, Frame}
use Rattle.frame.specs.View.{meaning, refusal_of}
use Rattle.frame.specs.declared.frame.Frame.{Frame as FrameStruct}
use Rattle.link.specs.View.{frame_limit}
use Rattle.link.proofs.FrameLaws.{frame_fits}
use Rattle.session.specs.declared.Office.{Office}
use Rattle.outcome.specs.declared.Answered.{Answered}
use Rattle.outcome.specs.Turn.{Turn, wrote, refused, Gives, refused_answer}
use Rattle.office.specs.View.{accepted, sent}

-- an output as long as the longest frame takes the whole of f: the turn that writes the frame it means
pub gives_whole : {x o : Office} {n : Option Frame} (f : FrameStruct) → x ≡ o → meaning f ≡ n → (r : Answered Office) (before after : List ℕ) →
    length f.change.body ≡ data_limit → frame_limit ≤ length before → Gives (sent x (meaning f) (length before)) r before after → Gives (accepted o n) r before after
unfolding sent
gives_whole f p q r before after body fits given =
    subst (λ (t : Turn Office). Gives t r before after) (λ i. accepted (p i) (q i)) (rw (frame_fits f (length before) body fits) at given)

-- a turn that refuses, or holds to Fits and writes the frame f
pub data Decided (o : Office) (Fits : Type 0) (after : Office) (f : Frame) : Turn Office → Type 0 where
  no : {why : ℕ} → Decided o Fits after f (refused o why)
  yes : Fits → Decided o Fits after f (wrote after f)

module _ {o after : Office} {Fits : Type 0} {f : Frame} where
  when_refused : {t : Turn Office} → Decided o Fits after f t → (why : Told) → t.refusal ≡ some why → t ≡ record { state = o; refusal = some why; frame = none }
  when_refused no why e = ap (λ (x : Told). record { state = o; refusal = some x; frame = none }) (some-injective _ _ e)
  when_refused (yes _) why e = absurd (none-ne-some _ e)

  when_accepted : {t : Turn Office} → Decided o Fits after f t → t.refusal ≡ none → Fits × (t ≡ wrote after f)
  when_accepted no e = absurd (none-ne-some _ (sym e))
  when_accepted (yes fits) e = (fits, refl)

  -- what the code found tells which
  module _ {A : Type 0} {t : Turn Office} (d : Decided o Fits after f t) (found : Result A Refusal) (told : refusal_of found ≡ t.refusal) where
    pub fits : (a : A) → found ≡ Ok a → Fits
    fits a e = (when_accepted d (sym told ∙ ap refusal_of e)).0

    pub gives_wrote : (a : A) → found ≡ Ok a → (r : Answered Office) (before out : List ℕ) → Gives (wrote after f) r before out → Gives t r before out
    gives_wrote a e r before out given = subst (λ (u : Turn Office). Gives u r before out) (sym (when_accepted d (sym told ∙ ap refusal_of e)).1) given

    -- the same, from a frame sent that means f, where there is room for any
    pub gives_frame : {x : Office} (m : FrameStruct) (a : A) → found ≡ Ok a → x ≡ after → meaning m ≡ some f → length m.change.body ≡ data_limit →
        (r : Answered Office) (before out : List ℕ) → (Fits → frame_limit ≤ length before) → Gives (sent x (meaning m) (length before)) r before out → Gives t r before out
    gives_frame m a e p q body r before out room given =
        gives_wrote a e r before out (gives_whole m p q r before out body (room (fits a e)) given)

    pub gives_refusal : (why : Refusal) → found ≡ Err why → (out : List ℕ) → Gives t (refused_answer o why) out out
    gives_refusal why e out =
        rw (when_refused d (told_by why) (sym told ∙ ap refusal_of e)) (record { state_is = refl; refusal_is = refl; length_is = refl; output_is = refl })
