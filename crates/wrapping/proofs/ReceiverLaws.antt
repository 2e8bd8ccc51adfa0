-- Laws of a receiver: what one byte and a run of bytes do.
use Prim.Native.Nat.{ℕ, ◌+◌, ◌*◌, ◌<◌}
use native.Mathlib.Nat.{add-zero, add_assoc}
use mathlib.Core.Path.{◌≡◌, refl}
use mathlib.Core.Bool.{Bool, true, false, cond}
use mathlib.Core.List.{List, ◌∷◌}
use lib.ListN.{length, get_or, drop}
use lib.Dec.{eqb, leb}
use lib.Seq.{drop-length}
use Rattle.std.proofs.lemmas.List.{drop_more}
use Rattle.wrapping.specs.declared.Event.{Event}
use Rattle.wrapping.specs.declared.Event.TheVariants.{Nothing, Frame, Refused}
use Rattle.wrapping.specs.declared.Place.{Place}
use Rattle.wrapping.specs.declared.Place.TheVariants.{Tag, LengthLow, LengthHigh, Contents, Skipped}
use Rattle.wrapping.specs.declared.Received.{Received}
use Rattle.wrapping.specs.declared.Receiver.{Receiver}
use Rattle.wrapping.specs.Wrapping.{outer_tag, fits}
use Rattle.wrapping.specs.Receiver.{at_tag, at_length, at_contents, step_at, step, is_nothing, after_more, receive}

-- what holds of both outcomes of a test
pub either : (P : Received → Type 0) (test : Bool) (a b : Received) → P a → P b → P (cond test a b)
either P true a b p q = p
either P false a b p q = q

-- a step takes one byte
takes_one : (place : Place) (r : Receiver) (byte : ℕ) → (step_at place r byte).took ≡ 1
unfolding at_tag at_length at_contents
takes_one Tag r byte = either (λ (t : Received). t.took ≡ 1) (eqb byte outer_tag) _ _ refl refl
takes_one LengthLow r byte = refl
takes_one (LengthHigh low) r byte = either (λ (t : Received). t.took ≡ 1) (fits (low + byte * 256)) _ _ refl refl
takes_one (Contents n filled) r byte = either (λ (t : Received). t.took ≡ 1) (leb n (filled + 1)) _ _ refl refl
takes_one (Skipped left) r byte = refl

pub step_takes : (r : Receiver) (byte : ℕ) → (step r byte).took ≡ 1
step_takes r byte = takes_one r.place r byte

pub something : (e : Event) → (e ≡ Nothing → ⊥) → is_nothing e ≡ false
something Nothing h = absurd (h refl)
something (Frame n) h = refl
something (Refused fault) h = refl

-- ---- a byte with which nothing came, and one with which something did

module _ (r : Receiver) (byte : ℕ) (bytes : List ℕ) {t : Received} (stepped : step r byte ≡ t) where
  pub receive_on : is_nothing t.event ≡ true → receive r (byte ∷ bytes) ≡ after_more 1 (receive t.receiver bytes)
  unfolding receive
  receive_on e = rw (stepped, e)

  pub receive_stop : is_nothing t.event ≡ false → receive r (byte ∷ bytes) ≡ t
  unfolding receive
  receive_stop e = rw (stepped, e)

-- ---- after i bytes with which nothing came

pub after_twice : (m n : ℕ) (t : Received) → after_more m (after_more n t) ≡ after_more (m + n) t
after_twice m n t = rw add_assoc

module _ (r : Receiver) (bytes : List ℕ) (i : ℕ) where
  -- one more
  pub receive_more : i < length bytes → is_nothing (step r (get_or bytes i 0)).event ≡ true →
      after_more i (receive r (drop i bytes)) ≡ after_more (i + 1) (receive (step r (get_or bytes i 0)).receiver (drop (i + 1) bytes))
  unfolding receive
  receive_more within e = rw (drop_more bytes i 0 within, e, add_assoc)

  -- something comes with the next
  pub receive_event : i < length bytes → is_nothing (step r (get_or bytes i 0)).event ≡ false →
      after_more i (receive r (drop i bytes)) ≡ record { receiver = (step r (get_or bytes i 0)).receiver; took = i + 1; event = (step r (get_or bytes i 0)).event }
  unfolding receive
  receive_event within e = rw (drop_more bytes i 0 within, e, step_takes r (get_or bytes i 0))

  -- none are left
  pub receive_end : i ≡ length bytes → after_more i (receive r (drop i bytes)) ≡ record { receiver = r; took = i; event = Nothing }
  unfolding receive
  receive_end e = rw (e, drop-length bytes, add-zero)
