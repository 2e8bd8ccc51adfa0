-- What a receiver makes of one item, from where a tag should stand.
use Prim.Native.Nat.{ℕ, suc, ◌+◌, ◌*◌, ◌-◌, ◌/◌, ◌%◌, ◌<◌, ◌≤◌, min}
use native.Mathlib.Omega.{arith}
use native.Mathlib.Numerals.{add-one}
use mathlib.Core.Path.{◌≡◌, refl, sym, ap, ◌∙◌}
use mathlib.Core.Logic.{inl, inr}
use mathlib.Core.Bool.{Bool, true, false}
use mathlib.Core.List.{List, [], ◌∷◌, ◌++◌, append-nil}
use lib.Dec.{eqb, leb}
use lib.ListN.{length, drop, set, drop_of_length-le}
use lib.Seq.{sets, take-append_seam}
use borrow.Author.Tests.{eq-eqb, ne_eqb, le-leb, lt-leb}
use Rattle.base.specs.Refusal.{fault}
use Rattle.base.proofs.Lists.{sets_front}
use Rattle.std.proofs.lemmas.Bool.{cond_both}
use Rattle.wrapping.specs.declared.Event.TheVariants.{Nothing, Frame, Refused}
use Rattle.wrapping.specs.declared.Place.{Place}
use Rattle.wrapping.specs.declared.Place.TheVariants.{Tag, LengthLow, LengthHigh, Contents}
use Rattle.wrapping.specs.declared.Receiver.{Receiver}
use Rattle.wrapping.specs.Wrapping.{contents_most, outer_tag, fits}
use Rattle.wrapping.specs.Receiver.{counted, at_tag, skipping, at_length, at_contents, wrong_length, step, moved, after_more, receive}
use Rattle.wrapping.specs.Reading.{frame, refused, idle, read}
use Rattle.wrapping.specs.Theorems.{field_head, Wrappable, BadLength}
use Rattle.wrapping.proofs.ReceiverLaws.{receive_on, receive_stop, after_twice}
use Rattle.wrapping.proofs.ReadingLaws.{receive_read}

abbrev pub standing : Place → List ℕ → ℕ → Receiver
standing place buffer dropped = record { place = place; buffer = buffer; dropped = dropped }

pub unfit : (n : ℕ) → BadLength n → fits n ≡ false
unfolding fits
unfit n (inl none) = rw (eq-eqb n 0 none)
unfit n (inr many) = cond_both (eqb n 0) false (leb n contents_most) (λ (t : Bool). t ≡ false) (λ _. refl) (λ _. lt-leb n contents_most many)

pub fit : (n : ℕ) → 1 ≤ n → n ≤ contents_most → fits n ≡ true
unfolding fits
fit n some_bytes small = rw (ne_eqb n 0 (omega arith)) (le-leb n contents_most small)

-- ---- one call

-- the contents of a frame of n bytes, i of which are in the buffer
contents_received : (byte : ℕ) (bytes rest buffer : List ℕ) (dropped n i : ℕ) → i + suc (length bytes) ≡ n → n ≤ contents_most →
    receive (standing (Contents n i) buffer dropped) ((byte ∷ bytes) ++ rest) ≡
    record { receiver = standing Tag (sets buffer i (byte ∷ bytes)) dropped; took = suc (length bytes); event = Frame n }
unfolding at_contents
contents_received byte [] rest buffer dropped n i last small =
    let done : n ≤ i + 1 = omega arith in
    let all : min n contents_most ≡ n = omega arith in
    receive_stop _ byte rest (rw (le-leb n (i + 1) done, all)) refl
contents_received byte (next ∷ bytes) rest buffer dropped n i more small =
    let not_done : i + 1 < n = omega arith in
    let one_more : 1 + suc (length bytes) ≡ suc (suc (length bytes)) = omega arith in
    receive_on _ byte (next ∷ bytes ++ rest) {t = moved (standing Tag (set buffer i byte) dropped) (Contents n (suc i)) Nothing} (rw (lt-leb n (i + 1) not_done, add-one i)) refl ∙
    ap (after_more 1) (contents_received next bytes rest (set buffer i byte) dropped n (suc i) (omega arith) small) ∙ rw one_more

module _ (buffer : List ℕ) (dropped n : ℕ) (small : n < 65536) (rest : List ℕ) where
  whole : n % 256 + n / 256 * 256 ≡ n
  whole = omega arith

  -- tag and length
  head_received : receive (standing Tag buffer dropped) (field_head n ++ rest) ≡ after_more 2 (receive (standing (LengthHigh (n % 256)) buffer dropped) (n / 256 ∷ rest))
  unfolding at_tag
  head_received =
      receive_on _ 0x01 (n % 256 ∷ n / 256 ∷ rest) refl refl ∙
      ap (after_more 1) (receive_on (standing LengthLow buffer dropped) (n % 256) (n / 256 ∷ rest) refl refl) ∙ after_twice 1 1 _

  length_judged : step (standing (LengthHigh (n % 256)) buffer dropped) (n / 256) ≡ at_length (standing Tag buffer dropped) n
  unfolding at_length
  length_judged = rw whole

  pub length_received : BadLength n →
      receive (standing Tag buffer dropped) (field_head n ++ rest) ≡ record { receiver = standing (skipping n) buffer dropped; took = 3; event = Refused wrong_length }
  unfolding at_length
  length_received bad = head_received ∙ ap (after_more 2) (receive_stop _ (n / 256) rest (length_judged ∙ refused_at) refl)
    where
      refused_at : at_length (standing Tag buffer dropped) n ≡ moved (standing Tag buffer dropped) (skipping n) (Refused wrong_length)
      refused_at = rw (unfit n bad)

  fitting_received : fits n ≡ true →
      receive (standing Tag buffer dropped) (field_head n ++ rest) ≡ after_more 3 (receive (standing (Contents n 0) buffer dropped) rest)
  unfolding at_length
  fitting_received fitting = head_received ∙ ap (after_more 2) (receive_on _ (n / 256) rest (length_judged ∙ accepted_at) refl) ∙ after_twice 2 1 _
    where
      accepted_at : at_length (standing Tag buffer dropped) n ≡ moved (standing Tag buffer dropped) (Contents n 0) Nothing
      accepted_at = rw fitting

-- ---- a whole field

module _ (buffer : List ℕ) (dropped : ℕ) where
  pub frame_received : (f rest : List ℕ) → Wrappable f →
      receive (standing Tag buffer dropped) (field_head (length f) ++ f ++ rest) ≡
      record { receiver = standing Tag (sets buffer 0 f) dropped; took = 3 + length f; event = Frame (length f) }
  frame_received [] rest (some_bytes, small) = absurd (omega arith)
  frame_received (byte ∷ bytes) rest (some_bytes, small) =
      let n = suc (length bytes) in
      fitting_received buffer dropped n (omega arith) (byte ∷ bytes ++ rest) (fit n some_bytes small) ∙
      ap (after_more 3) (contents_received byte bytes rest buffer dropped n 0 (omega arith) small)

  -- bytes to be skipped
  skip_read : (bytes : List ℕ) → read (standing (skipping (length bytes)) buffer dropped) bytes ≡ idle (standing Tag buffer dropped)
  unfolding skipping
  skip_read [] = refl
  skip_read (byte ∷ bytes) =
      let left : suc (length bytes) - 1 ≡ length bytes = omega arith in
      rw (ne_eqb (suc (length bytes)) 0 (omega arith), left) (skip_read bytes)

  pub bad_read : (contents : List ℕ) → BadLength (length contents) → length contents < 65536 →
      read (standing Tag buffer dropped) (field_head (length contents) ++ contents) ≡ record { receiver = standing Tag buffer dropped; handed = refused (fault 16 0) ∷ [] }
  bad_read contents bad small =
      sym (receive_read (standing Tag buffer dropped) (field_head (length contents) ++ contents)) ∙
      rw (length_received buffer dropped (length contents) small contents bad, skip_read contents)

  pub frame_read : (f : List ℕ) → Wrappable f → length buffer ≡ contents_most →
      read (standing Tag buffer dropped) (field_head (length f) ++ f) ≡ record { receiver = standing Tag (sets buffer 0 f) dropped; handed = frame f ∷ [] }
  frame_read f (some_bytes, small) long =
      let whole = rw append-nil at (frame_received f [] (some_bytes, small)) in
      let stored = sets_front f buffer (omega arith) in
      let none_left : drop (3 + length f) (field_head (length f) ++ f) ≡ [] = drop_of_length-le (field_head (length f) ++ f) {i = 3 + length f} (omega arith) in
      sym (receive_read (standing Tag buffer dropped) (field_head (length f) ++ f)) ∙ rw (whole, none_left, stored, take-append_seam)

  pub stray_read : (byte : ℕ) → (byte ≡ 0x01 → ⊥) → read (standing Tag buffer dropped) (byte ∷ []) ≡ idle (standing Tag buffer (counted dropped))
  unfolding at_tag
  stray_read byte other = rw (ne_eqb byte outer_tag other)
