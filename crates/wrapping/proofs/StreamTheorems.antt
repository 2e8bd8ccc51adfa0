-- What holds of frames over a stream, proved item by item.
use Prim.Native.Nat.{ℕ, ◌+◌, ◌/◌, ◌%◌, ◌<◌, ◌≤◌, min}
use native.Mathlib.Omega.{arith}
use mathlib.Core.Path.{◌≡◌, refl, sym, ap, ◌∙◌}
use mathlib.Core.Logic.{inl, inr}
use mathlib.Core.Bool.{Bool, true, false}
use mathlib.Core.List.{List, [], ◌∷◌, ◌++◌, map, flat_map, Memᴰ}
use lib.ListN.{length}
use lib.Seq.{sets, length-sets, take-append_seam}
use lib.Dec.{leb, ltb}
use borrow.Author.Tests.{lt-ltb, le-ltb, ltb-true, ltb-false, leb-true, leb-false}
use Rattle.base.specs.Refusal.{fault}
use Rattle.base.specs.Result.{Result, accepted}
use Rattle.base.proofs.Lists.{sets_front}
use Rattle.std.proofs.lemmas.Bool.{cond_both}
use Rattle.wrapping.specs.declared.Place.{Place}
use Rattle.wrapping.specs.declared.Place.TheVariants.{Tag}
use Rattle.wrapping.specs.declared.Received.{Received}
use Rattle.wrapping.specs.declared.Receiver.{Receiver}
use Rattle.wrapping.specs.Wrapping.{contents_most, fits, wrapped, wrapping}
use Rattle.wrapping.specs.Receiver.{dropped_most, counted, receive}
use Rattle.wrapping.specs.Reading.{Handed, frame, refused, Reading, earlier, read}
use Rattle.wrapping.specs.Theorems.{AtTag, Item, stray, field, field_head, item_bytes, Proper, item_handed}
use Rattle.wrapping.specs.Theorems.{item_dropped, dropped_of, RowsRead, Wrappable, ThroughUnchanged, BadLength, BadLengthSkips, WrapAnswers, WrapTaken, LengthRefused}
use Rattle.wrapping.proofs.WrappingLaws.{fits_within}
use Rattle.wrapping.proofs.FieldLaws.{standing, unfit, fit, length_received, frame_received, bad_read, frame_read, stray_read}
use Rattle.wrapping.proofs.ReadingLaws.{read_append, given_reads}

-- a receiver where a tag should stand, taken apart
tag_place : (r : Receiver) → AtTag r → r ≡ standing Tag r.buffer r.dropped
tag_place r at = ap (λ (place : Place). standing place r.buffer r.dropped) at.place

wrapped_field : (f : List ℕ) → Wrappable f → wrapped f ≡ field_head (length f) ++ f
wrapped_field f (some_bytes, small) =
    let low : length f / 256 % 256 ≡ length f / 256 = omega arith in
    rw low

-- ---- a row of wrapped frames

record Passed (buffer : List ℕ) (dropped : ℕ) (frames : List (List ℕ)) : Type 0 where
  left : List ℕ
  long : length left ≡ contents_most
  reads : read (standing Tag buffer dropped) (flat_map wrapped frames) ≡ record { receiver = standing Tag left dropped; handed = map frame frames }

passes : (frames : List (List ℕ)) (buffer : List ℕ) (dropped : ℕ) → length buffer ≡ contents_most → ((f : List ℕ) → Memᴰ f frames → Wrappable f) →
    Passed buffer dropped frames
unfolding flat_map
passes [] buffer dropped long each = record { left = buffer; long = long; reads = refl }
passes (f ∷ frames) buffer dropped long each =
    let fit = each f (Memᴰ.head refl) in
    let here = ap (read (standing Tag buffer dropped)) (wrapped_field f fit) ∙ frame_read buffer dropped f fit long in
    let rest = passes frames (sets buffer 0 f) dropped (length-sets buffer 0 f ∙ long) (λ g m. each g (Memᴰ.tail m)) in
    record {
      left = rest.left;
      long = rest.long;
      reads =
          read_append (standing Tag buffer dropped) (wrapped f) (flat_map wrapped frames) ∙
          ap (λ (t : Reading). earlier t.handed (read t.receiver (flat_map wrapped frames))) here ∙ ap (earlier (frame f ∷ [])) rest.reads;
    }

pub through_unchanged : ThroughUnchanged
through_unchanged r at frames each =
    let through = passes frames r.buffer r.dropped at.long each in
    let reads = given_reads r (flat_map wrapped frames) ∙ ap (λ (s : Receiver). read s (flat_map wrapped frames)) (tag_place r at) ∙ through.reads in
    record {
      handed = ap (λ (t : Reading). t.handed) reads;
      at_tag = rw reads (record { place = refl; long = through.long });
      dropped = ap (λ (t : Reading). t.receiver.dropped) reads;
    }

-- ---- a bad length

pub bad_length_skips : BadLengthSkips
bad_length_skips r at contents bad small =
    let bytes = field_head (length contents) ++ contents in
    given_reads r bytes ∙ ap (λ (s : Receiver). read s bytes) (tag_place r at) ∙ bad_read r.buffer r.dropped contents bad small ∙
    ap (λ (s : Receiver). record { receiver = s; handed = refused (fault 16 0) ∷ [] }) (sym (tag_place r at))

-- ---- a row of items

counted_least : (n : ℕ) → n ≤ dropped_most → counted n ≡ min (n + 1) dropped_most
unfolding counted
counted_least n most =
    cond_both (ltb n dropped_most) (n + 1) n (λ m. m ≡ min (n + 1) dropped_most)
    (λ less. omega (arith, ltb-true n dropped_most less)) (λ full. omega (arith, ltb-false n dropped_most full))

record ItemsRead (buffer : List ℕ) (dropped : ℕ) (bytes : List ℕ) (handed : List Handed) (more : ℕ) : Type 0 where
  left : List ℕ
  long : length left ≡ contents_most
  reads : read (standing Tag buffer dropped) bytes ≡ record { receiver = standing Tag left (min (dropped + more) dropped_most); handed = handed }

module _ (buffer : List ℕ) (dropped : ℕ) (long : length buffer ≡ contents_most) (most : dropped ≤ dropped_most) where
  same_count : min (dropped + 0) dropped_most ≡ dropped
  same_count = omega arith

  refused_field : (contents : List ℕ) → length contents < 65536 → BadLength (length contents) → ItemsRead buffer dropped (item_bytes (field contents)) (refused (fault 16 0) ∷ []) 0
  refused_field contents small bad = record { left = buffer; long = long; reads = rw same_count (bad_read buffer dropped contents bad small) }

  field_reads : (contents : List ℕ) → length contents < 65536 → ItemsRead buffer dropped (item_bytes (field contents)) (item_handed (field contents)) 0
  field_reads contents small = by_length (leb 1 (length contents)) (leb (length contents) 64) refl refl
    where
      by_length : (some_bytes few : Bool) → leb 1 (length contents) ≡ some_bytes → leb (length contents) 64 ≡ few →
          ItemsRead buffer dropped (item_bytes (field contents)) (item_handed (field contents)) 0
      by_length true true p q =
          record {
            left = sets buffer 0 contents;
            long = length-sets buffer 0 contents ∙ long;
            reads = rw (p, q, same_count) (frame_read buffer dropped contents (leb-true 1 (length contents) p, leb-true (length contents) 64 q) long);
          }
      by_length true false p q = rw (p, q) (refused_field contents small (inr (leb-false (length contents) 64 q)))
      by_length false few p q = rw p (refused_field contents small (inl (omega (arith, leb-false 1 (length contents) p))))

  item_reads : (item : Item) → Proper item → ItemsRead buffer dropped (item_bytes item) (item_handed item) (item_dropped item)
  item_reads (stray byte) other = record { left = buffer; long = long; reads = stray_read buffer dropped byte other ∙ rw (counted_least dropped most) }
  item_reads (field contents) small = field_reads contents small

row_reads : (row : List Item) (buffer : List ℕ) (dropped : ℕ) → length buffer ≡ contents_most → dropped ≤ dropped_most → ((item : Item) → Memᴰ item row → Proper item) →
    ItemsRead buffer dropped (flat_map item_bytes row) (flat_map item_handed row) (dropped_of row)
unfolding flat_map
row_reads [] buffer dropped long most each = record { left = buffer; long = long; reads = rw (same_count buffer dropped long most) }
row_reads (item ∷ row) buffer dropped long most each =
    let here = item_reads buffer dropped long most item (each item (Memᴰ.head refl)) in
    let count = min (dropped + item_dropped item) dropped_most in
    let rest = row_reads row here.left count here.long (omega arith) (λ i m. each i (Memᴰ.tail m)) in
    let sum : min (count + dropped_of row) dropped_most ≡ min (dropped + (item_dropped item + dropped_of row)) dropped_most = omega arith in
    record {
      left = rest.left;
      long = rest.long;
      reads = read_append (standing Tag buffer dropped) (item_bytes item) (flat_map item_bytes row) ∙ rw (here.reads, rest.reads, sum);
    }

pub rows_read : RowsRead
rows_read r at most row each =
    let rest = row_reads row r.buffer r.dropped at.long most each in
    let reads = given_reads r (flat_map item_bytes row) ∙ ap (λ (s : Receiver). read s (flat_map item_bytes row)) (tag_place r at) ∙ rest.reads in
    record {
      handed = ap (λ (t : Reading). t.handed) reads;
      at_tag = rw reads (record { place = refl; long = rest.long });
      dropped = ap (λ (t : Reading). t.receiver.dropped) reads;
    }

-- ---- one call

pub wrap_answers : WrapAnswers
unfolding wrapping
wrap_answers f room = record {
  bad = λ b. rw (unfit (length f) b);
  short = λ (some_bytes, small) less. rw (fit (length f) some_bytes small, wrapped_field f (some_bytes, small), lt-ltb _ _ less);
  written = λ (some_bytes, small) enough. rw (fit (length f) some_bytes small, wrapped_field f (some_bytes, small), le-ltb _ _ enough);
}

wrap_wrote : (f bytes : List ℕ) (room : ℕ) → wrapping f room ≡ accepted bytes → Wrappable f × (bytes ≡ wrapped f)
unfolding wrapping
wrap_wrote f bytes room =
    cond_both (fits (length f)) _ _ (λ (x : Result (List ℕ)). x ≡ accepted bytes → Wrappable f × (bytes ≡ wrapped f))
    (λ fitting. cond_both (ltb room (length (wrapped f))) _ _ (λ (x : Result (List ℕ)). x ≡ accepted bytes → Wrappable f × (bytes ≡ wrapped f))
    (λ _ e. let z : ◌≡◌ {A = ℕ} 0 1 = cc in absurd (omega arith))
    (λ _ e. (fits_within (length f) fitting, cc)))
    (λ _ e. let z : ◌≡◌ {A = ℕ} 0 1 = cc in absurd (omega arith))

pub wrap_taken : WrapTaken
wrap_taken r at f bytes rest room written =
    let (fit, same) = wrap_wrote f bytes room written in
    let start = standing Tag r.buffer r.dropped in
    let taken =
    ap (λ (s : Receiver). receive s (bytes ++ rest)) (tag_place r at) ∙
    ap (λ (b : List ℕ). receive start (b ++ rest)) (same ∙ wrapped_field f fit) ∙ frame_received r.buffer r.dropped f rest fit in
    let stored = sets_front f r.buffer (omega (arith, at.long)) in
    (ap (λ (t : Received). t.took) taken ∙ omega (arith, ap length same), rw (taken, stored, take-append_seam))

pub length_refused : LengthRefused
length_refused r at n rest bad small =
    let taken = ap (λ (s : Receiver). receive s (field_head n ++ rest)) (tag_place r at) ∙ length_received r.buffer r.dropped n small rest bad in
    (ap (λ (t : Received). t.took) taken, rw taken)
