-- Bytes decode to a frame exactly where they are a valid frame's encoding, meant for this end.
use Prim.Native.Nat.{ℕ, suc, ◌+◌, ◌≤◌}
use native.Mathlib.Nat.{le_antisymm}
use native.Mathlib.Omega.{arith}
use mathlib.Core.Path.{◌≡◌, refl, sym, ap, subst, ◌∙◌}
use mathlib.Core.Bool.{Bool, true, false, cond, ◌&&◌}
use mathlib.Core.List.{List, [], ◌∷◌, ◌++◌, append-nil}
use mathlib.Core.Option.{Option, none, some, some-injective, some-ne-none}
use lib.ListN.{length, get_or, drop, length-drop, drop_of_length-le}
use lib.Seq.{length-take-le, drop-cons}
use lib.Dec.{T, eqb, leb, ltb}
use borrow.Author.Tests.{eqb-true, eqb-false, leb-true, ltb-false}
use Rattle.std.specs.Cmp.Lexicographic.{same_text}
use Rattle.std.specs.Str.{bytes_eq}
use Rattle.base.specs.Bytes.{Bytes}
use Rattle.base.specs.Refusal.{Fault}
use Rattle.base.proofs.ByteLaws.{bytes_take, bytes_drop}
use Rattle.base.proofs.Tests.{both_true}
use Rattle.number.specs.Number.{le16, le16_bytes, le32, le32_bytes}
use Rattle.number.proofs.NumberLaws.{le16_read, le32_read, le16_below, le32_below, le16_written, le32_written}
use Rattle.settings.specs.Range.{in_range}
use Rattle.registers.specs.Block.{block, from_block}
use Rattle.registers.proofs.BlockTheorems.{block_read, from_block_held}
use Rattle.frame.specs.Frame.{
  data_limit,
  Change,
  command,
  raise,
  lower,
  Frame,
  opening,
  welcome,
  order,
  ack,
  refuse,
  ValidChange,
  valid_command,
  valid_raise,
  valid_lower,
}
use Rattle.link.specs.Encoding.{
  field,
  change_field,
  encode,
  Valid,
  valid_opening,
  valid_welcome,
  valid_order,
  valid_ack,
  valid_refuse,
  valid_refuse_fault,
}
use Rattle.judging.specs.declared.End.{End}
use Rattle.judging.specs.declared.End.TheVariants.{Box, Office}
use Rattle.judging.specs.Decoding.{contents_length, field_length, contents, is_first, is_change, is_for, length_right, settings_allowed, contents_allowed, unless, field_fault, end_fault, last_fault, rest_fault, fault_told, change_in, frame_in, a_frame, decoded, decode}
use Rattle.judging.specs.Theorems.{reader, DecodeExact, DecodeEncode}
use Rattle.judging.specs.View.{frame_read}
use Rattle.judging.proofs.Carried.{refuse_valid}
use Rattle.judging.proofs.Fields.{parted}
use Rattle.judging.proofs.Valid.{valid_told}

-- ---- where no fault is told

module _ (f : Fault) (o : Option Fault) where
  not_here : (t : Bool) → cond t (some f) o ≡ none → (t ≡ false) × (o ≡ none)
  not_here true e = absurd (some-ne-none f e)
  not_here false e = (refl, e)

  only_here : (t : Bool) → cond t o (some f) ≡ none → (t ≡ true) × (o ≡ none)
  only_here true e = (refl, e)
  only_here false e = absurd (some-ne-none f e)

neither : (o next : Option Fault) → unless o next ≡ none → (o ≡ none) × (next ≡ none)
neither (some f) next e = absurd (some-ne-none f e)
neither none next e = (refl, e)

-- a field with which nothing is wrong, at the front of b
pub record Right (expected : Bool) (b : List ℕ) : Type 0 where
  pub tag_expected : expected ≡ true
  pub inside : field_length b ≤ length b
  pub parts : b ≡ field (get_or b 0 0) (contents b) ++ drop (field_length b) b
  pub fits : length_right (get_or b 0 0) (length (contents b)) ≡ true
  pub permitted : contents_allowed (get_or b 0 0) (contents b) ≡ true
  pub bytes : Bytes (contents b)
  pub bytes_behind : Bytes (drop (field_length b) b)

pub field_right : (expected : Bool) (b : List ℕ) (offset : ℕ) → Bytes b → field_fault expected b offset ≡ none → Right expected b
unfolding field_fault
field_right expected b offset h e =
    let whole = not_here _ _ (ltb (length b) (field_length b)) e in
    let tag = only_here _ _ expected whole.1 in
    let long = only_here _ _ (length_right (get_or b 0 0) (contents_length b)) tag.1 in
    let allowed = only_here _ _ (contents_allowed (get_or b 0 0) (contents b)) long.1 in
    let inside : field_length b ≤ length b = ltb-false (length b) (field_length b) whole.0 in
    let count : length (contents b) ≡ contents_length b = length-take-le (contents_length b) (drop 3 b) (omega (arith, length-drop 3 b)) in
    record {
      tag_expected = tag.0;
      inside = inside;
      parts = parted b h inside;
      fits = rw count long.0;
      permitted = allowed.0;
      bytes = bytes_take (contents_length b) (drop 3 b) (bytes_drop 3 b h);
      bytes_behind = bytes_drop (field_length b) b h;
    }

nothing_behind : (b : List ℕ) (offset : ℕ) → end_fault b offset ≡ none → b ≡ []
nothing_behind [] offset e = refl
nothing_behind (x ∷ b) offset e = let long = eqb-true (length (x ∷ b)) 0 (only_here _ _ (eqb (length (x ∷ b)) 0) e).0 in absurd (omega (arith, long))

-- and one with nothing behind it
last_right : (expected : Bool) (b : List ℕ) (offset : ℕ) → Bytes b → last_fault expected b offset ≡ none →
    Right expected b × (b ≡ field (get_or b 0 0) (contents b))
unfolding last_fault
last_right expected b offset h e =
    let parts = neither (field_fault expected b offset) _ e in
    let right = field_right expected b offset h parts.0 in (
      right,
      right.parts ∙ ap (λ (behind : List ℕ). field (get_or b 0 0) (contents b) ++ behind) (nothing_behind _ _ parts.1) ∙ append-nil (field (get_or b 0 0) (contents b)),
    )

-- ---- contents of a right length, read and written again

module _ (d : List ℕ) (h : Bytes d) where
  session_written : length d ≡ 4 → le32_bytes (le32 d) ≡ d
  session_written long = rw (drop_of_length-le d {i = 4} (omega (arith, long))) at (le32_written d h (omega (arith, long)))

  step_written : length d ≡ 2 → le16_bytes (le16 d) ≡ d
  step_written long = rw (drop_of_length-le d {i = 2} (omega (arith, long))) at (le16_written d h (omega (arith, long)))

  refusal_written : length d ≡ 5 → le32_bytes (le32 d) ++ get_or d 4 0 ∷ [] ≡ d
  refusal_written long =
      let behind : drop 4 d ≡ get_or d 4 0 ∷ [] = drop-cons d 4 0 (omega (arith, long)) ∙ ap (λ (r : List ℕ). get_or d 4 0 ∷ r) (drop_of_length-le d {i = 5} (omega (arith, long))) in
      rw behind at (le32_written d h (omega (arith, long)))

numbered_written : (d : List ℕ) → Bytes d → length d ≡ 6 → le32_bytes (le32 d) ++ le16_bytes (le16 (drop 4 d)) ≡ d
numbered_written d h long =
    rw (step_written (drop 4 d) (bytes_drop 4 d h) (omega (arith, length-drop 4 d, long))) (le32_written d h (omega (arith, long)))

-- ---- the frame that they are

-- an end's valid frame whose encoding is b
pub record Encodes (end : End) (b : List ℕ) : Type 0 where
  pub frame : Frame
  pub valid : Valid frame
  pub meant : reader frame ≡ end
  pub encoded : encode frame ≡ b

-- first tags, one by one
pub data FirstTag : ℕ → Type 0 where
  tag_opening : FirstTag 0x10
  tag_welcome : FirstTag 0x11
  tag_order : FirstTag 0x12
  tag_ack : FirstTag 0x13
  tag_refuse : FirstTag 0x14

either : (n k : ℕ) {P : Type 0} → (n ≡ k → P) → ((n ≡ k → ⊥) → P) → P
either n k {P} equal differs = go (eqb n k) refl
  where
    go : (t : Bool) → eqb n k ≡ t → P
    go true e = equal (eqb-true n k e)
    go false e = differs (eqb-false n k e)

past : (k n : ℕ) → k ≤ n → (n ≡ k → ⊥) → k + 1 ≤ n
past k n above differs = omega arith

pub first_tag : (tag : ℕ) → is_first tag ≡ true → FirstTag tag
first_tag tag e =
    let bounds = both_true (leb 0x10 tag) (leb tag 0x14) e in
    either tag 0x10 (λ is. subst FirstTag (sym is) tag_opening)
    (λ not_10. let above_10 = past 0x10 tag (leb-true 0x10 tag bounds.0) not_10 in either tag 0x11 (λ is. subst FirstTag (sym is) tag_welcome)
    (λ not_11. let above_11 = past 0x11 tag above_10 not_11 in either tag 0x12 (λ is. subst FirstTag (sym is) tag_order)
    (λ not_12. let above_12 = past 0x12 tag above_11 not_12 in either tag 0x13 (λ is. subst FirstTag (sym is) tag_ack)
    (λ not_13. subst FirstTag (le_antisymm (past 0x13 tag above_12 not_13) (leb-true tag 0x14 bounds.1)) tag_refuse))))

opening_encodes : (d : List ℕ) → Bytes d → length_right 0x10 (length d) ≡ true → Encodes Box (field 0x10 d)
unfolding length_right encode
opening_encodes d h long =
    record { frame = opening (le32 d); valid = valid_opening (le32_below d h); meant = refl; encoded = ap (field 0x10) (session_written d h (eqb-true (length d) 4 long)) }

ack_encodes : (d : List ℕ) → Bytes d → length_right 0x13 (length d) ≡ true → Encodes Office (field 0x13 d)
unfolding length_right encode
ack_encodes d h long =
    record {
      frame = ack (le32 d) (le16 (drop 4 d));
      valid = valid_ack (le32_below d h) (le16_below (drop 4 d) (bytes_drop 4 d h));
      meant = refl;
      encoded = ap (field 0x13) (numbered_written d h (eqb-true (length d) 6 long));
    }

refuse_encodes : (d : List ℕ) → Bytes d → length_right 0x14 (length d) ≡ true → contents_allowed 0x14 d ≡ true → Encodes Office (field 0x14 d)
unfolding length_right contents_allowed encode
refuse_encodes d h long allowed =
    record {
      frame = refuse (le32 d) (get_or d 4 0);
      valid = refuse_valid (le32 d) (get_or d 4 0) (le32_below d h) allowed;
      meant = refl;
      encoded = ap (field 0x14) (refusal_written d h (eqb-true (length d) 5 long));
    }

-- ---- those of two fields

welcome_encodes : (d r : List ℕ) → Bytes d → Bytes r → length_right 0x11 (length d) ≡ true → (offset : ℕ) → rest_fault 0x11 r offset ≡ none →
    Encodes Office (field 0x11 d ++ r)
unfolding length_right rest_fault contents_allowed settings_allowed encode
welcome_encodes d r h hr long offset e =
    let second = last_right (eqb (get_or r 0 0) 0x20) r offset hr e in
    let tag = eqb-true (get_or r 0 0) 0x20 second.0.tag_expected in
    let settings = contents r in
    let allowed = both_true (in_range (from_block settings)) (bytes_eq (block (from_block settings)) settings) (rw tag at second.0.permitted) in
    let written : block (from_block settings) ≡ settings = same_text _ settings (sym allowed.1) in
    let whole : field 0x20 settings ≡ r = ap (λ (t : ℕ). field t settings) (sym tag) ∙ sym second.1 in
    record {
      frame = welcome (le32 d) (from_block settings);
      valid = valid_welcome (le32_below d h) (from_block_held settings second.0.bytes allowed.0);
      meant = refl;
      encoded = λ i. field 0x11 (session_written d h (eqb-true (length d) 4 long) i) ++ (ap (field 0x20) written ∙ whole) i;
    }

-- a valid change whose field is b
record Carries (b : List ℕ) : Type 0 where
  change : Change
  valid : ValidChange change
  written : change_field change ≡ b

command_carried : (d : List ℕ) → Bytes d → leb 1 (length d) && leb (length d) (1 + data_limit) ≡ true → Carries (field 0x21 d)
command_carried [] h long = absurd (omega (arith, leb-true 1 0 (both_true (leb 1 0) (leb 0 (1 + data_limit)) long).0))
command_carried (k ∷ d) h long =
    let most = leb-true (length (k ∷ d)) (1 + data_limit) (both_true (leb 1 (length (k ∷ d))) (leb (length (k ∷ d)) (1 + data_limit)) long).1 in
    record { change = command k d; valid = valid_command {d = d} (h 0) (omega arith) (λ i. h (suc i)); written = refl }

change_carried : (tag : ℕ) (d : List ℕ) → Bytes d → is_change tag ≡ true → length_right tag (length d) ≡ true → Carries (field tag d)
unfolding length_right
change_carried tag d h e long =
    let bounds = both_true (leb 0x21 tag) (leb tag 0x23) e in
    let above = leb-true 0x21 tag bounds.0 in
    let below = leb-true tag 0x23 bounds.1 in
    either tag 0x21 (λ is. subst (λ (t : ℕ). Carries (field t d)) (sym is) (command_carried d h (rw is at long)))
    (λ not_1. either tag 0x22
    (λ is. subst (λ (t : ℕ). Carries (field t d)) (sym is)
    (record { change = raise (le16 d); valid = valid_raise (le16_below d h); written = ap (field 0x22) (step_written d h (eqb-true (length d) 2 (rw is at long))) }))
    (λ not_2.
    let is : tag ≡ 0x23 = omega (arith, above, below, not_1, not_2) in
    subst (λ (t : ℕ). Carries (field t d)) (sym is)
    (record { change = lower (le16 d); valid = valid_lower (le16_below d h); written = ap (field 0x23) (step_written d h (eqb-true (length d) 2 (rw is at long))) })))

order_encodes : (d r : List ℕ) → Bytes d → Bytes r → length_right 0x12 (length d) ≡ true → contents_allowed 0x12 d ≡ true →
    (offset : ℕ) → rest_fault 0x12 r offset ≡ none → Encodes Box (field 0x12 d ++ r)
unfolding length_right rest_fault contents_allowed encode
order_encodes d r h hr long allowed offset e =
    let second = last_right (is_change (get_or r 0 0)) r offset hr e in
    let change = change_carried (get_or r 0 0) (contents r) second.0.bytes second.0.tag_expected second.0.fits in
    record {
      frame = order (le32 d) (le16 (drop 4 d)) change.change;
      valid = valid_order (le32_below d h) (leb-true 1 (le16 (drop 4 d)) allowed) (le16_below (drop 4 d) (bytes_drop 4 d h)) change.valid;
      meant = refl;
      encoded = λ i. field 0x12 (numbered_written d h (eqb-true (length d) 6 long) i) ++ (change.written ∙ sym second.1) i;
    }

-- ---- the theorems

alone : (end : End) (tag : ℕ) (d r : List ℕ) (offset : ℕ) → end_fault r offset ≡ none → Encodes end (field tag d) → Encodes end (field tag d ++ r)
alone end tag d r offset e is = subst (Encodes end) (sym (append-nil (field tag d)) ∙ ap (λ (x : List ℕ). field tag d ++ x) (sym (nothing_behind r offset e))) is

fields_encode : (end : End) (tag : ℕ) → FirstTag tag → (d r : List ℕ) → Bytes d → Bytes r → length_right tag (length d) ≡ true → contents_allowed tag d ≡ true →
    (offset : ℕ) → is_for end tag ≡ true → rest_fault tag r offset ≡ none → Encodes end (field tag d ++ r)
unfolding rest_fault
fields_encode Box _ tag_opening d r h hr long allowed offset meant e = alone Box 0x10 d r offset e (opening_encodes d h long)
fields_encode Office _ tag_opening d r h hr long allowed offset meant e = absurd (subst T (sym meant) tt)
fields_encode Box _ tag_welcome d r h hr long allowed offset meant e = absurd (subst T (sym meant) tt)
fields_encode Office _ tag_welcome d r h hr long allowed offset meant e = welcome_encodes d r h hr long offset e
fields_encode Box _ tag_order d r h hr long allowed offset meant e = order_encodes d r h hr long allowed offset e
fields_encode Office _ tag_order d r h hr long allowed offset meant e = absurd (subst T (sym meant) tt)
fields_encode Box _ tag_ack d r h hr long allowed offset meant e = absurd (subst T (sym meant) tt)
fields_encode Office _ tag_ack d r h hr long allowed offset meant e = alone Office 0x13 d r offset e (ack_encodes d h long)
fields_encode Box _ tag_refuse d r h hr long allowed offset meant e = absurd (subst T (sym meant) tt)
fields_encode Office _ tag_refuse d r h hr long allowed offset meant e = alone Office 0x14 d r offset e (refuse_encodes d h long allowed)

-- bytes with which nothing is wrong at an end
pub told_none : (end : End) (b : List ℕ) → Bytes b → fault_told end b ≡ none → Encodes end b
unfolding fault_told
told_none end b h e =
    let parts = neither (field_fault (is_first (get_or b 0 0)) b 0) _ e in
    let first = field_right (is_first (get_or b 0 0)) b 0 h parts.0 in
    let meant = only_here _ _ (is_for end (get_or b 0 0)) parts.1 in
    subst (Encodes end) (sym first.parts)
    (fields_encode end (get_or b 0 0) (first_tag (get_or b 0 0) first.tag_expected) (contents b) (drop (field_length b) b) first.bytes first.bytes_behind first.fits
    first.permitted (field_length b) meant.0 meant.1)

-- what is encoded is read again
change_read : (c : Change) → ValidChange c → change_in (change_field c) ≡ c
unfolding change_in
change_read (command k d) v = refl
change_read (raise n) (valid_raise h) = ap raise (le16_read n h)
change_read (lower n) (valid_lower h) = ap lower (le16_read n h)

encode_read : (f : Frame) → Valid f → frame_in (encode f) ≡ f
unfolding encode frame_in
encode_read (opening s) (valid_opening hs) = ap opening (le32_read s hs)
encode_read (welcome s σ) (valid_welcome hs held) = λ i. welcome (le32_read s hs i) (block_read σ held i)
encode_read (order s n c) (valid_order hs h1 hn hc) = λ i. order (le32_read s hs i) (le16_read n hn i) (change_read c hc i)
encode_read (ack s k) (valid_ack hs hk) = λ i. ack (le32_read s hs i) (le16_read k hk i)
encode_read (refuse s r) (valid_refuse hs h5 h7) = ap (λ (x : ℕ). refuse x r) (le32_read s hs)
encode_read (refuse s r) (valid_refuse_fault hs h14 h19) = ap (λ (x : ℕ). refuse x r) (le32_read s (omega (arith, hs)))

pub decode_encode : DecodeEncode
unfolding decode
decode_encode f v =
    let none_told : fault_told (reader f) (encode f) ≡ none = subst (λ (b : List ℕ). fault_told (reader f) b ≡ none) (append-nil (encode f)) (valid_told f v []) in
    rw (none_told, encode_read f v)

exactly : (end : End) (b : List ℕ) → Bytes b → (f : Frame) (o : Option Fault) → fault_told end b ≡ o → decoded o (frame_in b) ≡ a_frame f → Valid f × (reader f ≡ end) × (encode f ≡ b)
exactly end b h f (some x) told e = let z : ◌≡◌ {A = ℕ} 0 1 = cc in absurd (omega arith)
exactly end b h f none told e =
    let is = told_none end b h told in
    let read : is.frame ≡ f = sym (encode_read is.frame is.valid) ∙ ap frame_in is.encoded ∙ some-injective (frame_in b) f (ap frame_read e) in
    subst (λ (g : Frame). Valid g × (reader g ≡ end) × (encode g ≡ b)) read (is.valid, is.meant, is.encoded)

pub decode_exact : DecodeExact
unfolding decode
decode_exact end b h f = (
  exactly end b h f (fault_told end b) refl,
  λ v. subst (λ (e : End). decode e b ≡ a_frame f) v.1 (subst (λ (x : List ℕ). decode (reader f) x ≡ a_frame f) v.2 (decode_encode f v.0)),
)

-- a frame is given only at the end for which it is meant
reader_by_tag : (end : End) (b : List ℕ) (tag : ℕ) → FirstTag tag → get_or b 0 0 ≡ tag → is_for end tag ≡ true → reader (frame_in b) ≡ end
unfolding frame_in
reader_by_tag Box b _ tag_opening e meant = rw e
reader_by_tag Office b _ tag_opening e meant = absurd (subst T (sym meant) tt)
reader_by_tag Box b _ tag_welcome e meant = absurd (subst T (sym meant) tt)
reader_by_tag Office b _ tag_welcome e meant = rw e
reader_by_tag Box b _ tag_order e meant = rw e
reader_by_tag Office b _ tag_order e meant = absurd (subst T (sym meant) tt)
reader_by_tag Box b _ tag_ack e meant = absurd (subst T (sym meant) tt)
reader_by_tag Office b _ tag_ack e meant = rw e
reader_by_tag Box b _ tag_refuse e meant = absurd (subst T (sym meant) tt)
reader_by_tag Office b _ tag_refuse e meant = rw e

tag_first : (expected : Bool) (b : List ℕ) (offset : ℕ) → field_fault expected b offset ≡ none → expected ≡ true
unfolding field_fault
tag_first expected b offset e = (only_here _ _ expected (not_here _ _ (ltb (length b) (field_length b)) e).1).0

reader_of_read : (end : End) (b : List ℕ) → fault_told end b ≡ none → reader (frame_in b) ≡ end
unfolding fault_told
reader_of_read end b e =
    let parts = neither (field_fault (is_first (get_or b 0 0)) b 0) _ e in
    let first = first_tag (get_or b 0 0) (tag_first (is_first (get_or b 0 0)) b 0 parts.0) in
    reader_by_tag end b (get_or b 0 0) first refl (only_here _ _ (is_for end (get_or b 0 0)) parts.1).0

pub given_to_reader : (end : End) (b : List ℕ) (f : Frame) → decode end b ≡ a_frame f → reader f ≡ end
unfolding decode
given_to_reader end b f e = go (fault_told end b) refl e
  where
    go : (o : Option Fault) → fault_told end b ≡ o → decoded o (frame_in b) ≡ a_frame f → reader f ≡ end
    go (some x) told is = let z : ◌≡◌ {A = ℕ} 0 1 = cc in absurd (omega arith)
    go none told is = subst (λ (g : Frame). reader g ≡ end) (some-injective (frame_in b) f (ap frame_read is)) (reader_of_read end b told)
