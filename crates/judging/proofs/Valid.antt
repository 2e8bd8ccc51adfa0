-- Valid frames, with anything behind them, at either end.
use Prim.Native.Nat.{ℕ, ◌+◌, ◌<◌, ◌≤◌}
use native.Mathlib.Omega.{arith}
use mathlib.Core.Path.{◌≡◌, refl, ap, ◌∙◌}
use mathlib.Core.Bool.{true, cond}
use mathlib.Core.List.{List, [], ◌∷◌, ◌++◌}
use mathlib.Core.Option.{Option, none, some}
use lib.ListN.{length, get_or}
use borrow.Author.Tests.{eq-eqb, le-leb, lt-leb}
use Rattle.std.specs.Str.{bytes_eq}
use Rattle.base.specs.Refusal.{Fault, fault}
use Rattle.number.specs.Number.{le16_bytes, le32, le32_bytes}
use Rattle.number.proofs.NumberLaws.{le16_read}
use Rattle.settings.specs.declared.settings.Settings.{Settings}
use Rattle.settings.specs.Range.{Held}
use Rattle.settings.proofs.RangeLaws.{held_in_range}
use Rattle.registers.specs.Block.{block}
use Rattle.registers.proofs.BlockTheorems.{block_long, block_read}
use Rattle.frame.specs.Frame.{data_limit, Change, command, raise, lower, Frame, opening, welcome, order, ack, refuse, ValidChange, valid_command}
use Rattle.link.specs.Encoding.{field, change_field, encode, Valid, valid_welcome, valid_order, valid_refuse, valid_refuse_fault}
use Rattle.judging.specs.declared.End.{End}
use Rattle.judging.specs.declared.End.TheVariants.{Box, Office}
use Rattle.judging.specs.Decoding.{
  is_first,
  is_change,
  is_for,
  length_right,
  settings_allowed,
  refusal_allowed,
  contents_allowed,
  unless,
  end_fault,
  last_fault,
  rest_fault,
  fault_told,
}
use Rattle.judging.specs.Faults.{other}
use Rattle.judging.specs.Theorems.{reader}
use Rattle.judging.proofs.Fields.{whole_fault, field_length_of, behind_field, field_judged, last_judged}

-- ---- the first field

abbrev pub behind_first : End → ℕ → List ℕ → ℕ → Option Fault
behind_first end tag rest offset = cond (is_for end tag) (rest_fault tag rest offset) (some (fault 19 0))

pub told_of_field : (end : End) (tag : ℕ) (d rest : List ℕ) → length d < 65536 →
    fault_told end (field tag d ++ rest) ≡ unless (whole_fault (is_first tag) tag d 0) (behind_first end tag rest (3 + length d))
unfolding fault_told
told_of_field end tag d rest short =
    rw (field_judged tag d rest short (is_first tag) 0, behind_field tag d rest short, field_length_of tag d rest short)

-- nothing is wrong with a valid frame's fields

pub order_right : (s n : ℕ) → 1 ≤ n → n < 65536 → whole_fault true 0x12 (le32_bytes s ++ le16_bytes n) 0 ≡ none
unfolding whole_fault length_right contents_allowed
order_right s n h1 hn = rw (le16_read n hn, le-leb 1 n h1)

refusal_right : (s r : ℕ) → refusal_allowed (le32 (le32_bytes s)) r ≡ true → whole_fault true 0x14 (le32_bytes s ++ r ∷ []) 0 ≡ none
unfolding whole_fault length_right contents_allowed
refusal_right s r e = rw e

bytes_eq_refl : (l : List ℕ) → bytes_eq l l ≡ true
bytes_eq_refl [] = refl
bytes_eq_refl (x ∷ l) = rw (eq-eqb x x refl) (bytes_eq_refl l)

settings_right : (σ : Settings) → Held σ → (offset : ℕ) → whole_fault true 0x20 (block σ) offset ≡ none
unfolding whole_fault length_right contents_allowed settings_allowed
settings_right σ held offset = rw (block_long σ, block_read σ held, held_in_range σ held, bytes_eq_refl (block σ))

pub change_right : (c : Change) → ValidChange c → (rest : List ℕ) (offset : ℕ) →
    last_fault (is_change (get_or (change_field c ++ rest) 0 0)) (change_field c ++ rest) offset ≡ end_fault rest (offset + length (change_field c))
unfolding whole_fault length_right contents_allowed
change_right (command k d) (valid_command hk hd hb) rest offset =
    let long : 3 + length (k ∷ d) ≡ length (change_field (command k d)) = omega arith in
    last_judged 0x21 (k ∷ d) rest (omega arith) true offset ∙ rw (le-leb 1 (length (k ∷ d)) (omega arith), le-leb (length (k ∷ d)) (1 + data_limit) (omega arith), long)
change_right (raise n) v rest offset = last_judged 0x22 (le16_bytes n) rest (omega arith) true offset
change_right (lower n) v rest offset = last_judged 0x23 (le16_bytes n) rest (omega arith) true offset

-- ---- the frame

refusal_taken : (s r : ℕ) → Valid (refuse s r) → refusal_allowed (le32 (le32_bytes s)) r ≡ true
refusal_taken s r (valid_refuse hs h5 h7) = rw (le-leb 5 r h5, le-leb r 7 h7)
refusal_taken s r (valid_refuse_fault zero h14 h19) = rw (zero, le-leb 5 r (omega arith), lt-leb r 7 (omega arith), le-leb 14 r h14, le-leb r 19 h19)

-- nothing is wrong with a valid frame, at the end for which it is meant, but what stands behind it
pub valid_told : (f : Frame) → Valid f → (rest : List ℕ) → fault_told (reader f) (encode f ++ rest) ≡ end_fault rest (length (encode f))
unfolding encode whole_fault length_right contents_allowed rest_fault
valid_told (opening s) v rest = told_of_field Box 0x10 (le32_bytes s) rest (omega arith)
valid_told (welcome s σ) (valid_welcome hs held) rest =
    let long : 7 + (3 + length (block σ)) ≡ length (encode (welcome s σ)) = omega arith in
    told_of_field Office 0x11 (le32_bytes s) (field 0x20 (block σ) ++ rest) (omega arith)
    ∙ last_judged 0x20 (block σ) rest (omega (arith, block_long σ)) true 7
    ∙ rw (settings_right σ held 7, long)
valid_told (order s n c) (valid_order hs h1 hn hc) rest =
    let long : 9 + length (change_field c) ≡ length (encode (order s n c)) = omega arith in
    told_of_field Box 0x12 (le32_bytes s ++ le16_bytes n) (change_field c ++ rest) (omega arith)
    ∙ rw (order_right s n h1 hn) (change_right c hc rest 9)
    ∙ ap (end_fault rest) long
valid_told (ack s k) v rest = told_of_field Office 0x13 (le32_bytes s ++ le16_bytes k) rest (omega arith)
valid_told (refuse s r) v rest =
    told_of_field Office 0x14 (le32_bytes s ++ r ∷ []) rest (omega arith) ∙ rw (refusal_right s r (refusal_taken s r v))

-- at the other end its first tag is
pub other_told : (f : Frame) → Valid f → (rest : List ℕ) → fault_told (other (reader f)) (encode f ++ rest) ≡ some (fault 19 0)
unfolding encode whole_fault length_right contents_allowed
other_told (opening s) v rest = told_of_field Office 0x10 (le32_bytes s) rest (omega arith)
other_told (welcome s σ) v rest = told_of_field Box 0x11 (le32_bytes s) (field 0x20 (block σ) ++ rest) (omega arith)
other_told (order s n c) (valid_order hs h1 hn hc) rest =
    told_of_field Office 0x12 (le32_bytes s ++ le16_bytes n) (change_field c ++ rest) (omega arith) ∙ rw (order_right s n h1 hn)
other_told (ack s k) v rest = told_of_field Box 0x13 (le32_bytes s ++ le16_bytes k) rest (omega arith)
other_told (refuse s r) v rest =
    told_of_field Box 0x14 (le32_bytes s ++ r ∷ []) rest (omega arith) ∙ rw (refusal_right s r (refusal_taken s r v))
