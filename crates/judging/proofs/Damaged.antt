-- Valid frames cut, followed by more, and at the other end.
use Prim.Native.Nat.{ℕ, ◌+◌, ◌-◌, ◌<◌, ◌≤◌}
use native.Mathlib.Nat.{add-sub_of_le}
use native.Mathlib.Omega.{arith}
use mathlib.Core.Path.{◌≡◌, refl, sym, ap, subst, ◌∙◌}
use mathlib.Core.Bool.{Bool, true, false}
use mathlib.Core.List.{List, [], ◌∷◌, ◌++◌, append-nil, flatten}
use mathlib.Core.Option.{none, some}
use lib.ListN.{length, get_or, take, length-append}
use lib.Seq.{take-append-add}
use lib.Dec.{eqb, ltb}
use borrow.Author.Tests.{lt-ltb, ltb-true, ltb-false, ne_eqb}
use Rattle.base.specs.Refusal.{fault}
use Rattle.number.specs.Number.{le16_bytes, le32_bytes}
use Rattle.registers.specs.Block.{block}
use Rattle.registers.proofs.BlockTheorems.{block_long}
use Rattle.frame.specs.Frame.{Change, command, raise, lower, Frame, opening, welcome, order, ack, refuse, ValidChange, valid_command}
use Rattle.link.specs.Encoding.{field, change_field, encode, Valid, valid_order}
use Rattle.judging.specs.declared.End.{End}
use Rattle.judging.specs.declared.End.TheVariants.{Box, Office}
use Rattle.judging.specs.Decoding.{is_change, is_first, length_right, contents_allowed, field_fault, last_fault, rest_fault, fault_told, decode}
use Rattle.judging.specs.Faults.{other}
use Rattle.judging.specs.Theorems.{reader, fields, FieldsEncoded, field_start, BeginningTruncated, TrailingTold, OtherEndTold}
use Rattle.judging.proofs.Fields.{whole_fault, field_cut}
use Rattle.judging.proofs.Valid.{behind_first, told_of_field, order_right, valid_told, other_told}

pub trailing_told : TrailingTold
unfolding decode
trailing_told f v x xs = rw (valid_told f v (x ∷ xs), ne_eqb (length (x ∷ xs)) 0 (λ e. omega (arith, e)))

pub other_end_told : OtherEndTold
unfolding decode
other_end_told f v =
    let told = subst (λ (b : List ℕ). fault_told (other (reader f)) b ≡ some (fault 19 0)) (append-nil (encode f)) (other_told f v []) in
    rw told

-- ---- a beginning

pub fields_encoded : FieldsEncoded
unfolding encode flatten
fields_encoded (opening s) = append-nil _
fields_encoded (welcome s σ) = simp append-nil
fields_encoded (order s n c) = simp append-nil
fields_encoded (ack s k) = append-nil _
fields_encoded (refuse s r) = append-nil _

-- that ends in the first field
first_cut : (end : End) (tag : ℕ) (d rest : List ℕ) → length d < 65536 → (n : ℕ) → n < 3 + length d →
    fault_told end (take n (field tag d ++ rest)) ≡ some (fault 14 0)
unfolding fault_told
first_cut end tag d rest short n early = rw (field_cut tag d rest short n early (is_first (get_or (take n (field tag d ++ rest)) 0 0)) 0)

-- that ends in a second one, or before it
second_cut : (expected : Bool) (tag : ℕ) (d : List ℕ) → length d < 65536 → (n : ℕ) → n < 3 + length d → (offset : ℕ) →
    last_fault expected (take n (field tag d)) offset ≡ some (fault 14 offset)
unfolding last_fault
second_cut expected tag d short n early offset =
    rw (subst (λ (x : List ℕ). field_fault expected (take n x) offset ≡ some (fault 14 offset)) (append-nil (field tag d)) (field_cut tag d [] short n early expected offset))

change_cut : (c : Change) → ValidChange c → (expected : Bool) (n : ℕ) → n < length (change_field c) → (offset : ℕ) →
    last_fault expected (take n (change_field c)) offset ≡ some (fault 14 offset)
change_cut (command k d) (valid_command hk hd hb) expected n early offset = second_cut expected 0x21 (k ∷ d) (omega arith) n (omega arith) offset
change_cut (raise m) v expected n early offset = second_cut expected 0x22 (le16_bytes m) (omega arith) n (omega arith) offset
change_cut (lower m) v expected n early offset = second_cut expected 0x23 (le16_bytes m) (omega arith) n (omega arith) offset

-- of a frame of one field, and of two
one_field : (end : End) (tag : ℕ) (d : List ℕ) → length d < 65536 → (n : ℕ) → n < length (field tag d) →
    fault_told end (take n (field tag d)) ≡ some (fault 14 (field_start (field tag d ∷ []) n))
one_field end tag d short n early =
    let told = subst (λ (x : List ℕ). fault_told end (take n x) ≡ some (fault 14 0)) (append-nil (field tag d)) (first_cut end tag d [] short n (omega arith)) in
    rw (lt-ltb n (length (field tag d)) early) told

two_fields : (end : End) (tag : ℕ) (d second : List ℕ) → length d < 65536 →
    whole_fault (is_first tag) tag d 0 ≡ none →
    ((m : ℕ) → m < length second → behind_first end tag (take m second) (3 + length d) ≡ some (fault 14 (3 + length d))) →
    (n : ℕ) → n < length (field tag d ++ second) →
    fault_told end (take n (field tag d ++ second)) ≡ some (fault 14 (field_start (field tag d ∷ second ∷ []) n))
two_fields end tag d second short right cut n early = go (ltb n (length (field tag d))) refl
  where
    go : (t : Bool) → ltb n (length (field tag d)) ≡ t →
        fault_told end (take n (field tag d ++ second)) ≡ some (fault 14 (field_start (field tag d ∷ second ∷ []) n))
    go true e = rw e (first_cut end tag d second short n (omega (arith, ltb-true n (length (field tag d)) e)))
    go false e =
        let first = length (field tag d) in
        let m = n - first in
        let past : first ≤ n = ltb-false n first e in
        let within : m < length second = omega (arith, length-append (field tag d) second) in
        let split : take n (field tag d ++ second) ≡ field tag d ++ take m second = ap (λ (k : ℕ). take k (field tag d ++ second)) (sym (add-sub_of_le past)) ∙ take-append-add (field tag d) second m in
        let told : fault_told end (field tag d ++ take m second) ≡ some (fault 14 (3 + length d)) =
        told_of_field end tag d (take m second) short ∙ rw right (cut m within)
        in
        let start : first + 0 ≡ 3 + length d = omega arith in
        ap (fault_told end) split ∙ told ∙ rw (e, lt-ltb m (length second) within, start)

beginning : (f : Frame) → Valid f → (n : ℕ) → n < length (encode f) → fault_told (reader f) (take n (encode f)) ≡ some (fault 14 (field_start (fields f) n))
unfolding encode whole_fault length_right contents_allowed rest_fault
beginning (opening s) v n early = one_field Box 0x10 (le32_bytes s) (omega arith) n early
beginning (welcome s σ) v n early =
    two_fields Office 0x11 (le32_bytes s) (field 0x20 (block σ)) (omega arith) refl
    (λ m within. second_cut (eqb (get_or (take m (field 0x20 (block σ))) 0 0) 0x20) 0x20 (block σ) (omega (arith, block_long σ)) m (omega arith) 7)
    n early
beginning (order s k c) (valid_order hs h1 hk hc) n early =
    two_fields Box 0x12 (le32_bytes s ++ le16_bytes k) (change_field c) (omega arith) (order_right s k h1 hk)
    (λ m within. change_cut c hc (is_change (get_or (take m (change_field c)) 0 0)) m within 9)
    n early
beginning (ack s k) v n early = one_field Office 0x13 (le32_bytes s ++ le16_bytes k) (omega arith) n early
beginning (refuse s r) v n early = one_field Office 0x14 (le32_bytes s ++ r ∷ []) (omega arith) n early

pub beginning_truncated : BeginningTruncated
unfolding decode
beginning_truncated f v n early = rw (beginning f v n early)
