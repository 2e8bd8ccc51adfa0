-- What holds of bytes judged as a frame.
use Rattle.std.specs.Prelude.{ℕ, ◌+◌, ◌-◌, ◌<◌, ◌≡◌, cond, ◌↔◌, length, take, ltb}
use mathlib.Core.List.{List, [], ◌∷◌, ◌++◌, flatten}
use Rattle.base.specs.Bytes.{Bytes}
use Rattle.base.specs.Refusal.{Fault, fault}
use Rattle.number.specs.Number.{le16_bytes, le32_bytes}
use Rattle.frame.specs.Frame.{Frame, opening, welcome, order, ack, refuse}
use Rattle.registers.specs.Block.{block}
use Rattle.link.specs.Encoding.{field, change_field, encode, Valid}
use Rattle.judging.specs.declared.End.{End}
use Rattle.judging.specs.declared.End.TheVariants.{Box, Office}
use Rattle.judging.specs.Decoding.{Decoded, a_fault, a_frame, decode}
use Rattle.judging.specs.Faults.{other, faults, Least}

-- ---- the fault told is the paper's

-- of what bytes are decoded to, beside all the faults that they have
abbrev pub Tells : Decoded → List Fault → Type 0
Tells (a_fault f) fs = Least f fs
Tells (a_frame frame) fs = fs ≡ []

-- for all bytes and either end: the fault told is the least of all, and a frame is given only where there is none
abbrev pub TellsLeast : Type 0
TellsLeast = (end : End) (b : List ℕ) → Bytes b → Tells (decode end b) (faults end b)

-- and no two are least
abbrev pub OneLeast : Type 0
OneLeast = (f g : Fault) (fs : List Fault) → Least f fs → Least g fs → f ≡ g

-- so bytes decode to a fault exactly when it is the least that they have
abbrev pub FaultExact : Type 0
FaultExact = (end : End) (b : List ℕ) → Bytes b → (f : Fault) → (decode end b ≡ a_fault f) ↔ Least f (faults end b)

-- ---- where none is told

-- the end for which a frame is meant
abbrev pub reader : Frame → End
reader (opening s) = Box
reader (welcome s σ) = Office
reader (order s n c) = Box
reader (ack s k) = Office
reader (refuse s r) = Office

-- bytes decode to a frame exactly when the frame is valid, meant for this end, and they are its encoding
abbrev pub DecodeExact : Type 0
DecodeExact = (end : End) (b : List ℕ) → Bytes b → (f : Frame) → (decode end b ≡ a_frame f) ↔ (Valid f × (reader f ≡ end) × (encode f ≡ b))

-- a valid frame's encoding decodes to it, at the end for which it is meant
abbrev pub DecodeEncode : Type 0
DecodeEncode = (f : Frame) → Valid f → decode (reader f) (encode f) ≡ a_frame f

-- ---- valid frames, damaged

-- a frame's fields
abbrev pub fields : Frame → List (List ℕ)
fields (opening s) = field 0x10 (le32_bytes s) ∷ []
fields (welcome s σ) = field 0x11 (le32_bytes s) ∷ field 0x20 (block σ) ∷ []
fields (order s n c) = field 0x12 (le32_bytes s ++ le16_bytes n) ∷ change_field c ∷ []
fields (ack s k) = field 0x13 (le32_bytes s ++ le16_bytes k) ∷ []
fields (refuse s r) = field 0x14 (le32_bytes s ++ r ∷ []) ∷ []

-- in its encoding they stand one behind the other
abbrev pub FieldsEncoded : Type 0
FieldsEncoded = (f : Frame) → flatten (fields f) ≡ encode f

-- where the field begins in which the n-th byte stands, counted from 0
abbrev pub field_start : List (List ℕ) → ℕ → ℕ
field_start [] n = 0
field_start (x ∷ xs) n = cond (ltb n (length x)) 0 (length x + field_start xs (n - length x))

-- a proper beginning of a valid frame: 14, at the field that is cut or missing
abbrev pub BeginningTruncated : Type 0
BeginningTruncated =
    (f : Frame) → Valid f → (n : ℕ) → n < length (encode f) →
    decode (reader f) (take n (encode f)) ≡ a_fault (fault 14 (field_start (fields f) n))

-- bytes behind a valid frame: 18, at its length
abbrev pub TrailingTold : Type 0
TrailingTold = (f : Frame) → Valid f → (x : ℕ) (xs : List ℕ) → decode (reader f) (encode f ++ x ∷ xs) ≡ a_fault (fault 18 (length (encode f)))

-- a valid frame at the other end: 19, at 0
abbrev pub OtherEndTold : Type 0
OtherEndTold = (f : Frame) → Valid f → decode (other (reader f)) (encode f) ≡ a_fault (fault 19 0)
