-- Bytes to a frame, or to what is wrong with them, in the order in which the code tests. Faults.antt says the same in the paper's terms.
use Rattle.std.specs.Prelude.{ℕ, ◌+◌, Bool, true, cond, ◌&&◌, ◌||◌, List, length, get_or, take, drop, eqb, leb, ltb}
use Rattle.std.specs.Str.{bytes_eq}
use Rattle.std.proofs.Math.Option.{Option, none, some}
use Rattle.base.specs.Refusal.{Fault, fault}
use Rattle.number.specs.Number.{le16, le32}
use Rattle.settings.specs.Range.{in_range}
use Rattle.frame.specs.Frame.{data_limit, Change, command, raise, lower, Frame, opening, welcome, order, ack, refuse}
use Rattle.registers.specs.Block.{block_length, block, from_block}
use Rattle.judging.specs.declared.End.{End}
use Rattle.judging.specs.declared.End.TheVariants.{Box, Office}

-- ---- a field, at the front of some bytes

-- tag and length
abbrev pub header_length : ℕ
header_length = 3

-- how long its contents are by its own header
abbrev pub contents_length : List ℕ → ℕ
contents_length b = le16 (drop 1 b)

abbrev pub field_length : List ℕ → ℕ
field_length b = header_length + contents_length b

abbrev pub contents : List ℕ → List ℕ
contents b = take (contents_length b) (drop header_length b)

-- ---- what a tag asks for

-- the tags of a first field, and of a change in an ORDER
abbrev pub is_first : ℕ → Bool
is_first tag = leb 0x10 tag && leb tag 0x14

abbrev pub is_change : ℕ → Bool
is_change tag = leb 0x21 tag && leb tag 0x23

-- whether a first tag is meant for an end
abbrev pub is_for : End → ℕ → Bool
is_for Box tag = eqb tag 0x10 || eqb tag 0x12
is_for Office tag = eqb tag 0x11 || eqb tag 0x13 || eqb tag 0x14

-- how long contents are: a session; one with a number or a count; one with a refusal; a step
abbrev pub session_length : ℕ
session_length = 4

abbrev pub numbered_length : ℕ
numbered_length = session_length + 2

abbrev pub refusing_length : ℕ
refusing_length = session_length + 1

abbrev pub step_length : ℕ
step_length = 2

unfoldable pub length_right : ℕ → ℕ → Bool
length_right tag n =
    cond (eqb tag 0x10) (eqb n session_length)
    (cond (eqb tag 0x11) (eqb n session_length)
    (cond (eqb tag 0x12) (eqb n numbered_length)
    (cond (eqb tag 0x13) (eqb n numbered_length)
    (cond (eqb tag 0x14) (eqb n refusing_length)
    (cond (eqb tag 0x20) (eqb n block_length)
    (cond (eqb tag 0x21) (leb 1 n && leb n (1 + data_limit))
    (eqb n step_length)))))))

-- settings that a controller could hold, in the bytes that it would write
unfoldable pub settings_allowed : List ℕ → Bool
settings_allowed d = in_range (from_block d) && bytes_eq (block (from_block d)) d

-- what a REFUSE may carry
abbrev pub refusal_allowed : ℕ → ℕ → Bool
refusal_allowed s r = cond (leb 5 r && leb r 7) true (leb 14 r && leb r 19 && eqb s 0)

-- an order's number is from 1
unfoldable pub contents_allowed : ℕ → List ℕ → Bool
contents_allowed tag d =
    cond (eqb tag 0x12) (leb 1 (le16 (drop session_length d)))
    (cond (eqb tag 0x14) (refusal_allowed (le32 d) (get_or d session_length 0))
    (cond (eqb tag 0x20) (settings_allowed d)
    true))

-- ---- the fault told, if there is one

abbrev pub unless : Option Fault → Option Fault → Option Fault
unless (some f) next = some f
unless none next = next

-- in the field at the front of b, which begin at this offset, where a tag like its own is expected or not
unfoldable pub field_fault : Bool → List ℕ → ℕ → Option Fault
field_fault expected b offset =
    let tag = get_or b 0 0 in
    cond (ltb (length b) (field_length b)) (some (fault 14 offset))
    (cond expected
    (cond (length_right tag (contents_length b))
    (cond (contents_allowed tag (contents b)) none (some (fault 17 offset)))
    (some (fault 16 offset)))
    (some (fault 15 offset)))

-- where the frame must have ended
abbrev pub end_fault : List ℕ → ℕ → Option Fault
end_fault b offset = cond (eqb (length b) 0) none (some (fault 18 offset))

-- in the frame's last field, and behind it
unfoldable pub last_fault : Bool → List ℕ → ℕ → Option Fault
last_fault expected b offset = unless (field_fault expected b offset) (end_fault (drop (field_length b) b) (offset + field_length b))

-- behind the first field, which has this tag
unfoldable pub rest_fault : ℕ → List ℕ → ℕ → Option Fault
rest_fault tag b offset =
    cond (eqb tag 0x11) (last_fault (eqb (get_or b 0 0) 0x20) b offset)
    (cond (eqb tag 0x12) (last_fault (is_change (get_or b 0 0)) b offset)
    (end_fault b offset))

-- in bytes at an end
unfoldable pub fault_told : End → List ℕ → Option Fault
fault_told end b =
    let tag = get_or b 0 0 in
    unless (field_fault (is_first tag) b 0)
    (cond (is_for end tag) (rest_fault tag (drop (field_length b) b) (field_length b))
    (some (fault 19 0)))

-- ---- the frame, read by position: where no fault is told, its parts stand there

abbrev pub session_in : List ℕ → ℕ
session_in b = le32 (drop 3 b)

-- the number of an ORDER or an ACK
abbrev pub number_in : List ℕ → ℕ
number_in b = le16 (drop 7 b)

unfoldable pub change_in : List ℕ → Change
change_in b =
    cond (eqb (get_or b 0 0) 0x21) (command (get_or b 3 0) (drop 4 b))
    (cond (eqb (get_or b 0 0) 0x22) (raise (le16 (drop 3 b)))
    (lower (le16 (drop 3 b))))

unfoldable pub frame_in : List ℕ → Frame
frame_in b =
    cond (eqb (get_or b 0 0) 0x10) (opening (session_in b))
    (cond (eqb (get_or b 0 0) 0x11) (welcome (session_in b) (from_block (drop 10 b)))
    (cond (eqb (get_or b 0 0) 0x12) (order (session_in b) (number_in b) (change_in (drop 9 b)))
    (cond (eqb (get_or b 0 0) 0x13) (ack (session_in b) (number_in b))
    (refuse (session_in b) (get_or b 7 0)))))

-- ---- both

pub data Decoded : Type 0 where
  a_fault : Fault → Decoded
  a_frame : Frame → Decoded

abbrev pub decoded : Option Fault → Frame → Decoded
decoded (some f) frame = a_fault f
decoded none frame = a_frame frame

unfoldable pub decode : End → List ℕ → Decoded
decode end b = decoded (fault_told end b) (frame_in b)
