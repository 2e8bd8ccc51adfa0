-- Theorems on valid frames in bytes: they are bytes, and not too many.
use Prim.Native.Nat.{ℕ, ◌<◌}
use native.Mathlib.Omega.{arith}
use mathlib.Core.Path.{◌≡◌, refl}
use mathlib.Core.Bool.{false}
use mathlib.Core.List.{List, [], ◌∷◌, ◌++◌}
use lib.ListN.{length}
use borrow.Author.Tests.{le-ltb}
use Rattle.number.specs.Number.{le16_bytes, le32_bytes}
use Rattle.registers.specs.Block.{block}
use Rattle.registers.proofs.BlockTheorems.{block_bytes}
use Rattle.base.specs.Bytes.{Bytes}
use Rattle.base.proofs.ByteLaws.{bytes_cons, bytes_append, bytes_each}
use Rattle.number.proofs.NumberLaws.{bytes_le16, bytes_le32}
use Rattle.frame.specs.Frame.{
  data_limit,
  Change,
  command,
  raise,
  lower,
  Frame,
  opening,
  welcome,
  order,
  ack,
  refuse,
  too_long,
  ValidChange,
  valid_command,
}
use Rattle.link.specs.Encoding.{field, change_field, encode, Valid, valid_welcome, valid_order, valid_refuse, valid_refuse_fault}
use Rattle.link.proofs.FrameLaws.{encode_length}
use Rattle.link.specs.Steps.{frame_too_long}
use Rattle.link.specs.Theorems.{EncodeShort, EncodeBytes}

pub change_short : (c : Change) → ValidChange c → too_long c ≡ false
change_short (command k d) (valid_command hk hd hb) = le-ltb data_limit (length d) hd
change_short (raise n) v = refl
change_short (lower n) v = refl

pub valid_short : (f : Frame) → Valid f → frame_too_long f ≡ false
valid_short (opening s) v = refl
valid_short (welcome s σ) v = refl
valid_short (order s n c) (valid_order hs h1 hn hc) = change_short c hc
valid_short (ack s k) v = refl
valid_short (refuse s r) v = refl

pub encode_short : EncodeShort
encode_short f v = encode_length f (valid_short f v)

field_bytes : (tag : ℕ) (contents : List ℕ) → tag < 256 → Bytes contents → Bytes (field tag contents)
field_bytes tag contents h hs = bytes_cons tag (le16_bytes (length contents) ++ contents) h (bytes_append (le16_bytes (length contents)) contents (bytes_le16 (length contents)) hs)

change_bytes : (c : Change) → ValidChange c → Bytes (change_field c)
change_bytes (command k d) (valid_command hk hd hb) = field_bytes 0x21 (k ∷ d) (omega arith) (bytes_cons k d hk hb)
change_bytes (raise n) v = field_bytes 0x22 (le16_bytes n) (omega arith) (bytes_le16 n)
change_bytes (lower n) v = field_bytes 0x23 (le16_bytes n) (omega arith) (bytes_le16 n)

numbered_bytes : (tag s n : ℕ) → tag < 256 → Bytes (field tag (le32_bytes s ++ le16_bytes n))
numbered_bytes tag s n h = field_bytes tag (le32_bytes s ++ le16_bytes n) h (bytes_append (le32_bytes s) (le16_bytes n) (bytes_le32 s) (bytes_le16 n))

refuse_bytes : (s r : ℕ) → r < 256 → Bytes (field 0x14 (le32_bytes s ++ r ∷ []))
refuse_bytes s r h = field_bytes 0x14 (le32_bytes s ++ r ∷ []) (omega arith) (bytes_append (le32_bytes s) (r ∷ []) (bytes_le32 s) (bytes_each (r ∷ []) (search (arith, h))))

pub encode_bytes : EncodeBytes
unfolding encode
encode_bytes (opening s) v = field_bytes 0x10 (le32_bytes s) (omega arith) (bytes_le32 s)
encode_bytes (welcome s σ) (valid_welcome hs held) =
    bytes_append (field 0x11 (le32_bytes s)) (field 0x20 (block σ)) (field_bytes 0x11 (le32_bytes s) (omega arith) (bytes_le32 s)) (field_bytes 0x20 (block σ) (omega arith) (block_bytes σ held))
encode_bytes (order s n c) (valid_order hs h1 hn hc) =
    bytes_append (field 0x12 (le32_bytes s ++ le16_bytes n)) (change_field c) (numbered_bytes 0x12 s n (omega arith)) (change_bytes c hc)
encode_bytes (ack s k) v = numbered_bytes 0x13 s k (omega arith)
encode_bytes (refuse s r) (valid_refuse hs h5 h7) = refuse_bytes s r (omega arith)
encode_bytes (refuse s r) (valid_refuse_fault hs h14 h19) = refuse_bytes s r (omega arith)
