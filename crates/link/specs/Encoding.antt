-- The five frames in bytes: document 01, "The adjustment link".
use Rattle.std.specs.Prelude.{ℕ, ◌<◌, ◌≤◌, ◌≡◌, List, [], ◌∷◌, ◌++◌, length}
use Rattle.number.specs.Number.{le16_bytes, le32_bytes}
use Rattle.settings.specs.declared.settings.Settings.{Settings}
use Rattle.settings.specs.Range.{Held}
use Rattle.frame.specs.Frame.{Change, command, raise, lower, Frame, opening, welcome, order, ack, refuse, ValidChange}
use Rattle.registers.specs.Block.{block}

-- ---- to bytes

-- a field is its tag, the length of its contents in two bytes, and the contents
abbrev pub field : ℕ → List ℕ → List ℕ
field tag contents = tag ∷ le16_bytes (length contents) ++ contents

abbrev pub change_field : Change → List ℕ
change_field (command k d) = field 0x21 (k ∷ d)
change_field (raise n) = field 0x22 (le16_bytes n)
change_field (lower n) = field 0x23 (le16_bytes n)

unfoldable pub encode : Frame → List ℕ
encode (opening s) = field 0x10 (le32_bytes s)
encode (welcome s σ) = field 0x11 (le32_bytes s) ++ field 0x20 (block σ)
encode (order s n c) = field 0x12 (le32_bytes s ++ le16_bytes n) ++ change_field c
encode (ack s k) = field 0x13 (le32_bytes s ++ le16_bytes k)
encode (refuse s r) = field 0x14 (le32_bytes s ++ r ∷ [])

-- ---- which frames are well formed

pub data Valid : Frame → Type 0 where
  valid_opening : {s : ℕ} → s < 4294967296 → Valid (opening s)
  valid_welcome : {s : ℕ} {σ : Settings} → s < 4294967296 → Held σ → Valid (welcome s σ)
  valid_order : {s n : ℕ} {c : Change} → s < 4294967296 → 1 ≤ n → n < 65536 → ValidChange c → Valid (order s n c)
  valid_ack : {s k : ℕ} → s < 4294967296 → k < 65536 → Valid (ack s k)
  valid_refuse : {s r : ℕ} → s < 4294967296 → 5 ≤ r → r ≤ 7 → Valid (refuse s r)
  -- for what is wrong with a frame, whose session is not told
  valid_refuse_fault : {s r : ℕ} → s ≡ 0 → 14 ≤ r → r ≤ 19 → Valid (refuse s r)
