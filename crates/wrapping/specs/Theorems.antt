-- What holds of frames over a stream: document 02, Ask 1, whose refusal 4 Ask 2 makes 16 at offset 0.
use Rattle.std.specs.Prelude.{ℕ, ◌+◌, ◌/◌, ◌%◌, ◌<◌, ◌≤◌, min, ◌≡◌, ◌⊎◌, cond, ◌&&◌, length, take, leb}
use mathlib.Core.List.{List, [], ◌∷◌, ◌++◌, map, flat_map, flatten, Memᴰ}
use Rattle.base.specs.Bytes.{Bytes}
use Rattle.base.specs.Refusal.{fault}
use Rattle.base.specs.Result as result
use Rattle.base.specs.Result.{accepted}
use Rattle.wrapping.specs.declared.Place.TheVariants.{Tag}
use Rattle.wrapping.specs.declared.Received.{Received}
use Rattle.wrapping.specs.declared.Receiver.{Receiver}
use Rattle.wrapping.specs.Wrapping.{contents_most, wrapped, wrapping}
use Rattle.wrapping.specs.Receiver.{receive}
use Rattle.wrapping.specs.Reading.{Handed, frame, refused, came, read, given, given_all}

-- a host's calls of `receive` on a piece come to its bytes, one by one
abbrev pub GivenReads : Type 0
GivenReads = (r : Receiver) (piece : List ℕ) → given r piece ≡ read r piece

-- however the bytes are cut, the frames handed on and the state at the end are the same
abbrev pub CutAnyhow : Type 0
CutAnyhow = (r : Receiver) (pieces : List (List ℕ)) → given_all r pieces ≡ given r (flatten pieces)

-- a call takes the bytes up to and with the first one with which something comes, or all of them
pub record UpToEvent (r : Receiver) (bytes : List ℕ) (t : Received) : Type 0 where
  pub takes : read r (take t.took bytes) ≡ record { receiver = t.receiver; handed = came t }
  pub not_before : (k : ℕ) → k < t.took → (read r (take k bytes)).handed ≡ []
  pub else_all : came t ≡ [] → t.took ≡ length bytes

abbrev pub TakesUpToEvent : Type 0
TakesUpToEvent = (r : Receiver) (bytes : List ℕ) → UpToEvent r bytes (receive r bytes)

-- ---- from where a tag should stand

-- 02's numbers, told anew
abbrev pub tag : ℕ
tag = 0x01

abbrev pub longest : ℕ
longest = 64

-- where the count stops
abbrev pub count_most : ℕ
count_most = 4294967295

-- what two bytes tell
abbrev pub InTwoBytes : ℕ → Type 0
InTwoBytes n = n < 65536

-- every array of the code has that length
pub record AtTag (r : Receiver) : Type 0 where
  pub place : r.place ≡ Tag
  pub long : length r.buffer ≡ contents_most

-- the whole telling of 02, by items: a byte that is no tag, or an outer field with any contents
pub data Item : Type 0 where
  stray : ℕ → Item
  field : List ℕ → Item

abbrev pub field_head : ℕ → List ℕ
field_head n = tag ∷ n % 256 ∷ n / 256 ∷ []

abbrev pub item_bytes : Item → List ℕ
item_bytes (stray byte) = byte ∷ []
item_bytes (field contents) = field_head (length contents) ++ contents

-- a stray byte is not the tag, and two bytes tell the length of a field's contents
abbrev pub Proper : Item → Type 0
Proper (stray byte) = byte ≡ tag → ⊥
Proper (field contents) = InTwoBytes (length contents)

-- contents of 1 to 64 bytes are a frame, all others get 16 at offset 0
abbrev pub item_handed : Item → List Handed
item_handed (stray byte) = []
item_handed (field contents) = cond (leb 1 (length contents) && leb (length contents) longest) (frame contents ∷ []) (refused (fault 16 0) ∷ [])

abbrev pub item_dropped : Item → ℕ
item_dropped (stray byte) = 1
item_dropped (field contents) = 0

abbrev pub dropped_of : List Item → ℕ
dropped_of [] = 0
dropped_of (item ∷ items) = item_dropped item + dropped_of items

-- any row of items is handed on as told, the bytes that are no tag are counted up to the limit, and then a tag should stand again
pub record RowRead (r : Receiver) (row : List Item) : Type 0 where
  pub handed : (given r (flat_map item_bytes row)).handed ≡ flat_map item_handed row
  pub at_tag : AtTag (given r (flat_map item_bytes row)).receiver
  pub dropped : (given r (flat_map item_bytes row)).receiver.dropped ≡ min (r.dropped + dropped_of row) count_most

abbrev pub RowsRead : Type 0
RowsRead = (r : Receiver) → AtTag r → r.dropped ≤ count_most → (row : List Item) → ((item : Item) → Memᴰ item row → Proper item) → RowRead r row

-- every run of bytes is such a row, and behind it nothing or the beginning of one more field
pub record Unfinished (bytes : List ℕ) : Type 0 where
  pub contents : List ℕ
  pub proper : Proper (field contents)
  pub missing : List ℕ
  pub some_missing : 1 ≤ length missing
  pub joined : bytes ++ missing ≡ item_bytes (field contents)

pub record Parted (bytes : List ℕ) : Type 0 where
  pub row : List Item
  pub proper : (item : Item) → Memᴰ item row → Proper item
  pub rest : List ℕ
  pub unfinished : (rest ≡ []) ⊎ Unfinished rest
  pub joined : flat_map item_bytes row ++ rest ≡ bytes

abbrev pub EveryRun : Type 0
EveryRun = (bytes : List ℕ) → Bytes bytes → Parted bytes

-- wrapped frames of 1 to 64 bytes come out unchanged, each once and in order; nothing is refused or dropped, and then a tag should stand again
pub record Through (r : Receiver) (frames : List (List ℕ)) : Type 0 where
  pub handed : (given r (flat_map wrapped frames)).handed ≡ map frame frames
  pub at_tag : AtTag (given r (flat_map wrapped frames)).receiver
  pub dropped : (given r (flat_map wrapped frames)).receiver.dropped ≡ r.dropped

abbrev pub Wrappable : List ℕ → Type 0
Wrappable f = (1 ≤ length f) × (length f ≤ longest)

abbrev pub ThroughUnchanged : Type 0
ThroughUnchanged = (r : Receiver) → AtTag r → (frames : List (List ℕ)) → ((f : List ℕ) → Memᴰ f frames → Wrappable f) → Through r frames

-- a length that is refused skips exactly its bytes, whatever they are: the receiver is as before
abbrev pub BadLength : ℕ → Type 0
BadLength n = (n ≡ 0) ⊎ (longest < n)

abbrev pub BadLengthSkips : Type 0
BadLengthSkips =
    (r : Receiver) → AtTag r → (contents : List ℕ) → BadLength (length contents) → InTwoBytes (length contents) →
    given r (field_head (length contents) ++ contents) ≡ record { receiver = r; handed = refused (fault 16 0) ∷ [] }

-- the wrapping call: 2 for a bad length, then 1 for a short output; else tag, length and frame
pub record WrapAnswer (f : List ℕ) (room : ℕ) : Type 0 where
  pub bad : BadLength (length f) → wrapping f room ≡ result.refused 2
  pub short : Wrappable f → room < length (item_bytes (field f)) → wrapping f room ≡ result.refused 1
  pub written : Wrappable f → length (item_bytes (field f)) ≤ room → wrapping f room ≡ accepted (item_bytes (field f))

abbrev pub WrapAnswers : Type 0
WrapAnswers = (f : List ℕ) (room : ℕ) → WrapAnswer f room

-- ---- one call takes the bytes up to and with the one that completes a frame or a refusal, whatever follows

-- what the wrapping call writes is taken apart again
abbrev pub WrapTaken : Type 0
WrapTaken =
    (r : Receiver) → AtTag r → (f bytes rest : List ℕ) (room : ℕ) → wrapping f room ≡ accepted bytes →
    let t = receive r (bytes ++ rest) in (t.took ≡ length bytes) × (came t ≡ frame f ∷ [])

-- a bad length is refused at once
abbrev pub LengthRefused : Type 0
LengthRefused =
    (r : Receiver) → AtTag r → (n : ℕ) (rest : List ℕ) → BadLength n → InTwoBytes n →
    let t = receive r (field_head n ++ rest) in (t.took ≡ length (field_head n)) × (came t ≡ refused (fault 16 0) ∷ [])
