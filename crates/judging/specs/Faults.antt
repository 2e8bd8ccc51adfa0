-- What is wrong with a frame, and where: document 02's second request, in its own terms. Every fault that some bytes have at an end is listed, by its number
-- and then by its place; which of them comes first, `Before` says.
-- Shared with Decoding.antt: numbers in bytes, and `settings_allowed`, which `decode_exact` ties to the settings that a controller could hold.
use Rattle.std.specs.Prelude.{ℕ, ◌+◌, ◌<◌, ◌≤◌, ◌≡◌, Bool, true, false, cond, not, ◌&&◌, ◌||◌, length, get_or, take, drop, eqb, leb, ltb}
use mathlib.Core.List.{List, [], ◌∷◌, ◌++◌, Memᴰ}
use Rattle.base.specs.Refusal.{Fault, fault}
use Rattle.number.specs.Number.{le16, le32}
use Rattle.judging.specs.declared.End.{End}
use Rattle.judging.specs.declared.End.TheVariants.{Box, Office}
use Rattle.judging.specs.Decoding.{settings_allowed}

abbrev pub among : ℕ → List ℕ → Bool
among n [] = false
among n (m ∷ ms) = eqb n m || among n ms

-- ---- the fields of 01's frames

-- a tag, the least and the largest length of its contents, and which contents are allowed
pub record Row : Type 0 where
  pub tag : ℕ
  pub least : ℕ
  pub most : ℕ
  pub allowed : List ℕ → Bool

abbrev pub row : ℕ → ℕ → ℕ → (List ℕ → Bool) → Row
row tag least most allowed = record { tag = tag; least = least; most = most; allowed = allowed }

abbrev pub any : List ℕ → Bool
any d = true

-- an order's number is not 0
abbrev pub numbered : List ℕ → Bool
numbered d = not (eqb (le16 (drop 4 d)) 0)

-- what a REFUSE may carry; 14 to 19 only with session 0
abbrev pub refusing : List ℕ → Bool
refusing d = among (get_or d 4 0) (5 ∷ 6 ∷ 7 ∷ []) || (among (get_or d 4 0) (14 ∷ 15 ∷ 16 ∷ 17 ∷ 18 ∷ 19 ∷ []) && eqb (le32 d) 0)

abbrev pub rows : List Row
rows =
    row 0x10 4 4 any
    ∷ row 0x11 4 4 any
    ∷ row 0x12 6 6 numbered
    ∷ row 0x13 6 6 any
    ∷ row 0x14 5 5 refusing
    ∷ row 0x20 37 37 settings_allowed
    ∷ row 0x21 1 17 any
    ∷ row 0x22 2 2 any
    ∷ row 0x23 2 2 any
    ∷ []

abbrev pub first_tags : List ℕ
first_tags = 0x10 ∷ 0x11 ∷ 0x12 ∷ 0x13 ∷ 0x14 ∷ []

-- those that may stand behind a first tag; behind others the frame ends
abbrev pub second_tags : ℕ → List ℕ
second_tags tag =
    cond (eqb tag 0x11) (0x20 ∷ [])
    (cond (eqb tag 0x12) (0x21 ∷ 0x22 ∷ 0x23 ∷ [])
    [])

abbrev pub tags_for : End → List ℕ
tags_for Box = 0x10 ∷ 0x12 ∷ []
tags_for Office = 0x11 ∷ 0x13 ∷ 0x14 ∷ []

abbrev pub other : End → End
other Box = Office
other Office = Box

-- ---- the field at an offset of some bytes

abbrev pub tag_at : List ℕ → ℕ → ℕ
tag_at b offset = get_or b offset 0

abbrev pub length_at : List ℕ → ℕ → ℕ
length_at b offset = le16 (drop (offset + 1) b)

-- where it ends, by its own length
abbrev pub end_at : List ℕ → ℕ → ℕ
end_at b offset = offset + 3 + length_at b offset

abbrev pub contents_at : List ℕ → ℕ → List ℕ
contents_at b offset = take (length_at b offset) (drop (offset + 3) b)

-- ---- the places of a frame, in bytes that may be one

-- where a field is needed, with the tags that may stand there, or where the frame must have ended: there, none may
pub record Place : Type 0 where
  pub offset : ℕ
  pub tags : List ℕ

abbrev pub place : ℕ → List ℕ → Place
place offset tags = record { offset = offset; tags = tags }

-- behind a field that begins at this offset
abbrev pub places_behind : List ℕ → ℕ → List ℕ → List Place
places_behind b offset [] = place (end_at b offset) [] ∷ []
places_behind b offset (tag ∷ tags) = place (end_at b offset) (tag ∷ tags) ∷ place (end_at b (end_at b offset)) [] ∷ []

abbrev pub places : List ℕ → List Place
places b = place 0 first_tags ∷ places_behind b 0 (second_tags (tag_at b 0))

abbrev pub needed : Place → Bool
needed p = not (eqb (length p.tags) 0)

-- ---- the six faults, each at a place

-- some row has this tag, and does not allow this
abbrev pub forbidden : ℕ → (Row → Bool) → List Row → Bool
forbidden tag allows [] = false
forbidden tag allows (r ∷ rs) = (eqb tag r.tag && not (allows r)) || forbidden tag allows rs

abbrev pub wrong_length : ℕ → ℕ → Bool
wrong_length tag n = forbidden tag (λ (r : Row). leb r.least n && leb n r.most) rows

abbrev pub wrong_contents : ℕ → List ℕ → Bool
wrong_contents tag d = forbidden tag (λ (r : Row). r.allowed d) rows

-- 14: the bytes end inside a field, or before a needed one
abbrev pub ends_early : List ℕ → Place → Bool
ends_early b p = needed p && ltb (length b) (end_at b p.offset)

-- 15: a tag that may not stand there
abbrev pub unexpected_tag : List ℕ → Place → Bool
unexpected_tag b p = needed p && ltb p.offset (length b) && not (among (tag_at b p.offset) p.tags)

-- 16: a length that its tag may not have
abbrev pub unexpected_length : List ℕ → Place → Bool
unexpected_length b p = needed p && ltb (p.offset + 2) (length b) && wrong_length (tag_at b p.offset) (length_at b p.offset)

-- 17: contents, there as a whole and of a right length, that its tag may not have
abbrev pub unexpected_contents : List ℕ → Place → Bool
unexpected_contents b p =
    needed p
    && leb (end_at b p.offset) (length b)
    && not (wrong_length (tag_at b p.offset) (length_at b p.offset))
    && wrong_contents (tag_at b p.offset) (contents_at b p.offset)

-- 18: bytes after the end
abbrev pub goes_on : List ℕ → Place → Bool
goes_on b p = not (needed p) && ltb p.offset (length b)

-- 19: a first tag meant for the other end
abbrev pub for_other_end : End → List ℕ → Place → Bool
for_other_end end b p = eqb p.offset 0 && ltb 0 (length b) && among (tag_at b 0) (tags_for (other end))

-- ---- all faults, and which comes first

pub record Test : Type 0 where
  pub number : ℕ
  pub holds : Place → Bool

abbrev pub test : ℕ → (Place → Bool) → Test
test number holds = record { number = number; holds = holds }

abbrev pub tests : End → List ℕ → List Test
tests end b =
    test 14 (ends_early b)
    ∷ test 15 (unexpected_tag b)
    ∷ test 16 (unexpected_length b)
    ∷ test 17 (unexpected_contents b)
    ∷ test 18 (goes_on b)
    ∷ test 19 (for_other_end end b)
    ∷ []

-- a test at each place, and each test at each place
abbrev pub found : Test → List Place → List Fault
found t [] = []
found t (p ∷ ps) = cond (t.holds p) (fault t.number p.offset ∷ found t ps) (found t ps)

abbrev pub all_found : List Test → List Place → List Fault
all_found [] ps = []
all_found (t ∷ ts) ps = found t ps ++ all_found ts ps

abbrev pub faults : End → List ℕ → List Fault
faults end b = all_found (tests end b) (places b)

-- the lower offset wins; at one field, the order listed
pub data Before (f g : Fault) : Type 0 where
  lower : f.offset < g.offset → Before f g
  listed : f.offset ≡ g.offset → f.number ≤ g.number → Before f g

pub record Least (f : Fault) (fs : List Fault) : Type 0 where
  pub one_of : Memᴰ f fs
  pub before_all : (g : Fault) → Memᴰ g fs → Before f g
