-- A frame wrapped in an outer field: document 02, Ask 1.
use Rattle.std.specs.Prelude.{ℕ, Bool, false, cond, List, ◌∷◌, ◌++◌, length, eqb, leb, ltb}
use Rattle.base.specs.Result.{Result, refused, accepted}
use Rattle.number.specs.Number.{le16_bytes}

-- the most bytes that a frame in an outer field has: the code's CONTENTS_MOST
abbrev pub contents_most : ℕ
contents_most = 64

abbrev pub outer_tag : ℕ
outer_tag = 0x01

-- the lengths that a frame in an outer field may have
unfoldable pub fits : ℕ → Bool
fits n = cond (eqb n 0) false (leb n contents_most)

-- tag and two-byte length
abbrev pub head : ℕ → List ℕ
head n = outer_tag ∷ le16_bytes n

abbrev pub wrapped : List ℕ → List ℕ
wrapped frame = head (length frame) ++ frame

-- the bytes to write, or a refusal, in the order 2, 1; `room` is the length of the lent output
unfoldable pub wrapping : List ℕ → ℕ → Result (List ℕ)
wrapping frame room =
    cond (fits (length frame))
    (cond (ltb room (length (wrapped frame))) (refused 1) (accepted (wrapped frame)))
    (refused 2)
