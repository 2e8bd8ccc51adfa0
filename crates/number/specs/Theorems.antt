-- What holds of offsets, for a reader of the sent amount and sign.
use Rattle.std.specs.Prelude.{ℕ, ◌<◌, cond, ◌≡◌, eqb, ℤ, nat_abs}
use Rattle.number.specs.Signed.{offset, magnitude, sign}

-- an offset has the amount that it was made of
abbrev pub MagnitudeOffset : Type 0
MagnitudeOffset = (a s : ℕ) → a < 65536 → magnitude (offset a s) ≡ a

-- its sign is 0 if it is below zero, else 1
abbrev pub SignOffset : Type 0
SignOffset = (a s : ℕ) → sign (offset a s) ≡ cond (eqb s 0) (cond (eqb a 0) 1 0) 1

-- an offset's amount and sign give the offset back
abbrev pub OffsetRead : Type 0
OffsetRead = (z : ℤ) → nat_abs z < 65536 → offset (magnitude z) (sign z) ≡ z
