-- The receiver of wrapped frames, byte by byte: document 02, Ask 1. Theorems.antt says the same of whole fields.
use Rattle.std.specs.Prelude.{ℕ, ◌+◌, ◌*◌, ◌-◌, min, Bool, true, false, cond, List, [], ◌∷◌, set, replicate, eqb, leb, ltb}
use Rattle.base.specs.declared.refusal.Fault.{Fault}
use Rattle.base.specs.declared.refusal.FrameFault.TheVariants.{WrongLength}
use Rattle.wrapping.specs.declared.Event.{Event}
use Rattle.wrapping.specs.declared.Event.TheVariants.{Nothing, Frame, Refused}
use Rattle.wrapping.specs.declared.Place.{Place}
use Rattle.wrapping.specs.declared.Place.TheVariants.{Tag, LengthLow, LengthHigh, Contents, Skipped}
use Rattle.wrapping.specs.declared.Received.{Received}
use Rattle.wrapping.specs.declared.Receiver.{Receiver}
use Rattle.wrapping.specs.Wrapping.{contents_most, outer_tag, fits}

-- where the count of dropped bytes stops
abbrev pub dropped_most : ℕ
dropped_most = 4294967295

abbrev pub fresh : Receiver
fresh = record { place = Tag; buffer = replicate contents_most 0; dropped = 0 }

-- ---- one byte

-- the byte taken, with what came
abbrev pub moved : Receiver → Place → Event → Received
moved r place event = record { receiver = record r { place = place }; took = 1; event = event }

-- one byte more, as far as the count goes
unfoldable pub counted : ℕ → ℕ
counted n = cond (ltb n dropped_most) (n + 1) n

abbrev pub dropping : Receiver → Receiver
dropping r = record r { dropped = counted r.dropped }

abbrev pub storing : Receiver → ℕ → ℕ → Receiver
storing r i byte = record r { buffer = set r.buffer i byte }

unfoldable pub at_tag : Receiver → ℕ → Received
at_tag r byte = cond (eqb byte outer_tag) (moved r LengthLow Nothing) (moved (dropping r) Tag Nothing)

-- the place with so many bytes left to be skipped
unfoldable pub skipping : ℕ → Place
skipping n = cond (eqb n 0) Tag (Skipped n)

-- a wrong length's fault is told at the outer tag
abbrev pub wrong_length : Fault
wrong_length = record { kind = WrongLength; offset = 0 }

-- a length is judged at once
unfoldable pub at_length : Receiver → ℕ → Received
at_length r n = cond (fits n) (moved r (Contents n 0) Nothing) (moved r (skipping n) (Refused wrong_length))

-- byte `filled` of a frame of n bytes
unfoldable pub at_contents : Receiver → ℕ → ℕ → ℕ → Received
at_contents r n filled byte =
    let stored = storing r filled byte in
    cond (leb n (filled + 1)) (moved stored Tag (Frame (min n contents_most))) (moved stored (Contents n (filled + 1)) Nothing)

abbrev pub step_at : Place → Receiver → ℕ → Received
step_at Tag r byte = at_tag r byte
step_at LengthLow r byte = moved r (LengthHigh byte) Nothing
step_at (LengthHigh low) r byte = at_length r (low + byte * 256)
step_at (Contents n filled) r byte = at_contents r n filled byte
step_at (Skipped left) r byte = moved r (skipping (left - 1)) Nothing

abbrev pub step : Receiver → ℕ → Received
step r byte = step_at r.place r byte

-- ---- a run of bytes

abbrev pub is_nothing : Event → Bool
is_nothing Nothing = true
is_nothing (Frame n) = false
is_nothing (Refused fault) = false

abbrev pub after_more : ℕ → Received → Received
after_more n t = record t { took = n + t.took }

-- up to and with the byte with which something comes
unfoldable pub receive : Receiver → List ℕ → Received
receive r [] = record { receiver = r; took = 0; event = Nothing }
receive r (byte ∷ bytes) =
    let t = step r byte in
    cond (is_nothing t.event) (after_more 1 (receive t.receiver bytes)) t
