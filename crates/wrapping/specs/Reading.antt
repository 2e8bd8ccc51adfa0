-- What a receiver hands on along a run of bytes: byte by byte, and as a host calls it.
use Rattle.std.specs.Prelude.{ℕ, zero, suc, List, [], ◌∷◌, ◌++◌, length, take, drop}
use Rattle.base.specs.Refusal.{Fault, fault_of}
use Rattle.wrapping.specs.declared.Event.{Event}
use Rattle.wrapping.specs.declared.Event.TheVariants.{Nothing, Frame, Refused}
use Rattle.wrapping.specs.declared.Received.{Received}
use Rattle.wrapping.specs.declared.Receiver.{Receiver}
use Rattle.wrapping.specs.Receiver.{step, receive}

-- a frame, or the fault of an outer field
pub data Handed : Type 0 where
  frame : List ℕ → Handed
  refused : Fault → Handed

-- what came with a call: a frame is the front of the receiver's buffer
abbrev pub came_with : Event → Receiver → List Handed
came_with Nothing r = []
came_with (Frame n) r = frame (take n r.buffer) ∷ []
came_with (Refused fault) r = refused (fault_of fault) ∷ []

abbrev pub came : Received → List Handed
came t = came_with t.event t.receiver

-- the receiver afterwards, and what was handed on
pub record Reading : Type 0 where
  pub receiver : Receiver
  pub handed : List Handed

abbrev pub earlier : List Handed → Reading → Reading
earlier handed t = record t { handed = handed ++ t.handed }

abbrev pub idle : Receiver → Reading
idle r = record { receiver = r; handed = [] }

-- byte by byte
abbrev pub read : Receiver → List ℕ → Reading
read r [] = idle r
read r (byte ∷ bytes) = earlier (came (step r byte)) (read (step r byte).receiver bytes)

-- calls of `receive` on one piece, each given what the one before did not take, until it is used up or so many calls are made
unfoldable pub calls : ℕ → Receiver → List ℕ → Reading
calls zero r bytes = idle r
calls (suc n) r [] = idle r
calls (suc n) r (byte ∷ bytes) =
    let t = receive r (byte ∷ bytes) in
    earlier (came t) (calls n t.receiver (drop t.took (byte ∷ bytes)))

-- a host's calls on one piece: each takes a byte at least, so that as many as it has bytes use it up
abbrev pub given : Receiver → List ℕ → Reading
given r piece = calls (length piece) r piece

-- piece after piece
abbrev pub given_all : Receiver → List (List ℕ) → Reading
given_all r [] = idle r
given_all r (piece ∷ pieces) = earlier (given r piece).handed (given_all (given r piece).receiver pieces)
