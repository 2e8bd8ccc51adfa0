-- What the calls give.
use Rattle.std.specs.Prelude.{ℕ, cond, length, ltb}
use Rattle.std.proofs.Math.Option.{Option, none}
use Rattle.frame.specs.Frame.{Frame}
use Rattle.link.specs.View.{encoding_of}
use Rattle.session.specs.declared.Office.{Office}
use Rattle.outcome.specs.Turn.{Turn, refused}

abbrev pub accepted : Office → Option Frame → Turn Office
accepted o frame = record { state = o; refusal = none; frame = frame }

-- a frame sent into an output of `room` bytes: all or nothing
unfoldable pub sent : Office → Option Frame → ℕ → Turn Office
sent o frame room = cond (ltb room (length (encoding_of frame))) (refused o 1) (accepted o frame)
