-- What the calls give.
use Rattle.std.specs.Prelude.{Ok}
use Rattle.std.proofs.Math.Option.{Option, none, some}
use Rattle.base.specs.Refusal.{Fault}
use Rattle.frame.specs.Frame.{Frame}
use Rattle.frame.specs.View.{meaning, refusal_of}
use Rattle.frame.specs.declared.frame.Frame.{Frame as FrameStruct}
use Rattle.cabbox.specs.declared.Turn.{Turn as TurnStruct}
use Rattle.session.specs.declared.Cab.{Cab}
use Rattle.session.specs.Box as box
use Rattle.outcome.specs.Turn.{Turn, faulted_by}

abbrev pub turn : TurnStruct → Turn Cab
turn t = record { state = t.cab; refusal = refusal_of t.verdict; frame = meaning t.frame }

abbrev pub accepted : Cab → FrameStruct → TurnStruct
accepted c f = record { cab = c; verdict = Ok tt; frame = f }

-- no frame is answered as one that is not for the box
abbrev pub received : Cab → Option Frame → Turn Cab
received c none = box.not_for_box c
received c (some f) = box.received c f

abbrev pub judged : Cab → Option Fault → Option Frame → Turn Cab
judged c (some f) frame = faulted_by c f
judged c none frame = received c frame
