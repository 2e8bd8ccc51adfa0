-- What the answer of the code means: a frame, or what is wrong with the bytes.
use Rattle.std.specs.Prelude.{Result, Ok, Err}
use Rattle.std.proofs.Math.Option.{Option, none, some}
use Rattle.base.specs.declared.refusal.Fault.{Fault as FaultStruct}
use Rattle.base.specs.Refusal.{Fault, fault_of}
use Rattle.frame.specs.declared.frame.Frame.{Frame as FrameStruct}
use Rattle.frame.specs.Frame.{Frame}
use Rattle.frame.specs.View.{frame_of}
use Rattle.judging.specs.Decoding.{Decoded, a_fault, a_frame}

abbrev pub fault_found : {A : Type 0} → Result A FaultStruct → Option Fault
fault_found (Ok a) = none
fault_found (Err f) = some (fault_of f)

-- beside a fault, the malformed frame
abbrev pub frame_found : Result FrameStruct FaultStruct → FrameStruct
frame_found (Ok f) = f
frame_found (Err f) = frame_of none

abbrev pub fault_in : Decoded → Option Fault
fault_in (a_fault f) = some f
fault_in (a_frame f) = none

abbrev pub frame_read : Decoded → Option Frame
frame_read (a_fault f) = none
frame_read (a_frame f) = some f
