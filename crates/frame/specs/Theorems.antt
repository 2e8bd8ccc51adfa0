-- What holds of the structs and their meanings.
use Rattle.std.specs.Prelude.{◌≡◌}
use Rattle.std.proofs.Math.Option.{Option}
use Rattle.frame.specs.Frame.{Frame}
use Rattle.frame.specs.View.{meaning, frame_of}

-- the struct that the code makes of a frame means that frame
abbrev pub MeaningFrameOf : Type 0
MeaningFrameOf = (o : Option Frame) → meaning (frame_of o) ≡ o
