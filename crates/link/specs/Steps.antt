-- What private functions do on the way: definitions that no public contract cites.
use Rattle.std.specs.Prelude.{Bool, false}
use Rattle.frame.specs.Frame.{Frame, opening, welcome, order, ack, refuse, too_long}

-- whether a frame has more data than its struct has room for
abbrev pub frame_too_long : Frame → Bool
frame_too_long (opening s) = false
frame_too_long (welcome s σ) = false
frame_too_long (order s n c) = too_long c
frame_too_long (ack s k) = false
frame_too_long (refuse s r) = false
