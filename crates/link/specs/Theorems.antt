-- What holds of frames in bytes.
use Rattle.std.specs.Prelude.{◌≤◌, length}
use Rattle.base.specs.Bytes.{Bytes}
use Rattle.frame.specs.Frame.{Frame}
use Rattle.link.specs.Encoding.{encode, Valid}
use Rattle.link.specs.View.{frame_limit}

-- no valid frame is longer than the limit
abbrev pub EncodeShort : Type 0
EncodeShort = (f : Frame) → Valid f → length (encode f) ≤ frame_limit

-- a valid frame's encoding is bytes
abbrev pub EncodeBytes : Type 0
EncodeBytes = (f : Frame) → Valid f → Bytes (encode f)
