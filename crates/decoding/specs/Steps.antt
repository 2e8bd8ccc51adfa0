-- What private functions do on the way: definitions that no public contract cites.
use Rattle.std.specs.Prelude.{ℕ, cond}
use Rattle.frame.specs.Frame.{Change, raise, too_long, Frame, opening, welcome, order, ack, refuse}

-- below it there is room for a field's length in a usize
abbrev pub offset_limit : ℕ
offset_limit = 131072

-- a change as its struct can hold it: one with more data than that is left a raise by 0
abbrev pub change_carried : Change → Change
change_carried c = cond (too_long c) (raise 0) c

-- a frame as its struct can hold it
abbrev pub carried : Frame → Frame
carried (opening s) = opening s
carried (welcome s σ) = welcome s σ
carried (order s n c) = order s n (change_carried c)
carried (ack s k) = ack s k
carried (refuse s r) = refuse s r
