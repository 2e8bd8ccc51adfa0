-- Laws for the proofs of this crate.
use Rattle.std.proofs.Common.{◌≡◌, ◌≤◌, ℕ, refl, length, take, length-take, arith, Result, Ok, Err}
use Rattle.std.specs.Result.{result_unwrap_or}
use Rattle.base.specs.declared.refusal.Refusal.{Refusal}
use Rattle.packet.specs.Packet.{packet_limit}
use Rattle.packet.proofs.PacketTheorems.{packet_of_short}
use Rattle.frame.specs.Frame.{data_limit}
use Rattle.frame.specs.View.{asked}
use Rattle.frame.specs.declared.frame.Change.{Change}
use Rattle.link.specs.View.{length_written}
use Rattle.judging.specs.Decoding.{Decoded, a_fault, a_frame}
use Rattle.judging.specs.View.{fault_in, frame_read}
use Rattle.order.specs.Apply.{change_command, change_data, order_packet}
use Rattle.order.proofs.Keeps.{data_short}
use Rattle.session.specs.declared.Cab.{Cab}
use Rattle.session.specs.Box as box
use Rattle.cabbox.specs.View.{judged}

-- the packet of a change has room
pub order_fits : (level : ℕ) (change : Change) → length change.body ≡ data_limit → length (order_packet level (asked change)) ≤ packet_limit
order_fits level change body =
    let few : length (take change.count change.body) ≤ data_limit = rw length-take (omega arith) in
    packet_of_short (change_command (asked change)) (change_data level (asked change)) (data_short level change.ask (take change.count change.body) few)

-- what is made of bytes, from what is found in them and the frame read
pub judged_decoded : (c : Cab) (d : Decoded) → judged c (fault_in d) (frame_read d) ≡ box.judged c d
judged_decoded c (a_fault f) = refl
judged_decoded c (a_frame f) = refl

-- the length written, none on a refusal
pub unwrapped : (r : Result ℕ Refusal) → result_unwrap_or r 0 ≡ length_written r
unwrapped (Ok n) = refl
unwrapped (Err r) = refl
