-- The marked examples, computed against both definitions of the controller.
use Rattle.packet.specs.Packet.{total, checksum}
use Rattle.packet.specs.Reply.{success}
use Rattle.settings.specs.Settings.{set_bit, flagged}
use Rattle.number.specs.Signed.{offset}
use Rattle.bus.specs.Commands.{lookup, access, write_register, perform_offered, perform_found}
use Rattle.bus.specs.Bus.{after_length, after_data, start, judge, feed_at, inside, outside, after, out}
use Rattle.bus.specs.Run.{run, outs}
use Rattle.bus.specs.AsWritten.{negative, signed, table, find, sum, good_read, command, checked, whole, closed, collected, in_packet, taken, step, steps, sent}
use Rattle.bus.specs.Examples.{examples, all_met, same_bytes, same_settings, MetByTheBus, MetAsWritten}

pub met_by_the_bus : MetByTheBus
unfolding examples all_met same_bytes same_settings run outs after out start outside inside feed_at judge after_length after_data perform_found perform_offered write_register lookup access set_bit flagged offset success checksum total
met_by_the_bus = tt

pub met_as_written : MetAsWritten
unfolding examples all_met same_bytes same_settings steps sent step taken in_packet collected whole closed checked command find table sum good_read signed negative
met_as_written = tt
