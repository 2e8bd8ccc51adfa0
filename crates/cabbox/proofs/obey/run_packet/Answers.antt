use Rattle.std.proofs.Common.{ap, ◌∙◌, take_all}
use Rattle.packet.specs.Packet.{packet_limit}
use Rattle.bus.specs.Run.{run}
use Rattle.cabbox.proofs.obey.run_packet.Goals as goal

pub returns : goal.returns
returns c = c.exchange_all.ensures.after ∙ ap (run c.args.controller) (take_all packet_limit _ c.as_slice.ensures.fits ∙ c.as_slice.ensures.value)
