use Rattle.std.proofs.Common.{◌≡◌, ◌≤◌, List, ℕ, length, take, ap, arith, length-take, ◌∙◌}
use Rattle.std.proofs.lemmas.List.{take_min}
use Rattle.packet.specs.Packet.{data_most, packet_of}
use Rattle.packet.specs.Writer.{built}
use Rattle.packet.proofs.Building.{put_then, data_room, sum_room, runs_built}
use Rattle.packet.proofs.builder.build.Goals as goal

pub put_all-end-requires : goal.put_all-end-requires
put_all-end-requires c = data_room _ _ (omega (arith, c.min.ensures, length-take c.min.result c.args.bytes.now)) c.put_head-start.ensures

pub put-requires : goal.put-requires
put-requires c =
    rw c.checksum.ensures (sum_room _ _ (omega (arith, c.min.ensures, length-take c.min.result c.args.bytes.now)) c.put_head-start.ensures c.put_all-end.ensures)

pub returns : goal.returns
returns c =
    let front = take c.min.result c.args.bytes.now in
    let short : length front ≤ data_most = omega (arith, c.min.ensures, length-take c.min.result c.args.bytes.now) in
    let given : front ≡ take data_most c.args.bytes.now = rw (c.min.ensures, take_min data_most c.args.bytes.now) in
    let sum = rw c.checksum.ensures at c.put.ensures in
    runs_built c.args.command front short (put_then c.put_head-start.ensures (put_then c.put_all-end.ensures sum))
    ∙ ap (λ (l : List ℕ). built (packet_of c.args.command l)) given
