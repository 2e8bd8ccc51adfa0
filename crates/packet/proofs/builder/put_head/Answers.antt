use native.Mathlib.Omega.{arith}
use Rattle.packet.proofs.PacketTheorems.{escape_byte_short}
use Rattle.packet.proofs.Building.{put_then, put_after}
use Rattle.packet.proofs.builder.put_head.Goals as goal

pub put-at-requires : goal.put-at-requires
put-at-requires c = omega (arith, escape_byte_short c.args.command)

pub put-requires : goal.put-requires
put-requires c =
    let a = c.args in
    omega (arith, escape_byte_short a.command, escape_byte_short a.count)

pub returns : goal.returns
returns c = put_after (put_then c.put-at.ensures c.put.ensures)
