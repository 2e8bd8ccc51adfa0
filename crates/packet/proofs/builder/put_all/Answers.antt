use Rattle.packet.proofs.Building.{put_room, put_more}
use Rattle.packet.proofs.builder.put_all.Goals as goal

pub put-at-requires : goal.put-at-requires
put-at-requires c = put_room _ _ c.loop-byte.invariant c.loop-byte-test.true c.requires

pub loop-byte-preserved : goal.loop-byte-preserved
loop-byte-preserved c = put_more _ _ c.loop-byte.invariant c.loop-byte-test.true c.put-at.ensures
