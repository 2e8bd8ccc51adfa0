use Rattle.order.proofs.Laws.{any_escape}
use Rattle.order.proofs.effect.note.Goals as goal

pub returns-then-contains : goal.returns-then-contains
returns-then-contains c =
    rw (c.flagged.ensures, ← (any_escape c.args.packet.now), ← c.contains.ensures.value, c.if-contains.true)

pub returns-else-contains : goal.returns-else-contains
returns-else-contains c = rw (← (any_escape c.args.packet.now), ← c.contains.ensures.value, c.if-contains.false)
