use mathlib.Core.Path.{refl}
use Rattle.office.proofs.Turns.{gives_told}
use Rattle.office.proofs.answer.send.Goals as goal

pub returns : goal.returns
returns c = gives_told _ _ _ _ c.send-sent.result c.send-sent.ensures _ refl c.verdict_of-verdict.ensures c.unwrap_or-len.ensures
