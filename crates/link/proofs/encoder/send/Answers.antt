use borrow.Author.Rules.{rules}
use Rattle.link.proofs.FrameLaws.{sends_written}
use Rattle.link.proofs.encoder.send.Goals as goal

pub returns : goal.returns
returns c =
    let sent = sends_written _ _ _ _ (rw (c.as_slice.ensures.value, c.encode.ensures.bytes) at c.put.ensures) in
    search (rules, sent)
