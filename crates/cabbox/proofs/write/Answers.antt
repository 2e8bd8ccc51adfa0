use Rattle.std.proofs.Common.{rules, ◌∙◌}
use Rattle.link.proofs.FrameLaws.{sent_whole}
use Rattle.cabbox.proofs.Laws.{unwrapped}
use Rattle.cabbox.proofs.write.Goals as goal

pub returns : goal.returns
returns c =
    let sent = sent_whole c.args.frame _ _ _ (search rules) (search rules) c.send.ensures in
    record { length = c.unwrap_or.ensures ∙ unwrapped c.send.result ∙ sent.0; output = sent.1 }
