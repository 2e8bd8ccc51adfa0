use Rattle.receiving.proofs.Turns.{judged_fault, judged_frame, takes_fault}
use Rattle.receiving.proofs.frame_in.Goals as goal

pub returns-in_err-decode : goal.returns-in_err-decode
returns-in_err-decode c = rw (judged_fault c.args.office _ _ c.in_err-decode.ensures.fault) (takes_fault c.args.office _ _ c.from_residual.ensures.1)

pub returns : goal.returns
returns c = rw (judged_frame c.args.office _ _ c.in_ok-decode.ensures.fault c.in_ok-decode.ensures.meaning) c.received.ensures
