use Rattle.session.specs.declared.Cab.{Cab}
use Rattle.outcome.proofs.Wholes.{gives_with_state}
use Rattle.batch_calls.proofs.box_frames.Goals as goal

pub returns : goal.returns
returns c = rw c.with_state.ensures (gives_with_state (λ (b : Cab). record c.args.ends { cab = b }) _ _ _ _ c.frames_in-judged.ensures)
