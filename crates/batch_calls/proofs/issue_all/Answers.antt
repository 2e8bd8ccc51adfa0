use Rattle.session.specs.declared.Office.{Office}
use Rattle.outcome.proofs.Wholes.{gives_with_state}
use Rattle.batch_calls.proofs.issue_all.Goals as goal

pub returns : goal.returns
returns c = rw c.with_state.ensures (gives_with_state (λ (o : Office). record c.args.ends { office = o }) _ _ _ _ c.issue_all-issued.ensures)
