use mathlib.Core.Path.{sym, ◌∙◌}
use Rattle.outcome.proofs.Wholes.{gives_refused}
use Rattle.order_batch.proofs.Judging.{fitting, when_refused, when_fitting}
use Rattle.order_batch.proofs.issue_all.Goals as goal

pub returns-then-not-batch_fits : goal.returns-then-not-batch_fits
returns-then-not-batch_fits c =
    rw (c.refused.ensures, when_refused _ _ _ _ (sym c.batch_fits.ensures ∙ c.if-not-batch_fits.true))
    (gives_refused _ _ _)

pub issue_fitting-requires : goal.issue_fitting-requires
issue_fitting-requires c = fitting _ _ (sym c.batch_fits.ensures ∙ c.if-not-batch_fits.false)

pub returns : goal.returns
returns c = rw (when_fitting _ _ _ _ (sym c.batch_fits.ensures ∙ c.if-not-batch_fits.false)) c.issue_fitting.ensures
