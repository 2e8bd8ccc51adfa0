-- Steps of private functions.
use Rattle.std.specs.Prelude.{ℕ, ◌-◌, cond, eqb, leb}
use Rattle.std.proofs.Math.Option.{Option, none, some}
use Rattle.session.specs.Limits.{window_limit, order_limit}

-- the last two reasons of `issue_refusal`
abbrev pub count_refusal : ℕ → ℕ → Option ℕ
count_refusal issued confirmed = cond (eqb issued order_limit) (some 9) (cond (leb window_limit (issued - confirmed)) (some 8) none)
