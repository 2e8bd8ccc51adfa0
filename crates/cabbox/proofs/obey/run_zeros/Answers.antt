use Rattle.std.proofs.Common.{ℕ, ◌≤◌, ap, ◌∙◌, take, replicate, length-take-le, rules}
use Rattle.std.proofs.lemmas.List.{take-replicate}
use Rattle.bus.specs.Run.{run}
use Rattle.cabbox.proofs.obey.run_zeros.Goals as goal

pub returns : goal.returns
returns c =
    let n = c.args.count in
    let short : n ≤ 255 = search rules in
    let zeros = ap (λ (k : ℕ). take k (replicate 255 0)) (length-take-le n (replicate 255 0) short) ∙ take-replicate n 255 0 short in
    c.exchange_all.ensures.after ∙ ap (run c.args.controller) zeros
