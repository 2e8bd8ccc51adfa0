use Rattle.std.proofs.Common.{◌∙◌, rules}
use Rattle.lookup_bench.proofs.AnswerLaws.{match_alike}
use Rattle.lookup_bench.proofs.by_match.puoskenda_lookup_by_match.Goals as goal

pub returns-in-Some : goal.returns-in-Some
returns-in-Some c =
    search (rules, c.row_answer.ensures, c.row.ensures, c.in-Some.is, ← c.match_id.ensures)
    ∙ match_alike _ (search rules)

pub returns-in-None : goal.returns-in-None
returns-in-None c = search (rules, c.in-None.is, ← c.match_id.ensures) ∙ match_alike _ (search rules)
