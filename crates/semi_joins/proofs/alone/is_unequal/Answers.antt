use Rattle.std.proofs.Common.{not, sym, ◌∙◌}
use Rattle.std.proofs.lemmas.Bool.{OnTrue_from}
use Rattle.semi_joins.proofs.Telling.{not_true, unequal}
use Rattle.semi_joins.proofs.alone.is_unequal.Goals as goal

pub returns-in-Some-Some : goal.returns-in-Some-Some
returns-in-Some-Some c = OnTrue_from (not c.test.result) _ (λ is tests implied.
    unequal c.args.terms.now c.args.row.now c.args.equality.now c.side.result.now c.var.result c.in-Some-Some.side.now
    c.in-Some-Some.own.now c.side.ensures c.var.ensures c.in-Some-Some.ensures c.in-Some-Some.ensures'
    (sym c.test.ensures ∙ not_true c.test.result is) tests implied)
