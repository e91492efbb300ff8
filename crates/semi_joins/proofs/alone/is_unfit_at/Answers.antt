use Rattle.std.proofs.Common.{not, sym, ◌∙◌}
use Rattle.std.proofs.lemmas.Bool.{OnTrue_from}
use Rattle.semi_joins.proofs.Marking.{got}
use Rattle.semi_joins.proofs.Telling.{not_true, unfit_at}
use Rattle.semi_joins.proofs.alone.is_unfit_at.Goals as goal

pub returns-in-Some-Some : goal.returns-in-Some-Some
returns-in-Some-Some c = OnTrue_from (not c.test.result) _ (λ is values fits.
    let read = c.in-Some-Some.ensures'.lookup in
    unfit_at c.args.terms.now c.args.row.now c.args.place c.in-Some-Some.told.now c.in-Some-Some.own.now c.in-Some-Some.ensures
    (sym (got c.args.row.now c.args.place c.in-Some-Some.own.now read.0 read.1)) (sym c.test.ensures ∙ not_true c.test.result is)
    values fits)
