use Rattle.std.proofs.Common.{◌∷◌, []}
use Rattle.std.proofs.lemmas.Result.{on_ok_weaker}
use Rattle.refutation_log.specs.declared.step.Label.TheVariants as label
use Rattle.order_clauses.proofs.Adding.{adds_both}
use Rattle.order_clauses.proofs.Threes.{three_back}
use Rattle.order_clauses.proofs.three_rows.both_ways.Goals as goal

pub one_way-requires-2 : goal.one_way-requires-2
one_way-requires-2 c = three_back c.args.column.now.relation.rows c.args.first c.args.second c.args.third c.requires

pub returns : goal.returns
returns c =
    let p = c.args.column.now in
    on_ok_weaker c.one_way-2.result
    (adds_both p.subject (label.Transitive p.rel p.attr c.args.first c.args.second c.args.third ∷ [])
    (label.Transitive p.rel p.attr c.args.third c.args.second c.args.first ∷ []) _ _ _ c.in_ok-one_way.ensures)
    c.one_way-2.ensures
