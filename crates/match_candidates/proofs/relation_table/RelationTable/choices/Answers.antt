use Rattle.std.proofs.lemmas.Result.{IfOk-weaker}
use Rattle.match_candidates.proofs.Had.{choices_by_name, choices_by_rows}
use Rattle.match_candidates.proofs.relation_table.RelationTable.choices.Goals as goal

pub returns-then-place-eq0 : goal.returns-then-place-eq0
returns-then-place-eq0 c =
    IfOk-weaker c.name_of.result _ _
    (λ list is. choices_by_name c.self.inside.relation.now c.args.self.now c.self.inside.names c.as_slice.result.now
    c.args.ent c.args.place _
    c.self.view_is c.as_slice.ensures c.if-place-eq0.true c.self.invariant.names is) c.name_of.ensures

pub returns : goal.returns
returns c =
    IfOk-weaker c.distinct.result _ _
    (λ list once. choices_by_rows c.self.inside.relation.now c.args.self.now c.as_slice-rows.result.now c.rows_of.result.now
    c.args.ent
    c.args.place _ _ c.self.view_is c.as_slice-rows.ensures c.rows_of.ensures c.if-place-eq0.false c.in_ok-values.ensures
    once) c.distinct.ensures
