use Rattle.std.proofs.Common.{◌≡◌, ◌∙◌, ◌∷◌, ◌++◌, [], length, rules, arith}
use Rattle.order_literals.proofs.Tabled.{table_more, tables_all}
use Rattle.order_literals.proofs.tables.all_tables.Goals as goal

pub loop-rel-preserved : goal.loop-rel-preserved
loop-rel-preserved c =
    let pushed : c.push.new.self.items ≡ c.loop-rel.tables.items ++ c.in-Ok.table ∷ [] = search rules in
    let is = rw c.is_wanted-wanted.ensures at c.in-Ok.ensures in
    table_more c.args.currents.now c.args.relations.now c.loop-rel.rel c.relation_at-relation.result.now _ _ _
    c.relation_at-relation.ensures
    c.loop-rel.invariant is pushed

pub returns : goal.returns
returns c =
    let all : c.loop-rel.rel ≡ length c.args.relations.now = omega arith in
    c.loop-rel.invariant ∙ tables_all c.args.currents.now c.args.relations.now c.loop-rel.rel all
