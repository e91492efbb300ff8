-- The groups are all parts at once, where there is one table or none, and else each part.
use Rattle.question_bind.proofs.GroupSteps.{asked_at_once, asked_in_turn, due_at_once, due_in_turn}
use Rattle.question_bind.proofs.certain.ask_groups.Goals as goal

pub returns-then-count_tables-le1-clause-asked : goal.returns-then-count_tables-le1-clause-asked
returns-then-count_tables-le1-clause-asked g c =
    asked_at_once (g.S.Shelf.texts c.args.shelf.now) c.args.spec.now.relations c.args.trees.now c.count_tables.result
    c.new-none.result c.ask_group.result c.count_tables.ensures c.if-count_tables-le1.true
    c.new-none.ensures c.ask_group.ensures.asked

pub returns-then-count_tables-le1-clause-table_due : goal.returns-then-count_tables-le1-clause-table_due
returns-then-count_tables-le1-clause-table_due g c =
    due_at_once (g.S.Shelf.texts c.args.shelf.now) c.args.spec.now.relations c.args.trees.now c.count_tables.result
    c.ask_group.result c.count_tables.ensures c.if-count_tables-le1.true c.ask_group.ensures.table

pub returns-else-count_tables-le1-clause-asked : goal.returns-else-count_tables-le1-clause-asked
returns-else-count_tables-le1-clause-asked g c =
    asked_in_turn (g.S.Shelf.texts c.args.shelf.now) c.args.spec.now.relations c.args.trees.now c.count_tables.result
    c.ask_each.result c.count_tables.ensures c.if-count_tables-le1.false c.ask_each.ensures.asked

pub returns-else-count_tables-le1-clause-table_due : goal.returns-else-count_tables-le1-clause-table_due
returns-else-count_tables-le1-clause-table_due g c =
    due_in_turn (g.S.Shelf.texts c.args.shelf.now) c.args.spec.now.relations c.args.trees.now c.count_tables.result
    c.ask_each.result c.count_tables.ensures c.if-count_tables-le1.false c.ask_each.ensures.table_due
