use Rattle.order_clauses.proofs.Threes.{three_is_clause}
use Rattle.order_clauses.proofs.three_rows.one_way.Goals as goal

pub not_before-requires : goal.not_before-requires
not_before-requires c = c.requires.first_two

pub not_before-requires-2 : goal.not_before-requires-2
not_before-requires-2 c = c.requires.last_two

pub before-requires : goal.before-requires
before-requires c = c.requires.outer_two

pub push_axiom-requires : goal.push_axiom-requires
push_axiom-requires c =
    rw (c.sayings.ensures, c.rel.ensures, c.attr.ensures)
    (three_is_clause c.args.column.now c.args.first c.args.second c.args.third c.not_before.result c.not_before-2.result
    c.before-2.result c.facts.ensures c.requires c.not_before.ensures c.not_before-2.ensures c.before-2.ensures)
