use Rattle.order_clauses.proofs.WantedClauses.{name_within, name_itself, last_is_clause}
use Rattle.order_clauses.proofs.wanted.push_last.Goals as goal

pub last-requires-clause-row : goal.last-requires-clause-row
last-requires-clause-row c =
    name_within c.args.column.now c.args.row c.name.result c.facts.ensures c.requires.facts c.requires.row c.name.ensures

pub last-requires-clause-named : goal.last-requires-clause-named
last-requires-clause-named c =
    name_itself c.args.column.now c.args.row c.name.result c.facts.ensures c.requires.facts c.requires.row c.name.ensures

pub push_axiom-requires : goal.push_axiom-requires
push_axiom-requires c =
    rw (c.sayings.ensures, c.rel.ensures, c.attr.ensures)
    (last_is_clause c.args.column.now c.args.row c.name.result c.not_top.result c.last.result c.facts.ensures
    c.requires.row c.name.ensures c.not_top.ensures c.last.ensures)
