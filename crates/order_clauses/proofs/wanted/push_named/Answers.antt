use Rattle.std.proofs.Common.{sym, subst}
use Rattle.std.proofs.Common.{List, []}
use Rattle.currency_base.specs.declared.lit.Lit.{Lit}
use Rattle.entity_lists.specs.Lists.{entities_of}
use Rattle.entity_lists.proofs.Facts.{rows_once}
use Rattle.order_clauses.specs.Added.{Tells}
use Rattle.order_clauses.specs.Listing.{value_clause}
use Rattle.order_clauses.specs.Subject.{variables}
use Rattle.order_clauses.proofs.WantedClauses.{value_is_clause, value_once}
use Rattle.order_clauses.proofs.wanted.push_named.Goals as goal

pub push_distinct-requires-clause-clause : goal.push_distinct-requires-clause-clause
push_distinct-requires-clause-clause c =
    let p = c.args.column.now in
    let tells = subst (λ (l : List Lit). Tells (variables p.subject) (value_clause p c.args.ent.0 c.args.row) [] l)
    (sym c.as_slice.ensures.value) c.in_ok-value_lits.ensures in
    rw (c.sayings.ensures, c.rel.ensures, c.attr.ensures)
    (value_is_clause p c.args.ent.0 c.args.row c.as_slice.result.now c.facts.ensures c.requires.facts
    c.requires.of_entity c.requires.named tells)

pub push_distinct-requires-clause-once : goal.push_distinct-requires-clause-once
push_distinct-requires-clause-once c =
    let p = c.args.column.now in
    let tells = subst (λ (l : List Lit). Tells (variables p.subject) (value_clause p c.args.ent.0 c.args.row) [] l)
    (sym c.as_slice.ensures.value) c.in_ok-value_lits.ensures in
    value_once c.one_literal.ensures.said p c.args.ent.0 c.args.row c.as_slice.result.now
    (rows_once (entities_of p.relation.rows) c.args.ent.0) c.facts.ensures c.requires.facts c.requires.of_entity
    c.requires.named tells
