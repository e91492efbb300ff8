use Rattle.std.proofs.Common.{◌≡◌, IfSome, List, Option, Some, subst, sym}
use Rattle.currency_base.specs.declared.ids.RowId.{RowId}
use Rattle.last_rows.specs.Rows.{literals_of}
use Rattle.refutation_log.specs.Steps.{clauses_of}
use Rattle.order_links.specs.declared.list.ListId.{ListId}
use Rattle.order_search.specs.Lasting.{AreAllRowsOf}
use Rattle.order_search.specs.Searches.{Subject}
use Rattle.order_search.specs.declared.ordering.Ordered.{Ordered}
use Rattle.order_search.proofs.Lasts.{rows_are_apart, rows_are_within, steps_free}
use Rattle.order_search.proofs.lasting.derivation.Goals as goal

-- the rows that were found
found_all : (s : Subject) (list : ListId) (read : Option Ordered) (found : Ordered) → read ≡ Some found
    → IfSome read (λ o. AreAllRowsOf s list o.rows.items) → AreAllRowsOf s list found.rows.items
found_all s list read found is are = subst (λ (o : Option Ordered). IfSome o (λ f. AreAllRowsOf s list f.rows.items)) is are

pub derived-requires-clause-apart : goal.derived-requires-clause-apart
derived-requires-clause-apart c =
    let laws = c.one_literal.ensures in
    let are = subst (λ (xs : List RowId). AreAllRowsOf c.args.subject.now c.args.list xs) (sym c.as_slice.ensures.value)
    (found_all c.args.subject.now c.args.list c.in-Ok-Some.field-0 c.in-Ok-Some.found c.in-Ok-Some.field-0-is
    c.in-Ok-Some.ensures) in
    rows_are_apart c.args.subject.now c.args.list c.as_slice.result.now c.in-Ok.said are c.in-Ok.ensures laws.one laws.said
    laws.negation c.laws_of_literals.ensures.twice

pub returns-in-Ok-derived-clause-derived : goal.returns-in-Ok-derived-clause-derived
returns-in-Ok-derived-clause-derived c =
    let laws = c.one_literal.ensures in
    let are = subst (λ (xs : List RowId). AreAllRowsOf c.args.subject.now c.args.list xs) (sym c.as_slice.ensures.value)
    (found_all c.args.subject.now c.args.list c.in-Ok-Some.field-0 c.in-Ok-Some.found c.in-Ok-Some.field-0-is
    c.in-Ok-Some.ensures) in
    record {
      lits = literals_of c.in-Ok.said;
      within = rows_are_within c.args.subject.now c.args.list c.as_slice.result.now c.in-Ok.said are c.in-Ok.ensures
          laws.one laws.said laws.negation c.laws_of_literals.ensures.twice laws.within;
      derived = c.in-Ok-derived.ensures.each;
      current = c.in-Ok-derived.ensures.current;
    }

pub returns-in-Ok-derived-clause-free : goal.returns-in-Ok-derived-clause-free
returns-in-Ok-derived-clause-free c =
    let laws = c.one_literal.ensures in
    let are = subst (λ (xs : List RowId). AreAllRowsOf c.args.subject.now c.args.list xs) (sym c.as_slice.ensures.value)
    (found_all c.args.subject.now c.args.list c.in-Ok-Some.field-0 c.in-Ok-Some.found c.in-Ok-Some.field-0-is
    c.in-Ok-Some.ensures) in
    steps_free c.args.subject.now c.args.list c.as_slice.result.now c.in-Ok.said are c.in-Ok.ensures laws.one laws.said
    laws.negation c.laws_of_literals.ensures.twice (clauses_of c.args.earlier.now) c.in-Ok-derived.steps
    c.in-Ok-derived.ensures.each
