use Rattle.std.proofs.Common.{drop}
use Rattle.order_literals.specs.Statements.{statements_of}
use Rattle.match_clauses.specs.Claimed.{terms_said}
use Rattle.match_clauses.proofs.Putting.{IsSoFar}
use Rattle.match_clauses.proofs.claims.put_terms.Given as goal

abbrev pub invariant-loop-place : goal.invariant-loop-place
invariant-loop-place l =
    IsSoFar (statements_of l.source.numbering.now) (terms_said l.source.spec.now.relations l.source.completion.now
    l.rel l.ent 0 l.terms)
    (terms_said l.source.spec.now.relations l.source.completion.now l.rel l.ent l.place (drop l.place l.terms))
    l.initial.lits l.lits
