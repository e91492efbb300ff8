use Rattle.std.proofs.Common.{drop}
use Rattle.order_literals.specs.Statements.{statements_of}
use Rattle.match_clauses.specs.Claimed.{atoms_said}
use Rattle.match_clauses.proofs.Putting.{IsSoFar}
use Rattle.match_clauses.proofs.claims.put_atoms.Given as goal

abbrev pub invariant-loop-place : goal.invariant-loop-place
invariant-loop-place l =
    IsSoFar (statements_of l.source.numbering.now) (atoms_said l.source.spec.now.relations l.source.completion.now
    l.atoms l.entities)
    (atoms_said l.source.spec.now.relations l.source.completion.now (drop l.place l.atoms) (drop l.place l.entities))
    l.initial.lits l.lits
