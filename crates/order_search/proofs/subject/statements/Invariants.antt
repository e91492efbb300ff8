use Rattle.std.proofs.Common.{◌≡◌, take}
use Rattle.order_literals.specs.Statements.{statements_of}
use Rattle.order_search.proofs.subject.statements.Given as goal

abbrev pub invariant-loop-var : goal.invariant-loop-var
invariant-loop-var l = l.statements ≡ take l.var (statements_of l.numbering)
