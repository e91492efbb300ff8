use Rattle.part_join.specs.Steps.{ArePutSoFar, KeepsRest}
use Rattle.part_join.proofs.joining.put_relation.Given as goal

abbrev pub invariant-loop-attr : goal.invariant-loop-attr
invariant-loop-attr l = record {
  put : ArePutSoFar l.places l.narrow l.rel.0 l.attr 0 l.completion;
  rest : KeepsRest l.places l.fn.completion l.completion;
}
