use Rattle.part_join.specs.Steps.{ArePutSoFar, KeepsRest}
use Rattle.part_join.proofs.joining.put_attribute.Given as goal

abbrev pub invariant-loop-place : goal.invariant-loop-place
invariant-loop-place l = record {
  put : ArePutSoFar l.places l.narrow l.rel.0 l.attr.0 l.place l.completion;
  rest : KeepsRest l.places l.fn.completion l.completion;
}
