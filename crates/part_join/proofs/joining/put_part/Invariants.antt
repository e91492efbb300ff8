use Rattle.part_join.specs.Steps.{ArePutSoFar, KeepsRest}
use Rattle.part_join.proofs.joining.put_part.Given as goal

abbrev pub invariant-loop-rel : goal.invariant-loop-rel
invariant-loop-rel l = record {
  put : ArePutSoFar l.places l.narrow l.rel 0 0 l.completion;
  rest : KeepsRest l.places l.fn.completion l.completion;
}
