use Rattle.std.proofs.Common.{take}
use Rattle.part_laws.specs.Parts.{rows_in}
use Rattle.spec_parts.specs.Steps.{Grows, HasPairs}
use Rattle.spec_parts.proofs.given.put_pairs.Given as goal

abbrev pub invariant-loop-pair : goal.invariant-loop-pair
invariant-loop-pair l = record {
  grows : Grows l.whole l.places l.initial.part l.part;
  added : HasPairs l.part.relations l.rel.0 (rows_in l.places l.rel.0) (take l.pair-index l.pairs);
}
