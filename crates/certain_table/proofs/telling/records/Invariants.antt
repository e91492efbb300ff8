use Rattle.std.proofs.Common.{◌≡◌, ◌∷◌, ◌++◌, drop, map}
use Rattle.answer_tables.specs.Records.{head_names, tuple_fields}
use Rattle.certain_table.proofs.telling.records.Given as goal

abbrev pub invariant-loop-tuple : goal.invariant-loop-tuple
invariant-loop-tuple l = l.list ++ map tuple_fields (drop l.tuple-index l.tuples) ≡ head_names l.query ∷ map tuple_fields l.tuples
