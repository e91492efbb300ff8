use Rattle.std.proofs.Common.{◌≡◌, ◌∷◌, ◌++◌, [], codes, drop, map}
use Rattle.answer_tables.specs.Records.{head_names}
use Rattle.possible_table.specs.Text.{row_of}
use Rattle.possible_table.proofs.table.records.Given as goal

abbrev pub invariant-loop-tuple : goal.invariant-loop-tuple
invariant-loop-tuple l =
    l.list ++ map (row_of l.certain) (drop l.tuple-index l.tuples)
    ≡ (head_names l.query ++ codes "certain" ∷ []) ∷ map (row_of l.certain) l.tuples
