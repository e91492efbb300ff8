use Rattle.std.proofs.Common.{◌≡◌, ◌++◌, drop, map}
use Rattle.answer_tables.specs.Records.{head_names}
use Rattle.answer_tables.proofs.records.head_record.Given as goal

abbrev pub invariant-loop-named : goal.invariant-loop-named
invariant-loop-named l = l.record ++ map (λ n. n.name) (drop l.named-index l.query.head) ≡ head_names l.query
