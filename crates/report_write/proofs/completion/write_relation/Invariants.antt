use Rattle.std.proofs.Common.{◌≡◌, [], drop, slice_index_or}
use Rattle.text_write.specs.Spacing.{writes_all}
use Rattle.report_write.specs.Pieces.{attr_rankings}
use Rattle.report_write.proofs.completion.write_relation.Given as goal

abbrev pub invariant-loop-attr : goal.invariant-loop-attr
invariant-loop-attr l =
    writes_all l.into (attr_rankings l.spec.relations l.rel.0 l.attr (drop l.attr (slice_index_or l.shown l.rel.0 [])))
    ≡ writes_all l.initial.into (attr_rankings l.spec.relations l.rel.0 0 (slice_index_or l.shown l.rel.0 []))
