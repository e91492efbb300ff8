use Rattle.std.proofs.Common.{◌≡◌, drop}
use Rattle.spec_model.specs.Completion.{lists_of}
use Rattle.text_write.specs.Spacing.{writes_all}
use Rattle.report_write.specs.Pieces.{entity_rankings}
use Rattle.report_write.proofs.completion.write_attribute.Given as goal

abbrev pub invariant-loop-ent : goal.invariant-loop-ent
invariant-loop-ent l =
    writes_all l.into (entity_rankings l.relations l.rel.0 l.attr.0 l.ent (drop l.ent (lists_of l.shown l.rel.0 l.attr.0)))
    ≡ writes_all l.initial.into (entity_rankings l.relations l.rel.0 l.attr.0 0 (lists_of l.shown l.rel.0 l.attr.0))
