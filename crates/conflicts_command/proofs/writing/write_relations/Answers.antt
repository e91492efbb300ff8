use Rattle.std.proofs.Common.{◌∙◌, ℕ, List, ap}
use Rattle.log_write.specs.Pieces.{many_pieces}
use Rattle.conflicts_command.specs.Text.{entity_line, relation_lines}
use Rattle.conflicts_command.proofs.Written.{one_more}
use Rattle.text_write.specs.Spacing.{writes_all}
use Rattle.conflicts_command.proofs.writing.write_relations.Goals as goal

pub loop-relation-preserved : goal.loop-relation-preserved
loop-relation-preserved c =
    let line = entity_line c.relation-item.result.name in
    let wrote = c.in_ok-write_names.ensures
    ∙ ap (λ (names : List (List ℕ)). writes_all c.loop-relation.into (many_pieces line names)) c.as_slice.ensures in
    one_more relation_lines c.args.relations.now c.loop-relation.relation-index c.relation-item.result _ _
    c.loop-relation-test.true c.relation-item.is wrote
    ∙ c.loop-relation.invariant
