use Rattle.std.proofs.Common.{ap, ◌∙◌}
use Rattle.entity_lists.specs.Lists.{Grouping, rows_of}
use Rattle.completion_build.proofs.Tables.{is_contest}
use Rattle.completion_build.proofs.tournament.Tournament.new.Goals as goal

pub invariant_of-result : goal.invariant_of-result
invariant_of-result c =
    is_contest c.args.numbering.now c.args.assignment.now c.args.rel c.args.attr c.args.ent.0
    c.of_entity-rows.result.now c.requires
    (λ table at. c.of_entity-rows.ensures ∙ ap (λ (g : Grouping). rows_of g.entities c.args.ent.0) (c.lists.ensures table at))
