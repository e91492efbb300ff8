use Rattle.std.proofs.Common.{ap₂, ◌∙◌, ◌++◌}
use Rattle.entity_ground.specs.Choosing.{chosen_from}
use Rattle.entity_ground.specs.Grounds.{has_instance}
use Rattle.entity_ground.proofs.Chosen.{chosen_from_nothing}
use Rattle.entity_ground.proofs.plain.plain_grounds.Goals as goal

pub returns-in-Ok : goal.returns-in-Ok
returns-in-Ok c =
    let rule = c.args.rule.now in
    let test = has_instance rule c.args.relation.now.rows in
    let members = c.args.members.now in
    c.in-Ok.ensures.grounds
    ∙ ap₂ (λ g f. g ++ chosen_from test members rule.vars f) c.new-grounds.ensures c.new-front.ensures.items
    ∙ chosen_from_nothing test members rule.vars
