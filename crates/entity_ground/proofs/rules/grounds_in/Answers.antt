use Rattle.std.proofs.Common.{◌∙◌, ◌++◌, ℕ, List, ap}
use Rattle.currency_base.specs.declared.ids.RowId.{RowId}
use Rattle.entity_lists.specs.Lists.{Grouping, entities_of, rows_of}
use Rattle.entity_ground.specs.Grounds.{grounds_among}
use Rattle.entity_ground.proofs.Whole.{entity_more}
use Rattle.entity_ground.proofs.rules.grounds_in.Goals as goal

pub loop-ent-preserved : goal.loop-ent-preserved
loop-ent-preserved c =
    let rule = c.args.rule.now in
    let table = c.args.relation.now.rows in
    let ent = c.loop-ent.ent in
    let make : ℕ → List (List RowId) = λ e. grounds_among rule table (rows_of (entities_of table) e) in
    let own = c.of_entity-members.ensures ∙ ap (λ (g : Grouping). rows_of g.entities ent) c.requires.lists in
    entity_more make c.loop-ent.grounds c.add_grounds.new.grounds ent c.loop-ent.invariant
    (c.in-Ok.ensures ∙ ap (λ (m : List RowId). c.loop-ent.grounds ++ grounds_among rule table m) own)
