use Rattle.std.proofs.Common.{◌≡◌, ◌∙◌, List, None, ap}
use Rattle.currency_base.specs.declared.row.Row.{Row}
use Rattle.denial_rules.specs.Instances.{operand_value}
use Rattle.denial_rules.specs.declared.rule.Operand.{Operand}
use Rattle.entity_ground.specs.Lookups.{Looked}
use Rattle.entity_ground.proofs.Tested.{none_found}
use Rattle.entity_ground.proofs.lookup.Lookup.found.Goals as goal

pub returns-in-None : goal.returns-in-None
returns-in-None c =
    let own = c.args.self.now in
    let front = c.args.front.now in
    let by = ap (λ (l : Looked). l.by) c.self.view_is in
    let table = c.table.ensures ∙ ap (λ (l : Looked). l.table) c.self.view_is in
    let none : None ≡ operand_value own.table front own.by =
    c.in-None.ensures ∙ ap (λ (t : List Row). operand_value t front c.self.inside.by.now) table
    ∙ ap (λ (o : Operand). operand_value own.table front o) by in
    none_found own.table own.attr own.members (operand_value own.table front own.by) none
