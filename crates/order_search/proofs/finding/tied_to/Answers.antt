use Rattle.std.proofs.Common.{◌∙◌, Some, ap}
use Rattle.std.proofs.lemmas.List.Elements.{Contains-append_right}
use Rattle.entity_ties.specs.Parts.{list_at}
use Rattle.order_search.specs.declared.parting.Tie.{Tie}
use Rattle.order_search.proofs.finding.tied_to.Goals as goal

pub returns-in-In : goal.returns-in-In
returns-in-In c =
    let g = c.args.parting.now in
    let part = c.in-In.part in
    Contains-append_right (list_at g.parts.parts part) (list_at g.members part) c.args.var
    (c.requires.members.all part c.args.answer c.args.var (c.get.ensures ∙ ap (λ (t : Tie). Some t) c.in-In.is) c.requires.says)
