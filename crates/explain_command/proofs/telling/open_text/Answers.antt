use Rattle.std.proofs.Common.{◌≡◌, List, IfOk, codes, subst}
use Rattle.item_write.specs.Pieces.{spent_text}
use Rattle.spec_items.specs.declared.item.Item.{Item}
use Rattle.explain_command.proofs.telling.open_text.Goals as goal

pub returns : goal.returns
returns c =
    subst (λ (items : List Item). IfOk c.spent_text.result (λ text. text
    ≡ spent_text (codes "explanation") c.args.spec.now items c.args.spent.now.part.relations c.args.spent.now.report))
    c.as_slice-items.ensures c.spent_text.ensures
