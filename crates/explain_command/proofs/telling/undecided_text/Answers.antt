use Rattle.std.proofs.Common.{◌≡◌, ◌∙◌, List, All, Contains, IfOk, codes, subst, sym}
use Rattle.std.proofs.lemmas.List.Elements.{All-contains_itself}
use Rattle.item_write.specs.Pieces.{spent_text}
use Rattle.spec_items.specs.Items.{items_of}
use Rattle.spec_items.specs.declared.item.Item.{Item}
use Rattle.explain_command.proofs.telling.undecided_text.Goals as goal

pub spent_text-requires-clause-items : goal.spent_text-requires-clause-items
spent_text-requires-clause-items c =
    let all = items_of c.args.spec.now in
    subst (λ (items : List Item). All (Contains all) items) (sym (c.as_slice.ensures ∙ c.in_ok-all.ensures))
    (All-contains_itself all)

pub returns : goal.returns
returns c =
    let s = c.args.spec.now in
    subst (λ (items : List Item). IfOk c.spent_text.result (λ text. text
    ≡ spent_text (codes "explanation") s items s.relations c.args.report.now))
    (c.as_slice.ensures ∙ c.in_ok-all.ensures) c.spent_text.ensures
