use Rattle.std.proofs.Common.{◌∙◌, ◌++◌, ◌∷◌, [], ℕ, List, ap, get_or, sym}
use Rattle.last_rows.proofs.Below.{each_more, each_none}
use Rattle.last_rows.proofs.derivation.write_lasts.Goals as goal

pub loop-row-init : goal.loop-row-init
loop-row-init c = c.clear.ensures.items ∙ sym (each_none (λ (row : ℕ). get_or c.args.list.now.last_places.items row 0))

pub loop-row-preserved : goal.loop-row-preserved
loop-row-preserved c =
    let f = λ (row : ℕ). get_or c.args.list.now.last_places.items row 0 in
    c.in_ok-put.ensures
    ∙ ap (λ (x : ℕ). c.loop-row.hints.items ++ x ∷ []) c.last_place.ensures
    ∙ ap (λ (xs : List ℕ). xs ++ f c.loop-row.row ∷ []) c.loop-row.invariant
    ∙ sym (each_more f c.loop-row.row)
