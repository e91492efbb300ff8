use Rattle.std.proofs.Common.{◌∙◌, ◌++◌, ◌∷◌, [], List, ap, sym}
use Rattle.currency_base.specs.declared.lit.Lit.{Lit}
use Rattle.last_rows.specs.Rows.{lit_of, literals_of}
use Rattle.last_rows.proofs.Below.{each_more, each_none}
use Rattle.last_rows.proofs.derivation.write_lits.Goals as goal

pub loop-row-init : goal.loop-row-init
loop-row-init c = c.clear.ensures.items ∙ sym (each_none (lit_of (literals_of c.args.list.now) c.args.first c.args.own))

pub loop-row-preserved : goal.loop-row-preserved
loop-row-preserved c =
    let f = lit_of (literals_of c.args.list.now) c.args.first c.args.own in
    c.in_ok-put_lit.ensures
    ∙ ap (λ (x : Lit). c.loop-row.lits.items ++ x ∷ []) c.lit.ensures
    ∙ ap (λ (xs : List Lit). xs ++ f c.loop-row.row ∷ []) c.loop-row.invariant
    ∙ sym (each_more f c.loop-row.row)
