use Rattle.std.proofs.Common.{◌∙◌}
use Rattle.order_literals.specs.declared.block.Block.TheVariants.{Pairs}
use Rattle.order_literals.proofs.Inside.{pair_in}
use Rattle.order_literals.proofs.numbering.Numbering.pair_var.Goals as goal

pub returns-clause-value : goal.returns-clause-value
returns-clause-value c =
    let at = rw c.pairs.ensures at c.number-number.ensures.pair in
    let inside = pair_in c.self.inside.catalogue c.args.rel c.args.attr c.table.result.now c.number-number.result _
    c.table.ensures at in
    rw c.self.view_is at (c.var.ensures.value (Pairs c.args.rel c.args.attr) c.place-place.ensures ∙ inside)
