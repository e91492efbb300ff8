use Rattle.std.proofs.Common.{◌∙◌}
use Rattle.refutation_log.specs.declared.statement.Statement.TheVariants as says
use Rattle.order_literals.specs.Statements.{statements_of}
use Rattle.order_literals.specs.declared.block.Block.TheVariants.{Lasts}
use Rattle.order_literals.proofs.Inside.{last_in}
use Rattle.order_literals.proofs.Saying.{says_it}
use Rattle.order_literals.proofs.numbering.Numbering.last.Goals as goal

pub returns : goal.returns
returns c =
    let inside = last_in c.self.inside.catalogue c.args.rel c.args.attr c.table.result.now c.number-number.result
    c.args.row c.table.ensures c.number-number.ensures in
    let at = rw c.self.view_is at (c.var.ensures.value (Lasts c.args.rel c.args.attr) c.place-place.ensures ∙ inside) in
    says_it (statements_of c.args.self.now) c.new.result c.var.result (says.Last c.args.rel c.args.attr c.args.row)
    c.new.ensures.var c.new.ensures.negative at
