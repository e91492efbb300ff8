use Rattle.std.proofs.Common.{◌∙◌}
use Rattle.std.proofs.lemmas.Option.{slice_get_within}
use Rattle.refutation_log.specs.declared.statement.Statement.TheVariants as says
use Rattle.order_literals.specs.Statements.{block_statements, statements_of}
use Rattle.order_literals.specs.declared.block.Block.TheVariants.{Tops}
use Rattle.order_literals.proofs.Inside.{top_in}
use Rattle.order_literals.proofs.Saying.{says_it}
use Rattle.order_literals.proofs.numbering.Numbering.top.Goals as goal

pub var-requires : goal.var-requires
var-requires c =
    let n = c.args.self.now in
    let r = c.requires in
    let inside = top_in n c.args.rel c.args.attr r.table r.names c.args.row.0 r.is_table r.wanted r.row_within in
    rw c.self.view_is (record {
      block = Tops c.args.rel c.args.attr;
      is_block = rw c.self.view_is at c.place-place.ensures;
      within = slice_get_within (block_statements n (Tops c.args.rel c.args.attr)) c.args.row.0
          (says.Top c.args.rel c.args.attr c.args.row) inside;
    })

pub returns : goal.returns
returns c =
    let n = c.args.self.now in
    let r = c.requires in
    let inside = top_in n c.args.rel c.args.attr r.table r.names c.args.row.0 r.is_table r.wanted r.row_within in
    let at = rw c.self.view_is at (c.var.ensures.value (Tops c.args.rel c.args.attr) c.place-place.ensures) in
    says_it (statements_of n) c.new.result c.var.result (says.Top c.args.rel c.args.attr c.args.row)
    c.new.ensures.var c.new.ensures.negative (at ∙ inside)
