use Rattle.std.proofs.Common.{◌∙◌}
use Rattle.std.specs.Prelude.{codes}
use Rattle.spec_write.specs.Pieces.{ended_statement_pieces, statement_pieces, symbol}
use Rattle.spec_write.proofs.ManyItems.{both_written, many_more}
use Rattle.spec_write.proofs.statement.write_statements.Goals as goal

pub loop-statement-preserved : goal.loop-statement-preserved
loop-statement-preserved c =
    let statement = c.statement-item.result in
    let one = both_written c.loop-statement.into _ _ (statement_pieces statement) (symbol (codes ";"))
    c.in_ok-write_statement.ensures c.in_ok-symbol.ensures in
    many_more ended_statement_pieces c.as_slice-statement-items.result.now c.loop-statement.statement-index statement
    _ _ c.loop-statement-test.true c.statement-item.is one
    ∙ c.loop-statement.invariant
