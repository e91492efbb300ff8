use Rattle.std.proofs.Common.{◌∙◌}
use Rattle.std.proofs.lemmas.Option.{slice_get-get_or}
use Rattle.log_write.specs.Pieces.{ended_statement_pieces}
use Rattle.log_write.proofs.Writing.{step_more}
use Rattle.log_write.proofs.statement.write_statements.Goals as goal

pub loop-statement-preserved : goal.loop-statement-preserved
loop-statement-preserved c =
    step_more (ended_statement_pieces c.args.answers.now) c.args.statements.now c.loop-statement.statement-index _ _ _
    (slice_get-get_or c.args.statements.now c.loop-statement.statement-index _ c.loop-statement-test.true)
    c.in_ok-write_ended_statement.ensures
    ∙ c.loop-statement.invariant
