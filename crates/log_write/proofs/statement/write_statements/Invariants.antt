use Rattle.std.proofs.Common.{◌≡◌, drop}
use Rattle.text_write.specs.Spacing.{writes_all}
use Rattle.log_write.specs.Pieces.{ended_statement_pieces, many_pieces}
use Rattle.log_write.proofs.statement.write_statements.Given as goal

abbrev pub invariant-loop-statement : goal.invariant-loop-statement
invariant-loop-statement l =
    writes_all l.into (many_pieces (ended_statement_pieces l.answers) (drop l.statement-index l.statements))
    ≡ writes_all l.initial.into (many_pieces (ended_statement_pieces l.answers) l.statements)
