use Rattle.std.proofs.Common.{◌≡◌, drop}
use Rattle.text_write.specs.Spacing.{writes_all}
use Rattle.spec_write.specs.Pieces.{many_pieces, ended_statement_pieces}
use Rattle.spec_write.proofs.statement.write_statements.Given as goal

abbrev pub invariant-loop-statement : goal.invariant-loop-statement
invariant-loop-statement l =
    writes_all l.into (many_pieces ended_statement_pieces (drop l.statement-index l.statement-items))
    ≡ writes_all l.initial.into (many_pieces ended_statement_pieces l.statement-items)
