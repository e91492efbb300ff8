use Rattle.std.proofs.Common.{[], codes, map}
use Rattle.text_grammar.specs.Words.{is_word}
use Rattle.text_tokens.specs.Lexeme.{lexeme_of}
use Rattle.log_syntax.specs.Reading.{ended_statement_at, nothing_said, said_too, statements_at}
use Rattle.log_syntax.proofs.Logs.{same_said}
use Rattle.log_syntax.proofs.Gathering.{begun}
use Rattle.log_syntax.proofs.statement.statements.Goals as goal

pub returns : goal.returns
unfolding statements_at
returns c =
    begun (λ x. (x.0, map lexeme_of x.1.now)) c.gather.result said_too (is_word (codes "statement")) ended_statement_at
    _ nothing_said (map lexeme_of c.args.tokens.now) 4294967294
    (same_said c.new.result [] c.new-2.result [] c.new-3.result [] c.new.ensures c.new-2.ensures c.new-3.ensures) c.gather.ensures
