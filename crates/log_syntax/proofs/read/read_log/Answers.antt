use Rattle.std.proofs.Common.{inr, map}
use Rattle.text_tokens.specs.Lexeme.{lexeme_of}
use Rattle.log_syntax.proofs.WholeLogs.{refusal_is}
use Rattle.log_syntax.proofs.read.read_log.Goals as goal

pub returns-in-Err-Syntax-clause-refused : goal.returns-in-Err-Syntax-clause-refused
returns-in-Err-Syntax-clause-refused c =
    inr (refusal_is (map lexeme_of c.args.tokens.now) c.args.end c.line_at.result c.in-Err-Syntax.field-0
    c.in-Err-Syntax.left c.in-Err-Syntax.ensures c.in-Err-Syntax.field-0-is c.line_at.ensures)
