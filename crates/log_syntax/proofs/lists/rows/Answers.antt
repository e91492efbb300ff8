use Rattle.std.proofs.Common.{[], map}
use Rattle.text_tokens.specs.Lexeme.{lexeme_of}
use Rattle.log_syntax.specs.Numbers.{place_in, says_some}
use Rattle.log_syntax.specs.Reading.{pushed, row_at, rows_at}
use Rattle.log_syntax.proofs.Gathering.{begun}
use Rattle.log_syntax.proofs.lists.rows.Goals as goal

pub returns : goal.returns
unfolding rows_at
returns c =
    begun (λ x. (x.0, map lexeme_of x.1.now)) c.gather.result pushed (says_some place_in) row_at
    c.new.result [] (map lexeme_of c.args.tokens.now) 4294967294 c.new.ensures c.gather.ensures
