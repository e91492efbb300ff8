use Rattle.std.proofs.Common.{[], map, codes}
use Rattle.text_tokens.specs.Lexeme.{lexeme_of}
use Rattle.text_grammar.specs.Words.{is_word}
use Rattle.log_syntax.specs.Reading.{pushed}
use Rattle.log_syntax.proofs.Gathering.{begun}
use Rattle.report_syntax.specs.Reading.{current_at, currents_at}
use Rattle.report_syntax.proofs.items.currents.Goals as goal

pub returns : goal.returns
unfolding currents_at
returns c =
    begun (λ x. (x.0, map lexeme_of x.1.now)) c.gather.result pushed (is_word (codes "current")) current_at
    c.new.result [] (map lexeme_of c.args.tokens.now) 4294967294 c.new.ensures c.gather.ensures
