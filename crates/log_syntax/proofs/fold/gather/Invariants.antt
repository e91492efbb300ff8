use Rattle.std.proofs.Common.{◌≡◌, ◌-◌, map}
use Rattle.text_tokens.specs.Lexeme.{lexeme_of}
use Rattle.log_syntax.specs.Reading.{gathered}
use Rattle.log_syntax.proofs.fold.gather.Given as goal

abbrev pub invariant-loop : goal.invariant-loop
invariant-loop g l =
    gathered g.R.Gathers.put l.fn.into l.most g.R.Repeats.begins g.R.Rule.reader (map lexeme_of l.tokens)
    ≡ gathered g.R.Gathers.put l.held (l.most - l.counter) g.R.Repeats.begins g.R.Rule.reader (map lexeme_of l.rest)
