use Rattle.std.proofs.Common.{◌≡◌, ◌-◌, map}
use Rattle.text_tokens.specs.Lexeme.{lexeme_of}
use Rattle.text_grammar.specs.Reading.{many, many_within, prepend}
use Rattle.text_grammar.proofs.read.many.Given as goal

abbrev pub invariant-loop : goal.invariant-loop
invariant-loop g l =
    many g.R.Repeats.begins g.R.Rule.reader (map lexeme_of l.tokens)
    ≡ prepend l.items (many_within (l.end - l.counter) g.R.Repeats.begins g.R.Rule.reader (map lexeme_of l.rest))
