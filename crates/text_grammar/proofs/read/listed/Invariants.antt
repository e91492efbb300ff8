use Rattle.std.proofs.Common.{◌≡◌, ◌-◌, map}
use Rattle.text_tokens.specs.Lexeme.{lexeme_of}
use Rattle.text_grammar.specs.Reading.{after, listed, many_within, prepend}
use Rattle.text_grammar.specs.Words
use Rattle.text_grammar.proofs.read.listed.Given as goal

abbrev pub invariant-loop : goal.invariant-loop
invariant-loop g l =
    listed (Words.is_fixed l.kind l.text) g.R.Rule.reader (map lexeme_of l.tokens)
    ≡ prepend l.items (many_within (l.end - l.counter) (Words.is_fixed l.kind l.text)
    (after (Words.is_fixed l.kind l.text) g.R.Rule.reader) (map lexeme_of l.rest))
