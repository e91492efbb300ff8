use Rattle.std.proofs.Common.{◌-◌, ◌∙◌, sym, arith, map, length}
use Rattle.text_tokens.specs.Lexeme.{lexeme_of}
use Rattle.text_grammar.specs.Words
use Rattle.text_grammar.proofs.Loops.{further_item}
use Rattle.text_grammar.proofs.read.listed.Goals as goal

pub loop-preserved : goal.loop-preserved
loop-preserved g c =
    c.loop.invariant
    ∙ further_item (Words.is_fixed c.args.kind c.args.text.now) g.R.Rule.reader c.loop.items c.push_next-in-loop.new.items
    (map lexeme_of c.loop.rest.now) (map lexeme_of c.in-Some.next.now) (map lexeme_of c.in_ok-rest-2.rest.now)
    (length c.in_ok-rest.rest.now - c.loop.counter) _
    (sym c.in-Some.ensures) c.in_ok-rest-2.ensures (omega arith)
