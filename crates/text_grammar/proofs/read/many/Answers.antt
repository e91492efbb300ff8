use Rattle.std.proofs.Common.{◌-◌, ◌∙◌, sym, arith, map, length}
use Rattle.text_tokens.specs.Lexeme.{lexeme_of}
use Rattle.text_grammar.proofs.Loops.{item_more}
use Rattle.text_grammar.proofs.read.many.Goals as goal

pub loop-preserved : goal.loop-preserved
loop-preserved g c =
    c.loop.invariant
    ∙ item_more g.R.Repeats.begins g.R.Rule.reader c.loop.items c.push_next-in-loop.new.items
    (map lexeme_of c.loop.rest.now) (map lexeme_of c.in_ok-rest-2.rest.now)
    (length c.args.tokens.now - c.loop.counter) _
    (sym c.begins-in-loop.ensures ∙ c.if-not-begins-2.false) c.in_ok-rest-2.ensures (omega arith)
