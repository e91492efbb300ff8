use Rattle.std.proofs.Common.{◌-◌, ◌∙◌, sym, arith, map}
use Rattle.text_tokens.specs.Lexeme.{lexeme_of}
use Rattle.log_syntax.proofs.Gathering.{gathered_more}
use Rattle.log_syntax.proofs.fold.gather.Goals as goal

pub loop-preserved : goal.loop-preserved
loop-preserved g c =
    c.loop.invariant
    ∙ gathered_more g.R.Gathers.put g.R.Repeats.begins g.R.Rule.reader c.loop.held c.put_next-in-loop.new.held
    (map lexeme_of c.loop.rest.now) (map lexeme_of c.in_ok-rest-2.rest.now)
    (c.args.most - c.loop.counter) _
    (sym c.begins-in-loop.ensures ∙ c.if-not-begins-2.false) c.in_ok-rest-2.ensures (omega arith)
