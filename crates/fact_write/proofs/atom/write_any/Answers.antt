use Rattle.fact_write.proofs.Places.{one_more}
use Rattle.fact_write.proofs.atom.write_any.Goals as goal

pub loop-preserved : goal.loop-preserved
loop-preserved c =
    one_more c.loop.counter c.args.into.now c.loop.into c.symbol.new.self c.word.new.self c.loop.invariant
    c.in_ok-symbol.ensures c.in_ok-word.ensures
