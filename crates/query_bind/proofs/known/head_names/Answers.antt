-- One name more stands in the head.
use Rattle.query_bind.proofs.Names.{head_more}
use Rattle.query_bind.proofs.known.head_names.Goals as goal

pub loop-named-preserved : goal.loop-named-preserved
loop-named-preserved c = λ name.
    head_more c.loop-named.names c.add_name.new.vars c.args.head.now c.loop-named.named-index c.named-item.result
    name c.in_ok-add_name.ensures
    c.loop-named-test.true c.named-item.is (c.loop-named.invariant name)
