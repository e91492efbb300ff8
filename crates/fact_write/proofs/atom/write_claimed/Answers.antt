use Rattle.std.proofs.lemmas.Result.{on_ok_weaker}
use Rattle.fact_write.proofs.Places.{claimed_written}
use Rattle.fact_write.proofs.atom.write_claimed.Goals as goal

pub returns : goal.returns
returns c =
    on_ok_weaker c.write_back.result
    (claimed_written c.args.spec.now.relations c.args.claim c.requires c.value_of.result.now c.value_of.ensures
    c.args.into.now c.write_front.new.into c.value.new.self c.write_back.new.into c.in_ok-write_front.ensures
    c.in_ok-value.ensures)
    c.write_back.ensures
