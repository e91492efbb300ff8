use Rattle.std.proofs.lemmas.Result.{on_ok_weaker}
use Rattle.fact_write.specs.Pieces.{variable_pieces}
use Rattle.fact_write.proofs.Places.{atom_written}
use Rattle.fact_write.proofs.atom.write_variable.Goals as goal

pub returns : goal.returns
returns c =
    on_ok_weaker c.write_back.result
    (atom_written c.args.spec.now.relations c.args.claim c.requires variable_pieces c.args.into.now c.write_front.new.into
    c.word.new.self c.write_back.new.into c.in_ok-write_front.ensures c.in_ok-word.ensures)
    c.write_back.ensures
