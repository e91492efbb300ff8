use Rattle.refutation_log.specs.Steps.{clauses_of}
use Rattle.last_rows.proofs.Looked.{three_seen}
use Rattle.last_rows.proofs.looks.is_three.Goals as goal

pub returns : goal.returns
returns c = λ yes.
    three_seen c.args.list.now (clauses_of c.args.earlier.now) c.args.first c.args.second c.args.third _ _ _ _
    c.before-2.ensures c.before-3.ensures c.before-4.ensures c.three.ensures (c.are_alike.ensures yes)
