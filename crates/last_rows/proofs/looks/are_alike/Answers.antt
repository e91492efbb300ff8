use Rattle.refutation_log.specs.Steps.{clauses_of}
use Rattle.last_rows.proofs.Looked.{alike_seen}
use Rattle.last_rows.proofs.looks.are_alike.Goals as goal

pub returns-then-all_in : goal.returns-then-all_in
returns-then-all_in c = λ yes.
    alike_seen (clauses_of c.args.earlier.now) c.args.place c.args.lits.now c.lits-found.result.now c.lits-found.ensures
    (c.all_in.ensures c.if-all_in.true) (c.all_in-then-all_in.ensures yes)
