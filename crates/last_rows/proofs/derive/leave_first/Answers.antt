use Rattle.std.proofs.Common.{length, arith}
use Rattle.refutation_log.specs.Steps.{clauses_of}
use Rattle.last_rows.proofs.Growing.{underway_next}
use Rattle.last_rows.proofs.derive.leave_first.Goals as goal

pub loop-done-init : goal.loop-done-init
loop-done-init c = λ later e.
    underway_next c.args.list.now (clauses_of c.args.earlier.now) c.args.derivation.now (length c.args.list.now.tops.items)
    c.args.list.now.kept later (omega (arith, e)) c.requires.underway
