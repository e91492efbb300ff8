use Rattle.refutation_log.specs.Steps.{clauses_of}
use Rattle.last_rows.proofs.Growing.{between_none}
use Rattle.last_rows.proofs.derive.leave_known.Goals as goal

pub loop-own-init : goal.loop-own-init
loop-own-init c =
    between_none c.args.list.now (clauses_of c.args.earlier.now) c.args.derivation.now c.requires.placed c.requires.steps
    c.requires.places
