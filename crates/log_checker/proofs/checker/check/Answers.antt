use Rattle.std.proofs.Common.{option_map}
use Rattle.log_axioms.specs.Posed.{posed_by}
use Rattle.log_checker.proofs.OneVerdict.{no_fault_where_accepted}
use Rattle.log_checker.proofs.checker.check.Goals as goal

pub returns-clause-exact : goal.returns-clause-exact
returns-clause-exact c accepted =
    no_fault_where_accepted c.args.spec.now (posed_by (option_map (λ q. q.now) c.args.query) c.args.log.now)
    c.args.log.now.statements c.args.log.now.steps c.judged.result accepted c.judged.ensures.refused
