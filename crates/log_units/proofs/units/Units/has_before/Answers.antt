use Rattle.std.proofs.Common.{sym, ◌∙◌, subst}
use Rattle.std.proofs.lemmas.Bool.{false≢true}
use Rattle.log_axioms.specs.Axioms.{before}
use Rattle.log_units.specs.Units.{HasUnit, IndexedLog}
use Rattle.log_units.proofs.Says.{pair_of_unit, unit_of_pair}
use Rattle.log_units.proofs.units.Units.has_before.Goals as goal

pub returns-clause-there : goal.returns-clause-there
returns-clause-there c = λ e.
    subst (λ (t : IndexedLog). HasUnit t.relations t.log (before c.args.rel c.args.attr c.args.earlier c.args.later)) c.self.view_is
    (unit_of_pair c.self.inside.spec.now.relations c.self.inside.log.now c.self.inside.index c.self.invariant
    c.args.rel c.args.attr c.args.earlier c.args.later (c.has.ensures.is_there e))

pub returns-clause-missing : goal.returns-clause-missing
returns-clause-missing c = λ e unit.
    let own = subst (λ (t : IndexedLog). HasUnit t.relations t.log
    (before c.args.rel c.args.attr c.args.earlier c.args.later)) (sym c.self.view_is) unit in
    let there = pair_of_unit c.self.inside.spec.now.relations c.self.inside.log.now c.self.inside.index c.self.invariant
    c.args.rel c.args.attr c.args.earlier c.args.later own in
    false≢true (sym e ∙ c.has.ensures.is_found there)
