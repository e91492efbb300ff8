use Rattle.std.proofs.Common.{sym, ◌∙◌, subst}
use Rattle.std.proofs.lemmas.Bool.{false≢true}
use Rattle.log_units.specs.Units.{HasAnswerUnit, IndexedLog}
use Rattle.log_units.proofs.SaysAnswers.{answer_of_unit, unit_of_answer}
use Rattle.log_units.proofs.units.Units.has_answer.Goals as goal

pub returns-clause-there : goal.returns-clause-there
returns-clause-there c = λ e.
    subst (λ (t : IndexedLog). HasAnswerUnit t.relations t.log c.args.tuple.now) c.self.view_is
    (unit_of_answer c.self.inside.spec.now.relations c.self.inside.log.now c.self.inside.index c.self.invariant
    c.args.tuple.now (c.has.ensures.is_there e))

pub returns-clause-missing : goal.returns-clause-missing
returns-clause-missing c = λ e unit.
    let own = subst (λ (t : IndexedLog). HasAnswerUnit t.relations t.log c.args.tuple.now) (sym c.self.view_is) unit in
    let there = answer_of_unit c.self.inside.spec.now.relations c.self.inside.log.now c.self.inside.index
    c.self.invariant c.args.tuple.now own in
    false≢true (sym e ∙ c.has.ensures.is_found there)
