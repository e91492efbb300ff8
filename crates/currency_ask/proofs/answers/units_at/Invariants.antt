use Rattle.currency_ask.specs.Answering.{AreUnitsAt}
use Rattle.currency_ask.proofs.answers.units_at.Given as goal

abbrev pub invariant-loop-at : goal.invariant-loop-at
invariant-loop-at l = AreUnitsAt l.decisions l.places l.at l.units
