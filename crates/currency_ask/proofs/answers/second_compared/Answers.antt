use Rattle.std.proofs.Common.{arith, subst}
use Rattle.currency_ask.specs.Answering.{TellsSecond}
use Rattle.currency_ask.proofs.answers.second_compared.Goals as goal

pub ended-requires : goal.ended-requires
ended-requires g c = record {
  left = c.second.new.units;
  units = omega (arith, c.in-Ok-Empty.ensures.units, c.requires.uncounted, c.new-units.ensures);
  is_end = subst (TellsSecond c.second.new.search c.second.new.units) c.in-Ok-Empty.field-0-is c.in-Ok-Empty.ensures.outcome;
}

pub ended-requires-in-Ok-Spent : goal.ended-requires-in-Ok-Spent
ended-requires-in-Ok-Spent g c = record {
  left = c.second.new.units;
  units = omega (arith, c.in-Ok-Spent.ensures.units, c.requires.uncounted, c.new-units.ensures);
  is_end = subst (TellsSecond c.second.new.search c.second.new.units) c.in-Ok-Spent.field-0-is c.in-Ok-Spent.ensures.outcome;
}
