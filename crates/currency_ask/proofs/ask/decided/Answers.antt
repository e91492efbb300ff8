use Rattle.std.proofs.Common.{None, arith, subst}
use Rattle.order_search.specs.Searches.{Tells}
use Rattle.currency_ask.proofs.ask.decided.Goals as goal

pub ended-requires : goal.ended-requires
ended-requires g c = record {
  left = c.decide.new.budget;
  units = omega (arith, c.in-Ok-Empty.ensures.units, c.requires.uncounted, c.new-units.ensures);
  is_end = subst (Tells c.decide.new.self None c.decide.new.budget) c.in-Ok-Empty.field-0-is c.in-Ok-Empty.ensures.found;
}

pub ended-requires-in-Ok-Spent : goal.ended-requires-in-Ok-Spent
ended-requires-in-Ok-Spent g c = record {
  left = c.decide.new.budget;
  units = omega (arith, c.in-Ok-Spent.ensures.units, c.requires.uncounted, c.new-units.ensures);
  is_end = subst (Tells c.decide.new.self None c.decide.new.budget) c.in-Ok-Spent.field-0-is c.in-Ok-Spent.ensures.found;
}
