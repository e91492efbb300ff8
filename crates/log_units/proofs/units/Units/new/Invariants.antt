use Rattle.std.proofs.Common.{◌*◌}
use Rattle.log_units.specs.Noted.{AreNoted}
use Rattle.log_units.proofs.units.Units.new.Given as goal

abbrev pub invariant-loop-var : goal.invariant-loop-var
invariant-loop-var l = AreNoted l.spec.relations l.log (2 * l.var) l.index
