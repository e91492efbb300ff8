use Rattle.std.proofs.Common.{◌≡◌, length}
use Rattle.entity_ground.specs.Lookups.{AreLookups}
use Rattle.entity_ground.proofs.search.lookups_of.Given as goal

abbrev pub invariant-loop-var : goal.invariant-loop-var
invariant-loop-var l = record {
  count : length l.all.items ≡ l.var;
  are : AreLookups l.rule l.table l.members l.all.items;
}
