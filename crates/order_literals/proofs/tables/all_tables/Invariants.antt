use Rattle.std.proofs.Common.{◌≡◌, take}
use Rattle.order_literals.specs.Numbers.{tables_from}
use Rattle.order_literals.proofs.tables.all_tables.Given as goal

abbrev pub invariant-loop-rel : goal.invariant-loop-rel
invariant-loop-rel l = l.tables.items ≡ take l.rel (tables_from l.currents 0 l.relations)
