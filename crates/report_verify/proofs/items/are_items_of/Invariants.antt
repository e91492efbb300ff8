use Rattle.report_verify.proofs.items.are_items_of.Given as goal
use Rattle.report_verify.specs.Shaped.{AreMet}

abbrev pub invariant-loop-rel : goal.invariant-loop-rel
invariant-loop-rel l = AreMet l.relations l.rels l.items l.rel 0 l.at
