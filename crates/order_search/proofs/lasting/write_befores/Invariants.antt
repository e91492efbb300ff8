use Rattle.last_rows.specs.Rows.{no_lit}
use Rattle.order_search.specs.Lasting.{EachIs, SaysBefore}
use Rattle.order_search.proofs.lasting.write_befores.Given as goal

abbrev pub invariant-loop-other : goal.invariant-loop-other
invariant-loop-other l = EachIs no_lit (SaysBefore l.subject l.list l.rows l.place) l.other l.lits.items
