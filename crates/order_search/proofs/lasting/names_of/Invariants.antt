use Rattle.last_rows.specs.Rows.{no_lit}
use Rattle.order_search.specs.Lasting.{EachIs, SaysName}
use Rattle.order_search.proofs.lasting.names_of.Given as goal

abbrev pub invariant-loop-place : goal.invariant-loop-place
invariant-loop-place l = EachIs no_lit (SaysName l.subject l.list l.rows) l.place l.lits.items
