use Rattle.std.proofs.Common.{[], length}
use Rattle.last_rows.specs.Rows.{no_lit}
use Rattle.order_search.specs.Lasting.{EachIs, SaysBefore}
use Rattle.order_search.proofs.lasting.befores_of.Given as goal

abbrev pub invariant-loop-place : goal.invariant-loop-place
invariant-loop-place l = EachIs [] (λ i lits. EachIs no_lit (SaysBefore l.subject l.list l.rows i) (length l.rows) lits)
    l.place l.lists
