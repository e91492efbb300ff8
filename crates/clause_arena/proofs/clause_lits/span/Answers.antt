use Rattle.std.proofs.Common.{length}
use Rattle.clause_arena.proofs.Cuts.{list_at, span_order, end_within}
use Rattle.clause_arena.proofs.clause_lits.span.Goals as goal

pub returns-clause-order : goal.returns-clause-order
returns-clause-order c =
    rw c.start_of-start.ensures (span_order 0 c.args.ends.now (length c.args.lits.now) c.args.clause
    c.requires.flat.ascend c.requires.within)

pub returns-clause-within : goal.returns-clause-within
returns-clause-within c =
    end_within 0 c.args.ends.now (length c.args.lits.now) c.args.clause c.requires.flat.ascend c.requires.within

pub returns-clause-list : goal.returns-clause-list
returns-clause-list c =
    rw c.start_of-start.ensures (list_at 0 c.args.ends.now c.args.lits.now c.args.clause c.requires.within)
