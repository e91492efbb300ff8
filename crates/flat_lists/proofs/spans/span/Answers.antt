use Rattle.std.proofs.Common.{length}
use Rattle.flat_lists.proofs.Places.{list_at, span_order, end_within}
use Rattle.flat_lists.proofs.spans.span.Goals as goal

pub returns-clause-order : goal.returns-clause-order
returns-clause-order g c =
    rw c.start_of-start.ensures
    (span_order 0 c.args.ends.now (length c.args.items.now) c.args.place c.requires.flat.ascend c.requires.within)

pub returns-clause-within : goal.returns-clause-within
returns-clause-within g c =
    end_within 0 c.args.ends.now (length c.args.items.now) c.args.place c.requires.flat.ascend c.requires.within

pub returns-clause-list : goal.returns-clause-list
returns-clause-list g c =
    rw c.start_of-start.ensures (list_at 0 c.args.ends.now c.args.items.now c.args.place c.requires.within)
