use Rattle.order_start.specs.Lists.{slot_of}
use Rattle.order_start.proofs.Pairing.{truths_are, row_within}
use Rattle.order_start.proofs.guess.guess_list.Goals as goal

pub rank_list-requires : goal.rank_list-requires
rank_list-requires c =
    truths_are c.list-list.result c.args.source.now.numbers c.args.guess.now c.list-list.ensures.numbers c.requires.truths

pub put_last-requires-clause-row : goal.put_last-requires-clause-row
put_last-requires-clause-row c = λ r at.
    row_within r.rows c.list-list.result.rows c.args.ent.0 (slot_of c.list-list.result c.in-Some.last) c.row.result
    (c.list-list.ensures.rows r at) c.row.ensures
