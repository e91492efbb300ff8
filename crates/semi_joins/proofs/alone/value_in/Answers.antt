use Rattle.semi_joins.proofs.Telling.{told_read}
use Rattle.semi_joins.proofs.alone.value_in.Goals as goal

pub returns-then-is_variable : goal.returns-then-is_variable
returns-then-is_variable c =
    told_read c.args.terms.now c.args.row.now c.loop-place.place c.args.var c.index-terms-place.result c.get.result
    c.loop-place-test.true c.index-terms-place.is c.if-is_variable.ensures c.get.ensures.lookup.0 c.get.ensures.lookup.1
