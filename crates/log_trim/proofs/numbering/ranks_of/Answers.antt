use Rattle.std.proofs.Common.{arith}
use Rattle.log_trim.specs.Marked.{is_marked}
use Rattle.log_trim.proofs.Ranks.{rank_le, ranks_push}
use Rattle.log_trim.proofs.numbering.ranks_of.Goals as goal

pub overflow_add-count : goal.overflow_add-count
overflow_add-count c =
    let below = rank_le (is_marked c.args.marks.now) c.loop-place.place in
    let count = c.loop-place.invariant.count in
    let few = c.unit-count.ensures.few in
    let many = c.requires in
    omega arith

pub loop-place-preserved : goal.loop-place-preserved
loop-place-preserved c =
    let keep = is_marked c.args.marks.now in
    ranks_push keep c.loop-place.place c.loop-place.ranks.items _ c.loop-place.count _ _ c.loop-place.invariant.length
    c.loop-place.invariant.each c.loop-place.invariant.count
    c.in_ok-push.ensures.items c.is_marked.ensures c.unit-count.ensures.value
