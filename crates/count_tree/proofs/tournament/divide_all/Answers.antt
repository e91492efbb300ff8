use Rattle.std.proofs.Common.{◌/◌, ◌<◌, ◌^◌, ℕ, get_or, length, arith}
use Rattle.std.proofs.lemmas.List.{get_or_default}
use Rattle.std.proofs.lemmas.List.Edits.{map_over_more}
use Rattle.count_tree.proofs.tournament.divide_all.Goals as goal

pub loop-count-preserved : goal.loop-count-preserved
loop-count-preserved c =
    let place = c.loop-count.count-index in
    let count = get_or c.loop-count.counts place 0 in
    let within : place < length c.loop-count.counts = omega arith in
    let within_first : place < length c.args.counts.now = omega arith in
    map_over_more (λ (n : ℕ). n / 2 ^ c.args.power) c.args.counts.now c.loop-count.counts place count within_first
    c.loop-count.invariant
    (get_or_default c.loop-count.counts place 0 count within)
