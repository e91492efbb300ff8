use Rattle.std.proofs.Common.{◌<◌, length, get_or, arith}
use Rattle.std.proofs.lemmas.List.Elements.{All-get_or}
use Rattle.std.proofs.lemmas.Option.{slice_get-get_or}
use Rattle.entity_ties.proofs.Singles.{relabelled_more}
use Rattle.entity_ties.proofs.classes.relabel.Goals as goal

pub loop-number-preserved : goal.loop-number-preserved
loop-number-preserved c =
    let moved = c.args.moved.now in
    let labels = c.args.labels.now.items in
    let i = c.loop-number.number-index in
    let below : i < length moved = omega arith in
    relabelled_more c.args.to i (get_or moved i 0) moved labels c.loop-number.labels.items (slice_get-get_or moved i 0 below)
    (All-get_or (λ a. a < length labels) moved i 0 below c.requires) c.loop-number.invariant
