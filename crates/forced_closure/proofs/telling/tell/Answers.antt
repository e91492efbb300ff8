use Rattle.std.proofs.Common.{rules}
use Rattle.std.proofs.lemmas.Option.{slice_get-get_or}
use Rattle.forced_closure.proofs.Tables.{no_pairs, next_pair}
use Rattle.forced_closure.proofs.telling.tell.Goals as goal

pub loop-cell-init : goal.loop-cell-init
loop-cell-init c = no_pairs c.args.subject.now c.args.origins.now c.args.derived.now c.in_ok-pairs.pairs.items (search rules)

pub tell_one-requires-clause-slot : goal.tell_one-requires-clause-slot
tell_one-requires-clause-slot c =
    c.requires.slots c.loop-cell.cell-index _ (slice_get-get_or c.args.derived.now c.loop-cell.cell-index _ c.loop-cell-test.true)

pub tell_one-requires-clause-why : goal.tell_one-requires-clause-why
tell_one-requires-clause-why c =
    c.requires.whys c.loop-cell.cell-index _ (slice_get-get_or c.args.derived.now c.loop-cell.cell-index _ c.loop-cell-test.true)

pub loop-cell-preserved : goal.loop-cell-preserved
loop-cell-preserved c =
    next_pair c.args.subject.now c.args.origins.now c.args.derived.now c.loop-cell.pairs.items c.push.new.self.items
    c.loop-cell.cell-index _ c.tell_one.result
    (slice_get-get_or c.args.derived.now c.loop-cell.cell-index _ c.loop-cell-test.true) c.loop-cell.invariant
    c.tell_one.ensures (search rules)
