use Rattle.std.proofs.Common.{slice_index_or, arith}
use Rattle.std.proofs.lemmas.Option.{slice_get-get_or, slice_get_within}
use Rattle.edit_checks.proofs.Lists.{before_more}
use Rattle.edit_checks.specs.Mapped.{KeepsRow}
use Rattle.edit_checks.proofs.mapped.keeps_rows.Goals as goal

pub loop-other-preserved : goal.loop-other-preserved
loop-other-preserved c =
    let list = c.args.list.now in
    let at = c.loop-other.other-index in
    before_more (KeepsRow c.args.completion.now c.args.map.now c.args.place c.args.copied) list at
    (slice_index_or list at (record { 0 = 0 })) (slice_get-get_or list at (record { 0 = 0 }) c.loop-other-test.true)
    (c.keeps_row.ensures c.if-not-keeps_row.false) c.loop-other.invariant

pub returns : goal.returns
returns c =
    λ _ at other here.
    c.loop-other.invariant at other (omega (arith, slice_get_within c.args.list.now at other here)) here
