use Rattle.std.proofs.Common.{arith, refl, ◌+◌}
use Rattle.std.proofs.lemmas.Bool.{false≢true}
use Rattle.std.proofs.lemmas.Option.{slice_get-get_or}
use Rattle.completion_check.proofs.Places.{refused_at, row_within, marks_next, elsewhere_more}
use Rattle.completion_check.proofs.marks.mark_list.Goals as goal

pub returns-then-not-is_unmarked-clause-refused : goal.returns-then-not-is_unmarked-clause-refused
returns-then-not-is_unmarked-clause-refused c =
    refused_at c.args.rows.now c.args.ent c.loop-place.place c.args.list.now c.loop-place.places _ c.loop-place.invariant.marks
    (slice_get-get_or c.args.list.now c.loop-place.place _ c.loop-place-test.true)
    (λ free. false≢true (c.if-not-is_unmarked.ensures.1 free))

pub bounds-places-row : goal.bounds-places-row
bounds-places-row c =
    let free = c.if-not-is_unmarked.ensures.0 refl in
    omega (arith, row_within c.args.rows.now _ c.args.ent free.0)

pub loop-place-preserved : goal.loop-place-preserved
loop-place-preserved c =
    let free = c.if-not-is_unmarked.ensures.0 refl in
    record {
      marks = marks_next c.args.rows.now c.args.ent c.loop-place.place c.args.list.now c.loop-place.places _
          c.loop-place.invariant.marks
          (slice_get-get_or c.args.list.now c.loop-place.place _ c.loop-place-test.true) free.0 free.1 (omega arith);
      elsewhere = elsewhere_more c.args.rows.now c.args.ent _ (c.loop-place.place + 1) c.args.places.now c.loop-place.places
          c.loop-place.invariant.elsewhere free.0;
    }
