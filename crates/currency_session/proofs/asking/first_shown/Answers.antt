use Rattle.std.proofs.Common.{length, refl}
use Rattle.std.proofs.lemmas.Option.{slice_get_read}
use Rattle.currency_session.proofs.Trials.{first_is, none_more, none_shows}
use Rattle.currency_session.proofs.asking.first_shown.Goals as goal

pub loop-place-preserved : goal.loop-place-preserved
loop-place-preserved c =
    let kept = c.args.kept.now in
    let report = c.index-kept-place.result in
    none_more c.args.spec.now c.args.question.now kept c.loop-place.place report
    (slice_get_read kept (length kept) c.loop-place.place report refl c.loop-place-test.true c.index-kept-place.is)
    c.loop-place.invariant (c.in_ok-is_shown.ensures.other c.if-branch.false)

pub returns-then-branch-clause-first : goal.returns-then-branch-clause-first
returns-then-branch-clause-first c =
    let kept = c.args.kept.now in
    let report = c.index-kept-place.result in
    first_is c.args.spec.now c.args.question.now kept c.loop-place.place report
    (slice_get_read kept (length kept) c.loop-place.place report refl c.loop-place-test.true c.index-kept-place.is)
    c.loop-place.invariant (c.in_ok-is_shown.ensures.shown c.if-branch.true)

pub returns-clause-none : goal.returns-clause-none
returns-clause-none c =
    none_shows c.args.spec.now c.args.question.now c.args.kept.now c.loop-place.place c.loop-place-test.false
    c.loop-place.invariant
