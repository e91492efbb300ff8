use Rattle.std.proofs.Common.{◌≡◌, ◌<◌, ℕ, [], false, get_or, refl, arith, length}
use Rattle.std.proofs.lemmas.List.Elements.{All-weaker}
use Rattle.std.proofs.lemmas.Option.{slice_get-get_or}
use Rattle.refutation_log.specs.declared.step.Step.TheVariants.{Learn}
use Rattle.log_trim.specs.Trimmed.{hints_at, renumbered_step}
use Rattle.log_trim.specs.Marked.{is_marked}
use Rattle.log_trim.proofs.Ranks.{changed_more}
use Rattle.log_trim.proofs.copies.kept_steps.Goals as goal

pub push_kept-requires-clause-hints : goal.push_kept-requires-clause-hints
push_kept-requires-clause-hints c =
    let place = c.loop-place.place in
    let below : place < length c.args.kept.now = omega (arith, c.requires.count) in
    All-weaker (λ hint. hint < place) (λ hint. hint < length c.args.kept.now) (λ hint before. omega (arith, before, below)) _
    (c.requires.hints place)

pub loop-place-preserved : goal.loop-place-preserved
loop-place-preserved c =
    let steps = c.args.steps.now in
    let place = c.loop-place.place in
    let low : place < length steps = omega arith in
    let one = slice_get-get_or steps place (Learn [] [] false) low in
    changed_more (renumbered_step (is_marked c.args.kept.now) (is_marked c.args.vars.now)) (is_marked c.args.kept.now) steps
    place (get_or steps place (Learn [] [] false)) c.is_kept-told.result c.loop-place.list _ one c.is_kept-told.ensures
    c.loop-place.invariant (c.in_ok-push_kept.ensures (get_or steps place (Learn [] [] false)) one)
