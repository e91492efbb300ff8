use Rattle.std.proofs.Common.{◌∙◌, ◌+◌, [], ◌∷◌, ◌++◌, drop, ap}
use Rattle.unit_questions.specs.Units.{value_places}
use Rattle.unit_questions.proofs.Walks.{place_put, place_end}
use Rattle.unit_questions.proofs.value.places.Goals as goal

pub loop-place-preserved : goal.loop-place-preserved
loop-place-preserved c =
    let value = c.args.value.now in
    let terms = c.loop-place.terms in
    ap (λ l. l ++ drop (c.loop-place.place + 1) (value_places c.args.attrs c.args.attr.0 value))
    (c.in_ok-push.ensures.ok ∙ ap (λ t. terms ++ t ∷ []) c.in_ok-value_term.ensures)
    ∙ place_put c.args.attrs c.args.attr.0 c.loop-place.place value terms _ c.loop-place-test.true c.loop-place.invariant

pub returns : goal.returns
returns c =
    place_end c.args.attrs c.args.attr.0 c.loop-place.place c.args.value.now c.loop-place.terms _ c.loop-place-test.false
    c.loop-place.invariant
