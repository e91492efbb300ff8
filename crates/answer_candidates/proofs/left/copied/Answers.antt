use Rattle.std.proofs.Common.{◌∷◌, ◌++◌, [], ap, ◌∙◌}
use Rattle.answer_candidates.proofs.Growing.{copied_more}
use Rattle.answer_candidates.proofs.left.copied.Goals as goal

pub loop-place-preserved : goal.loop-place-preserved
loop-place-preserved c =
    copied_more c.args.tuples.now c.loop-place.place _ c.loop-place.copy c.push.new.self c.get.ensures c.loop-place.invariant
    (c.in-Ok-push.ensures.ok ∙ ap (λ x. c.loop-place.copy ++ x ∷ []) c.in-Ok.ensures)
