use Rattle.std.proofs.Common.{◌≡◌, ◌∷◌, ◌++◌, ◌∙◌, [], replicate, rules}
use Rattle.entity_ties.proofs.Putting.{replicate_push}
use Rattle.entity_ties.proofs.lists.empty_lists.Goals as goal

pub loop-place-preserved : goal.loop-place-preserved
loop-place-preserved g c =
    let pushed : c.push.new.self ≡ replicate c.loop-place._place [] ++ [] ∷ [] = search rules in
    pushed ∙ replicate_push c.loop-place._place []
