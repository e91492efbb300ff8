use Rattle.std.proofs.Common.{◌≡◌, ◌++◌, ◌∷◌, [], rules}
use Rattle.entity_ties.proofs.Singles.{single_more}
use Rattle.entity_ties.proofs.classes.single.Goals as goal

pub loop-number-preserved : goal.loop-number-preserved
loop-number-preserved c =
    let labels : c.push.new.self.items ≡ c.loop-number.labels.items ++ c.loop-number.number ∷ [] = search rules in
    let members : c.push-in-loop-number-2.new.self ≡ c.loop-number.members ++ (c.loop-number.number ∷ []) ∷ [] = search rules in
    rw (labels, members) (single_more c.loop-number.number c.loop-number.labels.items c.loop-number.members
    c.loop-number.invariant)
