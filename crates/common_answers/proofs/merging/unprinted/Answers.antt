use Rattle.std.proofs.Common.{rules, ◌≡◌, [], ◌∷◌, ◌++◌}
use Rattle.common_answers.proofs.Rest.{merged_apart, merged_there}
use Rattle.common_answers.proofs.merging.unprinted.Goals as goal
use Rattle.common_answers.proofs.merging.unprinted.Goals.{then-not-is_at+in_ok-push, else-not-is_at}

pub loop-at-preserved : goal.loop-at-preserved
loop-at-preserved c =
    elim c.if-not-is_at.branch [
      | then-not-is_at+in_ok-push w ↦
          let pushed : c.if-not-is_at.left.items ≡ c.loop-at.left.items ++ c.loop-at.at ∷ [] = search rules in
          merged_apart c.laws_of_tuple_order.ensures.total c.args.answers.now c.args.tuples.now c.loop-at.at c.loop-at.from
          c.first_not_below-from.result c.loop-at.left.items c.if-not-is_at.left.items c.get-answer.result.now
          c.requires.answers c.requires.tuples
          c.get-answer.ensures c.first_not_below-from.ensures.below c.first_not_below-from.ensures.here
          (c.is_at.ensures.none w.if-not-is_at.true) pushed c.loop-at.invariant
      | else-not-is_at w ↦
          let same : c.if-not-is_at.left.items ≡ c.loop-at.left.items = search rules in
          rw same
          (merged_there c.laws_of_tuple_order.ensures.total c.args.answers.now c.args.tuples.now c.loop-at.at c.loop-at.from
          c.first_not_below-from.result c.loop-at.left.items c.get-answer.result.now c.requires.answers c.get-answer.ensures
          c.first_not_below-from.ensures.below (c.is_at.ensures.is w.if-not-is_at.false) c.loop-at.invariant)
    ]
