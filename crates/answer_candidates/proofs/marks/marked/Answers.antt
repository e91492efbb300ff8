use Rattle.std.proofs.Common.{◌≡◌, [], ◌∷◌, ◌++◌, rules}
use Rattle.answer_candidates.proofs.Marking.{marks_next}
use Rattle.answer_candidates.proofs.marks.marked.Goals as goal

pub loop-place-preserved : goal.loop-place-preserved
loop-place-preserved c =
    let after : c.push.new.self.items ≡ c.loop-place.marks.items ++ c.in-Ok.mark ∷ [] = search rules in
    marks_next c.args.indexed.now c.args.tuples.now c.args.gone.now c.loop-place.place c.loop-place.marks.items
    c.push.new.self.items c.loop-place.more
    c.is_more-more.result c.index-tuples-place.result _ c.in-Ok.mark c.requires c.loop-place-test.true
    c.loop-place.invariant c.index-tuples-place.is
    c.in-Ok.ensures after c.is_more-more.ensures.none c.is_more-more.ensures.some
