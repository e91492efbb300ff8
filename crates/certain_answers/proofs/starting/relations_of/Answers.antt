use Rattle.std.proofs.Common.{◌≤◌, length, arith}
use Rattle.certain_answers.specs.Deciding.{relations_in}
use Rattle.certain_answers.proofs.Fronts.{flat_more, flat_taken}
use Rattle.certain_answers.proofs.starting.relations_of.Goals as goal

pub loop-place-preserved : goal.loop-place-preserved
loop-place-preserved c =
    flat_more relations_in c.args.query.now.disjuncts c.loop-place.place _ _ _ c.get.ensures c.loop-place.invariant
    c.in-Ok.ensures

pub returns : goal.returns
returns c =
    let all : length c.args.query.now.disjuncts ≤ c.loop-place.place = omega arith in
    flat_taken relations_in c.args.query.now.disjuncts c.loop-place.place _ all c.loop-place.invariant
