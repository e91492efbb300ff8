use Rattle.std.proofs.Common.{rules, arith}
use Rattle.std.proofs.lemmas.Option.{slice_get_within}
use Rattle.ucq_answers.proofs.Listed.{listed_more}
use Rattle.ucq_answers.proofs.relation_index.all_places.Goals as goal

pub loop-place-preserved : goal.loop-place-preserved
loop-place-preserved c = listed_more c.loop-place.all.items c.push.new.self.items c.loop-place.place c.in-Ok.place
    (search rules) c.in_ok-push.ensures.items c.loop-place.invariant

pub returns : goal.returns
returns c place tuple is = let inside = slice_get_within c.args.tuples.now place tuple is in c.loop-place.invariant
    place (omega (arith, inside))
