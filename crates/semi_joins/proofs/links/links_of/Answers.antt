use Rattle.semi_joins.proofs.Linking.{links_pushed}
use Rattle.semi_joins.proofs.links.links_of.Goals as goal

pub loop-place-preserved : goal.loop-place-preserved
loop-place-preserved c =
    links_pushed c.args.conditions.now.tests c.args.ones.now c.args.others.now c.loop-place.here.items c.loop-place.there.items
    c.push.new.self.items c.push-in-loop-place.new.self.items c.loop-place.place c.in-Some.other c.in_ok-push.ensures.items
    c.in_ok-push-2.ensures.items c.in-Some.ensures c.loop-place.invariant
