use Rattle.semi_joins.proofs.Linking.{linked}
use Rattle.semi_joins.proofs.links.link_of.Goals as goal

pub returns : goal.returns
returns c =
    linked c.args.conditions.now.tests c.args.ones.now c.args.others.now c.args.place c.in_ok-led.led c.place_of-2.result
    c.in_ok-led.ensures c.place_of-2.ensures
