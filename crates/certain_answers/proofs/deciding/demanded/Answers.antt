use Rattle.certain_answers.proofs.Going.{gone_then, place_later}
use Rattle.certain_answers.proofs.Wanting.{others_later}
use Rattle.certain_answers.proofs.deciding.demanded.Goals as goal

pub bring_others-requires : goal.bring_others-requires
bring_others-requires g c =
    others_later c.args.search.now c.demand_match.new.self c.args.completion.now c.args.matched.now.others c.args.place
    c.demand_match.ensures.gone c.requires.matched.others

pub bring_violated-requires-clause-place : goal.bring_violated-requires-clause-place
bring_violated-requires-clause-place g c =
    place_later c.args.search.now c.bring_others.new.search c.args.place
    (gone_then c.args.search.now c.demand_match.new.self c.bring_others.new.search c.demand_match.ensures.gone
    c.bring_others.ensures.gone)
    c.requires.place
