use Rattle.std.proofs.Common.{length}
use Rattle.std.proofs.lemmas.Result.{IfOk-weaker}
use Rattle.entity_ties.specs.Labels.{labelling}
use Rattle.entity_ties.proofs.Scoped.{are_places, found_within, is_closed, relations_there}
use Rattle.entity_ties.proofs.ties.chosen_places.Goals as goal

pub chosen_entities-requires-clause-relations : goal.chosen_entities-requires-clause-relations
chosen_entities-requires-clause-relations c =
    let t = labelling c.args.labels.now (length c.args.parts.now) c.args.groups.now in
    relations_there c.args.spec.now t c.args.parts.now c.args.chosen.now c.relations-relations.ensures.facts
    c.requires.ties c.requires.held

pub places_of-requires-clause-within : goal.places_of-requires-clause-within
places_of-requires-clause-within c =
    let t = labelling c.args.labels.now (length c.args.parts.now) c.args.groups.now in
    found_within c.args.spec.now t c.args.parts.now c.args.chosen.now c.relations-relations.ensures.facts
    c.requires.ties c.requires.held
    c.in_ok-found.found c.in_ok-found.ensures

pub returns-clause-places : goal.returns-clause-places
returns-clause-places c =
    let t = labelling c.args.labels.now (length c.args.parts.now) c.args.groups.now in
    IfOk-weaker c.places_of.result _ _ (λ n all.
    are_places c.args.spec.now t c.args.parts.now c.args.chosen.now c.relations-relations.ensures.facts
    c.requires.ties c.requires.held
    c.in_ok-found.found c.in_ok-found.ensures n all) c.places_of.ensures

pub returns-clause-closed : goal.returns-clause-closed
returns-clause-closed c =
    let t = labelling c.args.labels.now (length c.args.parts.now) c.args.groups.now in
    is_closed c.args.spec.now t c.args.parts.now c.args.chosen.now c.relations-relations.ensures.facts
    c.requires.ties c.requires.held

pub returns-in_err-found-clause-closed : goal.returns-in_err-found-clause-closed
returns-in_err-found-clause-closed c =
    let t = labelling c.args.labels.now (length c.args.parts.now) c.args.groups.now in
    is_closed c.args.spec.now t c.args.parts.now c.args.chosen.now c.relations-relations.ensures.facts
    c.requires.ties c.requires.held
