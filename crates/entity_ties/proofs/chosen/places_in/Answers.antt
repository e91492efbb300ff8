use Rattle.std.proofs.Common.{◌∙◌}
use Rattle.entity_ties.specs.Chosen.{AreRowsOf, IsAscending}
use Rattle.entity_ties.proofs.Rising.{among_all, places_made}
use Rattle.entity_ties.proofs.chosen.places_in.Goals as goal

pub rows_of-requires : goal.rows_of-requires
rows_of-requires c =
    rw c.deref.ensures.value (among_all c.args.numbers.now c.in_ok-entities.entities.items c.args.group.now.count
    c.in_ok-entities.ensures c.requires)

pub returns : goal.returns
returns c =
    let group = c.args.group.now in
    let found : AreRowsOf group.entities c.in_ok-entities.entities.items c.in_ok-found.found.items =
    rw c.deref.ensures.value at c.in_ok-found.ensures in
    let rows : IsAscending c.in_ok-found.found.items c.in_ok-rows.rows.items = rw c.deref-2.ensures.value at
    c.in_ok-rows.ensures in
    places_made group c.args.numbers.now c.in_ok-entities.entities.items c.in_ok-found.found.items
    c.in_ok-rows.rows.items c.in_ok-rows-2.rows
    c.in_ok-entity_list.field-0 c.in_ok-entities.ensures found rows (c.in_ok-rows-2.ensures ∙ c.deref-3.ensures.value)
    (c.in_ok-entity_list.ensures ∙ c.deref-4.ensures.value)
