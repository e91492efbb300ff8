use Rattle.std.proofs.Common.{◌≡◌, ◌∷◌, ◌++◌, [], Some, length, slice_get, arith, rules}
use Rattle.std.proofs.lemmas.Option.{slice_get_read}
use Rattle.entity_ties.specs.Chosen.{ArePlacesIn}
use Rattle.entity_ties.proofs.Rising.{all_in, places_more}
use Rattle.entity_ties.proofs.chosen.places_of.Goals as goal

pub places_in-requires : goal.places_in-requires
places_in-requires c =
    let groups = c.args.groups.now in
    let rel = c.loop-rel.rel in
    let group = c.index-groups-rel.result in
    let at : slice_get groups rel ≡ Some group = slice_get_read groups (length groups) rel group (omega arith)
    (omega arith) c.index-groups-rel.is in
    rw c.as_slice.ensures (all_in groups c.args.found.now rel group c.get.result.now c.requires.within at c.get.ensures)

pub loop-rel-preserved : goal.loop-rel-preserved
loop-rel-preserved c =
    let groups = c.args.groups.now in
    let rel = c.loop-rel.rel in
    let group = c.index-groups-rel.result in
    let at : slice_get groups rel ≡ Some group = slice_get_read groups (length groups) rel group (omega arith)
    (omega arith) c.index-groups-rel.is in
    let rows : c.push.new.self ≡ c.loop-rel.rows ++ c.in_ok-in_rows.in_rows ∷ [] = search rules in
    let entities : c.push-in-loop-rel.new.self ≡ c.loop-rel.entities ++ c.in_ok-in_rows.in_entities ∷ [] = search rules in
    let is : ArePlacesIn group c.get.result.now c.in_ok-in_rows.in_rows c.in_ok-in_rows.in_entities =
    rw c.as_slice.ensures at c.in_ok-in_rows.ensures in
    rw (rows, entities) (places_more groups c.args.found.now rel group c.get.result.now c.loop-rel.rows
    c.loop-rel.entities c.in_ok-in_rows.in_rows
    c.in_ok-in_rows.in_entities at c.get.ensures c.loop-rel.invariant is)
