use Rattle.std.proofs.Common.{refl, cond, ◌≡◌, ◌∙◌, None, Some}
use Rattle.std.specs.Str.{bytes_eq}
use Rattle.indexmap.specs.IndexMap.{get}
use Rattle.csv.specs.Records.{fields_of}
use Rattle.currency_csv.specs.Table.{places_in}
use Rattle.currency_csv.proofs.Fields.{utf8_of_field}
use Rattle.currency_csv.proofs.Places.{place_noted}
use Rattle.currency_csv.proofs.columns.places_by_name.Goals as goal
use Rattle.currency_csv.proofs.columns.places_by_name.Goals.{then-contains_key, else-contains_key}

pub loop-place-init : goal.loop-place-init
unfolding places_in
loop-place-init c = λ name. rw c.new-places.ensures.empty refl

pub from_bytes-requires : goal.from_bytes-requires
from_bytes-requires c = utf8_of_field (fields_of c.args.header.now) c.loop-place.place c.field.result.now
    c.field.ensures c.requires

pub loop-place-preserved : goal.loop-place-preserved
loop-place-preserved c =
    let seen : c.if-contains_key.seen ≡ cond c.contains_key.result None (Some c.loop-place.place) =
    elim c.if-contains_key.branch [
      | then-contains_key w ↦ rw w.if-contains_key.true w.seen-is
      | else-contains_key w ↦
          rw w.if-contains_key.false w.seen-is
    ] in
    place_noted (fields_of c.args.header.now) c.loop-place.place c.in-Ok.name c.if-contains_key.seen c.contains_key.result
    (get bytes_eq c.loop-place.places) (get bytes_eq c.insert.new.self)
    (rw c.len-place-end.ensures at c.loop-place-test.true) (c.in-Ok.ensures ∙ c.field.ensures) c.loop-place.invariant
    c.in-Ok-insert.ensures.updates.0 c.contains_key.ensures seen
