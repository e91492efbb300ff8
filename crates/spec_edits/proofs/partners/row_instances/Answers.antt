use Rattle.std.proofs.Common.{◌≡◌, ◌-◌, ◌^◌, ◌∙◌, ℕ, List, length, min, Some, slice_get, get_or, refl, sym, ap, subst}
use Rattle.std.specs.List.{count_by}
use Rattle.std.proofs.lemmas.Option.{slice_get_within}
use Rattle.copy_functions.specs.Copies.{CopyFunction}
use Rattle.copy_functions.specs.declared.place.Place.{Place}
use Rattle.currency_base.specs.declared.ids.RelId.{RelId}
use Rattle.currency_base.specs.declared.ids.RowId.{RowId}
use Rattle.currency_base.specs.declared.row.Row.{Row}
use Rattle.spec_limits.proofs.OfSpec.{copy_at, entities_at, read_at, relation_at}
use Rattle.spec_model.specs.declared.relation.Relation.{Relation}
use Rattle.spec_edits.specs.Partners.{is_partner, partners, row_instances}
use Rattle.spec_edits.proofs.CopyEdits.{entity_within, partners_listed, product_is, row_instances_read}
use Rattle.spec_edits.proofs.Counting.{some_if}
use Rattle.spec_edits.proofs.partners.row_instances.Goals as goal

pub get-requires-2 : goal.get-requires-2
get-requires-2 c =
    let s = c.args.spec.now in
    let map = c.index-copies-copy.result in
    let t = c.index-relations-target.result in
    let within = slice_get_within s.copies c.args.copy.0 c.requires.rows.function c.requires.rows.is_function in
    let read : map ≡ get_or s.copies c.args.copy.0 map = rw c.copies.ensures.value at c.index-copies-copy.is in
    let among = copy_at s.relations s.copies c.args.copy.0 map c.copies.ensures.facts within read in
    let read_target : t ≡ get_or s.relations c.target.result.0 t = rw c.relations.ensures.value at c.index-relations-target.is in
    let t_at = read_at s.relations map.target.0 c.target.result.0 t (ap (λ (rel : RelId). rel.0) c.target.ensures)
    (slice_get_within s.relations map.target.0 among.target among.is_target) read_target in
    let are = entities_at s.relations c.args.lists.now map.target.0 c.target-2.result.0 t c.get.result.now c.requires.lists t_at
    (ap (λ (rel : RelId). rel.0) c.target-2.ensures) c.get.ensures in
    let here = subst (λ (q : Relation). slice_get q.rows c.args.target.0 ≡ Some c.row.result.now)
    (sym c.index-relations-target.is) c.row.ensures in
    entity_within t c.row.result.now c.args.target.0 c.get.result.now
    (relation_at s.relations map.target.0 t c.relations.ensures.facts.each t_at) are here

pub returns : goal.returns
returns c =
    let s = c.args.spec.now in
    let map = c.index-copies-copy.result in
    let t = c.index-relations-target.result in
    let within = slice_get_within s.copies c.args.copy.0 c.requires.rows.function c.requires.rows.is_function in
    let read : map ≡ get_or s.copies c.args.copy.0 map = rw c.copies.ensures.value at c.index-copies-copy.is in
    let among = copy_at s.relations s.copies c.args.copy.0 map c.copies.ensures.facts within read in
    let read_target : t ≡ get_or s.relations c.target.result.0 t = rw c.relations.ensures.value at c.index-relations-target.is in
    let t_at = read_at s.relations map.target.0 c.target.result.0 t (ap (λ (rel : RelId). rel.0) c.target.ensures)
    (slice_get_within s.relations map.target.0 among.target among.is_target) read_target in
    let are = entities_at s.relations c.args.lists.now map.target.0 c.target-2.result.0 t c.get.result.now c.requires.lists t_at
    (ap (λ (rel : RelId). rel.0) c.target-2.ensures) c.get.ensures in
    let here = subst (λ (q : Relation). slice_get q.rows c.args.target.0 ≡ Some c.row.result.now)
    (sym c.index-relations-target.is) c.row.ensures in
    let u = c.index-relations-source.result in
    let read_source : u ≡ get_or s.relations c.source.result.0 u =
    rw c.relations-2.ensures.value at c.index-relations-source.is in
    let u_at = read_at s.relations map.source.0 c.source.result.0 u (ap (λ (rel : RelId). rel.0) c.source.ensures)
    (slice_get_within s.relations map.source.0 among.source among.is_source) read_source in
    let test = λ (a b : List Row). is_partner map a b c.args.target c.args.source in
    let found = c.partners-found.ensures
    ∙ (ap (λ (a : List Row). count_by (test a c.as_slice-2.result.now) c.as_slice-others.result.now) (c.as_slice.ensures
    ∙ ap (λ (q : Relation). q.rows) (sym c.index-relations-target.is))
    ∙ (ap (λ (b : List Row). count_by (test t.rows b) c.as_slice-others.result.now) (c.as_slice-2.ensures
    ∙ ap (λ (q : Relation). q.rows) (sym c.index-relations-source.is))
    ∙ (ap (λ (l : List RowId). count_by (test t.rows u.rows) l) c.as_slice-others.ensures
    ∙ partners_listed map t.rows u.rows (length t.entities) c.get.result.now c.args.target c.args.source c.row.result.now
    c.get-2.result.now are here c.get-2.ensures))) in
    let many = c.len.ensures ∙ ap (length {A = Place}) c.places.ensures.value in
    some_if (λ (q : CopyFunction). c.saturating_mul.result ≡ min (row_instances s.relations q c.args.target c.args.source)
    (2 ^ 64 - 1)) (slice_get s.copies c.args.copy.0) map (read_at s.copies c.args.copy.0 c.args.copy.0 map refl within read)
    (product_is c.partners-found.result c.len.result (partners map t.rows u.rows c.args.target c.args.source) (length map.places)
    c.saturating_mul.result c.saturating_mul.ensures found many
    ∙ ap (λ (n : ℕ). min n (2 ^ 64 - 1)) (sym (row_instances_read s.relations map t u c.args.target c.args.source t_at u_at)))
