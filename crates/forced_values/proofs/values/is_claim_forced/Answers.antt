use Rattle.std.proofs.Common.{◌≡◌, ◌<◌, List, Some, length, slice_get, refl, sym, subst}
use Rattle.std.proofs.lemmas.Option.{slice_get_read, slice_get_within}
use Rattle.spec_model.specs.Spec.{Spec}
use Rattle.spec_model.specs.declared.relation.Relation.{Relation}
use Rattle.forced_values.specs.Values.{AreRowsWith}
use Rattle.forced_values.proofs.Reading.{all_forced, rows_there}
use Rattle.forced_values.proofs.values.is_claim_forced.Goals as goal

pub all_give_way-requires-clause-rows : goal.all_give_way-requires-clause-rows
all_give_way-requires-clause-rows c =
    let relations = c.relations-relations.result.now in
    let p = c.args.claim in
    let r = c.index-relations-claim.result in
    let are = c.rows_with-rows.ensures in
    let within = slice_get_within relations p.rel.0 are.relation are.is_relation in
    let at = slice_get_read relations (length relations) p.rel.0 r refl within c.index-relations-claim.is in
    rw (← c.index-relations-claim.is) (rows_there relations p c.rows_with-rows.result.now are r at)

pub all_give_way-requires-clause-rel : goal.all_give_way-requires-clause-rel
all_give_way-requires-clause-rel c =
    subst (λ (s : Spec). c.args.claim.rel.0 < length s.relations) (sym c.requires.closure)
    (slice_get_within c.args.spec.now.relations c.args.claim.rel.0 c.requires.claim.relation c.requires.claim.is_relation)

pub returns : goal.returns
returns c = λ told.
    let relations = c.relations-relations.result.now in
    let s = c.args.spec.now in
    let p = c.args.claim in
    let r = c.index-relations-claim.result in
    let same : relations ≡ s.relations = c.relations-relations.ensures.value in
    let are = c.rows_with-rows.ensures in
    let within = slice_get_within relations p.rel.0 are.relation are.is_relation in
    let at = slice_get_read relations (length relations) p.rel.0 r refl within c.index-relations-claim.is in
    all_forced s c.args.closure.now.spec c.requires.closure p c.rows_with-rows.result.now
    (subst (λ (l : List Relation). AreRowsWith l p c.rows_with-rows.result.now) same are)
    r (subst (λ (l : List Relation). slice_get l p.rel.0 ≡ Some r) same at)
    (rw c.index-relations-claim.is (c.all_give_way.ensures told))
