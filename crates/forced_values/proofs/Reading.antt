-- What is read for a claim.
use Rattle.std.proofs.Common.{◌≡◌, ◌∙◌, ◌<◌, List, All, Some, get_or, length, slice_get, sym, ap, subst, arith}
use Rattle.std.proofs.lemmas.Option.{same_Some, slice_get-get_or, slice_get_within}
use Rattle.currency_base.specs.declared.ids.RowId.{RowId}
use Rattle.entity_lists.specs.Lists.{entities_of, rows_of}
use Rattle.entity_lists.proofs.Facts.{length-entities_of, member_of}
use Rattle.match_premises.specs.declared.premise.Premise.{Premise}
use Rattle.spec_model.specs.Spec.{Spec}
use Rattle.spec_model.specs.declared.relation.Relation.{Relation}
use Rattle.forced_values.specs.Values.{AreRowsWith, GivesWay, IsClaimForced}

-- the rows of an entity are there
rows_within : (relations : List Relation) (p : Premise) (rows : List RowId) → (are : AreRowsWith relations p rows)
    → All (λ row. row.0 < length are.relation.rows) rows
rows_within relations p rows are k d below =
    let entities = entities_of are.relation.rows in
    let ent = are.row.entity.0 in
    let row = get_or rows k d in
    let at : slice_get (rows_of entities ent) k ≡ Some row =
    ap (λ l. slice_get l k) (sym are.are) ∙ slice_get-get_or rows k d below in
    let within = slice_get_within entities row.0 ent (member_of entities ent k row at) in
    omega (arith, within, length-entities_of are.relation.rows)

-- the rows of the claim's entity are there, in its relation
pub rows_there : (relations : List Relation) (p : Premise) (rows : List RowId) → AreRowsWith relations p rows
    → (r : Relation) → slice_get relations p.rel.0 ≡ Some r → All (λ row. row.0 < length r.rows) rows
rows_there relations p rows are r at =
    subst (λ (q : Relation). All (λ row. row.0 < length q.rows) rows)
    (same_Some are.relation r (sym are.is_relation ∙ at))
    (rows_within relations p rows are)

-- where each of them gives way forced pairs tell the claim
pub all_forced : (s t : Spec) → t ≡ s → (p : Premise) (rows : List RowId) → AreRowsWith s.relations p rows
    → (r : Relation) → slice_get s.relations p.rel.0 ≡ Some r → All (GivesWay t p r.rows) rows → IsClaimForced s p
all_forced s t one p rows are r at all =
    let same : r ≡ are.relation = same_Some r are.relation (sym at ∙ are.is_relation) in
    let own : All (GivesWay s p r.rows) rows = subst (λ u. All (GivesWay u p r.rows) rows) one all in
    record {
      rows = rows;
      rows_are = are;
      each = subst (λ (q : Relation). All (GivesWay s p q.rows) rows) same own;
    }
