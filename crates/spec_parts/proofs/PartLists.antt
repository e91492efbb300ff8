-- Relations of the part are relations, one after another.
use Rattle.std.proofs.Common.{◌≡◌, ◌⊎◌, ◌+◌, ◌<◌, ◌≤◌, ◌∙◌, ℕ, List, [], ◌∷◌, ◌++◌, Some, length, map, slice_get, refl, sym, ap, subst, inl, inr, arith}
use Rattle.std.proofs.lemmas.List.{length_push}
use Rattle.std.proofs.lemmas.Option.{none-some, same_Some, slice_get_within}
use Rattle.currency_base.specs.Lists.{OnlyOnce}
use Rattle.currency_base.specs.declared.ids.EntId.{EntId}
use Rattle.currency_base.specs.declared.ids.RowId.{RowId}
use Rattle.spec_model.specs.Facts.{IsRelation, AreRelations}
use Rattle.spec_model.specs.declared.relation.Relation.{Relation}
use Rattle.part_laws.specs.Parts.{Places, rows_in, entities_in}
use Rattle.spec_parts.specs.Steps.{AreCuttable, IsPartSoFar, ArePartsSoFar}
use Rattle.spec_parts.proofs.Pairing.{item_at, each_has, at_push, unmapped, mapped}
use Rattle.spec_parts.proofs.PartRelation.{part_is_relation}

module _ (relations : List Relation) (n : Places) (count : ℕ) (part : List Relation) where
  -- the relation of the whole that one of the part is of
  pub whole_at : ArePartsSoFar relations n count part → count ≤ length relations → (rel : ℕ) (new : Relation)
      → slice_get part rel ≡ Some new
      → (r : Relation) × (slice_get relations rel ≡ Some r) × IsPartSoFar r (rows_in n rel) (entities_in n rel) new
  whole_at are few rel new at =
      let found = item_at relations rel (omega (arith, slice_get_within part rel new at, are.many, few)) in
      (found.0, found.1, are.each rel found.0 new found.1 at)

  pub part_at : ArePartsSoFar relations n count part → (rel : ℕ) (r : Relation) → rel < count → slice_get relations rel ≡ Some r
      → (new : Relation) × (slice_get part rel ≡ Some new) × IsPartSoFar r (rows_in n rel) (entities_in n rel) new
  part_at are rel r below at =
      let found = item_at part rel (omega (arith, below, are.many)) in
      (found.0, found.1, are.each rel r found.0 at found.1)

  pub parts_are_relations : AreCuttable relations n → ArePartsSoFar relations n count part → count ≤ length relations
      → AreRelations part
  parts_are_relations cut are few = record {
    few = omega (arith, are.many, few, cut.facts.few);
    each = each_has IsRelation part (λ rel new at.
        let w = whole_at are few rel new at in
        part_is_relation w.0 (rows_in n rel) (entities_in n rel) new (cut.each rel w.0 w.1) w.2);
    names = once;
  }
    where
      once : OnlyOnce (map (λ (r : Relation). r.name) part)
      once i j x at_i at_j =
          let a = unmapped (λ (r : Relation). r.name) part i x at_i in
          let b = unmapped (λ (r : Relation). r.name) part j x at_j in
          let p = whole_at are few i a.0 a.1 in
          let q = whole_at are few j b.0 b.1 in
          cut.facts.names i j x (mapped (λ (r : Relation). r.name) relations i p.0 p.1 ∙ ap Some (sym p.2.name ∙ a.2))
          (mapped (λ (r : Relation). r.name) relations j q.0 q.1 ∙ ap Some (sym q.2.name ∙ b.2))

  pub parts_next : ArePartsSoFar relations n count part → (r new : Relation) → slice_get relations count ≡ Some r
      → IsPartSoFar r (rows_in n count) (entities_in n count) new → ArePartsSoFar relations n (count + 1) (part ++ new ∷ [])
  parts_next are r new at is = record { many = omega (arith, length_push part new, are.many); each = each }
    where
      each : (rel : ℕ) (q one : Relation) → slice_get relations rel ≡ Some q → slice_get (part ++ new ∷ []) rel ≡ Some one
          → IsPartSoFar q (rows_in n rel) (entities_in n rel) one
      each rel q one at_q at_one = by (at_push part new rel one at_one)
        where
          by : (slice_get part rel ≡ Some one) ⊎ ((rel ≡ length part) × (new ≡ one)) → IsPartSoFar q (rows_in n rel)
              (entities_in n rel) one
          by (inl old) = are.each rel q one at_q old
          by (inr last) =
              let same : count ≡ rel = omega (arith, last.0, are.many) in
              let whole : r ≡ q = same_Some r q (sym at ∙ ap (slice_get relations) same ∙ at_q) in
              subst (λ k. IsPartSoFar q (rows_in n k) (entities_in n k) one) same
              (subst (λ x. IsPartSoFar x (rows_in n count) (entities_in n count) one) whole
              (subst (IsPartSoFar r (rows_in n count) (entities_in n count)) last.1 is))

pub parts_none : (relations : List Relation) (n : Places) → ArePartsSoFar relations n 0 []
parts_none relations n = record { many = refl; each = λ rel r new at_r at_new. absurd (none-some new at_new) }

pub parts_put : (relations : List Relation) (n : Places) (count : ℕ) (part : List Relation) → ArePartsSoFar relations n count part
    → (r new : Relation)
    → (rows : List RowId) (entities : List EntId) → slice_get relations count ≡ Some r → rows ≡ rows_in n count
    → entities ≡ entities_in n count
    → IsPartSoFar r rows entities new → ArePartsSoFar relations n (count + 1) (part ++ new ∷ [])
parts_put relations n count part are r new rows entities at same_rows same_entities is =
    parts_next relations n count part are r new at
    (subst (λ es. IsPartSoFar r (rows_in n count) es new) same_entities
    (subst (λ rs. IsPartSoFar r rs entities new) same_rows is))
