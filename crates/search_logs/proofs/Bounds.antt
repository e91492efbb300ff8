-- Bounds that a specification within its limits keeps.
use Rattle.std.proofs.Common.{◌≡◌, ◌<◌, ◌≤◌, ℕ, List, [], ◌∷◌, Some, length, slice_get, inl, inr, ap, arith}
use Rattle.std.specs.List.{sum_by}
use Rattle.std.proofs.lemmas.List.Sums.{sum_by-cons}
use Rattle.std.proofs.lemmas.Option.{slice_get_within}
use Rattle.currency_base.specs.declared.ids.AttrId.{AttrId}
use Rattle.currency_base.specs.declared.ids.RelId.{RelId}
use Rattle.currency_base.specs.declared.ids.RowId.{RowId}
use Rattle.partial_orders.specs.Pairs.{entity_of}
use Rattle.spec_model.specs.Facts.{IsRelation, AreRelations}
use Rattle.spec_model.specs.declared.relation.Relation.{Relation}
use Rattle.refutation_log.specs.Writable.{IsPlace}
use Rattle.order_literals.proofs.Items.{IsIn}
use Rattle.order_clauses.proofs.Reading.{all_at}
use Rattle.order_clauses.proofs.Members.{row_within}

-- what one item adds to a sum is at most the sum
pub one_of_sum : {A : Type 0} (f : A → ℕ) (xs : List A) (x : A) → IsIn xs x → f x ≤ sum_by f xs
one_of_sum f [] x at = absurd at
one_of_sum {A} f (y ∷ xs) x (inl e) =
    let more = sum_by-cons f y xs in
    let same = ap f e in
    omega (arith, more, same)
one_of_sum f (y ∷ xs) x (inr at) =
    let more = sum_by-cons f y xs in
    let rest = one_of_sum f xs x at in
    omega (arith, more, rest)

module _ (relations : List Relation) (are : AreRelations relations) where
  pub facts_of : (rel : RelId) (r : Relation) → slice_get relations rel.0 ≡ Some r → IsRelation r
  facts_of rel r at = all_at IsRelation relations rel.0 r are.each at

  pub rel_place : (rel : RelId) (r : Relation) → slice_get relations rel.0 ≡ Some r → IsPlace rel.0
  rel_place rel r at =
      let within = slice_get_within relations rel.0 r at in
      let few = are.few in
      omega (arith, within, few)

  pub attr_place : (rel : RelId) (r : Relation) (attr : AttrId) → slice_get relations rel.0 ≡ Some r
      → attr.0 < length r.attrs → IsPlace attr.0
  attr_place rel r attr at within = let few = (facts_of rel r at).few_attrs in omega (arith, within, few)

  pub row_place : (rel : RelId) (r : Relation) (row : RowId) (ent : ℕ) → slice_get relations rel.0 ≡ Some r
      → entity_of r.rows row.0 ≡ Some ent
      → IsPlace row.0
  row_place rel r row ent at of =
      let few = (facts_of rel r at).few_rows in
      let within = row_within r.rows row.0 ent of in
      omega (arith, within, few)
