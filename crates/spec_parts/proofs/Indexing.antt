-- Given pairs that are put into the lists of their entities.
use Rattle.std.proofs.Common.{◌≡◌, ◌≢◌, ◌⊎◌, ◌<◌, ◌∙◌, ◌↔◌, ℕ, zero, suc, List, [], ◌∷◌, ◌++◌, Contains, Some, length, slice_get, slice_set, slice_index_or, refl, sym, ap, subst, inl, inr}
use Rattle.std.proofs.lemmas.Bool.{cases_eq}
use Rattle.std.proofs.lemmas.List.{length-set, get_or-set_same, get_or-set_other}
use Rattle.std.proofs.lemmas.List.Elements.{Contains-push, Contains-push_cases, Contains-append_left}
use Rattle.std.proofs.lemmas.Option.{same_Some, get_or_from_slice_get}
use Rattle.currency_base.specs.declared.pair.Pair.{Pair}
use Rattle.currency_base.specs.declared.row.Row.{Row}
use Rattle.partial_orders.specs.Pairs.{entity_of}
use Rattle.spec_model.specs.Facts.{IsRelation, IsGivenPair}
use Rattle.spec_model.specs.declared.relation.Relation.{Relation}
use Rattle.spec_parts.specs.Index.{AreIndexed, IsIndexed}
use Rattle.spec_parts.specs.Steps.{ArePaired}
use Rattle.spec_parts.proofs.Pairing.{item_has, partner, not_in}

-- the lists of these pairs
pub record IsIndexedSoFar (r : Relation) (done : List Pair) (pairs : List (List Pair)) : Type 0 where
  pub per_entity : length pairs ≡ length r.entities
  pub each : (ent : ℕ) (p : Pair)
      → Contains (slice_index_or pairs ent []) p ↔ (Contains done p × (entity_of r.rows p.earlier.0 ≡ Some ent))

pub indexed_none : (r : Relation) (pairs : List (List Pair)) → length pairs ≡ length r.entities
    → ((ent : ℕ) → slice_index_or pairs ent [] ≡ []) → IsIndexedSoFar r [] pairs
indexed_none r pairs many empty = record {
  per_entity = many;
  each = λ ent p. (λ c. absurd (not_in p (subst (λ l. Contains l p) (empty ent) c)), λ both. absurd (not_in p both.0));
}

pub indexed_more : (r : Relation) (done : List Pair) (pairs new : List (List Pair)) (p : Pair) (ent : ℕ)
    → IsIndexedSoFar r done pairs
    → entity_of r.rows p.earlier.0 ≡ Some ent → ent < length pairs
    → new ≡ slice_set pairs ent (slice_index_or pairs ent [] ++ p ∷ []) → IsIndexedSoFar r (done ++ p ∷ []) new
indexed_more r done pairs new p ent are is within put = record {
  per_entity = ap length put ∙ length-set pairs ent (slice_index_or pairs ent [] ++ p ∷ []) ∙ are.per_entity;
  each = λ other q. (to other q, from other q);
}
  where
    list : List Pair
    list = slice_index_or pairs ent [] ++ p ∷ []

    here : slice_index_or new ent [] ≡ list
    here = ap (λ l. slice_index_or l ent []) put ∙ get_or-set_same pairs ent list [] within

    there : (other : ℕ) → other ≢ ent → slice_index_or new other [] ≡ slice_index_or pairs other []
    there other apart = ap (λ l. slice_index_or l other []) put ∙ get_or-set_other pairs ent other list [] apart

    to : (other : ℕ) (q : Pair) → Contains (slice_index_or new other []) q
        → Contains (done ++ p ∷ []) q × (entity_of r.rows q.earlier.0 ≡ Some other)
    to other q c = by (cases_eq other ent)
      where
        by : (other ≡ ent) ⊎ (other ≢ ent) → Contains (done ++ p ∷ []) q × (entity_of r.rows q.earlier.0 ≡ Some other)
        by (inl same) = pick (Contains-push_cases (slice_index_or pairs ent []) p q
            (subst (λ l. Contains l q) here (subst (λ n. Contains (slice_index_or new n []) q) same c)))
          where
            pick : Contains (slice_index_or pairs ent []) q ⊎ (p ≡ q)
                → Contains (done ++ p ∷ []) q × (entity_of r.rows q.earlier.0 ≡ Some other)
            pick (inl old) = let was = (are.each ent q).0 old in (
              Contains-append_left done (p ∷ []) q was.0,
              was.1
                  ∙ ap Some (sym same),
            )
            pick (inr one) = (
              subst (Contains (done ++ p ∷ [])) one (Contains-push done p),
              ap (λ (x : Pair). entity_of r.rows x.earlier.0) (sym one) ∙ is ∙ ap Some (sym same),
            )
        by (inr apart) =
            let was = (are.each other q).0 (subst (λ l. Contains l q) (there other apart) c) in
            (Contains-append_left done (p ∷ []) q was.0, was.1)

    from : (other : ℕ) (q : Pair) → Contains (done ++ p ∷ []) q × (entity_of r.rows q.earlier.0 ≡ Some other)
        → Contains (slice_index_or new other []) q
    from other q both = by (cases_eq other ent) (Contains-push_cases done p q both.0)
      where
        by : (other ≡ ent) ⊎ (other ≢ ent) → Contains done q ⊎ (p ≡ q) → Contains (slice_index_or new other []) q
        by (inl same) (inl old) =
            let was : Contains (slice_index_or pairs ent []) q = (are.each ent q).1 (old, both.1 ∙ ap Some same) in
            subst (λ n. Contains (slice_index_or new n []) q) (sym same)
            (subst (λ l. Contains l q) (sym here) (Contains-append_left (slice_index_or pairs ent []) (p ∷ []) q was))
        by (inl same) (inr one) =
            subst (λ n. Contains (slice_index_or new n []) q) (sym same)
            (subst (λ l. Contains l q) (sym here) (subst (Contains list) one (Contains-push (slice_index_or pairs ent []) p)))
        by (inr apart) (inl old) = subst (λ l. Contains l q) (sym (there other apart)) ((are.each other q).1 (old, both.1))
        by (inr apart) (inr one) =
            absurd (apart (same_Some other ent (sym both.1 ∙ (ap (λ (x : Pair). entity_of r.rows x.earlier.0) (sym one) ∙ is))))

pub indexed_all : (r : Relation) (done : List Pair) (pairs : List (List Pair)) → done ≡ r.given → IsIndexedSoFar r done pairs
    → IsIndexed r pairs
indexed_all r done pairs whole are = record {
  per_entity = are.per_entity;
  each = λ ent p. (
    λ c. let both = (are.each ent p).0 c in (subst (λ l. Contains l p) whole both.0, both.1),
    λ both. (are.each ent p).1 (subst (λ l. Contains l p) (sym whole) both.0, both.1),
  );
}

-- the lists of all relations
pub all_indexed : (relations : List Relation) (pairs : List (List (List Pair))) → ArePaired IsIndexed relations pairs
    → AreIndexed relations pairs
all_indexed relations pairs are = record {
  per_relation = are.many;
  per_entity = λ rel r at. let one = at_rel rel r at in ap length one.1 ∙ one.2.per_entity;
  each = λ rel r at ent p. let one = at_rel rel r at in
      subst (λ (l : List (List Pair)). Contains (slice_index_or l ent []) p ↔
      (Contains r.given p × (entity_of r.rows p.earlier.0 ≡ Some ent)))
      (sym one.1) (one.2.each ent p);
}
  where
    at_rel : (rel : ℕ) (r : Relation) → slice_get relations rel ≡ Some r
        → (l : List (List Pair)) × (slice_index_or pairs rel [] ≡ l) × IsIndexed r l
    at_rel rel r at =
        let found = partner IsIndexed relations pairs rel r are at in
        (found.0, get_or_from_slice_get pairs rel found.0 [] found.1, found.2)

-- ---- a list that is taken out and put back

set_again : {A : Type 0} (xs : List A) (i : ℕ) (a b : A) → slice_set (slice_set xs i a) i b ≡ slice_set xs i b
set_again [] i a b = refl
set_again (x ∷ xs) zero a b = refl
set_again (x ∷ xs) (suc i) a b = ap (λ l. x ∷ l) (set_again xs i a b)

pub put_again : (lists mid new : List (List Pair)) (ent : ℕ) (list empty more : List Pair) (p : Pair)
    → slice_get lists ent ≡ Some list
    → mid ≡ slice_set lists ent empty → more ≡ list ++ p ∷ [] → new ≡ slice_set mid ent more
    → new ≡ slice_set lists ent (slice_index_or lists ent [] ++ p ∷ [])
put_again lists mid new ent list empty more p at taken pushed back =
    let read : slice_index_or lists ent [] ≡ list = get_or_from_slice_get lists ent list [] at in
    let full : more ≡ slice_index_or lists ent [] ++ p ∷ [] = pushed ∙ ap (λ l. l ++ p ∷ []) (sym read) in
    back ∙ ap (λ l. slice_set l ent more) taken ∙ set_again lists ent empty more ∙ ap (slice_set lists ent) full

-- ---- the rows of given pairs

pub given_pair : (r : Relation) (k : ℕ) (p : Pair) → IsRelation r → slice_get r.given k ≡ Some p → IsGivenPair r p
given_pair r k p facts at = item_has (IsGivenPair r) r.given facts.given k p at

pub entity_within : (r : Relation) (row : ℕ) (one : Row) → IsRelation r → slice_get r.rows row ≡ Some one
    → one.entity.0 < length r.entities
entity_within r row one facts at = item_has (λ (q : Row). q.entity.0 < length r.entities) r.rows facts.entities row one at
