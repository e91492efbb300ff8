-- A field, by what is shown of its fact.
use Rattle.std.proofs.Common.{◌≡◌, ◌∙◌, ◌+◌, ◌*◌, ◌<◌, ℕ, All, List, Some, get_or, length, slice_get, sym, ap, subst, arith}
use Rattle.std.proofs.lemmas.Nat.{mul-add-lt}
use Rattle.std.proofs.lemmas.Option.{same_Some, slice_get-get_or}
use Rattle.std.proofs.Math.Nat.{mul_comm}
use Rattle.current_tuples.specs.Places.{IsPlaceOf}
use Rattle.posed_facts.specs.declared.fact.Fact.{Fact}
use Rattle.posed_facts.specs.declared.fact.Fact.TheVariants as fact
use Rattle.decided_facts.specs.Decided.{IsShown}
use Rattle.decided_facts.specs.declared.shown.Shown.{Shown}
use Rattle.decided_facts.specs.declared.shown.Shown.TheVariants as shown
use Rattle.spec_model.specs.Completion.{Rankings}
use Rattle.spec_model.specs.Consistent.{IsConsistent}
use Rattle.spec_model.specs.Spec.{Spec}
use Rattle.spec_model.specs.declared.relation.Relation.{Relation}
use Rattle.golden_values.specs.Golden.{IsField}
use Rattle.golden_values.specs.Steps.{AreClaims, AreClaimsShown, AreClaimsTo, IsClaimAt, field_by, place_of}
use Rattle.golden_values.specs.Steps.Precedes.{by_ent}
use Rattle.golden_values.proofs.Claimed.{claim_holds, holds_claim}
use Rattle.golden_values.proofs.Lists.{item_has}

-- what is shown of the fact tells the field
told_claim : (s : Spec) (rel : ℕ) (r : Relation) → slice_get s.relations rel ≡ Some r → (c : Rankings) → IsConsistent s c
    → (completions : List Rankings) → All (IsConsistent s) completions → (ent attr : ℕ) (f : Fact)
    → (is : IsClaimAt rel r c ent attr f) → (x : Shown) → IsShown s completions (fact.Current is.claim) x
    → IsField s rel r ent attr (field_by (fact.Current is.claim) x)
told_claim s rel r at c consistent completions all ent attr f is shown.Holds told = record {
  of_entity = is.of_entity;
  certain = λ d d_consistent.
      holds_claim s.relations rel r at c d ent attr f is (told d d_consistent) ∙ sym is.of_value;
}
told_claim s rel r at c consistent completions all ent attr f is (shown.FailsIn place) told = record {
  one = c;
  other = told.completion;
  one_consistent = consistent;
  other_consistent = item_has (IsConsistent s) completions all place told.completion told.is_there;
  differ = record {
    relation = r;
    is_relation = at;
    differ = λ same. told.fails
        (claim_holds s.relations rel r at c told.completion ent attr f is (sym same ∙ is.current));
  };
}

-- the facts are those for the fields of the relation
own_claims : (relations : List Relation) (rel : ℕ) (c : Rankings) (facts : List Fact) → AreClaims relations rel c facts
    → (r : Relation) → slice_get relations rel ≡ Some r → AreClaimsTo rel r c (length r.entities) 0 facts
own_claims relations rel c facts are r at =
    subst (λ (q : Relation). AreClaimsTo rel q c (length q.entities) 0 facts)
    (same_Some are.relation r (sym are.is_relation ∙ at)) are.claims

-- the number of a field is that of a fact
place_within : (r : Relation) (many ent attr : ℕ) → many ≡ place_of (length r.attrs) (length r.entities) 0
    → ent < length r.entities → attr < length r.attrs → place_of (length r.attrs) ent attr < many
place_within r many ent attr all in_entities in_attrs =
    omega (
      arith,
      all,
      mul-add-lt ent (length r.attrs) attr (length r.entities) in_entities in_attrs,
      mul_comm (length r.attrs) (length r.entities),
    )

-- the fact and what is shown of it, at the number of a field, tell the field
told_field : (s : Spec) (rel : ℕ) (facts : List Fact) (list : List Shown) → AreClaimsShown s rel facts list
    → (r : Relation) → slice_get s.relations rel ≡ Some r → (ent attr : ℕ) → ent < length r.entities → attr < length r.attrs
    → (f : Fact) (x : Shown) → slice_get facts (place_of (length r.attrs) ent attr) ≡ Some f
    → slice_get list (place_of (length r.attrs) ent attr) ≡ Some x → IsField s rel r ent attr (field_by f x)
told_field s rel facts list are r at ent attr in_entities in_attrs f x is_fact is_shown =
    let claims = own_claims s.relations rel are.completion facts are.claims r at in
    let has = claims.each ent attr in_attrs (by_ent in_entities) in
    let own : has.fact ≡ f = same_Some has.fact f (sym has.is_fact ∙ is_fact) in
    let is : IsClaimAt rel r are.completion ent attr f = subst (IsClaimAt rel r are.completion ent attr) own has.claims in
    let told : IsShown s are.completions f x = are.shown.each (place_of (length r.attrs) ent attr) f x is_fact is_shown in
    subst (λ g. IsField s rel r ent attr (field_by g x)) (sym is.is_claim)
    (told_claim s rel r at are.completion are.consistent are.completions are.shown.consistent ent attr f is x
    (subst (λ g. IsShown s are.completions g x) is.is_claim told))

-- what is read at the number of a field tells the field
pub field_read : (s : Spec) (rel : ℕ) (facts : List Fact) (list : List Shown) → AreClaimsShown s rel facts list
    → (ent attr : ℕ) → IsPlaceOf s.relations rel attr ent → (own : Relation) → slice_get s.relations rel ≡ Some own
    → (attrs : ℕ) → attrs ≡ length own.attrs → (f : Fact) (x : Shown)
    → (r : Relation) → slice_get s.relations rel ≡ Some r
    → IsField s rel r ent attr (field_by (get_or facts (ent * attrs + attr) f) (get_or list (ent * attrs + attr) x))
field_read s rel facts list are ent attr place own own_at attrs many f x r at =
    let same : place.relation ≡ r = same_Some place.relation r (sym place.is_relation ∙ at) in
    let in_entities : ent < length r.entities = rw (← same) place.ent_within in
    let in_attrs : attr < length r.attrs = rw (← same) place.attr_within in
    let all : attrs ≡ length r.attrs = many ∙ ap (λ (q : Relation). length q.attrs) (same_Some own r (sym own_at ∙ at)) in
    let n = place_of (length r.attrs) ent attr in
    let claims = own_claims s.relations rel are.completion facts are.claims r at in
    let below : n < length facts = place_within r (length facts) ent attr claims.as_many in_entities in_attrs in
    rw all
    (told_field s rel facts list are r at ent attr in_entities in_attrs (get_or facts n f) (get_or list n x)
    (slice_get-get_or facts n f below)
    (slice_get-get_or list n x (omega (arith, below, are.shown.per_fact))))
