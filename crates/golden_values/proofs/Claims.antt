-- The facts for the fields before one, and for one more.
use Rattle.std.proofs.Common.{◌≡◌, ◌∙◌, ◌<◌, ◌≤◌, ◌+◌, ◌++◌, ℕ, List, [], ◌∷◌, ◌⊎◌, inl, inr, length, slice_get, sym, ap, ⊎_elim, arith}
use Rattle.std.proofs.lemmas.Bool.{cases_lt}
use Rattle.std.proofs.lemmas.List.{length_push}
use Rattle.std.proofs.lemmas.List.Elements.{All-push}
use Rattle.std.proofs.lemmas.Option.{slice_get_within}
use Rattle.posed_facts.specs.declared.fact.Fact.{Fact}
use Rattle.spec_model.specs.Completion.{Rankings}
use Rattle.spec_model.specs.declared.relation.Relation.{Relation}
use Rattle.golden_values.specs.Steps.{AreClaimsTo, HasClaimAt, IsClaim, IsClaimAt, Precedes, place_of}
use Rattle.golden_values.specs.Steps.Precedes.{by_ent, by_attr}
use Rattle.golden_values.proofs.Lists.{get_end, get_front}

-- ---- one more

-- what comes before the next attribute comes before this one, or is this field
before_next : (to_ent to_attr ent attr : ℕ) → Precedes to_ent (to_attr + 1) ent attr
    → Precedes to_ent to_attr ent attr ⊎ ((ent ≡ to_ent) × (attr ≡ to_attr))
before_next to_ent to_attr ent attr (by_ent h) = inl (by_ent h)
before_next to_ent to_attr ent attr (by_attr e h) =
    ⊎_elim (λ (g : attr < to_attr). inl (by_attr e g)) (λ (g : to_attr ≤ attr). inr (e, omega arith)) (cases_lt attr to_attr)

-- what stands among the facts stands among one more
claim_stays : (rel : ℕ) (r : Relation) (c : Rankings) (facts : List Fact) (f : Fact) (ent attr : ℕ)
    → HasClaimAt rel r c facts ent attr → HasClaimAt rel r c (facts ++ f ∷ []) ent attr
claim_stays rel r c facts f ent attr has =
    let place = place_of (length r.attrs) ent attr in
    record {
      fact = has.fact;
      is_fact = get_front facts f place (slice_get_within facts place has.fact has.is_fact) ∙ has.is_fact;
      claims = has.claims;
    }

-- the fact at the end is that of the field that comes next
claim_here : (rel : ℕ) (r : Relation) (c : Rankings) (facts : List Fact) (f : Fact) (to_ent to_attr ent attr : ℕ)
    → length facts ≡ place_of (length r.attrs) to_ent to_attr → IsClaimAt rel r c to_ent to_attr f → ent ≡ to_ent
    → attr ≡ to_attr → HasClaimAt rel r c (facts ++ f ∷ []) ent attr
claim_here rel r c facts f to_ent to_attr ent attr many is same_ent same_attr =
    rw same_ent rw same_attr record {
      fact = f;
      is_fact = ap (slice_get (facts ++ f ∷ [])) (sym many) ∙ get_end facts f;
      claims = is;
    }

-- with the fact of one more field
pub claims_more : (rel : ℕ) (r : Relation) (c : Rankings) (facts : List Fact) (f : Fact) (to_ent to_attr : ℕ)
    → to_ent < length r.entities → to_attr < length r.attrs → IsClaimAt rel r c to_ent to_attr f
    → AreClaimsTo rel r c to_ent to_attr facts → AreClaimsTo rel r c to_ent (to_attr + 1) (facts ++ f ∷ [])
claims_more rel r c facts f to_ent to_attr in_entities in_attrs is so_far = record {
  as_many = omega (arith, length_push facts f, so_far.as_many);
  each = λ ent attr below before.
      ⊎_elim
      (λ (old : Precedes to_ent to_attr ent attr). claim_stays rel r c facts f ent attr (so_far.each ent attr below old))
      (λ (new : (ent ≡ to_ent) × (attr ≡ to_attr)).
      claim_here rel r c facts f to_ent to_attr ent attr so_far.as_many is new.0 new.1)
      (before_next to_ent to_attr ent attr before);
  only = All-push (IsClaim rel r c) facts f so_far.only
      (record { ent = to_ent; attr = to_attr; ent_within = in_entities; attr_within = in_attrs; claims = is });
}

-- ---- the next entity

-- where all attributes are seen to, what comes before the next entity comes before this place
before_entity : (attrs to_ent to_attr ent attr : ℕ) → attrs ≤ to_attr → attr < attrs → Precedes (to_ent + 1) 0 ent attr
    → Precedes to_ent to_attr ent attr
before_entity attrs to_ent to_attr ent attr all below (by_ent h) =
    ⊎_elim (λ (g : ent < to_ent). by_ent g) (λ (g : to_ent ≤ ent). by_attr (omega arith) (omega arith)) (cases_lt ent to_ent)
before_entity attrs to_ent to_attr ent attr all below (by_attr e h) = absurd (omega arith)

-- the place after the last attribute is the first of the next entity
next_place : (attrs ent : ℕ) → place_of attrs ent attrs ≡ place_of attrs (ent + 1) 0
next_place attrs ent = omega arith

-- the facts for all attributes of an entity are those before the next one
pub claims_next : (rel : ℕ) (r : Relation) (c : Rankings) (facts : List Fact) (ent attr : ℕ) → attr ≡ length r.attrs
    → AreClaimsTo rel r c ent attr facts → AreClaimsTo rel r c (ent + 1) 0 facts
claims_next rel r c facts ent attr all so_far = record {
  as_many = so_far.as_many ∙ ap (place_of (length r.attrs) ent) all ∙ next_place (length r.attrs) ent;
  each = λ e a below before.
      so_far.each e a below (before_entity (length r.attrs) ent attr e a (omega (arith, all)) below before);
  only = so_far.only;
}
