-- Entities are numbered, one relation more.
use Rattle.std.proofs.Common.{◌≡◌, ◌<◌, ◌≤◌, ◌⊎◌, ◌∙◌, ◌+◌, ◌-◌, ◌++◌, ℕ, List, [], ◌∷◌, Some, length, slice_get, slice_index, sym, ap, subst, inl, inr, arith}
use Rattle.std.proofs.lemmas.Bool.{cases_lt}
use Rattle.std.proofs.lemmas.List.{get_or_append_left}
use Rattle.std.proofs.lemmas.Option.{same_Some, get_or_from_slice_get, slice_get_within}
use Rattle.spec_model.specs.declared.relation.Relation.{Relation}
use Rattle.entity_ties.specs.declared.cells.Member.{Member}
use Rattle.entity_ties.specs.Numbers.{member, AddsMembers, IsNumbered, AreNumbered}
use Rattle.entity_ties.proofs.Items.{at_old, at_end, length_push}

-- one entity more
pub adds_more : (rel count : ℕ) (old new : List Member) → AddsMembers rel count old new
    → AddsMembers rel (count + 1) old (new ++ member rel count ∷ [])
adds_more rel count old new adds = record {
  many = length_push new (member rel count) ∙ omega (arith, adds.many);
  kept = λ number below. at_old new (member rel count ∷ []) number (omega (arith, adds.many)) ∙ adds.kept number below;
  added = λ ent below. by ent below (cases_lt ent count);
}
  where
    by : (ent : ℕ) → ent < count + 1 → (ent < count) ⊎ (count ≤ ent)
        → slice_get (new ++ member rel count ∷ []) (length old + ent) ≡ Some (member rel ent)
    by ent below (inl low) = at_old new (member rel count ∷ []) (length old + ent) (omega (arith, adds.many)) ∙ adds.added ent low
    by ent below (inr high) =
        let same : count ≡ ent = omega arith in
        at_end new (member rel count) (length old + ent) (omega (arith, adds.many)) ∙ ap (λ n. Some (member rel n)) same

-- where the first numbers of relations stand, with one more
first_kept : (firsts : List ℕ) (first rel : ℕ) → rel < length firsts → slice_index (firsts ++ first ∷ []) rel ≡
    slice_index firsts rel
first_kept firsts first rel below = get_or_append_left firsts (first ∷ []) 0 rel below

first_new : (firsts : List ℕ) (first rel : ℕ) → rel ≡ length firsts → slice_index (firsts ++ first ∷ []) rel ≡ first
first_new firsts first rel e = get_or_from_slice_get (firsts ++ first ∷ []) rel first 0 (at_end firsts first rel e)

-- one relation more
pub numbered_more : (relations : List Relation) (count first : ℕ) (r : Relation) (firsts : List ℕ) (old new : List Member)
    → slice_get relations count ≡ Some r → first ≡ length old → AreNumbered relations count firsts old
    → AddsMembers count (length r.entities) old new → AreNumbered relations (count + 1) (firsts ++ first ∷ []) new
numbered_more relations count first r firsts old new is_r is_first are adds = record {
  per_relation = length_push firsts first ∙ omega (arith, are.per_relation);
  there = there_now;
  back = λ number m at. back_now number m at (cases_lt number (length old));
  fit = fit_now;
  apart = apart_now;
}
  where
    last : (rel : ℕ) → count ≤ rel → rel < count + 1 → slice_index (firsts ++ first ∷ []) rel ≡ length old
    last rel low high = first_new firsts first rel (omega (arith, are.per_relation)) ∙ is_first

    is_last : (rel : ℕ) (o : Relation) → count ≤ rel → rel < count + 1 → slice_get relations rel ≡ Some o → r ≡ o
    is_last rel o low high is_o =
        let same : count ≡ rel = omega arith in
        same_Some r o (sym is_r ∙ (ap (slice_get relations) same ∙ is_o))

    there_now : (rel : ℕ) (o : Relation) → rel < count + 1 → slice_get relations rel ≡ Some o → (ent : ℕ)
        → ent < length o.entities
        → slice_get new (slice_index (firsts ++ first ∷ []) rel + ent) ≡ Some (member rel ent)
    there_now rel o below is_o ent within = by (cases_lt rel count)
      where
        by : (rel < count) ⊎ (count ≤ rel) → slice_get new (slice_index (firsts ++ first ∷ []) rel + ent) ≡ Some (member rel ent)
        by (inl low) =
            let was = are.there rel o low is_o ent within in
            let inside = slice_get_within old (slice_index firsts rel + ent) (member rel ent) was in
            ap (λ n. slice_get new (n + ent)) (first_kept firsts first rel (omega (arith, are.per_relation)))
            ∙ (adds.kept (slice_index firsts rel + ent) inside ∙ was)
        by (inr high) =
            let same : count ≡ rel = omega arith in
            let fits : ent < length r.entities = subst (λ (q : Relation). ent < length q.entities)
            (sym (is_last rel o high below is_o)) within in
            ap (λ n. slice_get new (n + ent)) (last rel high below) ∙ (adds.added ent fits ∙ ap (λ n. Some (member n ent)) same)

    back_now : (number : ℕ) (m : Member) → slice_get new number ≡ Some m → (number < length old) ⊎ (length old ≤ number)
        → IsNumbered relations (firsts ++ first ∷ []) number m
    back_now number m at (inl low) =
        let was = are.back number m (sym (adds.kept number low) ∙ at) in
        record {
          relation = was.relation;
          is_relation = was.is_relation;
          among = omega (arith, was.among, length_push firsts first);
          within = was.within;
          is_number = ap (λ n. n + m.ent.0) (first_kept firsts first m.rel.0 was.among) ∙ was.is_number;
        }
    back_now number m at (inr high) =
        let inside = slice_get_within new number m at in
        let ent : ℕ = number - length old in
        let within : ent < length r.entities = omega (arith, adds.many) in
        let place : length old + ent ≡ number = omega arith in
        let is : member count ent ≡ m = same_Some (member count ent) m (sym (adds.added ent within) ∙
        (ap (slice_get new) place ∙ at)) in
        let made : IsNumbered relations (firsts ++ first ∷ []) number (member count ent) = record {
          relation = r;
          is_relation = is_r;
          among = omega (arith, are.per_relation, length_push firsts first);
          within = within;
          is_number = ap (λ n. n + ent) (last count (omega arith) (omega arith)) ∙ place;
        } in
        subst (IsNumbered relations (firsts ++ first ∷ []) number) is made

    fit_now : (rel : ℕ) (o : Relation) → rel < count + 1 → slice_get relations rel ≡ Some o
        → slice_index (firsts ++ first ∷ []) rel + length o.entities ≤ length new
    fit_now rel o below is_o = by (cases_lt rel count)
      where
        by : (rel < count) ⊎ (count ≤ rel) → slice_index (firsts ++ first ∷ []) rel + length o.entities ≤ length new
        by (inl low) = omega (
          arith,
          are.fit rel o low is_o,
          first_kept firsts first rel
              (omega (arith, are.per_relation)),
          adds.many,
        )
        by (inr high) = omega (
          arith,
          ap (λ (q : Relation). length q.entities) (is_last rel o high below is_o),
          last rel high below,
          adds.many,
        )

    apart_now : (rel other : ℕ) (o : Relation) → rel < other → other < count + 1 → slice_get relations rel ≡ Some o
        → slice_index (firsts ++ first ∷ []) rel + length o.entities ≤ slice_index (firsts ++ first ∷ []) other
    apart_now rel other o less below is_o = by (cases_lt other count)
      where
        kept : slice_index (firsts ++ first ∷ []) rel ≡ slice_index firsts rel
        kept = first_kept firsts first rel (omega (arith, are.per_relation))

        by : (other < count) ⊎ (count ≤ other)
            → slice_index (firsts ++ first ∷ []) rel + length o.entities ≤ slice_index (firsts ++ first ∷ []) other
        by (inl low) = omega (
          arith,
          kept,
          are.apart rel other o less low is_o,
          first_kept firsts first other
              (omega (arith, are.per_relation)),
        )
        by (inr high) = omega (arith, kept, are.fit rel o (omega arith) is_o, last other high below)
