-- Specifications that are alike have the same consistent completions.
use Rattle.std.proofs.Common.{◌≡◌, ◌∙◌, ◌<◌, ℕ, zero, suc, List, [], ◌∷◌, Some, length, slice_get, slice_index_or, refl, sym, ap, subst, arith}
use Rattle.std.proofs.lemmas.Option.{slice_get_within}
use Rattle.copy_functions.specs.Copies.{CopyFunction}
use Rattle.spec_model.specs.Spec.{Spec}
use Rattle.spec_model.specs.Completion.{Rankings, IsCompletion, Before}
use Rattle.spec_model.specs.Compatible.{AreCopiedTogether, IsCompatible}
use Rattle.spec_model.specs.Consistent.{KeepsGiven, SatisfiesRules, IsConsistent, copying}
use Rattle.spec_model.specs.declared.relation.Relation.{Relation}
use Rattle.kept_items.specs.Alike.{AreCopiesAlike, AreAlike}
use Rattle.kept_items.specs.Laws.{AlikeAreOne}

item_at : {A : Type 0} (xs : List A) (i : ℕ) → i < length xs → (x : A) × (slice_get xs i ≡ Some x)
item_at [] i below = absurd (omega (arith, below))
item_at (x ∷ xs) zero below = (x, refl)
item_at (x ∷ xs) (suc i) below = item_at xs i (omega (arith, below))

-- ---- the other way round

copies_turned : (copy other : CopyFunction) → AreCopiesAlike copy other → AreCopiesAlike other copy
copies_turned copy other are = record {
  name = sym are.name;
  target = sym are.target;
  source = sym are.source;
  places = sym are.places;
  sources = λ row. sym (are.sources row);
}

turned : (s other : Spec) → AreAlike s other → AreAlike other s
turned s other are = record {
  relations = sym are.relations;
  rules = sym are.rules;
  per_copy = sym are.per_copy;
  copies = λ k copy another at at_other. copies_turned another copy (are.copies k another copy at_other at);
}

-- ---- copy functions

compatible : (copy other : CopyFunction) (target source : Relation) (c : Rankings) → AreCopiesAlike copy other
    → IsCompatible (copying copy target source c) → IsCompatible (copying other target source c)
compatible copy other target source c are holds n place is_place first second rows before =
    let both : AreCopiedTogether copy target.rows source.rows first second = record {
      first_source = rows.first_source;
      second_source = rows.second_source;
      first_is = are.sources first ∙ rows.first_is;
      second_is = are.sources second ∙ rows.second_is;
      ent = rows.ent;
      first_of = rows.first_of;
      second_of = rows.second_of;
      source_ent = rows.source_ent;
      first_source_of = rows.first_source_of;
      second_source_of = rows.second_source_of;
    } in
    let there = subst
    (λ rel. Before (slice_index_or (slice_index_or c rel []) place.source.0 []) rows.first_source rows.second_source)
    (ap (λ rel. rel.0) (sym are.source)) before in
    subst (λ rel. Before (slice_index_or (slice_index_or c rel []) place.target.0 []) first second) (ap (λ rel. rel.0) are.target)
    (holds n place (ap (λ places. slice_get places n) are.places ∙ is_place) first second both there)

-- ---- both ways

one_way : (s other : Spec) → AreAlike s other → (c : Rankings) → IsConsistent s c → IsConsistent other c
one_way s other are c is = record {
  completion = subst (λ rs. IsCompletion rs c) are.relations is.completion;
  given = subst (λ rs. KeepsGiven rs c) are.relations is.given;
  rules = subst (λ rs. SatisfiesRules rs other.rules c) are.relations
      (subst (λ rules. SatisfiesRules s.relations rules c) are.rules is.rules);
  copies = λ k copy at target source at_target at_source.
      let old = item_at s.copies k (let below = slice_get_within other.copies k copy at in omega (arith, below, are.per_copy)) in
      let alike = are.copies k old.0 copy old.1 at in
      let same = λ (rel : ℕ). ap (λ (rs : List Relation). slice_get rs rel) are.relations in
      compatible old.0 copy target source c alike
      (is.copies k old.0 old.1 target source
      (ap (λ rel. slice_get s.relations rel.0) alike.target ∙ same copy.target.0 ∙ at_target)
      (ap (λ rel. slice_get s.relations rel.0) alike.source ∙ same copy.source.0 ∙ at_source));
}

pub alike_one : AlikeAreOne
alike_one s other are c = (one_way s other are c, one_way other s (turned s other are) c)
