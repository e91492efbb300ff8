-- What a completion keeps for the entities of a scope, and what it keeps for all.
use Rattle.std.proofs.Common.{◌≡◌, ◌⊎◌, ◌<◌, ℕ, Bool, true, false, not, List, [], Contains, Some, length, slice_get, slice_index_or, refl, inl, inr, ⊎_elim}
use Rattle.std.proofs.lemmas.List.Elements.{All-contains}
use Rattle.currency_base.specs.declared.ids.RowId.{RowId}
use Rattle.currency_base.specs.declared.pair.Pair.{Pair}
use Rattle.copy_functions.specs.Copies.{CopyFunction}
use Rattle.copy_functions.specs.declared.place.Place.{Place}
use Rattle.denial_rules.specs.declared.rule.Rule.{Rule}
use Rattle.partial_orders.specs.Pairs.{entity_of}
use Rattle.spec_model.specs.Spec.{Spec}
use Rattle.spec_model.specs.Facts.{IsRelation, IsGivenPair, IsSpecification}
use Rattle.spec_model.specs.Completion.{Rankings, lists_of, ranking_of, HasShape, IsRanking, IsCompletion, Before}
use Rattle.spec_model.specs.Satisfies.{IsChoice, IsSatisfiedBy}
use Rattle.spec_model.specs.Compatible.{AreCopiedTogether}
use Rattle.spec_model.specs.Consistent.{IsConsistent}
use Rattle.spec_model.specs.declared.relation.Relation.{Relation}
use Rattle.part_laws.specs.Parts.{Scope}
use Rattle.part_laws.proofs.Rows.{all_at, there, entity_of_row}

-- the entities that are not in a scope
abbrev pub beyond : Scope → Scope
beyond scope rel ent = not (scope rel ent)

-- the list of each entity in a scope is a ranking
abbrev pub IsRankedIn : List Relation → Scope → Rankings → Type 0
IsRankedIn relations scope c = (rel : ℕ) (r : Relation) → slice_get relations rel ≡ Some r
    → (attr ent : ℕ) → attr < length r.attrs → ent < length r.entities → scope rel ent ≡ true
    → IsRanking r.rows ent (ranking_of c rel attr ent)

-- the given pairs of each entity in a scope are kept
abbrev pub KeepsGivenIn : List Relation → Scope → Rankings → Type 0
KeepsGivenIn relations scope c = (rel : ℕ) (r : Relation) → slice_get relations rel ≡ Some r → (p : Pair) → Contains r.given p
    → (ent : ℕ) → entity_of r.rows p.earlier.0 ≡ Some ent → scope rel ent ≡ true → Before (lists_of c rel p.attr.0)
    p.earlier p.later

-- the rules are satisfied by the rows of each entity in a scope
abbrev pub SatisfiesRulesIn : Spec → Scope → Rankings → Type 0
SatisfiesRulesIn s scope c = (at : ℕ) (rule : Rule) → slice_get s.rules at ≡ Some rule
    → (r : Relation) → slice_get s.relations rule.relation.0 ≡ Some r
    → (rows : List RowId) (choice : IsChoice r.rows rule.vars rows) → scope rule.relation.0 choice.ent ≡ true
    → IsSatisfiedBy r.rows (slice_index_or c rule.relation.0 []) rule rows

-- the mapped rows of each entity in a scope keep the order of their sources
abbrev pub IsCompatibleIn : Spec → Scope → Rankings → Type 0
IsCompatibleIn s scope c = (at : ℕ) (copy : CopyFunction) → slice_get s.copies at ≡ Some copy
    → (target source : Relation) → slice_get s.relations copy.target.0 ≡ Some target → slice_get s.relations
    copy.source.0 ≡ Some source
    → (place_at : ℕ) (place : Place) → slice_get copy.places place_at ≡ Some place
    → (first second : RowId) (rows : AreCopiedTogether copy target.rows source.rows first second)
    → scope copy.target.0 rows.ent ≡ true
    → Before (lists_of c copy.source.0 place.source.0) rows.first_source rows.second_source
    → Before (lists_of c copy.target.0 place.target.0) first second

-- all three
pub record IsKeptIn (s : Spec) (scope : Scope) (c : Rankings) : Type 0 where
  pub given : KeepsGivenIn s.relations scope c
  pub rules : SatisfiesRulesIn s scope c
  pub copies : IsCompatibleIn s scope c

either : (b : Bool) → (b ≡ true) ⊎ (not b ≡ true)
either true = inl refl
either false = inr refl

-- what is ranked in a scope and beyond it is ranked
pub completion_of_both : (relations : List Relation) (scope : Scope) (c : Rankings) → HasShape relations c
    → IsRankedIn relations scope c
    → IsRankedIn relations (beyond scope) c → IsCompletion relations c
completion_of_both relations scope c shape ranked others = record {
  shape = shape;
  ranked = λ rel r at attr ent inside below.
      ⊎_elim (ranked rel r at attr ent inside below) (others rel r at attr ent inside below) (either (scope rel ent));
}

-- and what is kept in a scope and beyond it is consistent
pub consistent_of_both : (s : Spec) (scope : Scope) (c : Rankings) → IsSpecification s → IsCompletion s.relations c
    → IsKeptIn s scope c
    → IsKeptIn s (beyond scope) c → IsConsistent s c
consistent_of_both s scope c is completion kept others = record {
  completion = completion;
  given = λ rel r at p among.
      let facts = all_at IsRelation s.relations rel r is.relations.each at in
      let one = there r.rows p.earlier.0 (All-contains (IsGivenPair r) r.given p facts.given among).earlier in
      let of = entity_of_row r.rows p.earlier.0 one.0 one.1 in
      let ent = one.0.entity.0 in
      ⊎_elim (kept.given rel r at p among ent of) (others.given rel r at p among ent of) (either (scope rel ent));
  rules = λ at rule is_rule r at_r rows choice.
      ⊎_elim (kept.rules at rule is_rule r at_r rows choice) (others.rules at rule is_rule r at_r rows choice)
      (either (scope rule.relation.0 choice.ent));
  copies = λ at copy is_copy t u is_t is_u place_at place is_place first second rows.
      ⊎_elim (kept.copies at copy is_copy t u is_t is_u place_at place is_place first second rows)
      (others.copies at copy is_copy t u is_t is_u place_at place is_place first second rows)
      (either (scope copy.target.0 rows.ent));
}
