-- What a consistent completion says of the entities that are not in a scope, where another ranks them alike.
use Rattle.std.proofs.Common.{◌≡◌, ◌<◌, ◌∙◌, ℕ, Bool, true, false, not, List, [], Option, Some, None, All, length, slice_get, slice_index_or, refl, sym, ap, subst}
use Rattle.std.proofs.lemmas.Bool.{false≢true}
use Rattle.std.proofs.lemmas.List.Elements.{All-contains}
use Rattle.currency_base.specs.declared.ids.RowId.{RowId}
use Rattle.currency_base.specs.declared.row.Row.{Row}
use Rattle.partial_orders.specs.Pairs.{entity_of}
use Rattle.spec_model.specs.Spec.{Spec}
use Rattle.spec_model.specs.Facts.{IsRelation, IsGivenPair, IsSpecification, kinds_of}
use Rattle.spec_model.specs.Completion.{Rankings, lists_of, IsRanking, IsCompletion, Before}
use Rattle.spec_model.specs.Satisfies.{IsChoice, StandsBefore}
use Rattle.spec_model.specs.Consistent.{KeepsGiven, SatisfiesRules, IsCompatibleWith, IsConsistent}
use Rattle.spec_model.specs.declared.relation.Relation.{Relation}
use Rattle.part_laws.specs.Parts.{Scope, IsClosed, AreSameBeyond}
use Rattle.part_laws.proofs.Rows.{all_at, same_number, entity_below, attr_within}
use Rattle.part_laws.proofs.Listed.{AreListed, before_of}
use Rattle.part_laws.proofs.Alike.{Scene, AreAlike, satisfied_alike}
use Rattle.part_laws.proofs.Cuts.{listed_in}
use Rattle.part_laws.proofs.Fitting.{rule_fits, place_inside}
use Rattle.part_laws.proofs.Scoped.{beyond, IsRankedIn, KeepsGivenIn, SatisfiesRulesIn, IsCompatibleIn, IsKeptIn}

not_in : (b : Bool) → not b ≡ true → b ≡ true → ⊥
not_in true e is = false≢true e
not_in false e is = false≢true is

pub ranked_beyond : (relations : List Relation) (scope : Scope) (c other : Rankings) → AreSameBeyond relations scope c other
    → IsCompletion relations other
    → IsRankedIn relations (beyond scope) c
ranked_beyond relations scope c other same completion rel r at attr ent inside below scoped =
    subst (IsRanking r.rows ent) (sym (same rel r at attr ent inside below (not_in (scope rel ent) scoped)))
    (completion.ranked rel r at attr ent inside below)

-- a specification, a scope of it, and two rankings
pub record Both : Type 0 where
  pub s : Spec
  pub scope : Scope
  pub c : Rankings
  pub other : Rankings

-- the scope is closed, and both rankings are completions, which rank the entities beyond it alike
pub record AreBoth (b : Both) : Type 0 where
  pub whole_is : IsSpecification b.s
  pub closed : IsClosed b.s b.scope
  pub completion : IsCompletion b.s.relations b.c
  pub other_is : IsCompletion b.s.relations b.other
  pub same : AreSameBeyond b.s.relations b.scope b.c b.other

abbrev turned : Both → Both
turned b = record { s = b.s; scope = b.scope; c = b.other; other = b.c }

are_turned : (b : Both) → AreBoth b → AreBoth (turned b)
are_turned b are = record {
  whole_is = are.whole_is;
  closed = are.closed;
  completion = are.other_is;
  other_is = are.completion;
  same = λ rel r at attr ent inside below scoped. sym (are.same rel r at attr ent inside below scoped);
}

-- ---- one row before another

-- a row that stands before another in one list does so where its entity has the same list
before_same : (r : Relation) (lists others : List (List RowId)) (earlier later : RowId) (ent : ℕ) → AreListed r lists
    → entity_of r.rows earlier.0 ≡ Some ent → slice_index_or lists ent [] ≡ slice_index_or others ent []
    → Before lists earlier later → Before others earlier later
before_same r lists others earlier later ent are of same before =
    let is = before_of r lists earlier later are before in
    let one : before.ent ≡ ent = same_number r.rows earlier.0 before.ent ent is.earlier_of of in
    let at = λ (place : ℕ) (row : RowId) (e : slice_get (slice_index_or lists before.ent []) place ≡ Some row).
    ap (λ (l : List RowId). slice_get l place) (sym same) ∙
    (ap (λ (n : ℕ). slice_get (slice_index_or lists n []) place) (sym one) ∙ e) in
    record {
      ent = ent;
      low = before.low;
      high = before.high;
      below = before.below;
      first = at before.low earlier before.first;
      second = at before.high later before.second;
    }

-- a row of an entity beyond the scope, which stands before another in the one completion, does in the other
stands_same : (b : Both) (rel : ℕ) (r : Relation) (attr ent : ℕ) (earlier later : RowId) → AreBoth b
    → slice_get b.s.relations rel ≡ Some r
    → attr < length r.attrs → beyond b.scope rel ent ≡ true → entity_of r.rows earlier.0 ≡ Some ent
    → Before (lists_of b.c rel attr) earlier later → Before (lists_of b.other rel attr) earlier later
stands_same b rel r attr ent earlier later are at inside scoped of =
    let facts = all_at IsRelation b.s.relations rel r are.whole_is.relations.each at in
    before_same r (lists_of b.c rel attr) (lists_of b.other rel attr) earlier later ent
    (listed_in b.s.relations b.c rel r are.completion at attr inside) of
    (are.same rel r at attr ent inside (entity_below r earlier.0 ent facts of) (not_in (b.scope rel ent) scoped))

-- ---- rules

-- a row, if it is there, of an entity
abbrev OfEntity : List Row → ℕ → Option RowId → Type 0
OfEntity table ent None = Unit {0}
OfEntity table ent (Some row) = entity_of table row.0 ≡ Some ent

of_entity_at : (table : List Row) (ent : ℕ) (rows : List RowId) (i : ℕ) → All (λ (x : RowId). entity_of table x.0 ≡ Some ent) rows
    → OfEntity table ent (slice_get rows i)
of_entity_at table ent rows i all = go (slice_get rows i) refl
  where
    go : (x : Option RowId) → slice_get rows i ≡ x → OfEntity table ent x
    go None e = tt
    go (Some row) e = all_at (λ (x : RowId). entity_of table x.0 ≡ Some ent) rows i row all e

options_same : (b : Both) (rel : ℕ) (r : Relation) (attr ent : ℕ) (x y : Option RowId) → AreBoth b
    → slice_get b.s.relations rel ≡ Some r
    → attr < length r.attrs → beyond b.scope rel ent ≡ true → OfEntity r.rows ent x
    → StandsBefore (lists_of b.c rel attr) x y → StandsBefore (lists_of b.other rel attr) x y
options_same b rel r attr ent None y are at inside scoped of stands = absurd stands
options_same b rel r attr ent (Some earlier) None are at inside scoped of stands = absurd stands
options_same b rel r attr ent (Some earlier) (Some later) are at inside scoped of stands =
    stands_same b rel r attr ent earlier later are at inside scoped of stands

abbrev scene_of : Rankings → ℕ → Relation → List RowId → Scene
scene_of c rel r rows = record { table = r.rows; lists = slice_index_or c rel []; rows = rows }

-- a choice of rows of an entity beyond the scope is alike in both
alike_beyond : (b : Both) (rel : ℕ) (r : Relation) (vars : ℕ) (rows : List RowId) → AreBoth b
    → slice_get b.s.relations rel ≡ Some r
    → (choice : IsChoice r.rows vars rows) → beyond b.scope rel choice.ent ≡ true
    → AreAlike (length (kinds_of r)) (scene_of b.other rel r rows) (scene_of b.c rel r rows)
alike_beyond b rel r vars rows are at choice scoped =
    let of = λ (i : ℕ). of_entity_at r.rows choice.ent rows i choice.of_entity in
    let get = λ (i : ℕ). slice_get rows i in
    record {
      value = λ var attr. refl;
      forth = λ attr x y below.
          options_same (turned b) rel r attr choice.ent (get x) (get y) (are_turned b are) at
          (attr_within r attr below) scoped (of x);
      back = λ attr x y below. options_same b rel r attr choice.ent (get x) (get y) are at (attr_within r attr below)
          scoped (of x);
    }

-- ---- all that is kept

given_beyond : (b : Both) → AreBoth b → KeepsGiven b.s.relations b.other → KeepsGivenIn b.s.relations (beyond b.scope) b.c
given_beyond b are keeps rel r at p among ent of scoped =
    let facts = all_at IsRelation b.s.relations rel r are.whole_is.relations.each at in
    let fits = All-contains (IsGivenPair r) r.given p facts.given among in
    stands_same (turned b) rel r p.attr.0 ent p.earlier p.later (are_turned b are) at fits.attr scoped of (keeps rel r at p among)

rules_beyond : (b : Both) → AreBoth b → SatisfiesRules b.s.relations b.s.rules b.other → SatisfiesRulesIn b.s (beyond b.scope) b.c
rules_beyond b are satisfied at rule is_rule r at_r rows choice scoped =
    let rel = rule.relation.0 in
    satisfied_alike (kinds_of r) rule (scene_of b.other rel r rows) (scene_of b.c rel r rows)
    (alike_beyond b rel r rule.vars rows are at_r choice scoped)
    (rule_fits b.s at rule r are.whole_is is_rule at_r) (satisfied at rule is_rule r at_r rows choice)

-- the sources of rows that are beyond the scope are beyond it too
copies_beyond : (b : Both) → AreBoth b → IsCompatibleWith b.s.relations b.s.copies b.other → IsCompatibleIn b.s
    (beyond b.scope) b.c
copies_beyond b are compatible at copy is_copy t u is_t is_u place_at place is_place first second rows scoped before =
    let inside = place_inside b.s at copy t u place_at place are.whole_is is_copy is_t is_u is_place in
    let one = are.closed at copy is_copy t u is_t is_u first rows.first_source rows.first_is rows.ent rows.source_ent
    rows.first_of rows.first_source_of in
    let source_scoped = sym (ap not one) ∙ scoped in
    stands_same (turned b) copy.target.0 t place.target.0 rows.ent first second (are_turned b are) is_t inside.target
    scoped rows.first_of
    (compatible at copy is_copy t u is_t is_u place_at place is_place first second rows
    (stands_same b copy.source.0 u place.source.0 rows.source_ent rows.first_source rows.second_source are is_u
    inside.source source_scoped
    rows.first_source_of before))

pub kept_beyond : (b : Both) → AreBoth b → IsConsistent b.s b.other → IsKeptIn b.s (beyond b.scope) b.c
kept_beyond b are consistent = record {
  given = given_beyond b are consistent.given;
  rules = rules_beyond b are consistent.rules;
  copies = copies_beyond b are consistent.copies;
}
