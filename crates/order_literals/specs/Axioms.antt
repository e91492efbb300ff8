-- The axioms of a specification: which clause each label says. Matches of a query have no clause here.
use Rattle.std.specs.Prelude.{◌≡◌, ◌≢◌, ◌==◌, ◌<◌, ℕ, not, List, [], ◌∷◌, ◌++◌, Option, Some, None, length, map, slice_get, Contains}
use Rattle.std.specs.List.{filter}
use Rattle.currency_base.specs.declared.ids.RelId.{RelId}
use Rattle.currency_base.specs.declared.ids.RowId.{RowId}
use Rattle.currency_base.specs.declared.pair.Pair.{Pair}
use Rattle.currency_base.specs.declared.row.Row.{Row}
use Rattle.copy_functions.specs.Copies.{CopyFunction, source_at}
use Rattle.copy_functions.specs.declared.place.Place.{Place}
use Rattle.denial_rules.specs.Instances.{instance_of}
use Rattle.denial_rules.specs.declared.instance.RuleInstance.{RuleInstance}
use Rattle.denial_rules.specs.declared.rule.Rule.{Rule}
use Rattle.entity_lists.specs.Lists.{entities_of, rows_of}
use Rattle.partial_orders.specs.Pairs.{entity_of}
use Rattle.spec_model.specs.Spec.{Spec}
use Rattle.spec_model.specs.Satisfies.{IsChoice}
use Rattle.spec_model.specs.declared.relation.Relation.{Relation}
use Rattle.value_names.specs.Names.{are_alike, name_of}
use Rattle.refutation_log.specs.declared.step.Label.{Label}
use Rattle.refutation_log.specs.declared.step.Label.TheVariants as label
use Rattle.order_literals.specs.Said.{Said, before, not_before, top, not_top, last, not_last}

-- two different rows of one entity
pub record AreTwo (rows : List Row) (a b : RowId) : Type 0 where
  pub ent : ℕ
  pub a_of : entity_of rows a.0 ≡ Some ent
  pub b_of : entity_of rows b.0 ≡ Some ent
  pub differ : a ≢ b

-- the other rows of an entity
abbrev pub others : List Row → ℕ → RowId → List RowId
others rows ent row = filter (λ other. not (other.0 == row.0)) (rows_of (entities_of rows) ent)

-- the rows of an entity that have a row's value of the attribute
abbrev pub alike : List Row → ℕ → ℕ → RowId → List RowId
alike rows attr ent row = filter (are_alike rows attr row) (rows_of (entities_of rows) ent)

-- ---- clauses

-- of an instance of a rule: a premise does not hold, or the conclusion does
abbrev pub conclusion_clause : RelId → Option Pair → List Said
conclusion_clause rel None = []
conclusion_clause rel (Some p) = before rel p.attr p.earlier p.later ∷ []

abbrev pub instance_clause : RelId → RuleInstance → List Said
instance_clause rel i = map (λ p. not_before rel p.attr p.earlier p.later) i.premises ++ conclusion_clause rel i.conclusion

-- in a relation of the specification
abbrev pub InRelation : Spec → RelId → (Relation → Type 0) → Type 0
InRelation s rel P = (r : Relation) × (slice_get s.relations rel.0 ≡ Some r) × P r

-- the clause of a rule for rows that are taken for its variables
abbrev pub IsRuleAxiom : Rule → List RowId → List Said → Relation → Type 0
IsRuleAxiom rule rows clause r = IsChoice r.rows rule.vars rows × (i : RuleInstance)
    × (instance_of rule r.rows rows ≡ Some i) × (clause ≡ instance_clause rule.relation i)

-- the clause of two rows that were copied together, at a place
pub record IsCopyAxiom (s : Spec) (copy : CopyFunction) (place : ℕ) (first second : RowId) (clause : List Said) : Type 0 where
  pub target : Relation
  pub source : Relation
  pub is_target : slice_get s.relations copy.target.0 ≡ Some target
  pub is_source : slice_get s.relations copy.source.0 ≡ Some source
  pub at : Place
  pub is_place : slice_get copy.places place ≡ Some at
  pub first_source : RowId
  pub second_source : RowId
  pub first_from : source_at copy first ≡ Some first_source
  pub second_from : source_at copy second ≡ Some second_source
  pub targets : AreTwo target.rows first second
  pub sources : AreTwo source.rows first_source second_source
  pub clause_is : clause ≡ not_before copy.source at.source first_source second_source ∷ before copy.target at.target
      first second ∷ []

-- the clause of a label; a label whose condition does not hold has none
abbrev pub IsAxiom : Spec → Label → List Said → Type 0
IsAxiom s (label.Given rel attr earlier later) clause = InRelation s rel (λ r.
    Contains r.given (record { attr = attr; earlier = earlier; later = later }) × (clause ≡ before rel attr earlier later ∷ []))
IsAxiom s (label.Transitive rel attr first second third) clause = InRelation s rel (λ r. (attr.0 < length r.attrs)
    × AreTwo r.rows first second × AreTwo r.rows second third × AreTwo r.rows first third
    × (clause ≡ not_before rel attr first second ∷ not_before rel attr second third ∷ before rel attr first third ∷ []))
IsAxiom s (label.Rule k rows) clause = (rule : Rule) × (slice_get s.rules k.0 ≡ Some rule)
    × InRelation s rule.relation (IsRuleAxiom rule rows clause)
IsAxiom s (label.Copy k place first second) clause = (copy : CopyFunction) × (slice_get s.copies k.0 ≡ Some copy)
    × IsCopyAxiom s copy place first second clause
IsAxiom s (label.Above rel attr row other) clause = InRelation s rel (λ r. (attr.0 < length r.attrs)
    × AreTwo r.rows row other × (clause ≡ not_top rel attr row ∷ before rel attr other row ∷ []))
IsAxiom s (label.Top rel attr row) clause = InRelation s rel (λ r. (attr.0 < length r.attrs)
    × (ent : ℕ) × (entity_of r.rows row.0 ≡ Some ent)
    × (clause ≡ top rel attr row ∷ map (λ other. not_before rel attr other row) (others r.rows ent row)))
IsAxiom s (label.Last rel attr row) clause = InRelation s rel (λ r. (attr.0 < length r.attrs)
    × (row.0 < length r.rows) × (clause ≡ not_top rel attr row ∷ last rel attr (name_of r.rows attr.0 row) ∷ []))
IsAxiom s (label.Value rel attr row) clause = InRelation s rel (λ r. (attr.0 < length r.attrs)
    × (ent : ℕ) × (entity_of r.rows row.0 ≡ Some ent)
    × (clause ≡ not_last rel attr (name_of r.rows attr.0 row) ∷ map (top rel attr) (alike r.rows attr.0 ent row)))
IsAxiom s (label.Match disjunct entities values) clause = ⊥
