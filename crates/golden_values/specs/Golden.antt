-- Golden records: of each entity and attribute of a relation the value that is current in every consistent completion.
use Rattle.std.specs.Prelude.{◌≡◌, ℕ, List, length, Some, slice_get}
use Rattle.denial_rules.specs.Instances.{field_value}
use Rattle.fact_trials.specs.Trials.{IsSpent}
use Rattle.posed_facts.specs.Facts.{IsPosable}
use Rattle.posed_facts.specs.Questions.{fact_question}
use Rattle.report_verify.specs.Right.{DifferInSome, EachConsistent}
use Rattle.spec_model.specs.Consistent.{IsSatisfiable}
use Rattle.spec_model.specs.Current.{current_value}
use Rattle.spec_model.specs.Pairs.{entity_of}
use Rattle.spec_model.specs.Spec.{Spec}
use Rattle.spec_model.specs.declared.question.Question.{Question}
use Rattle.spec_model.specs.declared.question.Question.TheVariants as asked
use Rattle.spec_model.specs.declared.relation.Relation.{Relation}
use Rattle.golden_values.specs.declared.field.Field.{Field}
use Rattle.golden_values.specs.declared.field.Field.TheVariants as field
use Rattle.golden_values.specs.declared.field.Golden.{Golden}
use Rattle.golden_values.specs.declared.field.Golden.TheVariants as golden
use Rattle.golden_values.specs.declared.field.Posed.{Posed}
use Rattle.golden_values.specs.declared.field.Posed.TheVariants as posed
use Rattle.currency_base.specs.declared.ids.RowId.{RowId}

-- ---- a field

-- in every consistent completion the value of a row of the entity is the current one
pub record IsCertainValue (s : Spec) (rel : ℕ) (r : Relation) (ent attr : ℕ) (row : RowId) : Type 0 where
  pub of_entity : entity_of r.rows row.0 ≡ Some ent
  pub certain : EachConsistent s (λ c. current_value c rel r.rows attr ent ≡ field_value r.rows (Some row) attr)

-- what is known of an attribute of an entity: that value; or two consistent completions have different ones
abbrev pub IsField : Spec → ℕ → Relation → ℕ → ℕ → Field → Type 0
IsField s rel r ent attr (field.Value row) = IsCertainValue s rel r ent attr row
IsField s rel r ent attr field.Open = DifferInSome s (record { 0 = rel }) (record { 0 = attr }) (record { 0 = ent })

-- ---- all fields

-- the fields of an entity, one per attribute
pub record AreFields (s : Spec) (rel : ℕ) (r : Relation) (ent : ℕ) (fields : List Field) : Type 0 where
  pub per_attr : length fields ≡ length r.attrs
  pub each : (attr : ℕ) (f : Field) → slice_get fields attr ≡ Some f → IsField s rel r ent attr f

-- there is a consistent completion, and these are the fields of each entity of a relation
pub record AreGolden (s : Spec) (rel : ℕ) (table : List (List Field)) : Type 0 where
  pub satisfiable : IsSatisfiable s
  pub relation : Relation
  pub is_relation : slice_get s.relations rel ≡ Some relation
  pub per_entity : length table ≡ length relation.entities
  pub each : (ent : ℕ) (fields : List Field) → slice_get table ent ≡ Some fields → AreFields s rel relation ent fields

-- ---- what is found

-- the question on which a budget was spent
abbrev pub posed_question : Spec → Posed → Question
posed_question s posed.Consistent = asked.Consistent
posed_question s (posed.Fact f) = fact_question s.relations f

-- its fact is one of which it can be asked whether it holds
abbrev pub IsPosed : Spec → Posed → Type 0
IsPosed s posed.Consistent = Unit {0}
IsPosed s (posed.Fact f) = IsPosable s.relations f

abbrev pub IsGolden : Spec → ℕ → ℕ → Golden → Type 0
IsGolden s rel budget (golden.Records table) = AreGolden s rel table
IsGolden s rel budget golden.Inconsistent = IsSatisfiable s → ⊥
IsGolden s rel budget (golden.Undecided p report) = IsPosed s p × IsSpent s (posed_question s p) budget report
