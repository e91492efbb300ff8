-- Facts about completions: that a row comes before another, that values are current, or that some value is not.
use Rattle.std.specs.Prelude.{◌≡◌, ◌<◌, ◌≤◌, List, All, Some, length, slice_get}
use Rattle.currency_base.specs.declared.row.Row.{Row}
use Rattle.currency_base.specs.declared.value.Value.{Value}
use Rattle.match_premises.specs.declared.premise.Premise.{Premise}
use Rattle.report_verify.specs.Right.{PairHolds}
use Rattle.spec_model.specs.Completion.{Rankings}
use Rattle.spec_model.specs.Current.{current_value}
use Rattle.spec_model.specs.Questions.{IsAskedPair}
use Rattle.spec_model.specs.declared.relation.Relation.{Relation}
use Rattle.posed_facts.specs.declared.fact.Fact.{Fact}
use Rattle.posed_facts.specs.declared.fact.Fact.TheVariants as fact

-- ---- current values

-- a claim on a current value that can be made: there is such a relation, row and attribute
pub record IsPlaced (relations : List Relation) (p : Premise) : Type 0 where
  pub relation : Relation
  pub is_relation : slice_get relations p.rel.0 ≡ Some relation
  pub row : Row
  pub is_row : slice_get relation.rows p.row.0 ≡ Some row
  pub attr : p.attr.0 < length relation.attrs

-- what is claimed holds in a completion: the row's value of the attribute is the current one of its entity
pub record IsCurrent (relations : List Relation) (p : Premise) (c : Rankings) : Type 0 where
  pub relation : Relation
  pub is_relation : slice_get relations p.rel.0 ≡ Some relation
  pub row : Row
  pub is_row : slice_get relation.rows p.row.0 ≡ Some row
  pub value : Value
  pub is_value : slice_get row.values p.attr.0 ≡ Some value
  pub current : current_value c p.rel.0 relation.rows p.attr.0 row.entity.0 ≡ Some value

-- ---- facts

-- a fact holds in a completion
abbrev pub FactIn : List Relation → Fact → Rankings → Type 0
FactIn relations (fact.Before p) c = PairHolds p c
FactIn relations (fact.Current p) c = IsCurrent relations p c
FactIn relations (fact.Lacks list) c = All (λ p. IsCurrent relations p c) list → ⊥

-- a fact of which it can be asked whether it holds: a match of 8 atoms looks at 256 values at most
abbrev pub IsPosable : List Relation → Fact → Type 0
IsPosable relations (fact.Before p) = IsAskedPair relations p
IsPosable relations (fact.Current p) = IsPlaced relations p
IsPosable relations (fact.Lacks list) = (length list ≤ 256) × All (IsPlaced relations) list
