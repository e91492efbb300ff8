-- Searching the choices of rows that begin with given ones.
use Rattle.std.specs.Prelude.{◌≡◌, ◌<◌, ◌≤◌, ℕ, Bool, true, false, List, [], ◌++◌, length, take, All, Contains, Some, slice_get, slice_index_or}
use Rattle.currency_base.specs.declared.ids.RowId.{RowId}
use Rattle.currency_base.specs.declared.row.Row.{Row}
use Rattle.denial_rules.specs.declared.rule.Conclusion.{Conclusion}
use Rattle.denial_rules.specs.declared.rule.Conclusion.TheVariants as conclusion
use Rattle.denial_rules.specs.declared.rule.Predicate.{Predicate}
use Rattle.denial_rules.specs.declared.rule.Predicate.TheVariants.{Order, Compare}
use Rattle.denial_rules.specs.declared.rule.OrderAtom.{OrderAtom}
use Rattle.denial_rules.specs.declared.rule.Rule.{Rule}
use Rattle.spec_model.specs.Satisfies.{IsChoice, AreRowsBefore}
use Rattle.spec_model.specs.declared.relation.Relation.{Relation}
use Rattle.completion_check.specs.Tests.{Places, predicate_test, breaks, last_var}

-- a rule, the rows of its relation, and their places
pub record Tried : Type 0 where
  pub rule : Rule
  pub table : List Row
  pub places : Places

-- the variables and the attribute of an order atom are there
pub record IsPlaced (vars attrs : ℕ) (atom : OrderAtom) : Type 0 where
  pub earlier : atom.earlier < vars
  pub later : atom.later < vars
  pub attr : atom.attr.0 < attrs

-- the variables of a predicate are there, and so is the attribute of an order predicate
abbrev pub IsTestable : ℕ → ℕ → Predicate → Type 0
IsTestable vars attrs (Order atom) = IsPlaced vars attrs atom
IsTestable vars attrs (Compare left cmp right) = last_var (Compare left cmp right) < vars

-- the same of a conclusion
abbrev pub IsConcludable : ℕ → ℕ → Conclusion → Type 0
IsConcludable vars attrs conclusion.Never = Unit {0}
IsConcludable vars attrs (conclusion.Order atom) = IsPlaced vars attrs atom

-- a rule of one to four variables whose predicates and conclusion can be tested by the places
pub record IsTrial (t : Tried) : Type 0 where
  pub some_var : 0 < t.rule.vars
  pub few_vars : t.rule.vars ≤ 4
  pub predicates : All (IsTestable t.rule.vars (length t.places)) t.rule.predicates
  pub conclusion : IsConcludable t.rule.vars (length t.places) t.rule.conclusion
  pub room : (attr : ℕ) → attr < length t.places → length (slice_index_or t.places attr []) ≡ length t.table

-- rows of the table
abbrev pub AreRows : List Row → List RowId → Type 0
AreRows table rows = All (λ row. row.0 < length table) rows

-- the rows break the rule
abbrev pub breaks_it : Tried → List RowId → Bool
breaks_it t rows = breaks t.table t.places t.rule rows

-- each predicate whose variables are below a number holds
abbrev pub AreTested : Tried → ℕ → List RowId → Type 0
AreTested t bound front = (k : ℕ) (p : Predicate) → slice_get t.rule.predicates k ≡ Some p → last_var p < bound
    → predicate_test t.table t.places front p ≡ true

-- a predicate whose greatest variable is this one does not hold
pub record IsFailed (t : Tried) (var : ℕ) (front : List RowId) : Type 0 where
  pub place : ℕ
  pub predicate : Predicate
  pub is_predicate : slice_get t.rule.predicates place ≡ Some predicate
  pub greatest : last_var predicate ≡ var
  pub fails : predicate_test t.table t.places front predicate ≡ false

-- rows that ascend
abbrev pub Ascend : List RowId → Type 0
Ascend rows = (i j : ℕ) (a b : RowId) → slice_get rows i ≡ Some a → slice_get rows j ≡ Some b → i < j → a.0 < b.0

-- so many more rows, each among these
pub record AreMore (members : List RowId) (left : ℕ) (more : List RowId) : Type 0 where
  pub count : length more ≡ left
  pub among : All (Contains members) more

-- no rows that begin with the front and go on with so many of these break the rule
abbrev pub NoneBreaks : Tried → List RowId → ℕ → List RowId → Type 0
NoneBreaks t members left front = (more : List RowId) → AreMore members left more → breaks_it t (front ++ more) ≡ false

-- the first rows that begin with the front, go on with so many of these and break the rule
pub record BreaksFirst (t : Tried) (members : List RowId) (left : ℕ) (front found : List RowId) : Type 0 where
  pub more : List RowId
  pub found_is : found ≡ front ++ more
  pub are_more : AreMore members left more
  pub breaks : breaks_it t found ≡ true
  pub earlier : (others : List RowId) → AreRowsBefore others more → AreMore members left others → breaks_it t
      (front ++ others) ≡ false

-- no choice of rows breaks the rule
abbrev pub NoChoiceBreaks : Tried → Type 0
NoChoiceBreaks t = (rows : List RowId) → IsChoice t.table t.rule.vars rows → breaks_it t rows ≡ false

-- the first choice of rows that breaks the rule
pub record IsFirstBreak (t : Tried) (found : List RowId) : Type 0 where
  pub choice : IsChoice t.table t.rule.vars found
  pub breaks : breaks_it t found ≡ true
  pub earlier : (others : List RowId) → AreRowsBefore others found → IsChoice t.table t.rule.vars others
      → breaks_it t others ≡ false

-- ---- all rules of a specification

-- a rule tried on a relation, whose rows have these places
abbrev pub tried : Rule → Relation → Places → Tried
tried rule r places = record { rule = rule; table = r.rows; places = places }

-- no choice of rows breaks one of these rules
abbrev pub NoRuleBreaks : List Relation → List Rule → List Places → Type 0
NoRuleBreaks relations rules places = (k : ℕ) (rule : Rule) → slice_get rules k ≡ Some rule
    → (r : Relation) → slice_get relations rule.relation.0 ≡ Some r → NoChoiceBreaks
    (tried rule r (slice_index_or places rule.relation.0 []))

-- the first choice of rows that breaks one of these rules
pub record IsFirstRuleBreak (relations : List Relation) (rules : List Rule) (places : List Places) (k : ℕ)
    (rows : List RowId) : Type 0 where
  pub rule : Rule
  pub is_rule : slice_get rules k ≡ Some rule
  pub relation : Relation
  pub is_relation : slice_get relations rule.relation.0 ≡ Some relation
  pub first : IsFirstBreak (tried rule relation (slice_index_or places rule.relation.0 [])) rows
  pub earlier : NoRuleBreaks relations (take k rules) places
