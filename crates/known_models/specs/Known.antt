-- A model of a specification's axioms that is known part by part.
use Rattle.std.specs.Prelude.{◌≡◌, ◌<◌, ℕ, Bool, true, List, All, Contains, Some, length, slice_get}
use Rattle.currency_base.specs.Literals.{var_of}
use Rattle.currency_base.specs.declared.ids.AttrId.{AttrId}
use Rattle.currency_base.specs.declared.ids.RelId.{RelId}
use Rattle.currency_base.specs.declared.lit.Lit.{Lit}
use Rattle.spec_model.specs.Completion.{Rankings, HasShape, ranking_of}
use Rattle.spec_model.specs.Spec.{Spec}
use Rattle.spec_model.specs.declared.relation.Relation.{Relation}
use Rattle.refutation_log.specs.declared.statement.Statement.{Statement}
use Rattle.refutation_log.specs.declared.step.Label.{Label}
use Rattle.refutation_log.specs.declared.step.Step.{Step}
use Rattle.order_literals.specs.Numbers.{Numbers, numbers_of}
use Rattle.order_literals.specs.Said.{IsClauseTrue}
use Rattle.order_literals.specs.Statements.{statements_of}
use Rattle.order_literals.specs.declared.wanted.Wanted.{Wanted}
use Rattle.order_clauses.specs.Clauses.{IsAsked, IsAxiomStep}
use Rattle.completion_build.specs.Judged.{IsOrdered}
use Rattle.completion_build.specs.Places.{contest_of}
use Rattle.entity_ties.specs.Labels.{AreTies, Labelling, cell, label_of}
use Rattle.entity_ties.specs.Parts.{list_at}
use Rattle.variable_parts.specs.Parts.{AreVariableParts}

-- a specification, what is numbered of it beside the pairs of rows, its smallest closed parts, and the variables of each
pub record PartedSpec : Type 0 where
  pub spec : Spec
  pub wanted : Wanted
  pub ties : Labelling
  pub parts : List (List ℕ)

-- what is numbered
abbrev pub numbers_in : PartedSpec → Numbers
numbers_in p = numbers_of p.spec.relations p.wanted

-- the numbered statements: the variables
abbrev pub variables_in : PartedSpec → List Statement
variables_in p = statements_of (numbers_in p)

-- these are the numbers, and these are the parts of the specification and the variables of each
pub record IsParted (n : Numbers) (p : PartedSpec) : Type 0 where
  pub numbers : n ≡ numbers_in p
  pub ties : AreTies p.spec p.ties
  pub parts : AreVariableParts p.spec (variables_in p) p.ties p.parts

-- the variables of a part
abbrev pub vars_in : PartedSpec → ℕ → List ℕ
vars_in p part = list_at p.parts part

-- an axiom that is brought in from the start, whose variables are all of a part
pub record IsAxiomIn (p : PartedSpec) (part : ℕ) (lits : List Lit) : Type 0 where
  pub label : Label
  pub taken : Step
  pub step : IsAxiomStep p.spec (variables_in p) label lits taken
  pub asked : IsAsked p.spec p.wanted.currents label
  pub within : All (λ lit. Contains (vars_in p part) (var_of lit)) lits

-- a list of a part: an attribute of a relation, and an entity of the part
pub record IsListIn (p : PartedSpec) (part : ℕ) (rel : RelId) (attr : AttrId) (ent : ℕ) (r : Relation) : Type 0 where
  pub is_relation : slice_get p.spec.relations rel.0 ≡ Some r
  pub attr_within : attr.0 < length r.attrs
  pub of_part : label_of p.ties (cell rel.0 ent) ≡ Some part

-- ---- known models

-- a truth for each variable, an order of the rows, and for each part whether it is done
pub record KnownModel : Type 0 where
  pub truths : List Bool
  pub completion : Rankings
  pub done : List Bool

-- on a part, the truths make each axiom true, and the rows of each list stand in the order that the truths say
pub record IsRightOn (p : PartedSpec) (truths : List Bool) (c : Rankings) (part : ℕ) : Type 0 where
  pub axioms : (lits : List Lit) → IsAxiomIn p part lits → IsClauseTrue truths lits
  pub lists : (rel : RelId) (attr : AttrId) (ent : ℕ) (r : Relation) → IsListIn p part rel attr ent r
      → IsOrdered (contest_of (numbers_in p) truths rel attr r ent) (ranking_of c rel.0 attr.0 ent)

-- truths and rankings are right on each part that is done
pub record IsKnown (p : PartedSpec) (k : KnownModel) : Type 0 where
  pub per_variable : length k.truths ≡ length (variables_in p)
  pub shape : HasShape p.spec.relations k.completion
  pub per_part : length k.done ≡ length p.parts
  pub each : (part : ℕ) → slice_get k.done part ≡ Some true → IsRightOn p k.truths k.completion part

-- every part is done
abbrev pub IsWhole : KnownModel → Type 0
IsWhole k = All (λ done. done ≡ true) k.done
