-- One part of a known model made anew.
use Rattle.std.specs.Prelude.{◌≡◌, ◌≢◌, ◌+◌, ℕ, Bool, true, false, not, List, [], ◌∷◌, All, Contains, Option, Some, length, slice_get, slice_set}
use Rattle.currency_base.specs.Literals.{is_negative, var_of}
use Rattle.currency_base.specs.declared.ids.AttrId.{AttrId}
use Rattle.currency_base.specs.declared.ids.RelId.{RelId}
use Rattle.currency_base.specs.declared.lit.Lit.{Lit}
use Rattle.spec_model.specs.Completion.{ranking_of}
use Rattle.spec_model.specs.declared.relation.Relation.{Relation}
use Rattle.completion_build.specs.Ranked.{HasCycle, IsCycle, IsOfOne}
use Rattle.completion_build.specs.declared.built.Cycle.{Cycle}
use Rattle.entity_ties.specs.Labels.{cell, label_of}
use Rattle.known_models.specs.Known.{IsAxiomIn, IsKnown, IsListIn, KnownModel, PartedSpec, variables_in, vars_in}

-- ---- values

-- a variable has a value
pub record HasValue (given : List (Option Bool)) (var : ℕ) : Type 0 where
  pub value : Bool
  pub is_value : slice_get given var ≡ Some (Some value)

-- a literal of a clause is true by the values
pub record IsTrueBy (given : List (Option Bool)) (clause : List Lit) : Type 0 where
  pub lit : Lit
  pub is_in : Contains clause lit
  pub is_true : slice_get given (var_of lit) ≡ Some (Some (not (is_negative lit)))

-- the values are a model of a part: each of its variables has one, and each of its axioms is true by them
pub record AreModelOf (p : PartedSpec) (given : List (Option Bool)) (part : ℕ) : Type 0 where
  pub per_variable : length given ≡ length (variables_in p)
  pub each : All (HasValue given) (vars_in p part)
  pub axioms : (lits : List Lit) → IsAxiomIn p part lits → IsTrueBy given lits

-- the truths of these variables are now their values, and the others are as they were
pub record Takes (vars : List ℕ) (given : List (Option Bool)) (old new : List Bool) : Type 0 where
  pub many : length new ≡ length old
  pub taken : (var : ℕ) (value : Bool) → Contains vars var → slice_get given var ≡ Some (Some value)
      → slice_get new var ≡ Some value
  pub kept : (var : ℕ) → (Contains vars var → ⊥) → slice_get new var ≡ slice_get old var

-- a variable that is of no part has a value
pub record IsBeside (p : PartedSpec) (given : List (Option Bool)) (var : ℕ) : Type 0 where
  pub has_value : HasValue given var
  pub of_none : (part : ℕ) → Contains (vars_in p part) var → ⊥

-- ---- what becomes of the model

-- the part has these values and lists that follow from them, and is done; the others are as they were
pub record IsReplaced (p : PartedSpec) (given : List (Option Bool)) (part : ℕ) (old new : KnownModel) : Type 0 where
  pub known : IsKnown p new
  pub truths : Takes (vars_in p part) given old.truths new.truths
  pub done : new.done ≡ slice_set old.done part true
  pub others : (rel attr ent : ℕ) → (label_of p.ties (cell rel ent) ≡ Some part → ⊥)
      → ranking_of new.completion rel attr ent ≡ ranking_of old.completion rel attr ent

-- lists of the part go round under truths
pub record AreRoundIn (p : PartedSpec) (part : ℕ) (truths : List Bool) (cycles : List Cycle) : Type 0 where
  pub some : cycles ≢ []
  pub each : All (IsCycle p.spec.relations (variables_in p) truths) cycles
  pub of_part : All (λ c. label_of p.ties (cell c.rel.0 c.ent.0) ≡ Some part) cycles
  pub all : (rel : RelId) (attr : AttrId) (ent : ℕ) (r : Relation) → IsListIn p part rel attr ent r
      → HasCycle (variables_in p) truths rel attr r ent → IsOfOne cycles rel.0 attr.0 ent

-- with the values put in, lists of the part go round: a cycle of each that does
pub record AreBelied (p : PartedSpec) (given : List (Option Bool)) (part : ℕ) (old : KnownModel) (cycles : List Cycle)
    : Type 0 where
  pub truths : List Bool
  pub takes : Takes (vars_in p part) given old.truths truths
  pub round : AreRoundIn p part truths cycles

-- ---- how many parts are not done

abbrev pub left_in : List Bool → ℕ
left_in [] = 0
left_in (true ∷ done) = left_in done
left_in (false ∷ done) = left_in done + 1

-- what a known model keeps beside what is seen: a second copy of the truths, and how many parts are not done
pub record IsKept (truths trial : List Bool) (done : List Bool) (left : ℕ) : Type 0 where
  pub same : trial ≡ truths
  pub left_is : left ≡ left_in done
