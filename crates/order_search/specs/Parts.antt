-- A search part by part: what is kept of the parts, and what a decision over one of them comes to.
use Rattle.std.specs.Prelude.{◌≡◌, ◌<◌, ◌≤◌, ℕ, [], ◌∷◌, Option, Some, length, slice_get}
use Rattle.currency_base.specs.declared.ids.RelId.{RelId}
use Rattle.currency_base.specs.declared.ids.RowId.{RowId}
use Rattle.currency_base.specs.declared.lit.Lit.{Lit}
use Rattle.spec_model.specs.Spec.{Spec}
use Rattle.spec_model.specs.declared.relation.Relation.{Relation}
use Rattle.refutation_log.specs.Counted.{IsOpenLog}
use Rattle.refutation_log.specs.Steps.{clauses_of}
use Rattle.entity_ties.specs.Labels.{AreTies}
use Rattle.variable_parts.specs.Parts.{AreVariableParts, Parted}
use Rattle.known_models.specs.Known.{IsKnown, KnownModel, PartedSpec}
use Rattle.order_search.specs.Kept.{vars_of}
use Rattle.order_search.specs.Searches.{Search, Subject}
use Rattle.order_search.specs.declared.outcome.Outcome.{Outcome}
use Rattle.order_search.specs.declared.outcome.Outcome.TheVariants.{Model, Proved, Empty, Spent}

-- a specification, what is numbered of it, and its parts
abbrev pub parted_of : Subject → Parted → PartedSpec
parted_of s p = record { spec = s.spec; wanted = s.wanted; ties = p.ties; parts = p.parts }

-- a row of a relation of the specification
pub record IsRowIn (s : Spec) (rel : RelId) (row : RowId) : Type 0 where
  pub relation : Relation
  pub is_relation : slice_get s.relations rel.0 ≡ Some relation
  pub within : row.0 < length relation.rows

-- these are the smallest closed parts of the specification with the variables of each
pub record AreParts (s : Subject) (p : Parted) : Type 0 where
  pub ties : AreTies s.spec p.ties
  pub parts : AreVariableParts s.spec (vars_of s) p.ties p.parts

-- and what is known part by part is right
pub record IsParting (s : Subject) (p : Parted) (k : KnownModel) : Type 0 where
  pub parts : AreParts s p
  pub few : length p.parts ≤ 4294967295
  pub known : IsKnown (parted_of s p) k

-- a decision ended with no model: what it tells
abbrev pub Ends : Search → Option Lit → ℕ → Outcome → Type 0
Ends s goal left (Model truths c) = ⊥
Ends s goal left (Proved place) = (lit : Lit) × (goal ≡ Some lit) × (slice_get (clauses_of s.log.steps) place ≡ Some (lit ∷ []))
Ends s goal left (Empty place) = slice_get (clauses_of s.log.steps) place ≡ Some []
Ends s goal left Spent = (left ≡ 0) × IsOpenLog s.log.steps
