-- What clauses are listed for.
use Rattle.std.specs.Prelude.{◌≡◌, ◌<◌, ℕ, true, List, All, Some, length, slice_get}
use Rattle.currency_base.specs.declared.ids.AttrId.{AttrId}
use Rattle.currency_base.specs.declared.ids.RelId.{RelId}
use Rattle.currency_base.specs.declared.ids.RowId.{RowId}
use Rattle.currency_base.specs.declared.pair.Pair.{Pair}
use Rattle.currency_base.specs.declared.row.Row.{Row}
use Rattle.copied_pairs.specs.Copied.{IsCopiedPair}
use Rattle.copied_pairs.specs.declared.pairs.CopiedPair.{CopiedPair}
use Rattle.copy_functions.specs.Copies.{CopyFunction}
use Rattle.denial_rules.specs.Rules.{IsRuleOn}
use Rattle.denial_rules.specs.declared.rule.Rule.{Rule}
use Rattle.entity_ground.specs.Grounds.{IsGround}
use Rattle.spec_model.specs.Facts.{IsPlaceBetween, kinds_of}
use Rattle.spec_model.specs.Spec.{Spec}
use Rattle.spec_model.specs.declared.relation.Relation.{Relation}
use Rattle.refutation_log.specs.declared.statement.Statement.{Statement}
use Rattle.order_literals.specs.Axioms.{AreTwo}
use Rattle.order_literals.specs.Numbers.{is_wanted, numbers_of}
use Rattle.order_literals.specs.Statements.{statements_of}
use Rattle.order_literals.specs.declared.wanted.Wanted.{Wanted}

-- a specification, and what is numbered of it beside the pairs of rows
pub record Subject : Type 0 where
  pub spec : Spec
  pub wanted : Wanted

-- the statements that are numbered: the variables of the clauses
unfoldable pub variables : Subject → List Statement
variables s = statements_of (numbers_of s.spec.relations s.wanted)

-- an attribute of a relation, and two different rows of one entity
pub record IsPairIn (s : Spec) (rel : RelId) (attr : AttrId) (earlier later : RowId) : Type 0 where
  pub relation : Relation
  pub is_relation : slice_get s.relations rel.0 ≡ Some relation
  pub attr_within : attr.0 < length relation.attrs
  pub two : AreTwo relation.rows earlier later

-- such a pair of rows of a relation
abbrev pub IsPairOn : Spec → RelId → Pair → Type 0
IsPairOn s rel p = IsPairIn s rel p.attr p.earlier p.later

-- an attribute of a relation
pub record Attribute : Type 0 where
  pub subject : Subject
  pub relation : Relation
  pub rel : RelId
  pub attr : AttrId

-- the relation is one of the specification, and the attribute one of the relation
pub record IsAttribute (p : Attribute) : Type 0 where
  pub is_relation : slice_get p.subject.spec.relations p.rel.0 ≡ Some p.relation
  pub attr_within : p.attr.0 < length p.relation.attrs

-- a row of the attribute's relation, whose current values are wanted
pub record IsWantedRow (p : Attribute) (row : RowId) : Type 0 where
  pub wanted : is_wanted p.subject.wanted.currents p.rel.0 ≡ true
  pub within : row.0 < length p.relation.rows

-- three different rows of one entity
pub record AreThree (rows : List Row) (first second third : RowId) : Type 0 where
  pub first_two : AreTwo rows first second
  pub last_two : AreTwo rows second third
  pub outer_two : AreTwo rows first third

-- a ground of one of the rules
pub record IsGroundOf (s : Spec) (k : ℕ) (rows : List RowId) : Type 0 where
  pub rule : Rule
  pub is_rule : slice_get s.rules k ≡ Some rule
  pub relation : Relation
  pub is_relation : slice_get s.relations rule.relation.0 ≡ Some relation
  pub fits : IsRuleOn (kinds_of relation) rule
  pub ground : IsGround rule relation.rows rows

-- two rows that were copied together by one of the copy functions
pub record IsCopiedBy (s : Spec) (k : ℕ) (p : CopiedPair) : Type 0 where
  pub copy : CopyFunction
  pub is_copy : slice_get s.copies k ≡ Some copy
  pub target : Relation
  pub source : Relation
  pub is_target : slice_get s.relations copy.target.0 ≡ Some target
  pub is_source : slice_get s.relations copy.source.0 ≡ Some source
  pub places : All (IsPlaceBetween target source) copy.places
  pub pair : IsCopiedPair copy target.rows source.rows p

-- one of the places of a copy function
abbrev pub IsPlaceOf : Spec → ℕ → ℕ → Type 0
IsPlaceOf s k place = (copy : CopyFunction) → slice_get s.copies k ≡ Some copy → place < length copy.places
