-- Forced pairs: what a specification forces of the order of its rows, before anything is searched.
use Rattle.std.specs.Prelude.{◌≡◌, ◌≢◌, ℕ, List, Some, slice_get, Contains}
use Rattle.currency_base.specs.declared.ids.RowId.{RowId}
use Rattle.currency_base.specs.declared.pair.Pair.{Pair}
use Rattle.copy_functions.specs.Copies.{CopyFunction}
use Rattle.copy_functions.specs.declared.place.Place.{Place}
use Rattle.denial_rules.specs.Instances.{instance_of}
use Rattle.denial_rules.specs.declared.instance.RuleInstance.{RuleInstance}
use Rattle.denial_rules.specs.declared.rule.Conclusion.TheVariants as conclusion
use Rattle.denial_rules.specs.declared.rule.OrderAtom.{OrderAtom}
use Rattle.denial_rules.specs.declared.rule.Rule.{Rule}
use Rattle.spec_model.specs.Compatible.{AreCopiedTogether}
use Rattle.spec_model.specs.Satisfies.{IsChoice}
use Rattle.spec_model.specs.Spec.{Spec}
use Rattle.spec_model.specs.declared.relation.Relation.{Relation}

-- a pair is given in a relation
pub record IsGiven (s : Spec) (rel : ℕ) (p : Pair) : Type 0 where
  pub relation : Relation
  pub is_relation : slice_get s.relations rel ≡ Some relation
  pub is_in : Contains relation.given p

-- one of the rules has this instance for a choice of rows of one entity, and its conclusion is an order atom, which says
-- that these two rows stand so; they may be one row
pub record IsInstance (s : Spec) (rule : Rule) (i : RuleInstance) (atom : OrderAtom) (earlier later : RowId) : Type 0 where
  pub number : ℕ
  pub is_rule : slice_get s.rules number ≡ Some rule
  pub relation : Relation
  pub is_relation : slice_get s.relations rule.relation.0 ≡ Some relation
  pub rows : List RowId
  pub choice : IsChoice relation.rows rule.vars rows
  pub is_instance : instance_of rule relation.rows rows ≡ Some i
  pub concludes : rule.conclusion ≡ conclusion.Order atom
  pub earlier_is : slice_get rows atom.earlier ≡ Some earlier
  pub later_is : slice_get rows atom.later ≡ Some later

-- two mapped rows of one entity, whose sources are of one entity too, and a place of their copy function
pub record AreCopiedAt (s : Spec) (copy : CopyFunction) (place : Place) (first second : RowId) : Type 0 where
  pub number : ℕ
  pub is_copy : slice_get s.copies number ≡ Some copy
  pub target : Relation
  pub is_target : slice_get s.relations copy.target.0 ≡ Some target
  pub source : Relation
  pub is_source : slice_get s.relations copy.source.0 ≡ Some source
  pub at : ℕ
  pub is_place : slice_get copy.places at ≡ Some place
  pub rows : AreCopiedTogether copy target.rows source.rows first second

-- the forced pairs of a specification: of a relation and of one of its attributes, by number, an earlier and a later row
pub data IsForced (s : Spec) : ℕ → ℕ → RowId → RowId → Type 0 where
  -- a given pair is forced
  given : (rel : ℕ) (p : Pair) → IsGiven s rel p → IsForced s rel p.attr.0 p.earlier p.later
  -- where two forced pairs meet, the one ending with the row that the other begins with, the pair from end to end is forced
  transitive : (rel attr : ℕ) (a b d : RowId) → IsForced s rel attr a b → IsForced s rel attr b d → IsForced s rel attr a d
  -- the pair that a rule concludes is forced, where it has an instance whose premises are all forced
  ruled : (rule : Rule) (i : RuleInstance) (atom : OrderAtom) (earlier later : RowId) → IsInstance s rule i atom earlier later
      → ((p : Pair) → Contains i.premises p → IsForced s rule.relation.0 p.attr.0 p.earlier p.later)
      → IsForced s rule.relation.0 atom.attr.0 earlier later
  -- a pair of mapped rows is forced, where the pair of their sources is, and both are pairs of different rows
  copied : (copy : CopyFunction) (place : Place) (first second : RowId) (m : AreCopiedAt s copy place first second)
      → first ≢ second → m.rows.first_source ≢ m.rows.second_source
      → IsForced s copy.source.0 place.source.0 m.rows.first_source m.rows.second_source
      → IsForced s copy.target.0 place.target.0 first second
  -- the pair of the sources is forced, where the pair of the mapped rows is, and both are such
  back : (copy : CopyFunction) (place : Place) (first second : RowId) (m : AreCopiedAt s copy place first second)
      → first ≢ second → m.rows.first_source ≢ m.rows.second_source
      → IsForced s copy.target.0 place.target.0 first second
      → IsForced s copy.source.0 place.source.0 m.rows.first_source m.rows.second_source

-- a loop: some row is forced to stand before itself
pub record HasLoop (s : Spec) : Type 0 where
  pub rel : ℕ
  pub attr : ℕ
  pub row : RowId
  pub forced : IsForced s rel attr row row
