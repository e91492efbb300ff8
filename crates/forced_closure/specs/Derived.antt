-- Forced pairs with their derivations.
use Rattle.std.specs.Prelude.{◌≡◌, ◌≢◌, ℕ, List, Some, take, Contains, slice_get}
use Rattle.currency_base.specs.declared.ids.RowId.{RowId}
use Rattle.currency_base.specs.declared.pair.Pair.{Pair}
use Rattle.copy_functions.specs.Copies.{CopyFunction}
use Rattle.copy_functions.specs.declared.place.Place.{Place}
use Rattle.denial_rules.specs.declared.instance.RuleInstance.{RuleInstance}
use Rattle.denial_rules.specs.declared.rule.OrderAtom.{OrderAtom}
use Rattle.denial_rules.specs.declared.rule.Rule.{Rule}
use Rattle.spec_model.specs.Spec.{Spec}
use Rattle.forced_closure.specs.Forced.{IsForced, IsGiven, IsInstance, AreCopiedAt}
use Rattle.forced_closure.specs.declared.forced.Forced.{Forced}
use Rattle.forced_closure.specs.declared.forced.Why.{Why}
use Rattle.forced_closure.specs.declared.forced.Why.TheVariants as why

-- a specification, and its forced pairs in the order in which they were derived
pub record Closed : Type 0 where
  pub spec : Spec
  pub pairs : List Forced

-- it is this pair
pub record IsPair (f : Forced) (rel attr : ℕ) (earlier later : RowId) : Type 0 where
  pub rel_is : f.rel.0 ≡ rel
  pub attr_is : f.pair.attr.0 ≡ attr
  pub earlier_is : f.pair.earlier ≡ earlier
  pub later_is : f.pair.later ≡ later

-- a pair is one of those that were derived
pub record IsAmong (pairs : List Forced) (rel attr : ℕ) (earlier later : RowId) : Type 0 where
  pub forced : Forced
  pub is_in : Contains pairs forced
  pub is_pair : IsPair forced rel attr earlier later

-- ---- derivations, each from pairs that stand before

-- two pairs meet, and this one goes from end to end
pub record IsJoined (earlier : List Forced) (f : Forced) (first second : ℕ) : Type 0 where
  pub middle : RowId
  pub one : Forced
  pub other : Forced
  pub is_one : slice_get earlier first ≡ Some one
  pub is_other : slice_get earlier second ≡ Some other
  pub one_is : IsPair one f.rel.0 f.pair.attr.0 f.pair.earlier middle
  pub other_is : IsPair other f.rel.0 f.pair.attr.0 middle f.pair.later

-- a rule concludes it of these rows, and each premise stands before
pub record IsRuled (s : Spec) (earlier : List Forced) (f : Forced) (k : ℕ) (rows : List RowId) : Type 0 where
  pub rule : Rule
  pub taken : RuleInstance
  pub atom : OrderAtom
  pub is_instance : IsInstance s rule taken atom f.pair.earlier f.pair.later
  pub of_rule : is_instance.number ≡ k
  pub of_rows : is_instance.rows ≡ rows
  pub is_pair : IsPair f rule.relation.0 atom.attr.0 f.pair.earlier f.pair.later
  pub premises : (p : Pair) → Contains taken.premises p → IsAmong earlier rule.relation.0 p.attr.0 p.earlier p.later

-- two different mapped rows of one entity whose sources are different rows of one entity, at a place of a copy function
pub record AreCopied (s : Spec) (k at : ℕ) (first second : RowId) : Type 0 where
  pub copy : CopyFunction
  pub place : Place
  pub are_at : AreCopiedAt s copy place first second
  pub of_copy : are_at.number ≡ k
  pub of_place : are_at.at ≡ at
  pub differ : first ≢ second
  pub sources_differ : are_at.rows.first_source ≢ are_at.rows.second_source

-- it is the pair of the mapped rows, and that of their sources stands before
pub record IsCopied (s : Spec) (earlier : List Forced) (f : Forced) (k at : ℕ) (first second : RowId) : Type 0 where
  pub are : AreCopied s k at first second
  pub is_pair : IsPair f are.copy.target.0 are.place.target.0 first second
  pub source : IsAmong earlier are.copy.source.0 are.place.source.0 are.are_at.rows.first_source are.are_at.rows.second_source

-- it is the pair of the sources, and that of the mapped rows stands before
pub record IsCopiedBack (s : Spec) (earlier : List Forced) (f : Forced) (k at : ℕ) (first second : RowId) : Type 0 where
  pub are : AreCopied s k at first second
  pub is_pair : IsPair f are.copy.source.0 are.place.source.0 are.are_at.rows.first_source are.are_at.rows.second_source
  pub target : IsAmong earlier are.copy.target.0 are.place.target.0 first second

-- a pair is derived as it says, from pairs that stand before
abbrev pub IsDerived : Spec → List Forced → Forced → Type 0
IsDerived s earlier f = by f.why
  where
    by : Why → Type 0
    by why.Given = IsGiven s f.rel.0 f.pair
    by (why.Transitive first second) = IsJoined earlier f first second
    by (why.Rule rule rows) = IsRuled s earlier f rule.0 rows
    by (why.Copy copy place first second) = IsCopied s earlier f copy.0 place first second
    by (why.Back copy place first second) = IsCopiedBack s earlier f copy.0 place first second

-- exactly the forced pairs of the specification, each once, and each derived from pairs that stand before it
pub record AreForced (c : Closed) : Type 0 where
  pub each : (place : ℕ) (f : Forced) → slice_get c.pairs place ≡ Some f → IsDerived c.spec (take place c.pairs) f
  pub all : (rel attr : ℕ) (earlier later : RowId) → IsForced c.spec rel attr earlier later → IsAmong c.pairs rel
      attr earlier later
  pub once : (i j : ℕ) (f g : Forced) → slice_get c.pairs i ≡ Some f → slice_get c.pairs j ≡ Some g
      → f.rel ≡ g.rel → f.pair ≡ g.pair → i ≡ j
