-- The lists of a part, each ranked or found to go round.
use Rattle.std.specs.Prelude.{◌≡◌, ◌⊎◌, ◌<◌, ◌++◌, ℕ, Bool, List, [], ◌∷◌, All, Contains, Some, length, slice_get}
use Rattle.currency_base.specs.declared.ids.AttrId.{AttrId}
use Rattle.currency_base.specs.declared.ids.EntId.{EntId}
use Rattle.currency_base.specs.declared.ids.RelId.{RelId}
use Rattle.currency_base.specs.declared.ids.RowId.{RowId}
use Rattle.spec_model.specs.Completion.{Rankings, HasShape, ranking_of}
use Rattle.spec_model.specs.declared.relation.Relation.{Relation}
use Rattle.completion_build.specs.Judged.{IsOrdered}
use Rattle.completion_build.specs.Places.{contest_of}
use Rattle.completion_build.specs.Ranked.{IsCycle, IsOfOne}
use Rattle.completion_build.specs.declared.built.Cycle.{Cycle}
use Rattle.completion_build.specs.declared.judging.Judged.{Judged}
use Rattle.completion_build.specs.declared.judging.Judged.TheVariants.{Ordered, Round}
use Rattle.entity_ties.specs.Labels.{cell, label_of}
use Rattle.entity_ties.specs.declared.cells.Member.{Member}
use Rattle.known_models.specs.Known.{IsListIn, PartedSpec, numbers_in, variables_in}
use Rattle.known_models.specs.declared.draft.Draft.{Draft}
use Rattle.known_models.specs.declared.draft.RankedList.{RankedList}

-- a ranked list is of the part, and its rows stand in the order that the truths say
pub record IsRankedIn (p : PartedSpec) (part : ℕ) (truths : List Bool) (l : RankedList) : Type 0 where
  pub relation : Relation
  pub is_list : IsListIn p part l.rel l.attr l.ent.0 relation
  pub ordered : IsOrdered (contest_of (numbers_in p) truths l.rel l.attr relation l.ent.0) l.rows

-- ranked lists with what is found of one more
abbrev pub lists_with : List RankedList → RelId → AttrId → EntId → Judged → List RankedList
lists_with lists rel attr ent (Ordered rows) = lists ++ record { rel = rel; attr = attr; ent = ent; rows = rows } ∷ []
lists_with lists rel attr ent (Round cycle) = lists

-- a cycle is of the part
pub record IsCycleIn (p : PartedSpec) (part : ℕ) (truths : List Bool) (c : Cycle) : Type 0 where
  pub is_cycle : IsCycle p.spec.relations (variables_in p) truths c
  pub of_part : label_of p.ties (cell c.rel.0 c.ent.0) ≡ Some part

-- what was found of lists of a part
pub record AreFound (p : PartedSpec) (part : ℕ) (truths : List Bool) (d : Draft) : Type 0 where
  pub lists : All (IsRankedIn p part truths) d.lists
  pub cycles : All (IsCycleIn p part truths) d.cycles

-- one of the ranked lists is at this place
pub record IsAmong (lists : List RankedList) (rel attr ent : ℕ) : Type 0 where
  pub list : RankedList
  pub is_in : Contains lists list
  pub rel_is : list.rel.0 ≡ rel
  pub attr_is : list.attr.0 ≡ attr
  pub ent_is : list.ent.0 ≡ ent

-- a list was found: to have an order, or to go round
abbrev pub HasFound : Draft → ℕ → ℕ → ℕ → Type 0
HasFound d rel attr ent = IsAmong d.lists rel attr ent ⊎ IsOfOne d.cycles rel attr ent

-- more was found
pub record Grows (old new : Draft) : Type 0 where
  pub lists : (list : RankedList) → Contains old.lists list → Contains new.lists list
  pub cycles : (cycle : Cycle) → Contains old.cycles cycle → Contains new.cycles cycle

-- the list of an entity was found too
pub record FindsList (p : PartedSpec) (part : ℕ) (truths : List Bool) (rel attr ent : ℕ) (old new : Draft) : Type 0 where
  pub found : AreFound p part truths new
  pub grows : Grows old new
  pub here : HasFound new rel attr ent

-- and those of its first attributes
pub record FindsLists (p : PartedSpec) (part : ℕ) (truths : List Bool) (rel attrs ent : ℕ) (old new : Draft) : Type 0 where
  pub found : AreFound p part truths new
  pub grows : Grows old new
  pub each : (attr : ℕ) → attr < attrs → HasFound new rel attr ent

-- and those of all attributes of entities
pub record FindsAll (p : PartedSpec) (part : ℕ) (truths : List Bool) (members : List Member) (d : Draft) : Type 0 where
  pub found : AreFound p part truths d
  pub each : (m : Member) (r : Relation) (attr : ℕ) → Contains members m → slice_get p.spec.relations m.rel.0 ≡ Some r
      → attr < length r.attrs → HasFound d m.rel.0 attr m.ent.0

-- and those of every entity of the part
pub record FindsPart (p : PartedSpec) (part : ℕ) (truths : List Bool) (d : Draft) : Type 0 where
  pub found : AreFound p part truths d
  pub each : (rel : RelId) (attr : AttrId) (ent : ℕ) (r : Relation) → IsListIn p part rel attr ent r → HasFound d rel.0 attr.0 ent

-- ---- putting ranked lists in

-- one of the ranked lists, at this place, has these rows
pub record HasRows (lists : List RankedList) (rel attr ent : ℕ) (rows : List RowId) : Type 0 where
  pub list : RankedList
  pub is_in : Contains lists list
  pub rel_is : list.rel.0 ≡ rel
  pub attr_is : list.attr.0 ≡ attr
  pub ent_is : list.ent.0 ≡ ent
  pub rows_are : rows ≡ list.rows

-- the place of a ranked list is one of the relations'
pub record IsPlaceIn (relations : List Relation) (l : RankedList) : Type 0 where
  pub relation : Relation
  pub is_relation : slice_get relations l.rel.0 ≡ Some relation
  pub attr_within : l.attr.0 < length relation.attrs
  pub ent_within : l.ent.0 < length relation.entities

-- rankings have a place for each of these lists
pub record HaveRoom (c : Rankings) (lists : List RankedList) : Type 0 where
  pub relations : List Relation
  pub shape : HasShape relations c
  pub places : All (IsPlaceIn relations) lists

-- ranked lists stand at their places, and the other places are as they were
pub record ArePut (lists : List RankedList) (old new : Rankings) : Type 0 where
  pub shape : (relations : List Relation) → HasShape relations old → HasShape relations new
  pub put : (rel attr ent : ℕ) → IsAmong lists rel attr ent → HasRows lists rel attr ent (ranking_of new rel attr ent)
  pub kept : (rel attr ent : ℕ) → (IsAmong lists rel attr ent → ⊥)
      → ranking_of new rel attr ent ≡ ranking_of old rel attr ent
