-- The parts of which the grounds of a specification are made.
use Rattle.std.specs.Prelude.{◌≡◌, List, Some, length, slice_get}
use Rattle.currency_base.specs.declared.ids.RowId.{RowId}
use Rattle.copy_functions.specs.Copies.{CopyFunction}
use Rattle.denial_rules.specs.declared.rule.Rule.{Rule}
use Rattle.entity_lists.specs.Lists.{Grouping, entities_of}
use Rattle.spec_model.specs.declared.relation.Relation.{Relation}
use Rattle.copied_pairs.specs.Copied.{AreCopiedPairs}
use Rattle.copied_pairs.specs.declared.pairs.CopiedPair.{CopiedPair}
use Rattle.entity_ground.specs.Grounds.{grounds_of}

-- how many entities a relation has, and the entity of each row
abbrev pub grouping_of : Relation → Grouping
grouping_of r = record { count = length r.entities; entities = entities_of r.rows }

-- the grounds of a rule, listed in its relation
abbrev pub AreListed : List Relation → Rule → List (List RowId) → Type 0
AreListed relations rule grounds = (r : Relation) → slice_get relations rule.relation.0 ≡ Some r → grounds ≡ grounds_of rule r

-- the pairs of a copy function between its two relations
abbrev pub ArePaired : List Relation → CopyFunction → List CopiedPair → Type 0
ArePaired relations copy pairs = (target source : Relation) → slice_get relations copy.target.0 ≡ Some target
    → slice_get relations copy.source.0 ≡ Some source
    → AreCopiedPairs copy target.rows source.rows pairs
