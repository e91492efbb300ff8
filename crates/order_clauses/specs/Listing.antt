-- The labels whose axioms are brought in from the start, in their order.
use Rattle.std.specs.Prelude.{◌==◌, ℕ, Bool, List, [], ◌∷◌, ◌++◌, Option, Some, None, length, slice_get, slice_index_or, if◌then◌else◌}
use Rattle.std.specs.List.{flat_map}
use Rattle.currency_base.specs.Lists.{OnlyOnce}
use Rattle.currency_base.specs.declared.ids.CopyId.{CopyId}
use Rattle.currency_base.specs.declared.ids.RelId.{RelId}
use Rattle.currency_base.specs.declared.ids.RowId.{RowId}
use Rattle.currency_base.specs.declared.ids.RuleId.{RuleId}
use Rattle.currency_base.specs.declared.pair.Pair.{Pair}
use Rattle.copied_pairs.specs.declared.pairs.CopiedPair.{CopiedPair}
use Rattle.copy_functions.specs.Copies.{CopyFunction}
use Rattle.entity_lists.specs.Lists.{entities_of, rows_of}
use Rattle.spec_model.specs.Spec.{Spec}
use Rattle.spec_model.specs.declared.relation.Relation.{Relation}
use Rattle.value_names.specs.Names.{name_of}
use Rattle.refutation_log.specs.declared.step.Label.{Label}
use Rattle.refutation_log.specs.declared.step.Label.TheVariants as label
use Rattle.refutation_log.specs.declared.step.Step.{Step}
use Rattle.order_literals.specs.Numbers.{is_wanted}
use Rattle.order_literals.specs.Said.{Said, not_before, top, not_last}
use Rattle.order_clauses.specs.Added.{Adds, below}
use Rattle.order_clauses.specs.Subject.{Subject, Attribute}

-- ---- given pairs

abbrev pub given_label : RelId → Pair → List Label
given_label rel p = label.Given rel p.attr p.earlier p.later ∷ []

abbrev pub given_in : RelId → Option Relation → List Label
given_in rel None = []
given_in rel (Some r) = flat_map (given_label rel) r.given

unfoldable pub given_at : Spec → ℕ → List Label
given_at s rel = given_in (record { 0 = rel }) (slice_get s.relations rel)

unfoldable pub given_labels : Spec → List Label
given_labels s = below (given_at s) (length s.relations)

-- ---- rules

abbrev pub ground_label : RuleId → List RowId → List Label
ground_label k rows = label.Rule k rows ∷ []

-- for the grounds of one rule, of which there are so many
unfoldable pub ground_labels : RuleId → List (List RowId) → List Label
ground_labels k grounds = flat_map (ground_label k) grounds

unfoldable pub rule_at : List (List (List RowId)) → ℕ → List Label
rule_at grounds k = ground_labels (record { 0 = k }) (slice_index_or grounds k [])

unfoldable pub rule_labels : List (List (List RowId)) → List Label
rule_labels grounds = below (rule_at grounds) (length grounds)

-- ---- copy functions

abbrev pub copy_label : CopyId → ℕ → CopiedPair → List Label
copy_label k place p = label.Copy k place p.first p.second ∷ []

unfoldable pub copy_place : CopyId → List CopiedPair → ℕ → List Label
copy_place k pairs place = flat_map (copy_label k place) pairs

abbrev pub copy_in : CopyId → List CopiedPair → Option CopyFunction → List Label
copy_in k pairs None = []
copy_in k pairs (Some copy) = below (copy_place k pairs) (length copy.places)

unfoldable pub copy_at : Spec → List (List CopiedPair) → ℕ → List Label
copy_at s grounds k = copy_in (record { 0 = k }) (slice_index_or grounds k []) (slice_get s.copies k)

unfoldable pub copy_labels : Spec → List (List CopiedPair) → List Label
copy_labels s grounds = below (copy_at s grounds) (length s.copies)

-- ---- the wanted relations

-- the rows of an entity of a relation
unfoldable pub members_of : Relation → ℕ → List RowId
members_of r ent = rows_of (entities_of r.rows) ent

-- a row and another
abbrev pub above_label : Attribute → RowId → RowId → List Label
above_label p row other = if row.0 == other.0 then [] else label.Above p.rel p.attr row other ∷ []

unfoldable pub above_labels : Attribute → ℕ → RowId → List Label
above_labels p ent row = flat_map (above_label p row) (members_of p.relation ent)

-- a row that names its value
abbrev pub named_label : Attribute → RowId → List Label
named_label p row = label.Value p.rel p.attr row ∷ []

-- if it does
abbrev pub value_label : Attribute → RowId → List Label
value_label p row = if (name_of p.relation.rows p.attr.0 row).0 == row.0 then named_label p row else []

abbrev pub top_label : Attribute → RowId → List Label
top_label p row = label.Top p.rel p.attr row ∷ []

abbrev pub last_label : Attribute → RowId → List Label
last_label p row = label.Last p.rel p.attr row ∷ []

unfoldable pub row_labels : Attribute → ℕ → RowId → List Label
row_labels p ent row = above_labels p ent row ++ (top_label p row ++ (last_label p row ++ value_label p row))

unfoldable pub entity_labels : Attribute → ℕ → List Label
entity_labels p ent = flat_map (row_labels p ent) (members_of p.relation ent)

unfoldable pub attr_labels : Subject → Relation → RelId → ℕ → List Label
attr_labels s r rel attr = below
    (entity_labels (record { subject = s; relation = r; rel = rel; attr = record { 0 = attr } })) (length r.entities)

unfoldable pub relation_labels : Subject → Relation → RelId → List Label
relation_labels s r rel = below (attr_labels s r rel) (length r.attrs)

abbrev pub wanted_in : Subject → RelId → Bool → Option Relation → List Label
wanted_in s rel wanted None = []
wanted_in s rel wanted (Some r) = if wanted then relation_labels s r rel else []

unfoldable pub wanted_at : Subject → ℕ → List Label
wanted_at s rel = wanted_in s (record { 0 = rel }) (is_wanted s.wanted.currents rel) (slice_get s.spec.relations rel)

unfoldable pub wanted_labels : Subject → List Label
wanted_labels s = below (wanted_at s) (length s.spec.relations)

-- ---- parts of their clauses

-- that another row does not stand before a row
abbrev pub other_said : Attribute → RowId → RowId → List Said
other_said p row other = if other.0 == row.0 then [] else not_before p.rel p.attr other row ∷ []

-- if all others stand before a row, it stands last
unfoldable pub top_clause : Attribute → ℕ → RowId → List Said
top_clause p ent row = top p.rel p.attr row ∷ [] ++ flat_map (other_said p row) (members_of p.relation ent)

-- that a row which has the value of a row stands last
abbrev pub alike_said : Attribute → RowId → RowId → List Said
alike_said p row other = if (name_of p.relation.rows p.attr.0 other).0 == row.0 then top p.rel p.attr other ∷ [] else []

-- if the value that a row names is current, a row that has it stands last
unfoldable pub value_clause : Attribute → ℕ → RowId → List Said
value_clause p ent row = not_last p.rel p.attr row ∷ [] ++ flat_map (alike_said p row) (members_of p.relation ent)

-- ---- all of them

unfoldable pub all_labels : Subject → List (List (List RowId)) → List (List CopiedPair) → List Label
all_labels s rules copies = given_labels s.spec ++ (rule_labels rules ++ (copy_labels s.spec copies ++ wanted_labels s))

-- their axioms are put after the steps; and no given pair has two labels
pub record AddsAll (s : Subject) (rules : List (List (List RowId))) (copies : List (List CopiedPair)) (old new : List Step)
    : Type 0 where
  pub adds : Adds s (all_labels s rules copies) old new
  pub given_once : OnlyOnce (given_labels s.spec)

-- ---- three rows of an entity, both ways round

abbrev pub three_label : Attribute → Option RowId → Option RowId → Option RowId → List Label
three_label p (Some a) (Some b) (Some c) = label.Transitive p.rel p.attr a b c ∷ label.Transitive p.rel p.attr c b a ∷ []
three_label p a b c = []

-- the first row is one of those before the second
unfoldable pub first_labels : Attribute → List RowId → ℕ → ℕ → ℕ → List Label
first_labels p rows third second first = three_label p (slice_get rows first) (slice_get rows second) (slice_get rows third)

-- the second row is one of those before the third
unfoldable pub second_labels : Attribute → List RowId → ℕ → ℕ → List Label
second_labels p rows third second = below (first_labels p rows third second) second

unfoldable pub third_labels : Attribute → List RowId → ℕ → List Label
third_labels p rows third = below (second_labels p rows third) third

unfoldable pub three_labels : Attribute → List RowId → List Label
three_labels p rows = below (third_labels p rows) (length rows)

-- of the rows of an entity
abbrev pub three_of : Attribute → ℕ → List Label
three_of p ent = three_labels p (members_of p.relation ent)
