-- The marked items of a specification, as they are put in one after the other.
use Rattle.std.specs.Prelude.{◌+◌, ℕ, zero, suc, Bool, List, [], ◌∷◌, ◌++◌, Option, Some, None, if◌then◌else◌, length, slice_get}
use Rattle.currency_base.specs.declared.ids.RowId.{RowId}
use Rattle.copy_functions.specs.Copies.{CopyFunction, source_at, with_source}
use Rattle.denial_rules.specs.declared.rule.Rule.{Rule}
use Rattle.spec_model.specs.Spec.{Spec}
use Rattle.spec_model.specs.declared.relation.Relation.{Relation}
use Rattle.spec_items.specs.Items.{rows_of}
use Rattle.kept_items.specs.Marked.{is_marked}

-- ---- given pairs and rules

-- those of the items that are marked, of which the first has this place among the marks
abbrev pub marked : {A : Type 0} → List Bool → ℕ → List A → List A
marked marks at [] = []
marked marks at (x ∷ xs) = if is_marked marks at then x ∷ marked marks (at + 1) xs else marked marks (at + 1) xs

-- how many given pairs relations have
abbrev pub given_count : List Relation → ℕ
given_count [] = 0
given_count (r ∷ rs) = length r.given + given_count rs

-- the relation with its given pairs that are marked
abbrev pub marked_relation : List Bool → ℕ → Relation → Relation
marked_relation marks at r = record r { given = marked marks at r.given }

-- the same of each relation
abbrev pub marked_relations : List Bool → ℕ → List Relation → List Relation
marked_relations marks at [] = []
marked_relations marks at (r ∷ rs) = marked_relation marks at r ∷ marked_relations marks (at + length r.given) rs

-- ---- mapped rows

-- one, where a row is mapped
abbrev pub one_if : Option RowId → ℕ
one_if None = 0
one_if (Some source) = 1

-- how many of the first rows are mapped
abbrev pub mapped_count : CopyFunction → ℕ → ℕ
mapped_count copy zero = 0
mapped_count copy (suc rows) = mapped_count copy rows + one_if (source_at copy (record { 0 = rows }))

-- the copy function that maps the row too, where the row has a source row and is marked
abbrev pub with_row : Option RowId → Bool → RowId → CopyFunction → CopyFunction
with_row None is row new = new
with_row (Some source) is row new = if is then with_source new row source else new

-- the copy function with the mapped rows that are marked, of so many first rows
abbrev pub marked_rows : List Bool → ℕ → CopyFunction → ℕ → CopyFunction
marked_rows marks at copy zero = record copy { sources = [] }
marked_rows marks at copy (suc rows) =
    with_row (source_at copy (record { 0 = rows })) (is_marked marks (at + mapped_count copy rows)) (record { 0 = rows })
    (marked_rows marks at copy rows)

-- ---- copy functions

-- how many rows the target relation of a copy function has
abbrev pub target_count : List Relation → CopyFunction → ℕ
target_count relations copy = rows_of (slice_get relations copy.target.0)

-- how many rows a copy function maps
abbrev pub copied_count : List Relation → CopyFunction → ℕ
copied_count relations copy = mapped_count copy (target_count relations copy)

-- the copy function with its mapped rows that are marked
abbrev pub marked_copy : List Relation → List Bool → ℕ → CopyFunction → CopyFunction
marked_copy relations marks at copy = marked_rows marks at copy (target_count relations copy)

-- how many rows copy functions map
abbrev pub copies_count : List Relation → List CopyFunction → ℕ
copies_count relations [] = 0
copies_count relations (copy ∷ copies) = copied_count relations copy + copies_count relations copies

-- the copy functions with their mapped rows that are marked
abbrev pub marked_copies : List Relation → List Bool → ℕ → List CopyFunction → List CopyFunction
marked_copies relations marks at [] = []
marked_copies relations marks at (copy ∷ copies) =
    marked_copy relations marks at copy ∷ marked_copies relations marks (at + copied_count relations copy) copies

-- ---- all together

-- the specification with one relation or copy function more
abbrev pub with_last_relation : Spec → Relation → Spec
with_last_relation s r = record s { relations = s.relations ++ r ∷ [] }

abbrev pub with_last_copy : Spec → CopyFunction → Spec
with_last_copy s copy = record s { copies = s.copies ++ copy ∷ [] }

-- the specification with other relations, rules or copy functions
abbrev pub set_relations : Spec → List Relation → Spec
set_relations s relations = record s { relations = relations }

abbrev pub set_rules : Spec → List Rule → Spec
set_rules s rules = record s { rules = rules }

abbrev pub set_copies : Spec → List CopyFunction → Spec
set_copies s copies = record s { copies = copies }

-- the specification with the items that are marked
abbrev pub marked_spec : Spec → List Bool → Spec
marked_spec s marks = record {
  relations = marked_relations marks 0 s.relations;
  rules = marked marks (given_count s.relations) s.rules;
  copies = marked_copies s.relations marks (given_count s.relations + length s.rules) s.copies;
}
