-- The items of a specification, in order.
use Rattle.std.specs.Prelude.{ℕ, zero, suc, List, [], ◌∷◌, ◌++◌, length, map, Option, Some, None, slice_get}
use Rattle.currency_base.specs.declared.ids.RowId.{RowId}
use Rattle.copy_functions.specs.Copies.{CopyFunction, source_at}
use Rattle.denial_rules.specs.declared.rule.Rule.{Rule}
use Rattle.spec_model.specs.Spec.{Spec}
use Rattle.spec_model.specs.declared.relation.Relation.{Relation}
use Rattle.spec_items.specs.declared.item.Item.{Item}
use Rattle.spec_items.specs.declared.item.Item.TheVariants as item

-- the given pairs of relations, of which the first has this number
abbrev pub given_items : ℕ → List Relation → List Item
given_items rel [] = []
given_items rel (r ∷ rs) = map (λ p. item.Given (record { 0 = rel }) p) r.given ++ given_items (suc rel) rs

-- rules, of which the first has this number
abbrev pub rule_items : ℕ → List Rule → List Item
rule_items k [] = []
rule_items k (rule ∷ rules) = item.Rule (record { 0 = k }) ∷ rule_items (suc k) rules

-- the row's item, where it is mapped
abbrev pub mapped_item : ℕ → ℕ → Option RowId → List Item
mapped_item copy row None = []
mapped_item copy row (Some source) = item.Copy (record { 0 = copy }) (record { 0 = row }) ∷ []

-- the mapped rows of a copy function, of so many rows
abbrev pub mapped_items : ℕ → CopyFunction → ℕ → List Item
mapped_items k copy zero = []
mapped_items k copy (suc rows) = mapped_items k copy rows ++ mapped_item k rows (source_at copy (record { 0 = rows }))

-- how many rows a relation has, if it is there
abbrev pub rows_of : Option Relation → ℕ
rows_of None = 0
rows_of (Some r) = length r.rows

-- the mapped rows of copy functions, of which the first has this number
abbrev pub copy_items : List Relation → ℕ → List CopyFunction → List Item
copy_items relations k [] = []
copy_items relations k (copy ∷ copies) =
    mapped_items k copy (rows_of (slice_get relations copy.target.0)) ++ copy_items relations (suc k) copies

-- the items: given pairs by relation and in their order, then rules, then mapped rows by copy function and row
abbrev pub items_of : Spec → List Item
items_of s = given_items 0 s.relations ++ rule_items 0 s.rules ++ copy_items s.relations 0 s.copies
