-- A specification with some of its items alone.
use Rattle.std.specs.Prelude.{ℕ, suc, Bool, List, [], ◌∷◌, Option, None, if◌then◌else◌}
use Rattle.currency_base.specs.declared.ids.RowId.{RowId}
use Rattle.currency_base.specs.declared.pair.Pair.{Pair}
use Rattle.copy_functions.specs.Copies.{CopyFunction}
use Rattle.denial_rules.specs.declared.rule.Rule.{Rule}
use Rattle.spec_model.specs.Spec.{Spec}
use Rattle.spec_model.specs.declared.relation.Relation.{Relation}
use Rattle.spec_items.specs.declared.item.Item.{Item}
use Rattle.spec_items.specs.declared.item.Item.TheVariants as item

-- which items are kept
abbrev pub Keeps : Type 0
Keeps = Item → Bool

-- the given pairs of a relation that are kept
abbrev pub kept_pairs : Keeps → ℕ → List Pair → List Pair
kept_pairs keeps rel [] = []
kept_pairs keeps rel (p ∷ ps) =
    if keeps (item.Given (record { 0 = rel }) p) then p ∷ kept_pairs keeps rel ps else kept_pairs keeps rel ps

-- relations, of which the first has this number
abbrev pub kept_relations : Keeps → ℕ → List Relation → List Relation
kept_relations keeps rel [] = []
kept_relations keeps rel (r ∷ rs) = record r { given = kept_pairs keeps rel r.given } ∷ kept_relations keeps (suc rel) rs

-- rules, of which the first has this number; those that are kept count anew
abbrev pub kept_rules : Keeps → ℕ → List Rule → List Rule
kept_rules keeps k [] = []
kept_rules keeps k (rule ∷ rules) =
    if keeps (item.Rule (record { 0 = k })) then rule ∷ kept_rules keeps (suc k) rules else kept_rules keeps (suc k) rules

-- source rows by target row, of which the first has this number
abbrev pub kept_sources : Keeps → ℕ → ℕ → List (Option RowId) → List (Option RowId)
kept_sources keeps copy row [] = []
kept_sources keeps copy row (source ∷ sources) =
    (if keeps (item.Copy (record { 0 = copy }) (record { 0 = row })) then source else None) ∷ kept_sources keeps copy
    (suc row) sources

-- copy functions, of which the first has this number
abbrev pub kept_copies : Keeps → ℕ → List CopyFunction → List CopyFunction
kept_copies keeps k [] = []
kept_copies keeps k (copy ∷ copies) = record copy { sources = kept_sources keeps k 0 copy.sources }
    ∷ kept_copies keeps (suc k) copies

-- the same relations and rows, and the items that are kept
abbrev pub kept : Keeps → Spec → Spec
kept keeps s = record {
  relations = kept_relations keeps 0 s.relations;
  rules = kept_rules keeps 0 s.rules;
  copies = kept_copies keeps 0 s.copies;
}
