-- What the rules and the copy functions of a specification say of which rows.
use Rattle.std.specs.Prelude.{◌≡◌, ℕ, zero, suc, Bool, true, List, [], ◌∷◌, Some, All, Contains, map, length, slice_get, is_some}
use Rattle.std.specs.List.{filter, flat_map, range_with_len}
use Rattle.currency_base.specs.Lists.{OnlyOnce}
use Rattle.currency_base.specs.declared.ids.RowId.{RowId}
use Rattle.currency_base.specs.declared.row.Row.{Row}
use Rattle.copy_functions.specs.Copies.{CopyFunction}
use Rattle.denial_rules.specs.Instances.{instance_of}
use Rattle.denial_rules.specs.declared.rule.Rule.{Rule}
use Rattle.entity_lists.specs.Lists.{entities_of, rows_of}
use Rattle.spec_model.specs.Spec.{Spec}
use Rattle.spec_model.specs.Satisfies.{IsChoice}
use Rattle.spec_model.specs.declared.relation.Relation.{Relation}
use Rattle.copied_pairs.specs.Copied.{AreCopiedPairs}
use Rattle.copied_pairs.specs.declared.pairs.CopiedPair.{CopiedPair}

-- ---- rules: the plain slow program

-- one of these rows for each of so many variables: by the first variable's row, then by the second's, and so on
abbrev pub choices : ℕ → List RowId → List (List RowId)
choices zero members = [] ∷ []
choices (suc vars) members = flat_map (λ row. map (λ rows. row ∷ rows) (choices vars members)) members

-- the rule has an instance for these rows
abbrev pub has_instance : Rule → List Row → List RowId → Bool
has_instance rule table rows = is_some (instance_of rule table rows)

-- the choices among these rows for which a rule has an instance
abbrev pub grounds_among : Rule → List Row → List RowId → List (List RowId)
grounds_among rule table members = filter (has_instance rule table) (choices rule.vars members)

-- the choices for which a rule has an instance, entity by entity of its relation
abbrev pub grounds_of : Rule → Relation → List (List RowId)
grounds_of rule r = flat_map (λ ent. grounds_among rule r.rows (rows_of (entities_of r.rows) ent))
    (range_with_len 0 (length r.entities))

-- ---- rules: what is meant

-- one row per variable of a rule, all of one entity, for which the rule has an instance
pub record IsGround (rule : Rule) (table : List Row) (rows : List RowId) : Type 0 where
  pub choice : IsChoice table rule.vars rows
  pub instance : has_instance rule table rows ≡ true

-- exactly the grounds of a rule, each once
pub record AreGrounds (rule : Rule) (table : List Row) (grounds : List (List RowId)) : Type 0 where
  pub each : All (IsGround rule table) grounds
  pub all : (rows : List RowId) → IsGround rule table rows → Contains grounds rows
  pub once : OnlyOnce grounds

-- for each rule its grounds
pub record AreRuleGrounds (s : Spec) (rules : List (List (List RowId))) : Type 0 where
  pub per_rule : length rules ≡ length s.rules
  pub listed : (k : ℕ) (rule : Rule) (r : Relation) → slice_get s.rules k ≡ Some rule → slice_get s.relations
      rule.relation.0 ≡ Some r
      → slice_get rules k ≡ Some (grounds_of rule r)
  pub exact : (k : ℕ) (rule : Rule) (r : Relation) (grounds : List (List RowId)) → slice_get s.rules k ≡ Some rule
      → slice_get s.relations rule.relation.0 ≡ Some r → slice_get rules k ≡ Some grounds → AreGrounds rule r.rows grounds

-- ---- copy functions

-- for each copy function its pairs
pub record AreCopyGrounds (s : Spec) (copies : List (List CopiedPair)) : Type 0 where
  pub per_copy : length copies ≡ length s.copies
  pub exact : (k : ℕ) (copy : CopyFunction) (target source : Relation) (pairs : List CopiedPair) → slice_get s.copies
      k ≡ Some copy
      → slice_get s.relations copy.target.0 ≡ Some target → slice_get s.relations copy.source.0 ≡ Some source
      → slice_get copies k ≡ Some pairs → AreCopiedPairs copy target.rows source.rows pairs
