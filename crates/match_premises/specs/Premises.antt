-- What a match of a query claims of current values: for each place of an atom at which a value is asked for, the first row of the
-- atom's entity that has it. A place is no claim where any value fits.
use Rattle.std.specs.Prelude.{◌==◌, ◌&&◌, ◌+◌, ℕ, Bool, true, false, if◌then◌else◌, List, [], ◌∷◌, ◌++◌, length, Option, Some, None, option_map, slice_get}
use Rattle.std.specs.List.{find, list_all}
use Rattle.currency_base.specs.declared.ids.AttrId.{AttrId}
use Rattle.currency_base.specs.declared.ids.EntId.{EntId}
use Rattle.currency_base.specs.declared.ids.RelId.{RelId}
use Rattle.currency_base.specs.declared.ids.RowId.{RowId}
use Rattle.currency_base.specs.declared.row.Row.{Row}
use Rattle.currency_base.specs.declared.value.Cmp.TheVariants.{Eq}
use Rattle.currency_base.specs.declared.value.Value.{Value}
use Rattle.currency_base.specs.declared.value.Value.TheVariants.{Text}
use Rattle.denial_rules.specs.Instances.{field_value}
use Rattle.entity_rows.specs.Members.{members}
use Rattle.query_model.specs.Answers.{is_compared, value_of}
use Rattle.query_model.specs.declared.query.Term.{Term}
use Rattle.query_model.specs.declared.query.Term.TheVariants as term
use Rattle.query_model.specs.declared.query.Test.{Test}
use Rattle.spec_model.specs.declared.relation.Relation.{Relation}
use Rattle.match_premises.specs.declared.premise.Premise.{Premise}

-- ---- places

-- a row has a value of an attribute
abbrev pub has_value : List Row → AttrId → Value → RowId → Bool
has_value rows attr v row = is_compared (field_value rows (Some row) attr.0) Eq (Some v)

-- the claim that a value is the current one of an attribute, if there is a value and one of these rows has it
abbrev pub claim_of : RelId → List Row → List RowId → AttrId → Option Value → Option (Option Premise)
claim_of rel rows list attr None = None
claim_of rel rows list attr (Some v) = option_map (λ row. Some record { rel = rel; attr = attr; row = row })
    (find (has_value rows attr v) list)

-- what a term claims of an attribute: nothing, if any value fits; and there may be no row that has its value
abbrev pub place_claim : RelId → List Row → List RowId → List Value → AttrId → Term → Option (Option Premise)
place_claim rel rows list values attr (term.Var v) = claim_of rel rows list attr (slice_get values v)
place_claim rel rows list values attr term.Any = Some None
place_claim rel rows list values attr (term.Constant c) = claim_of rel rows list attr (Some c)

-- the claims so far with one more
abbrev pub with_claim : Option (List Premise) → Option (Option Premise) → Option (List Premise)
with_claim (Some so_far) (Some (Some p)) = Some (so_far ++ p ∷ [])
with_claim (Some so_far) (Some None) = Some so_far
with_claim so_far claim = None

-- the claims so far and those of terms of the attributes from one on
abbrev pub claims_from : RelId → List Row → List RowId → List Value → Option (List Premise) → ℕ → List Term
    → Option (List Premise)
claims_from rel rows list values so_far attr [] = so_far
claims_from rel rows list values so_far attr (t ∷ more) =
    claims_from rel rows list values (with_claim so_far (place_claim rel rows list values (record { 0 = attr }) t))
    (attr + 1) more

-- ---- atoms

-- a term fits a value
abbrev pub fits : List Value → Term → Value → Bool
fits values (term.Var v) x = is_compared (slice_get values v) Eq (Some x)
fits values term.Any x = true
fits values (term.Constant c) x = is_compared (Some c) Eq (Some x)

-- a term fits an entity's name, if there is one
abbrev pub fits_name : List Value → Term → Option (List ℕ) → Bool
fits_name values t None = false
fits_name values t (Some name) = fits values t (Text name)

-- what an atom claims of an entity of its relation: its first term is to fit the entity's name, and the others are one for each
-- attribute
abbrev pub entity_premises : RelId → List Value → List Term → Relation → EntId → Option (List Premise)
entity_premises rel values [] r ent = None
entity_premises rel values (first ∷ more) r ent =
    if (length more == length r.attrs) && fits_name values first (slice_get r.entities ent.0)
    then claims_from rel r.rows (members r.rows ent.0) values (Some []) 0 more else None

-- ---- comparisons and heads

-- the comparisons hold
abbrev pub comparisons_are : List Value → List Test → Bool
comparisons_are values tests = list_all (λ t. is_compared (value_of values t.left) t.cmp (value_of values t.right)) tests

-- the values so far with one more
abbrev pub with_value : Option (List Value) → Option Value → Option (List Value)
with_value (Some so_far) (Some x) = Some (so_far ++ x ∷ [])
with_value so_far x = None

-- the values so far and those of variables, if each has one
abbrev pub tuple_from : List Value → Option (List Value) → List ℕ → Option (List Value)
tuple_from values so_far [] = so_far
tuple_from values so_far (v ∷ vars) = tuple_from values (with_value so_far (slice_get values v)) vars
