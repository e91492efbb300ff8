-- What is looked up, variable by variable.
use Rattle.std.proofs.Common.{◌≡◌, ◌<◌, ◌⊎◌, inl, inr, ℕ, zero, suc, List, [], ◌∷◌, ◌++◌, length, get_or, Option, None, Some, IfSome, slice_get, refl, sym, ap, subst, ◌∙◌}
use Rattle.std.specs.List.{filter}
use Rattle.std.proofs.lemmas.Option.{same_Some, none-some, slice_get_read}
use Rattle.currency_base.specs.declared.ids.RowId.{RowId}
use Rattle.currency_base.specs.declared.row.Row.{Row}
use Rattle.denial_rules.specs.Instances.{operand_value}
use Rattle.denial_rules.specs.declared.rule.Rule.{Rule}
use Rattle.entity_ground.specs.Lookups.{Looked, is_alike, AreCandidates, IsLookup, AreLookups}
use Rattle.entity_ground.proofs.Tested.{alike_members}

get_push : {A : Type 0} (xs : List A) (y z : A) (k : ℕ) → slice_get (xs ++ y ∷ []) k ≡ Some z →
    (slice_get xs k ≡ Some z) ⊎ ((k ≡ length xs) × (y ≡ z))
get_push [] y z zero at = inr (refl, same_Some y z at)
get_push [] y z (suc k) at = absurd (none-some z at)
get_push (x ∷ xs) y z zero at = inl at
get_push {A} (x ∷ xs) y z (suc k) at = by (get_push xs y z k at)
  where
    by : (slice_get xs k ≡ Some z) ⊎ ((k ≡ length xs) × (y ≡ z)) → (slice_get xs k ≡ Some z) ⊎
        ((suc k ≡ suc (length xs)) × (y ≡ z))
    by (inl is) = inl is
    by (inr (last, same)) = inr (ap (λ n. suc n) last, same)

pub lookups_none : (rule : Rule) (table : List Row) (members : List RowId) → AreLookups rule table members []
lookups_none rule table members var lookup at = absurd (none-some (Some lookup) at)

is_one : (rule : Rule) (table : List Row) (members : List RowId) (var : ℕ) (last : Option Looked) (lookup : Looked)
    → last ≡ Some lookup
    → IfSome last (IsLookup rule table members var) → IsLookup rule table members var lookup
is_one rule table members var None lookup same is = absurd (none-some lookup same)
is_one rule table members var (Some own) lookup same is = subst (IsLookup rule table members var) (same_Some own lookup same) is

-- the lookup of one variable more
pub lookups_more : (rule : Rule) (table : List Row) (members : List RowId) (all now : List (Option Looked))
    (last : Option Looked) (var : ℕ) → length all ≡ var
    → AreLookups rule table members all → IfSome last (IsLookup rule table members var) → now ≡ all ++ last ∷ []
    → AreLookups rule table members now
lookups_more rule table members all now last var count are is after k lookup at =
    by (get_push all last (Some lookup) k (ap (λ l. slice_get l k) (sym after) ∙ at))
  where
    by : (slice_get all k ≡ Some (Some lookup)) ⊎ ((k ≡ length all) × (last ≡ Some lookup)) → IsLookup rule table members k lookup
    by (inl before) = are k lookup before
    by (inr (place, same)) = let here : k ≡ var = place ∙ count in rw here (is_one rule table members var last lookup same is)

-- what is found for a front are candidates
pub found_are : (rule : Rule) (table : List Row) (members front rows : List RowId) (lookup : Looked)
    → IsLookup rule table members (length front) lookup
    → rows ≡ filter (is_alike lookup.table lookup.attr (operand_value lookup.table front lookup.by)) lookup.members
    → AreCandidates rule table members front rows
found_are rule table members front rows lookup is are =
    let same : rows ≡ filter (is_alike table lookup.attr (operand_value table front lookup.by)) members =
    are ∙ ap (λ t. filter (is_alike t lookup.attr (operand_value t front lookup.by)) lookup.members) is.in_table
    ∙ ap (λ m. filter (is_alike table lookup.attr (operand_value table front lookup.by)) m) is.of_members in
    rw same (alike_members rule table members front lookup.attr lookup.by is.asked)

-- the lookup that is read at a place
pub lookup_at : (rule : Rule) (table : List Row) (members : List RowId) (all now : List (Option Looked)) (k : ℕ)
    (read : Option Looked) (lookup : Looked) → AreLookups rule table members all
    → now ≡ all → k < length now → read ≡ get_or now k read → read ≡ Some lookup → IsLookup rule table members k lookup
lookup_at rule table members all now k read lookup are same below is some =
    are k lookup (ap (λ l. slice_get l k) (sym same) ∙ slice_get_read now (length now) k read refl below is
    ∙ ap (λ r. Some r) some)
