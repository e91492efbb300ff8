-- What guides choose among the variables of a scope, for given values.
use Rattle.std.specs.Prelude.{◌==◌, ◌+◌, ◌*◌, ◌/◌, ◌%◌, ◌^◌, ◌&&◌, ℕ, Bool, true, false, not, if◌then◌else◌, List, [], ◌∷◌, Option, Some, None, option_map, length, nat_lt, slice_get, slice_index_or}
use Rattle.currency_base.specs.Literals.{var_of, literal}
use Rattle.currency_base.specs.declared.lit.Lit.{Lit}
use Rattle.search_trail.specs.Trails.{ScopedValues, is_in_scope}

-- what is read there is the value of a variable that has none
abbrev pub is_open : Option (Option Bool) → Bool
is_open (Some None) = true
is_open (Some (Some value)) = false
is_open None = false

-- a variable is one of these, and has no value
abbrev pub is_free : List (Option Bool) → ℕ → Bool
is_free given var = is_open (slice_get given var)

-- a variable of the scope has no value
abbrev pub is_pick : ScopedValues → ℕ → Bool
is_pick values var = is_free values.given var && is_in_scope values.scope var

-- the first of some variables that has no value
abbrev pub first_free_of : List (Option Bool) → List ℕ → Option ℕ
first_free_of given [] = None
first_free_of given (var ∷ vars) = if is_free given var then Some var else first_free_of given vars

-- the first variable of the scope that has no value
abbrev pub first_free : ScopedValues → Option ℕ
first_free values = first_free_of values.given values.scope

-- the literal that gives a variable the value that it has in a list; beyond the list, false
abbrev pub as_in : List Bool → ℕ → Lit
as_in truths var = literal var (not (slice_index_or truths var false))

-- the first free variable of the scope, with its value in a list
abbrev pub first_free_as : List Bool → ScopedValues → Option Lit
first_free_as truths values = option_map (as_in truths) (first_free values)

-- what the ring makes of a guide's choice: a literal of a free variable of the scope stays, else the first one is negated
abbrev pub free_choice : ScopedValues → Option Lit → Option Lit
free_choice values None = first_free_as [] values
free_choice values (Some lit) = if is_pick values (var_of lit) then Some lit else first_free_as [] values

-- ---- a choice from a number

-- the state that follows a state
abbrev pub next_state : ℕ → ℕ
next_state state = (state * 6364136223846793005 + 1442695040888963407) % 2 ^ 64

-- the literal of a state: its upper 31 bits are the variable's place in the scope, bit 32 the sign
abbrev pub seeded_choice : ℕ → ScopedValues → Option Lit
seeded_choice state values =
    option_map (λ var. literal var (state / 2 ^ 32 % 2 == 0)) (slice_get values.scope (state / 2 ^ 33 % length values.scope))

-- ---- the greatest count

-- the better one of a number seen so far and another: the one with the greater count, else the first
abbrev pub better : List ℕ → Option ℕ → ℕ → ℕ
better counts None var = var
better counts (Some best) var = if nat_lt (slice_index_or counts best 0) (slice_index_or counts var 0) then var else best

-- a variable is present and has no value
abbrev pub is_choice : List Bool → List (Option Bool) → ℕ → Bool
is_choice present given var = slice_index_or present var false && is_free given var

-- of some variables, those that are present and free, and one that was seen, the one with the greatest count
abbrev pub greatest_of : List ℕ → List Bool → List (Option Bool) → List ℕ → Option ℕ → Option ℕ
greatest_of counts present given [] best = best
greatest_of counts present given (var ∷ vars) best =
    greatest_of counts present given vars (if is_choice present given var then Some (better counts best var) else best)

-- the free variable of the scope with the greatest count among those that are present, the first of several, with its
-- value in a list
abbrev pub greatest_choice : List ℕ → List Bool → List Bool → ScopedValues → Option Lit
greatest_choice counts present truths values =
    option_map (as_in truths) (greatest_of counts present values.given values.scope None)
