-- Tuples, each once and ascending.
use Rattle.std.specs.Prelude.{Bool, true, List, [], ◌∷◌, Contains, Option, None, Some, if◌then◌else◌}
use Rattle.std.specs.Cmp.Lexicographic.{slice_cmp}
use Rattle.std.specs.List.{list_any}
use Rattle.std.specs.Ordering.{is_eq, is_lt}
use Rattle.currency_base.specs.Values.{value_cmp}
use Rattle.currency_base.specs.declared.value.Value.{Value}
use Rattle.query_model.specs.Answers.{AreAscending}

-- the first tuple is below the other
abbrev pub is_below : List Value → List Value → Bool
is_below a b = is_lt (slice_cmp value_cmp a b)

-- the tuple is above the last one, if there is one
abbrev pub is_past : Option (List Value) → List Value → Bool
is_past None tuple = true
is_past (Some last) tuple = is_below last tuple

-- the tuples without those that are not above the one that is kept before them
abbrev pub distinct_after : Option (List Value) → List (List Value) → List (List Value)
distinct_after last [] = []
distinct_after last (tuple ∷ more) =
    if is_past last tuple then tuple ∷ distinct_after (Some tuple) more else distinct_after last more

-- exactly these tuples, ascending
pub record AreDistinct (tuples list : List (List Value)) : Type 0 where
  pub each : (tuple : List Value) → Contains list tuple → Contains tuples tuple
  pub all : (tuple : List Value) → Contains tuples tuple → Contains list tuple
  pub ascending : AreAscending list

-- the tuple is one of these
abbrev pub is_among : List (List Value) → List Value → Bool
is_among tuples tuple = list_any (λ t. is_eq (slice_cmp value_cmp t tuple)) tuples
