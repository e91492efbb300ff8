-- The records of a table of tuples.
use Rattle.std.specs.Prelude.{ℕ, List, map}
use Rattle.currency_base.specs.declared.value.Value.{Value}
use Rattle.query_syntax.specs.declared.trees.QueryTree.{QueryTree}
use Rattle.record_text.specs.Fields.{value_bytes}

-- the names of the head's variables, as they stand
abbrev pub head_names : QueryTree → List (List ℕ)
head_names query = map (λ n. n.name) query.head

-- the record of a tuple: its values
abbrev pub tuple_fields : List Value → List (List ℕ)
tuple_fields tuple = map value_bytes tuple
