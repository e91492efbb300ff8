-- What contracts see of the values of variables, of tuples, and of a relation.
use Rattle.std.specs.Prelude.{List, Option}
use Rattle.currency_base.specs.declared.value.Value.{Value}

-- for each variable its value, if it has one
abbrev pub SomeValues : Type 0
SomeValues = List (Option Value)

-- the values of a tuple
abbrev pub TupleValues : Type 0
TupleValues = List Value

-- the tuples of a relation
abbrev pub RelationTuples : Type 0
RelationTuples = List (List Value)
