-- What a look at a report tells, before it is judged.
use Rattle.std.specs.Prelude.{◌==◌, ◌&&◌, ◌||◌, Bool, true, false, List, [], ◌∷◌}
use Rattle.std.specs.List.{list_any}
use Rattle.refutation_log.specs.declared.statement.Statement.{Statement}
use Rattle.refutation_log.specs.declared.statement.Statement.TheVariants.{Before}
use Rattle.spec_model.specs.declared.question.Asked.{Asked}

-- a statement says of the rows of a pair which of them stands before the other
abbrev pub is_on : Asked → Statement → Bool
is_on p (Before rel attr earlier later) =
    (rel.0 == p.rel.0) && (attr.0 == p.pair.attr.0)
    && (((earlier.0 == p.pair.earlier.0) && (later.0 == p.pair.later.0))
    || ((earlier.0 == p.pair.later.0) && (later.0 == p.pair.earlier.0)))
is_on p s = false

-- one of these statements is on the first of the pairs, if there is one
abbrev pub names_first : List Statement → List Asked → Bool
names_first statements [] = true
names_first statements (p ∷ pairs) = list_any (is_on p) statements
