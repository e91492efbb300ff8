-- What is looked at before a search.
use Rattle.std.specs.Prelude.{◌≡◌, ◌⊎◌, Bool, List, []}
use Rattle.std.specs.Bool.{OnTrue}
use Rattle.currency_base.specs.declared.value.Value.{Value}
use Rattle.query_model.specs.declared.query.Atom.{Atom}
use Rattle.query_model.specs.declared.query.Test.{Test}
use Rattle.semi_joins.specs.Kept.{AreKept, IsMatched}

-- marks for all of some atoms, or for none, and where it is said that no values match there are none
pub record IsSeen (instance : List (List (List Value))) (atoms : List Atom) (tests : List Test) (kept : List (List Bool))
    (is_unmatched : Bool) : Type 0 where
  pub right : (kept ≡ []) ⊎ AreKept instance atoms tests kept
  pub none : OnTrue is_unmatched ((values : List Value) → IsMatched instance atoms tests values → ⊥)
