-- What the values of a trail tell of its literals, for callers that read them.
use Rattle.std.proofs.Common.{◌≡◌, ◌<◌, ◌∙◌, ℕ, Bool, Option, Some, None, length, slice_get, sym, arith}
use Rattle.std.proofs.lemmas.List.FromFn.{length-map-range_with_len}
use Rattle.std.proofs.lemmas.Option.{slice_get_within, get_or_from_slice_get}
use Rattle.search_trail.specs.Trails.{IsFree, Trail, lits_of, value_in, values_of}
use Rattle.search_trail.proofs.ValueLists.{values_at}

-- there are as many values as variables
pub as_many_values : (t : Trail) → length (values_of t).given ≡ t.vars
as_many_values t = length-map-range_with_len (value_in (lits_of t)) 0 t.vars

-- a variable with a value there is one of the trail's, and the literals give it that value
pub is_variable : (t : Trail) (var : ℕ) (r : Option Bool) → slice_get (values_of t).given var ≡ Some r → var < t.vars
is_variable t var r is = omega (arith, slice_get_within (values_of t).given var r is, as_many_values t)

pub is_value : (t : Trail) (var : ℕ) (r : Option Bool) → slice_get (values_of t).given var ≡ Some r → value_in (lits_of t) var ≡ r
is_value t var r is =
    sym (values_at (lits_of t) t.vars var (is_variable t var r is)) ∙ get_or_from_slice_get (values_of t).given var r None is

pub is_free : (t : Trail) (var : ℕ) → slice_get (values_of t).given var ≡ Some None → IsFree t var
is_free t var is = is_value t var None is
