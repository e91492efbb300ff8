use Rattle.std.proofs.Common.{◌≡◌, ◌∙◌, Some, None, length, slice_get, ap, subst, arith}
use Rattle.currency_base.specs.Literals.{var_of}
use Rattle.search_trail.specs.Trails.{ScopedValues}
use Rattle.search_trail.proofs.KnownValues.{as_many_values, is_variable, is_free}
use Rattle.bench_search.proofs.walks.descend.Goals as goal

pub some_free-requires-clause-few : goal.some_free-requires-clause-few
some_free-requires-clause-few c =
    let many = ap (λ (vs : ScopedValues). length vs.given) c.values.ensures ∙ as_many_values c.propagate.new.trail in
    omega (arith, many, c.are_entries.ensures.few)

pub assume-requires-clause-within : goal.assume-requires-clause-within
assume-requires-clause-within c =
    is_variable c.propagate.new.trail (var_of c.in-Some.lit) None
    (subst (λ (vs : ScopedValues). slice_get vs.given (var_of c.in-Some.lit) ≡ Some None) c.values.ensures c.in-Some.ensures)

pub assume-requires-clause-free : goal.assume-requires-clause-free
assume-requires-clause-free c =
    is_free c.propagate.new.trail (var_of c.in-Some.lit)
    (subst (λ (vs : ScopedValues). slice_get vs.given (var_of c.in-Some.lit) ≡ Some None) c.values.ensures c.in-Some.ensures)
