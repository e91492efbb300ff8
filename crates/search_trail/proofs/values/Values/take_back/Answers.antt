use Rattle.search_trail.proofs.Marks.{given_back, scope_back}
use Rattle.search_trail.proofs.values.Values.take_back.Goals as goal

pub first_free_from-self-inside-requires-clause-scope : goal.first_free_from-self-inside-requires-clause-scope
first_free_from-self-inside-requires-clause-scope c =
    rw (c.deref-2.ensures.value, c.deref-3.ensures.value, c.free_all-least.ensures.given)
    (scope_back _ _ _ c.self.invariant c.args.lits.now)

pub invariant_of-self : goal.invariant_of-self
invariant_of-self c =
    let found = rw (
      c.deref-2.ensures.value,
      c.deref-3.ensures.value,
      c.free_all-least.ensures.given,
      c.min.ensures,
    ) at c.first_free_from-self-inside.ensures in
    rw (c.free_all-least.ensures.given)
    (given_back _ _ _ c.self.invariant c.args.lits.now c.free_all-least.result c.place_from-first.result
    c.first_free_from-self-inside.result c.free_all-least.ensures.least
    (rw (c.deref.ensures.value) at c.place_from-first.ensures.before) found.within found.free found.passed)
