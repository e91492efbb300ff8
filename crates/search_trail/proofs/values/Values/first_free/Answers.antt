use Rattle.std.proofs.Common.{◌≡◌, Some, slice_get, subst, arith}
use Rattle.std.proofs.lemmas.Option.{slice_get_read}
use Rattle.search_trail.specs.Trails.{HasNoFree, IsFirstFree, ScopedValues}
use Rattle.search_trail.proofs.Marks.{first_at, none_at}
use Rattle.search_trail.proofs.values.Values.first_free.Goals as goal

pub returns-then-self-len-clause-some : goal.returns-then-self-len-clause-some
returns-then-self-len-clause-some c =
    let inside = c.self.inside in
    let at : slice_get inside.scope.items inside.low ≡ Some c.index.result.now =
    slice_get_read inside.scope.items c.len.result inside.low c.index.result.now
    (omega (arith, c.len.ensures, inside.scope.ok.0)) c.if-self-len.true c.index.ensures in
    subst (λ (v : ScopedValues). IsFirstFree v c.index.result.now) c.self.view_is
    (first_at _ _ _ c.self.invariant c.index.result.now at)

pub returns-else-self-len-clause-none : goal.returns-else-self-len-clause-none
returns-else-self-len-clause-none c =
    subst HasNoFree c.self.view_is
    (none_at _ _ _ c.self.invariant (omega (arith, c.len.ensures, c.if-self-len.false, c.self.inside.scope.ok.0)))
