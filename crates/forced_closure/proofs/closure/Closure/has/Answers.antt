use Rattle.std.proofs.Common.{sym, subst}
use Rattle.std.proofs.lemmas.Bool.{false≢true}
use Rattle.forced_closure.specs.Forced.{IsForced}
use Rattle.forced_closure.specs.Derived.{Closed}
use Rattle.forced_closure.proofs.closure.Closure.has.Goals as goal

pub returns-in-None : goal.returns-in-None
returns-in-None c = (
  (λ is. absurd (false≢true is)),
  (λ forced.
      let here = subst (λ (x : Closed). IsForced x.spec c.args.rel.0 c.args.pair.attr.0 c.args.pair.earlier
      c.args.pair.later) (sym c.self.view_is) forced in
      let placed = c.self.invariant.placed c.args.rel.0 c.args.pair.attr.0 c.args.pair.earlier c.args.pair.later here in
      absurd (c.in-None.ensures.none placed.slot placed.is_slot)),
)
