use Rattle.order_search.proofs.Growing.{tied_with}
use Rattle.order_search.proofs.search.Search.bring.Goals as goal

pub invariant_of-self : goal.invariant_of-self
invariant_of-self g c = (
  c.bring_linked-brought.ensures.held,
  c.self.invariant.1,
  λ _.
      tied_with c.self.inside.subject c.self.inside.parting c.self.inside.progress.solver.steps
      c.bring_linked-brought.new.progress.solver.steps (c.self.invariant.2 c.if-self.false) c.bring_linked-brought.ensures.tied,
)
