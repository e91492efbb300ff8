use Rattle.spec_bind.proofs.OneOutcome.{one_tree}
use Rattle.spec_bind.proofs.laws.one_outcome.Goals as goal

pub returns : goal.returns
returns c = one_tree (record {
  declaration = c.one_declaration.ensures;
  orders = c.one_orders.ensures;
  copy =
      c.one_copy.ensures;
})
