use Rattle.std.proofs.Common.{ap, sym, ◌∙◌}
use Rattle.partial_orders.proofs.PairOrder.{has_is_contained}
use Rattle.partial_orders.specs.Pairs.{has_pair}
use Rattle.partial_orders.proofs.pairs.Pairs.has.Goals as goal

pub returns-clause-is_there : goal.returns-clause-is_there
returns-clause-is_there c found =
    has_is_contained c.args.self.now c.args.pair (ap (λ pairs. has_pair pairs c.args.pair) (sym c.self.view_is)
    ∙ sym c.contains.ensures ∙ found)
