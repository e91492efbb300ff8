use Rattle.std.proofs.Common.{List, Contains, sym, subst}
use Rattle.currency_base.specs.declared.pair.Pair.{Pair}
use Rattle.partial_orders.proofs.TakenPairs.{is_gone, others_stay, are_among}
use Rattle.partial_orders.proofs.pairs.Pairs.remove.Goals as goal

pub returns-clause-gone : goal.returns-clause-gone
returns-clause-gone c = is_gone c.remove.new.self.keys c.args.pair c.remove.ensures.updates.1

pub returns-clause-others : goal.returns-clause-others
returns-clause-others c = λ p other there.
    others_stay c.self.inside.set.keys c.remove.new.self.keys c.args.pair p (c.remove.ensures.updates.0 p) other
    (subst (λ (pairs : List Pair). Contains pairs p) (sym c.self.view_is) there)

pub returns-clause-among : goal.returns-clause-among
returns-clause-among c = λ p there.
    subst (λ (pairs : List Pair). Contains pairs p) c.self.view_is
    (are_among c.self.inside.set.keys c.remove.new.self.keys c.args.pair p (c.remove.ensures.updates.0 p) there)
