use Rattle.std.proofs.Common.{Contains, sym, ◌∙◌, subst}
use Rattle.log_units.proofs.Changes.{pair_in}
use Rattle.log_units.proofs.pairs.SaidPairs.has.Goals as goal

pub returns-clause-is_there : goal.returns-clause-is_there
returns-clause-is_there c = λ e.
    subst (λ pairs. Contains pairs c.args.pair) c.self.view_is (pair_in c.self.inside.set.keys c.args.pair
    (sym c.contains.ensures ∙ e))
