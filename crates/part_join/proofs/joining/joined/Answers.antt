use Rattle.std.proofs.Common.{subst}
use Rattle.spec_model.specs.Completion.{Rankings}
use Rattle.part_join.specs.Joined.{IsJoined}
use Rattle.part_join.proofs.joining.joined.Goals as goal

pub returns : goal.returns
returns c =
    subst (λ (old : Rankings). IsJoined c.args.spec.now.relations c.args.places.now old c.args.narrow.now c.put.new.completion)
    c.in_ok-completion.ensures c.in_ok-put.ensures
