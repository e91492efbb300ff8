use Rattle.part_join.proofs.Copies.{is_copy}
use Rattle.part_join.proofs.joining.copied.Goals as goal

pub returns : goal.returns
returns c =
    is_copy c.args.spec.now.relations c.args.other.now c.in_ok-completion.completion c.fill.new.completion c.requires
    c.in_ok-completion.ensures.shape c.in_ok-completion.ensures.blank c.in_ok-fill.ensures.filled
