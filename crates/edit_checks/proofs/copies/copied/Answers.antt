use Rattle.edit_checks.proofs.Filled.{is_copy}
use Rattle.edit_checks.proofs.copies.copied.Goals as goal

pub returns : goal.returns
returns c =
    is_copy c.args.spec.now.relations c.args.completion.now c.in_ok-copy.copy c.fill.new.completion c.requires
    c.in_ok-copy.ensures.shape c.in_ok-copy.ensures.blank c.in_ok-fill.ensures.filled
