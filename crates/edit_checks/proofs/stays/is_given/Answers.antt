use Rattle.edit_checks.proofs.Edits.{added_pair}
use Rattle.edit_checks.proofs.stays.is_given.Goals as goal

pub returns : goal.returns
returns c =
    λ is.
    added_pair c.args.spec.now c.args.rel c.args.pair c.args.completion.now c.requires.consistent
    (c.pair_holds.ensures.holds is)
