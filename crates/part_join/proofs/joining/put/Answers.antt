use Rattle.part_join.proofs.Fitting.{is_joined}
use Rattle.part_join.proofs.joining.put.Goals as goal

pub returns : goal.returns
returns c =
    is_joined c.args.spec.now.relations c.args.places.now c.args.completion.now c.args.narrow.now c.put_part.new.completion
    c.requires.shape c.requires.narrow c.in_ok-put_part.ensures.put c.put_part.ensures.rest
