-- The copy function of a head is one among the relations.
use Rattle.copy_bind.proofs.Copying.{result_among}
use Rattle.copy_bind.proofs.bind.bind_copy.Goals as goal

pub returns-in-Ok-clause-fits : goal.returns-in-Ok-clause-fits
returns-in-Ok-clause-fits g c =
    result_among c.args.spec.now.relations c.args.tree.now.name.name c.in-Ok.head c.mapped.result
    c.in-Ok.ensures.among c.mapped.ensures.of
