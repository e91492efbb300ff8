use Rattle.kept_items.proofs.OneLaw.{alike_one}
use Rattle.kept_items.proofs.laws.alike_are_one.Goals as goal

pub returns : goal.returns
returns c = alike_one
