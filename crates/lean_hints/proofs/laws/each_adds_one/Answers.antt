use Rattle.lean_hints.proofs.Adding.{adds_one}
use Rattle.lean_hints.proofs.laws.each_adds_one.Goals as goal

pub returns : goal.returns
returns c = adds_one
