use Rattle.many_parts.proofs.Consistency.{parts_extend}
use Rattle.many_parts.proofs.laws.parts_extend.Goals as goal

pub returns : goal.returns
returns c = parts_extend c.completions_fit.ensures
