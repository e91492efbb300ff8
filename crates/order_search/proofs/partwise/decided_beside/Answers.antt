use Rattle.order_search.proofs.Growing.{same_added}
use Rattle.std.proofs.Common.{refl}
use Rattle.order_search.proofs.partwise.decided_beside.Goals as goal

pub told-requires-clause-whole : goal.told-requires-clause-whole
told-requires-clause-whole g c = c.is_whole.ensures.0 c.if-is_whole.true

pub returns-then-is_none-clause-added : goal.returns-then-is_none-clause-added
returns-then-is_none-clause-added g c = same_added c.args.progress.now.solver c.args.progress.now.solver refl refl

pub returns-then-is_none-clause-found : goal.returns-then-is_none-clause-found
returns-then-is_none-clause-found g c = c.told.ensures c.args.budget.now
