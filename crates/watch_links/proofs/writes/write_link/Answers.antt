use Rattle.watch_links.proofs.LinkViews.{nexts_set, copies_set}
use Rattle.watch_links.proofs.writes.write_link.Goals as goal

pub returns-clause-next : goal.returns-clause-next
returns-clause-next c = nexts_set c.args.links.now.items c.args.slot _

pub returns-clause-copies : goal.returns-clause-copies
returns-clause-copies c = copies_set c.args.links.now.items c.args.slot _
