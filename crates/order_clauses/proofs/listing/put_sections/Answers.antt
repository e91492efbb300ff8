use Rattle.std.proofs.lemmas.Result.{on_ok_weaker}
use Rattle.order_clauses.proofs.Whole.{all_put}
use Rattle.order_clauses.proofs.listing.put_sections.Goals as goal

pub returns : goal.returns
returns c =
    on_ok_weaker c.wanted.result
    (all_put c.args.sayings.now c.args.grounds.now.rules c.args.grounds.now.copies _ _ _ _ _
    c.in_ok-given.ensures.once c.in_ok-given.ensures.adds c.in_ok-ruled.ensures c.in_ok-copied.ensures)
    c.wanted.ensures
