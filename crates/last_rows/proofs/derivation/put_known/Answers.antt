use Rattle.last_rows.proofs.Threes.{known_push, known_start}
use Rattle.last_rows.proofs.derivation.put_known.Goals as goal

pub loop-more-init : goal.loop-more-init
loop-more-init c = known_start c.args.list.now c.args.own c.args.hints.now.items

pub loop-more-preserved : goal.loop-more-preserved
loop-more-preserved c =
    known_push c.args.list.now c.args.own c.loop-more.more c.args.hints.now.items c.loop-more.hints.items _
    c.loop-more.invariant c.in_ok-put_known_of.ensures
