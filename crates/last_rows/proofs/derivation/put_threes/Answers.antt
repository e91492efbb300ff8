use Rattle.last_rows.proofs.Threes.{three_push, three_start}
use Rattle.last_rows.proofs.derivation.put_threes.Goals as goal

pub loop-row-init : goal.loop-row-init
loop-row-init c = three_start c.args.list.now c.args.own c.args.later c.args.hints.now.items

pub loop-row-preserved : goal.loop-row-preserved
loop-row-preserved c =
    three_push c.args.list.now c.args.own c.args.later c.loop-row.row c.args.hints.now.items c.loop-row.hints.items _
    c.loop-row.invariant c.in_ok-put_three.ensures
