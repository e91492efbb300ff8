use Rattle.std.proofs.Common.{subst, sym}
use Rattle.order_search.specs.Moved.{Keeps}
use Rattle.order_search.proofs.Growing.{on_ok}
use Rattle.order_search.proofs.Members.{keeps_pushed, keeps_same}
use Rattle.order_search.proofs.tying.keep.Goals as goal

pub returns : goal.returns
returns c =
    on_ok c.push.result
    (λ e. subst (Keeps c.args.item c.args.other c.args.kept.now) (sym e)
    (keeps_pushed c.args.item c.args.other c.args.kept.now c.if-other-item.false)) c.push.ensures.ok

pub returns-then-other-item : goal.returns-then-other-item
returns-then-other-item c = keeps_same c.args.item c.args.other c.args.kept.now c.if-other-item.true
