use Rattle.order_literals.proofs.Saying.{top_said}
use Rattle.order_literals.proofs.numbering.Numbering.top_if.Goals as goal

pub returns-then-not-is_row-clause-none : goal.returns-then-not-is_row-clause-none
returns-then-not-is_row-clause-none c lit told =
    c.is_row.ensures.no c.if-not-is_row.true (top_said c.args.self.now c.args.rel c.args.attr c.args.row lit told)
