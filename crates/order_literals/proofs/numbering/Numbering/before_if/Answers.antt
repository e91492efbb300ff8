use Rattle.order_literals.proofs.Saying.{pair_said, place_of_pair, rows_of_pair}
use Rattle.order_literals.proofs.numbering.Numbering.before_if.Goals as goal

pub returns-then-not-has_place-clause-none : goal.returns-then-not-has_place-clause-none
returns-then-not-has_place-clause-none c lit told =
    let said = pair_said c.args.self.now c.args.rel c.args.attr c.args.earlier c.args.later lit told in
    c.has_place.ensures.no c.if-not-has_place.true
    (rw c.self.view_is (place_of_pair c.args.self.now c.args.rel.0 c.args.attr.0 c.args.earlier c.args.later said))

pub returns-then-not-is_pair-clause-none : goal.returns-then-not-is_pair-clause-none
returns-then-not-is_pair-clause-none c lit told =
    let said = pair_said c.args.self.now c.args.rel c.args.attr c.args.earlier c.args.later lit told in
    let here = rw c.self.view_is at c.table.ensures in
    c.is_pair.ensures.no c.if-not-is_pair.true
    (rows_of_pair c.args.self.now c.args.rel.0 c.args.attr.0 c.args.earlier c.args.later c.table.result.now said here)
