use Rattle.order_search.specs.Kept.{vars_of}
use Rattle.order_search.proofs.Rows.{pair_read}
use Rattle.order_search.proofs.linked.pair_at.Goals as goal

pub before-requires : goal.before-requires
before-requires c =
    pair_read c.args.subject.now c.args.list c.args.rows.now c.requires.rows c.args.first c.args.second
    (record { 0 = 0 }) c.requires.first c.requires.second
    c.requires.differ

pub returns : goal.returns
returns c = c.one_literal.ensures.within (vars_of c.args.subject.now) c.before-2.result _ c.before-2.ensures
