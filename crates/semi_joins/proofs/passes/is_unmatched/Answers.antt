use Rattle.std.proofs.Common.{refl}
use Rattle.semi_joins.proofs.Keeping.{none_never}
use Rattle.semi_joins.proofs.Marking.{read}
use Rattle.semi_joins.proofs.passes.is_unmatched.Goals as goal

pub returns-then-is_none : goal.returns-then-is_none
returns-then-is_none c =
    none_never c.args.kept.now c.loop-one.one-index c.one-item.result
    (read c.args.kept.now c.loop-one.one-index c.one-item.result c.one-item.result c.loop-one-test.true c.one-item.is refl)
    c.if-is_none.ensures
