use Rattle.std.proofs.Common.{arith}
use Rattle.currency_cli.proofs.KeptGuides.{kept_left}
use Rattle.currency_cli.proofs.words.keep_guide.Goals as goal

pub returns-clause-left : goal.returns-clause-left
returns-clause-left g c there =
    kept_left (λ guide. (goal.Guide-dyn g (guide.vtable, guide.value)).choice guide.value) c.args.guides.now c.keep.new.self
    c.args.guide c.in-Some.number c.in-Some-checked_sub.place c.in-Some.is (omega (arith, c.in-Some-checked_sub.ensures))
    c.keep.ensures.count c.keep.ensures.kept
