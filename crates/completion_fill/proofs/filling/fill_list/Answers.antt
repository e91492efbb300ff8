use Rattle.std.proofs.Common.{◌≡◌, length, arith}
use Rattle.std.proofs.lemmas.Bool.Decides.{nat_tests}
use Rattle.completion_fill.proofs.Steps.{stays}
use Rattle.completion_fill.proofs.filling.fill_list.Goals as goal

pub returns-then-is_empty-clause-filled : goal.returns-then-is_empty-clause-filled
returns-then-is_empty-clause-filled c =
    let none : length c.ranking-rows.result.now ≡ 0 = grind (arith, nat_tests) in
    stays c.args.first.now c.args.completion.now c.args.rel.0 c.args.attr.0 c.args.ent.0 (rw c.ranking-rows.ensures at none)
