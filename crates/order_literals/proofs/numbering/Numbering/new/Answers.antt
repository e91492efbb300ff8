use Rattle.std.proofs.Common.{length, ap, arith}
use Rattle.order_literals.proofs.Few.{few_pairs}
use Rattle.order_literals.proofs.Tabled.{count_of_tables}
use Rattle.order_literals.proofs.numbering.Numbering.new.Goals as goal

pub all_tables-requires-clause-few : goal.all_tables-requires-clause-few
all_tables-requires-clause-few c = rw c.relations.ensures.value (few_pairs c.args.spec.now.relations c.args.wanted.now c.requires)

pub new-requires-clause-few_tables : goal.new-requires-clause-few_tables
new-requires-clause-few_tables c =
    let count = count_of_tables c.args.wanted.now.currents 0 c.relations.result.now in
    let these = ap length c.in-Ok.ensures in
    let all = ap length c.relations.ensures.value in
    omega (arith, c.relations.ensures.facts.few)
