use Rattle.std.proofs.Common.{List, arith, subst}
use Rattle.posed_facts.specs.declared.fact.Fact.{Fact}
use Rattle.decided_facts.specs.Decided.{IsOpenAt}
use Rattle.golden_values.proofs.Known.{known_posable}
use Rattle.golden_values.proofs.Left.{is_open, open_posable, open_spent, open_within}
use Rattle.golden_values.proofs.finding.of_facts.Goals as goal

pub returns-in-Ok-All : goal.returns-in-Ok-All
returns-in-Ok-All g c = c.golden_of.ensures c.args.budget

pub remove-requires : goal.remove-requires
remove-requires g c =
    let s = c.args.spec.now in
    let facts = c.deref.result.now in
    let place = c.in-Ok-Open.place in
    let report = c.in-Ok-Open.report in
    let left = is_open s facts c.args.budget place report c.in-Ok-Open.field-0 c.in-Ok-Open.field-0-is c.in-Ok-Open.ensures in
    omega (arith, open_within s facts c.args.budget place report left, c.deref.ensures.len)

pub returns-in-Ok-Open : goal.returns-in-Ok-Open
returns-in-Ok-Open g c =
    let s = c.args.spec.now in
    let items = c.args.facts.items in
    let facts = c.deref.result.now in
    let place = c.in-Ok-Open.place in
    let report = c.in-Ok-Open.report in
    let left = is_open s facts c.args.budget place report c.in-Ok-Open.field-0 c.in-Ok-Open.field-0-is c.in-Ok-Open.ensures in
    let own = subst (λ (l : List Fact). IsOpenAt s l c.args.budget place report) c.deref.ensures.value left in (
      open_posable s items c.args.budget place report own
          (known_posable s c.args.rel.0 items c.args.known c.requires.known) c.remove.result c.remove.ensures.value,
      open_spent s items c.args.budget place report own c.remove.result c.remove.ensures.value,
    )
