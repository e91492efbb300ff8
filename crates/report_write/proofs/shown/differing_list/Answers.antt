use Rattle.std.proofs.Common.{◌≡◌, true, false, sym, arith}
use Rattle.spec_model.specs.Completion.{ranking_of}
use Rattle.report_write.specs.Pieces.{same_rows}
use Rattle.report_write.proofs.Differing.{left_out, same_attrs, same_entities, stays}
use Rattle.report_write.proofs.shown.differing_list.Goals as goal

pub ranking-rows-requires-clause-attr : goal.ranking-rows-requires-clause-attr
ranking-rows-requires-clause-attr c = omega (
  arith,
  same_attrs c.args.first.now c.args.completion.now c.args.rel.0
      c.requires.alike,
)

pub ranking-rows-requires-clause-ent : goal.ranking-rows-requires-clause-ent
ranking-rows-requires-clause-ent c =
    omega (arith, same_entities c.args.first.now c.args.completion.now c.args.rel.0 c.args.attr.0 c.requires.alike)

pub ranking-requires-clause-attr : goal.ranking-requires-clause-attr
ranking-requires-clause-attr c =
    omega (
      arith,
      same_attrs c.args.first.now c.args.completion.now c.args.rel.0 c.requires.alike,
      c.requires.alike.per_attr c.args.rel.0,
    )

pub ranking-requires-clause-ent : goal.ranking-requires-clause-ent
ranking-requires-clause-ent c =
    omega (
      arith,
      same_entities c.args.first.now c.args.completion.now c.args.rel.0 c.args.attr.0 c.requires.alike,
      c.requires.alike.per_entity c.args.rel.0 c.args.attr.0,
    )

pub returns-then-are_same : goal.returns-then-are_same
returns-then-are_same c =
    let same : same_rows (ranking_of c.args.first.now c.args.rel.0 c.args.attr.0 c.args.ent.0)
    (ranking_of c.args.completion.now c.args.rel.0 c.args.attr.0 c.args.ent.0)
    ≡ true = cc in
    sym (left_out c.args.first.now c.args.completion.now c.args.rel.0 c.args.attr.0 c.args.ent.0 c.requires.alike same)

pub returns-else-are_same : goal.returns-else-are_same
returns-else-are_same c =
    let other : same_rows (ranking_of c.args.first.now c.args.rel.0 c.args.attr.0 c.args.ent.0)
    (ranking_of c.args.completion.now c.args.rel.0 c.args.attr.0 c.args.ent.0)
    ≡ false = cc in
    let one = stays c.args.first.now c.args.completion.now c.args.rel.0 c.args.attr.0 c.args.ent.0 c.requires.alike other in
    cc
