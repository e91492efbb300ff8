use Rattle.std.proofs.Common.{length, ap, arith}
use Rattle.completion_fill.proofs.Shapes.{alike, narrow}
use Rattle.completion_fill.proofs.Steps.{filled_none, filled_more}
use Rattle.completion_fill.proofs.filling.fill.Goals as goal

pub loop-rel-init : goal.loop-rel-init
loop-rel-init c = record {
  alike = alike c.args.spec.now.relations c.args.first.now c.args.completion.now c.requires.first c.requires.shape;
  so_far = filled_none c.args.completion.now;
}

pub fill_relation-requires-clause-narrow : goal.fill_relation-requires-clause-narrow
fill_relation-requires-clause-narrow c =
    narrow c.args.spec.now.relations c.args.first.now c.relations-rel-end.ensures.facts c.requires.first

pub loop-rel-preserved : goal.loop-rel-preserved
loop-rel-preserved c =
    let all = alike c.args.spec.now.relations c.args.first.now c.args.completion.now c.requires.first c.requires.shape in
    record {
      alike = c.fill_relation.ensures.alike;
      so_far = filled_more c.args.first.now c.args.completion.now c.loop-rel.completion
          c.fill_relation.new.completion c.loop-rel.rel
          all (omega (arith, c.requires.first.per_relation, ap length c.relations-rel-end.ensures.value))
          c.loop-rel.invariant.so_far c.in_ok-fill_relation.ensures.filled;
    }
