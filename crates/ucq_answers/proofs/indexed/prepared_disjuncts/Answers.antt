use Rattle.std.proofs.Common.{subst, sym, ◌∙◌}
use Rattle.std.specs.List.{All}
use Rattle.query_model.specs.Fitting.{IsDisjunct}
use Rattle.ucq_answers.proofs.Keeping.{prepared_more}
use Rattle.ucq_answers.proofs.indexed.prepared_disjuncts.Goals as goal

pub new-requires : goal.new-requires
new-requires c =
    let all = subst (All IsDisjunct) (sym c.as_slice-disjunct-items.ensures) c.requires in
    subst IsDisjunct (sym c.disjunct-item.is) (all c.loop-disjunct.disjunct-index c.disjunct-item.result
    c.loop-disjunct-test.true)

pub loop-disjunct-preserved : goal.loop-disjunct-preserved
loop-disjunct-preserved c =
    prepared_more c.args.instance.now.relations c.as_slice-disjunct-items.result.now c.loop-disjunct.disjunct-index
    c.disjunct-item.result c.loop-disjunct.all.items c.push.new.self.items c.in_ok-new.field-0 c.loop-disjunct-test.true
    c.disjunct-item.is (c.in_ok-new.ensures.same ∙ c.in_ok-planned.ensures) c.in_ok-new.ensures.right c.in_ok-push.ensures.items
    c.loop-disjunct.invariant
