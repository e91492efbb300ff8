use Rattle.std.proofs.Common.{◌∙◌, ◌<◌, None, sym, subst, arith}
use Rattle.std.proofs.lemmas.Option.{slice_get_within}
use Rattle.solver_guides.proofs.Taken.{how_many, fewer_present, none_present, greatest_found, choice_stays}
use Rattle.solver_guides.proofs.activity.greatest_free.Goals as goal

pub returns-then-is_pick-clause-found : goal.returns-then-is_pick-clause-found
returns-then-is_pick-clause-found c =
    sym (greatest_found c.loop-var.tree c.in-Some.var c.args.values.now c.scope-scope.ensures.within.ascend
    c.in-Some.ensures.some (sym c.is_pick.ensures.same ∙ c.if-is_pick.true))
    ∙ c.loop-var.invariant.same

pub set_present-requires : goal.set_present-requires
set_present-requires c =
    omega (
      arith,
      slice_get_within c.loop-var.tree.present c.in-Some.var _ c.in-Some.ensures.some.is_present,
      c.len-numbers.ensures.counts,
      c.len-numbers.ensures.present,
    )

pub loop-var-smaller : goal.loop-var-smaller
loop-var-smaller c =
    subst (λ ps. how_many ps < how_many c.loop-var.tree.present) (sym c.set_present.ensures.present)
    (fewer_present c.loop-var.tree.present c.in-Some.var c.in-Some.ensures.some.is_present)

pub loop-var-preserved : goal.loop-var-preserved
loop-var-preserved c =
    record {
      counts = c.set_present.ensures.counts ∙ c.loop-var.invariant.counts;
      same =
          choice_stays c.loop-var.tree c.set_present.new.self c.in-Some.var c.args.values.now c.set_present.ensures.counts
          c.set_present.ensures.present (sym c.is_pick.ensures.same ∙ c.if-is_pick.false)
          ∙ c.loop-var.invariant.same;
    }

pub returns-clause-found : goal.returns-clause-found
returns-clause-found c =
    sym (none_present c.loop-var.tree.counts c.args.values.now.given c.loop-var.tree.present c.args.values.now.scope None
    c.in_default.ensures.none) ∙ c.loop-var.invariant.same
