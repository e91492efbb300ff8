use Rattle.std.proofs.Common.{refl, subst, sym}
use Rattle.std.specs.List.{All}
use Rattle.std.proofs.lemmas.Bool.{false≢true}
use Rattle.std.proofs.lemmas.List.{take_all}
use Rattle.std.proofs.lemmas.List.Elements.{All-get_or, All-more}
use Rattle.query_model.specs.Fitting.{IsDisjunct}
use Rattle.ucq_answers.proofs.fits.are_disjuncts.Goals as goal

pub returns-then-not-is_disjunct : goal.returns-then-not-is_disjunct
returns-then-not-is_disjunct c = (
  λ t. absurd (false≢true t),
  λ all. c.if-not-is_disjunct.ensures.1 (subst IsDisjunct (sym c.disjunct-item.is)
      (All-get_or IsDisjunct c.args.disjuncts.now c.loop-disjunct.disjunct-index c.disjunct-item.result
      c.loop-disjunct-test.true all)),
)

pub loop-disjunct-preserved : goal.loop-disjunct-preserved
loop-disjunct-preserved c =
    All-more IsDisjunct c.args.disjuncts.now c.loop-disjunct.disjunct-index c.disjunct-item.result
    c.loop-disjunct-test.true c.loop-disjunct.invariant
    (subst IsDisjunct c.disjunct-item.is (c.if-not-is_disjunct.ensures.0 refl))

pub returns : goal.returns
returns c =
    let all = subst (All IsDisjunct) (take_all c.loop-disjunct.disjunct-index c.args.disjuncts.now
    c.loop-disjunct-test.false) c.loop-disjunct.invariant in
    (λ t. all, λ every. refl)
