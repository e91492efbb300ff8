use Rattle.std.proofs.Common.{◌∙◌, ap, Some}
use Rattle.solver_guides.proofs.FirstFrees.{some_as, none_as}
use Rattle.solver_guides.proofs.choices.first_free_as.Goals as goal

pub returns-in-Some : goal.returns-in-Some
returns-in-Some c =
    ap Some c.as_in.ensures ∙ some_as c.args.truths.now c.args.values.now c.in-Some.var c.scope-scope.ensures.within.ascend
    c.in-Some.ensures.some

pub returns-in-None : goal.returns-in-None
returns-in-None c = none_as c.args.truths.now c.args.values.now c.in-None.ensures.none
