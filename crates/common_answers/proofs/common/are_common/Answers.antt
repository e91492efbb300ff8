use Rattle.std.proofs.Common.{◌≤◌, take, length, refl, sym, subst, arith}
use Rattle.std.proofs.lemmas.List.{take_all}
use Rattle.std.proofs.lemmas.Option.{slice_get_read}
use Rattle.common_answers.proofs.Leaving.{common_none_left, not_common_some_left}
use Rattle.common_answers.proofs.Lists.{first_of_all, front_more}
use Rattle.common_answers.proofs.common.are_common.Goals as goal
use Rattle.common_answers.specs.Candidates.{AreLeft}
use Rattle.spec_model.specs.Completion.{IsCompletion}

pub others_in-requires-clause-completion : goal.others_in-requires-clause-completion
others_in-requires-clause-completion c =
    first_of_all (IsCompletion c.args.spec.now.relations) c.args.completions.now c.index-completions-0.result c.requires.some
    c.index-completions-0.is c.requires.completions

pub loop-at-preserved : goal.loop-at-preserved
loop-at-preserved c =
    let cs = c.args.completions.now in
    let at =
    slice_get_read cs (length cs) c.loop-at.at c.index-completions-at.result refl c.loop-at-test.true c.index-completions-at.is in
    subst (λ front. AreLeft c.args.spec.now.relations c.args.query.now c.args.tuples.now front c.stay_common.new.others)
    (sym (front_more cs c.loop-at.at c.index-completions-at.result at))
    (c.in_ok-stay_common.ensures.are c.if-not-branch.false (take c.loop-at.at cs) c.loop-at.invariant)

pub returns-clause-is : goal.returns-clause-is
returns-clause-is c = λ e.
    let cs = c.args.completions.now in
    let past : length cs ≤ c.loop-at.at = omega (arith, c.loop-at-test.false) in
    common_none_left c.args.spec.now.relations c.args.query.now c.args.tuples.now cs c.loop-at.others (c.is_empty.ensures.none e)
    (subst (λ front. AreLeft c.args.spec.now.relations c.args.query.now c.args.tuples.now front c.loop-at.others)
    (take_all c.loop-at.at cs past) c.loop-at.invariant)

pub returns-clause-other : goal.returns-clause-other
returns-clause-other c = λ e.
    let cs = c.args.completions.now in
    let past : length cs ≤ c.loop-at.at = omega (arith, c.loop-at-test.false) in
    not_common_some_left c.args.spec.now.relations c.args.query.now c.args.tuples.now cs c.loop-at.others
    (c.is_empty.ensures.some e)
    (subst (λ front. AreLeft c.args.spec.now.relations c.args.query.now c.args.tuples.now front c.loop-at.others)
    (take_all c.loop-at.at cs past) c.loop-at.invariant)
