use Rattle.std.proofs.Common.{sym, subst}
use Rattle.std.proofs.lemmas.Result.{IfOk-weaker}
use Rattle.completion_build.specs.Contests.{Contest}
use Rattle.completion_build.specs.Judged.{IsJudged}
use Rattle.completion_build.specs.Places.{contest_of}
use Rattle.completion_build.specs.declared.judging.Judged.{Judged}
use Rattle.completion_build.proofs.Tables.{is_source}
use Rattle.completion_build.proofs.ranking.judge_list.Goals as goal

pub invariant_of-source : goal.invariant_of-source
invariant_of-source c =
    is_source c.args.spec.now.relations c.args.wanted.now c.args.numbering.now c.args.assignment.now
    c.requires.numbering c.requires.assignment

pub returns : goal.returns
returns c =
    IfOk-weaker c.judge.result _ _
    (λ judged is r at. subst (λ (t : Contest). IsJudged t c.args.ent.0 judged) (c.tournament-tournament.ensures r at) is)
    c.judge.ensures
