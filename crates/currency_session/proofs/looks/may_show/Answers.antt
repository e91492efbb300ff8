use Rattle.std.proofs.Common.{◌≡◌, ◌∙◌, false, List, sym, subst}
use Rattle.refutation_log.specs.declared.statement.Statement.{Statement}
use Rattle.report_verify.specs.Shown.{ShowsVerdict}
use Rattle.spec_model.specs.declared.question.Question.{Question}
use Rattle.currency_session.specs.Looks.{names_first}
use Rattle.currency_session.proofs.Named.{names_none}
use Rattle.currency_session.proofs.looks.may_show.Goals as goal

pub returns-in-Certain-question : goal.returns-in-Certain-question
returns-in-Certain-question c =
    λ none s shows.
    names_none s c.in-Certain-question.pairs c.args.report.now c.in-Certain.is
    (subst (λ (statements : List Statement). names_first statements c.in-Certain-question.pairs ≡ false) c.as_slice.ensures
    (sym c.names_first.ensures ∙ none))
    (subst (λ (q : Question). ShowsVerdict s q c.args.report.now) c.in-Certain-question.is shows)
