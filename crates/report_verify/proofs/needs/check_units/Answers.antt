use Rattle.std.proofs.Common.{◌≡◌, IfErr, sym, ap, ◌∙◌, subst}
use Rattle.report_verify.proofs.Refusing.{same_answers, same_needs}
use Rattle.report_verify.proofs.needs.check_units.Goals as goal
use Rattle.report_verify.specs.Judged.{IsUnmet}
use Rattle.report_verify.specs.Supported.{answer_needs, item_needs, needs_of}

pub returns-in-Same-clause-unmet : goal.returns-in-Same-clause-unmet
returns-in-Same-clause-unmet c =
    let question = c.args.question.now in
    let needs : item_needs 0 c.in-Same.items ≡ needs_of question c.args.report.now.verdict =
    sym (same_needs question c.in-Same.items) ∙ ap (needs_of question) (sym c.in-Same.is) in
    subst (λ ns. IfErr c.check_claimed_items.result (IsUnmet c.args.spec.now.relations c.args.report.now.log ns))
    needs c.check_claimed_items.ensures.unmet

pub returns-in-Answers-clause-unmet : goal.returns-in-Answers-clause-unmet
returns-in-Answers-clause-unmet c =
    let question = c.args.question.now in
    let needs : answer_needs 0 c.in-Answers.tuples ≡ needs_of question c.args.report.now.verdict =
    sym (same_answers question c.in-Answers.tuples) ∙ ap (needs_of question) (sym c.in-Answers.is) in
    subst (λ ns. IfErr c.check_claimed_answers.result (IsUnmet c.args.spec.now.relations c.args.report.now.log ns))
    needs c.check_claimed_answers.ensures.unmet
