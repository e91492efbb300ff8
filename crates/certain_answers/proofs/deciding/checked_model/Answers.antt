use Rattle.std.proofs.Common.{ap, ◌∙◌, slice_get, subst, sym, IfSome, Option}
use Rattle.match_clauses.specs.Matched.{IsMatchIn}
use Rattle.refutation_log.specs.declared.log.Log.{Log}
use Rattle.spec_model.specs.Completion.{IsCompletion}
use Rattle.spec_model.specs.Spec.{Spec}
use Rattle.certain_answers.specs.Deciding.{EachMatch}
use Rattle.certain_answers.specs.declared.matched.Matched.{Matched}
use Rattle.certain_answers.proofs.Wanting.{each_at}
use Rattle.certain_answers.proofs.deciding.checked_model.Goals as goal

pub demanded-requires-clause-matched : goal.demanded-requires-clause-matched
demanded-requires-clause-matched g c =
    each_at c.args.spec.now c.args.query.now c.args.search.now c.args.completion c.in-Ok-Some.matched c.args.place
    c.get.result.now c.requires.search
    (subst (λ (x : Spec). IsCompletion x.relations c.args.completion) c.requires.search.spec
    c.requires.counter.counter.model.consistent.completion)
    (ap (λ tuples. slice_get tuples c.args.place) (sym c.is_search.ensures.log.answers
    ∙ sym (ap (λ (l : Log). l.answers) c.log.ensures)) ∙ c.get.ensures)
    (subst (λ (o : Option Matched). IfSome o (EachMatch (IsMatchIn c.args.spec.now.relations c.args.completion
    c.args.query.now c.get.result.now)))
    c.in-Ok-Some.field-0-is c.in-Ok-Some.ensures.some)
