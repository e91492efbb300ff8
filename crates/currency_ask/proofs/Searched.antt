-- Searches for a question.
use Rattle.std.proofs.Common.{◌≡◌, List, Result, Err, refl, sym, subst, inr}
use Rattle.answer_candidates.specs.Candidates.{IsTooMany}
use Rattle.certain_answers.specs.Deciding.{IsSearchFor as IsSearchOf}
use Rattle.currency_base.specs.declared.value.Value.{Value}
use Rattle.order_search.specs.Searches.{Search}
use Rattle.query_model.specs.declared.query.Query.{Query}
use Rattle.report_model.specs.declared.report.Report.{Report}
use Rattle.spec_model.specs.Completion.{Rankings}
use Rattle.spec_model.specs.Consistent.{IsConsistent}
use Rattle.spec_model.specs.Spec.{Spec}
use Rattle.spec_model.specs.declared.question.Question.TheVariants as asked
use Rattle.currency_ask.specs.Answered.{AreAnswersOverSome, HasTooMany}
use Rattle.currency_ask.specs.Reported.{IsSearchFor}
use Rattle.currency_ask.specs.declared.fault.AskFault.{AskFault}
use Rattle.currency_ask.specs.declared.fault.AskFault.TheVariants as fault

-- a search in which the answers over some consistent completion are posed
pub search_for_answers : (s : Spec) (query : Query) (tuples : List (List Value)) (search : Search)
    → IsSearchOf s query search → search.posed.answers ≡ tuples
    → AreAnswersOverSome s query tuples → IsSearchFor (asked.Answers query) search
search_for_answers s query tuples search is posed over = record {
  query = is.query_is;
  currents = is.currents;
  answers = inr (
    query,
    refl,
    subst (λ (x : Spec). AreAnswersOverSome x query search.posed.answers) (sym is.spec)
        (subst (AreAnswersOverSome s query) (sym posed) over),
  );
}

pub same_fault : (told : AskFault) (c : Rankings) → ◌≡◌ {A = Result Report AskFault} (Err told)
    (Err (fault.TooMany c)) → told ≡ fault.TooMany c
same_fault told c e = cc

-- the completion that is told has too many answers, where it is the first one
pub too_many_first : (s : Spec) (query : Query) (first found : Rankings) → IsConsistent s first → found ≡ first
    → IsTooMany s.relations query 1000000 found
    → HasTooMany s (asked.Answers query) found
too_many_first s query first found is same too_many = record {
  query = query;
  is_query = refl;
  consistent = subst (IsConsistent s) (sym same) is;
  too_many = too_many;
}
