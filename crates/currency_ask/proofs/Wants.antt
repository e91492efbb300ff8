-- What is numbered for a question: the variables of a search are the question's, and so are those of what its log is trimmed to.
use Rattle.std.proofs.Common.{◌≡◌, ◌∙◌, ◌≤◌, ℕ, List, All, Contains, Option, length, ap, subst, sym, arith}
use Rattle.currency_base.specs.declared.ids.RelId.{RelId}
use Rattle.currency_base.specs.declared.value.Value.{Value}
use Rattle.log_checker.specs.Accepted.{IsAccepted}
use Rattle.log_trim.specs.Trimmed.{AreInPlace, IsTrimmed}
use Rattle.log_trim.specs.declared.trimming.Trimmed.{Trimmed}
use Rattle.order_literals.specs.Numbers.{numbers_of}
use Rattle.order_literals.specs.Statements.{statements_of}
use Rattle.order_literals.specs.declared.wanted.Wanted.{Wanted}
use Rattle.order_search.specs.Searches.{IsSearch, Search}
use Rattle.query_model.specs.declared.query.Query.{Query}
use Rattle.refutation_log.specs.Counted.{counted_steps}
use Rattle.report_verify.specs.Asked.{query_of}
use Rattle.search_logs.specs.Laws.{LogsAreAccepted, TrimmedAreAmong, TrimmedAreNoMore, TrimmedAreReached, TrimmedAreRight, TrimmedAreUsed}
use Rattle.search_logs.specs.SearchLogs.{HasFewSteps, variables}
use Rattle.spec_model.specs.declared.question.Question.{Question}
use Rattle.currency_ask.specs.Answered.{AreAmong, AreNumberedAnswers, IsNeeded, currents_of, variables_of, wanted_of}
use Rattle.currency_ask.specs.Reported.{IsSearchFor}

-- what is numbered in a search for a question
pub wanted_is : (q : Question) (seen : Search) → IsSearch seen → IsSearchFor q seen → seen.wanted ≡ wanted_of q
    (length seen.posed.answers)
wanted_is q seen is for_it =
    let first : seen.wanted ≡ record { currents = currents_of q; answers = seen.wanted.answers } =
    ap (λ (x : List RelId). let w : Wanted = record { currents = x; answers = seen.wanted.answers } in w) for_it.currents in
    let second : ◌≡◌ {A = Wanted} (record { currents = currents_of q; answers = seen.wanted.answers })
    (wanted_of q (length seen.posed.answers)) =
    ap (λ (x : ℕ). let w : Wanted = record { currents = currents_of q; answers = x } in w) is.log.as_many in
    first ∙ second

-- the statements of its log are the variables of the question
pub statements_are : (q : Question) (seen : Search) → IsSearch seen → IsSearchFor q seen
    → seen.log.statements ≡ variables_of seen.spec q (length seen.log.answers)
statements_are q seen is for_it =
    is.log.statements ∙ ap (λ (w : Wanted). statements_of (numbers_of seen.spec.relations w)) (wanted_is q seen is for_it)
    ∙ ap (λ (xs : List (List Value)). variables_of seen.spec q (length xs)) (sym is.log.answers)

-- its answers are those that are numbered
pub answers_are : (q : Question) (seen : Search) → IsSearch seen → IsSearchFor q seen → AreNumberedAnswers seen.spec
    q seen.log.answers
answers_are q seen is for_it = subst (AreNumberedAnswers seen.spec q) (sym is.log.answers) for_it.answers

-- the statements of what it is trimmed to are among them, and its answers among those
pub among_of : TrimmedAreAmong → TrimmedAreNoMore → (q : Question) (seen : Search) (goals : List ℕ) (trimmed : Trimmed)
    → IsSearch seen → IsSearchFor q seen
    → HasFewSteps seen.log → IsTrimmed seen.log goals trimmed → AreAmong seen.spec q trimmed.log
among_of law no_more q seen goals trimmed is for_it few t = record {
  answers = seen.posed.answers;
  numbered = for_it.answers;
  each = subst (λ (w : Wanted). All (Contains (variables seen.spec w)) trimmed.log.statements) (wanted_is q seen is for_it)
      (law seen.spec seen.posed seen.wanted seen.log goals trimmed is.within is.log few t);
  candidates = subst (λ (xs : List (List Value)). All (Contains xs) trimmed.log.answers) is.log.answers
      (no_more seen.log goals trimmed t).answers;
}

-- what it is trimmed to is what the goals need
pub needed_of : TrimmedAreReached → TrimmedAreUsed → TrimmedAreNoMore → TrimmedAreRight → (budget : ℕ) (seen : Search)
    (goals : List ℕ) (trimmed : Trimmed) → IsSearch seen → AreInPlace seen.log goals → IsTrimmed seen.log goals trimmed
    → counted_steps seen.log.steps ≤ budget → IsNeeded seen.spec budget trimmed.log trimmed.goals
needed_of reached used no_more right budget seen goals trimmed is in_place t within = record {
  reached = reached seen.log goals trimmed in_place t;
  statements = (used seen.log goals trimmed t).statements;
  answers = (used seen.log goals trimmed t).answers;
  counted = let less = (no_more seen.log goals trimmed t).counted in omega (arith, less, within);
  right = right seen.spec seen.posed seen.wanted seen.log goals trimmed is.log t;
}

-- the log is accepted where the question is asked
pub accepted_for : LogsAreAccepted → (q : Question) (seen : Search) → IsSearch seen → IsSearchFor q seen
    → IsAccepted seen.spec (query_of q) seen.log
accepted_for law q seen is for_it =
    subst (λ (o : Option Query). IsAccepted seen.spec o seen.log) for_it.query
    (law seen.spec seen.posed seen.wanted seen.log is.within is.log)
