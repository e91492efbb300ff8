-- The report of a search that took the whole budget.
use Rattle.std.proofs.Common.{◌≡◌, ◌∙◌, ◌<◌, ◌≤◌, ◌^◌, ℕ, List, [], All, Contains, None, length, refl, sym, ap, subst, inl, inr, arith}
use Rattle.std.proofs.lemmas.List.Elements.{All-nil, Contains-append_left}
use Rattle.currency_base.specs.declared.value.Value.{Value}
use Rattle.axiom_agreement.specs.Agreement.{AxiomsAreWhole, HasAxioms}
use Rattle.refutation_log.specs.Numbered.{IsNumbered}
use Rattle.log_form.specs.Form.{first_fault}
use Rattle.refutation_log.specs.Writable.{IsWritable}
use Rattle.order_literals.specs.Enough.{IsEnough, variables_of as variables_in}
use Rattle.order_literals.specs.declared.wanted.Wanted.{Wanted}
use Rattle.order_search.specs.Searches.{BeginsWithAxioms, IsSearch, Search}
use Rattle.refutation_log.specs.Counted.{AreWithin, CountedAreNew, counted_steps}
use Rattle.refutation_log.specs.declared.log.Log.{Log}
use Rattle.refutation_log.specs.declared.statement.Statement.{Statement}
use Rattle.refutation_log.specs.declared.step.Step.{Step}
use Rattle.refutation_log.specs.declared.step.Step.TheVariants as step
use Rattle.report_model.specs.declared.verdict.Verdict.TheVariants.{Undecided}
use Rattle.report_model.specs.Writable.{AllCover, IsWritableCompletion}
use Rattle.search_logs.specs.Laws.{LogsAreAccepted, LogsAreInPlace, LogsAreWritable, SearchLogsAreRight}
use Rattle.search_logs.specs.SearchLogs.{HasFewSteps, variables}
use Rattle.spec_model.specs.Completion.{Rankings}
use Rattle.spec_model.specs.Consistent.{IsConsistent}
use Rattle.spec_model.specs.Facts.{IsSpecification}
use Rattle.spec_model.specs.Spec.{Spec}
use Rattle.spec_model.specs.declared.question.Question.{Question}
use Rattle.currency_ask.specs.Answered.{AreNumberedAnswers, CountsAnswers, IsCutOff, currents_of, wanted_of}
use Rattle.currency_ask.specs.Reported.{HasSpent, IsReported, IsSearchFor}
use Rattle.currency_ask.proofs.NoCompletions.{few_none}
use Rattle.currency_ask.proofs.Wants.{accepted_for, answers_are, statements_are, wanted_is}

-- the laws of search logs, of the axioms with which they begin, and of the number of counted steps
pub record SpentLaws : Type 0 where
  pub accepted : LogsAreAccepted
  pub in_place : LogsAreInPlace
  pub writable : LogsAreWritable
  pub right : SearchLogsAreRight
  pub whole : AxiomsAreWhole
  pub few_counted : (statements : ℕ) (steps : List Step) → AreWithin statements steps → CountedAreNew steps
      → counted_steps steps < 3 ^ statements

-- the log has the axioms that it begins with
axioms_stay : AxiomsAreWhole → (s : Spec) (wanted : Wanted) (steps : List Step) → IsSpecification s
    → BeginsWithAxioms s wanted steps → HasAxioms s steps
axioms_stay law s wanted steps facts begins posed l clause of is =
    let first = law s wanted.currents (variables s wanted) begins.axioms facts begins.are_axioms posed l clause of is in (
      first.0,
      subst (λ (all : List Step). Contains all (step.Axiom l first.0)) (sym begins.steps_are)
          (Contains-append_left begins.axioms begins.later (step.Axiom l first.0) first.1),
    )

-- a budget that decides the question is not spent: its variables are those with no answer, or with the answers over a
-- consistent completion
not_enough : SpentLaws → (seen : Search) (q : Question) (budget : ℕ) (count : Rankings → ℕ) → IsSearchFor q seen
    → IsSearch seen → HasFewSteps seen.log
    → HasSpent seen budget → CountsAnswers seen.spec q count → IsEnough seen.spec (currents_of q) count budget → ⊥
not_enough laws seen q budget count for_it is few spent counts enough = of (answers_are q seen is for_it)
  where
    less : counted_steps seen.log.steps < 3 ^ length seen.log.statements
    less =
        let numbered : IsNumbered seen.log.statements seen.log.steps =
        (laws.in_place seen.spec seen.posed seen.wanted seen.log [] is.within is.log few
        (All-nil (λ goal. goal < length seen.log.steps))).0 in
        laws.few_counted (length seen.log.statements) seen.log.steps numbered.within is.counted_new

    power : 3 ^ length seen.log.statements ≡ 3 ^ variables_in seen.spec (currents_of q) (length seen.log.answers)
    power = ap (λ (statements : List Statement). 3 ^ length statements) (statements_are q seen is for_it)

    with_so_many : (n : ℕ) → length seen.log.answers ≡ n → 3 ^ variables_in seen.spec (currents_of q) n ≤ budget → ⊥
    with_so_many n many bound =
        let same = power ∙ ap (λ (k : ℕ). 3 ^ variables_in seen.spec (currents_of q) k) many in
        omega (arith, less, same, spent.counted, bound)

    of : AreNumberedAnswers seen.spec q seen.log.answers → ⊥
    of (inl none) = with_so_many 0 (ap (λ (xs : List (List Value)). length xs) none) enough.without
    of (inr some) =
        let over = some.2 in
        with_so_many (length seen.log.answers) refl
        (subst (λ (n : ℕ). 3 ^ variables_in seen.spec (currents_of q) n ≤ budget)
        (counts some.0 over.completion seen.log.answers some.1 over.consistent over.are)
        (enough.over_each over.completion over.consistent))

pub spent_reported : SpentLaws → (seen : Search) (q : Question) (budget : ℕ) (log : Log)
    (completions : List Rankings) → budget < 2 ^ 64
    → IsSearchFor q seen → IsSearch seen
    → HasFewSteps seen.log → HasSpent seen budget → log ≡ seen.log → completions ≡ []
    → IsReported seen.spec q budget (record { verdict = Undecided budget; completions = completions; log = log })
spent_reported laws seen q budget log completions fits for_it is few spent same none =
    subst (λ (l : Log). IsReported seen.spec q budget
    (record { verdict = Undecided budget; completions = completions; log = l })) (sym same) record {
      shown = record {
        sound = record {
          one_of = tt;
          consistent = subst (All (IsConsistent seen.spec)) (sym none) (All-nil (IsConsistent seen.spec));
          accepted = accepted_for laws.accepted q seen is for_it;
        };
        supported = spent.counted;
      };
      writable = record {
        verdict = fits;
        completions = few_none (IsWritableCompletion seen.spec.relations) completions none;
        cover = subst AllCover (sym none) tt;
        log = written.0;
        well_formed = written.1;
      };
      lists = (none, refl, cut_off);
      enough = λ count counts enough. absurd (not_enough laws seen q budget count for_it is few spent counts enough);
      first = tt;
    }
  where
    written : IsWritable seen.log × (first_fault seen.spec.relations seen.log ≡ None)
    written = laws.writable seen.spec seen.posed seen.wanted seen.log is.within is.log few

    wanted_now : seen.wanted ≡ wanted_of q (length seen.log.answers)
    wanted_now = wanted_is q seen is for_it
        ∙ ap (λ (xs : List (List Value)). wanted_of q (length xs)) (sym is.log.answers)

    cut_off : IsCutOff seen.spec q budget seen.log
    cut_off = record {
      counted = spent.counted;
      counted_new = is.counted_new;
      right = laws.right seen.spec seen.posed seen.wanted seen.log is.log;
      open_log = spent.open_log;
      begins = subst (λ (w : Wanted). BeginsWithAxioms seen.spec w seen.log.steps) wanted_now is.begins;
      axioms = axioms_stay laws.whole seen.spec seen.wanted seen.log.steps is.within.specification is.begins;
      answers = answers_are q seen is for_it;
      statements = statements_are q seen is for_it;
    }
