-- The report of a step that is the empty clause.
use Rattle.std.proofs.Common.{◌≡◌, ◌∙◌, ◌<◌, ◌≤◌, ℕ, List, [], ◌∷◌, All, None, Some, length, map, slice_get, refl, sym, ap, subst, arith}
use Rattle.std.proofs.lemmas.List.{length-map}
use Rattle.std.proofs.lemmas.List.Elements.{All-cons, All-nil}
use Rattle.std.proofs.lemmas.List.Folds.{list_any_at}
use Rattle.std.proofs.lemmas.Option.{get_or_from_slice_get, same_Some, slice_get_within}
use Rattle.checked_logs.specs.Trimmed.{GoalClausesKeep, TrimmedAreAccepted}
use Rattle.currency_base.specs.declared.lit.Lit.{Lit}
use Rattle.log_checker.specs.Shown.{is_empty}
use Rattle.log_form.specs.Form.{first_fault}
use Rattle.log_trim.specs.Trimmed.{AreInPlace, IsTrimmed, lits_at, rank, renumbered_lit}
use Rattle.log_trim.specs.declared.trimming.Trimmed.{Trimmed}
use Rattle.refutation_log.specs.Writable.{IsWritable}
use Rattle.order_search.specs.Searches.{IsSearch, Search}
use Rattle.refutation_log.specs.Counted.{counted_steps}
use Rattle.refutation_log.specs.Steps.{clause_of, clauses_of}
use Rattle.refutation_log.specs.declared.log.Log.{Log}
use Rattle.report_model.specs.declared.verdict.Verdict.TheVariants.{Inconsistent}
use Rattle.report_verify.specs.Asked.{query_of}
use Rattle.report_verify.specs.Supported.{HasEmpty}
use Rattle.report_model.specs.Writable.{AllCover, IsWritableCompletion}
use Rattle.search_logs.specs.Laws.{LogsAreAccepted, LogsAreInPlace, TrimmedAreAmong, TrimmedAreNoMore, TrimmedAreReached, TrimmedAreRight, TrimmedAreUsed, TrimmedAreWritable}
use Rattle.search_logs.specs.SearchLogs.{HasFewSteps}
use Rattle.spec_model.specs.Completion.{Rankings}
use Rattle.spec_model.specs.Consistent.{IsConsistent}
use Rattle.spec_model.specs.Spec.{Spec}
use Rattle.spec_model.specs.declared.question.Question.{Question}
use Rattle.currency_ask.specs.Answered.{AreAmong, IsNeeded, IsOfEmpty}
use Rattle.currency_ask.specs.Reported.{IsReported, IsSearchFor}
use Rattle.currency_ask.proofs.NoCompletions.{few_none}
use Rattle.currency_ask.proofs.Wants.{accepted_for, among_of, needed_of}

-- the laws of search logs, and of what they are trimmed to
pub record EmptyLaws : Type 0 where
  pub accepted : LogsAreAccepted
  pub in_place : LogsAreInPlace
  pub trimmed_accepted : TrimmedAreAccepted
  pub clauses : GoalClausesKeep
  pub writable : TrimmedAreWritable
  pub among : TrimmedAreAmong
  pub reached : TrimmedAreReached
  pub used : TrimmedAreUsed
  pub no_more : TrimmedAreNoMore
  pub right : TrimmedAreRight

-- the log of a search with few steps, one of which is the empty clause
pub record HasEmptyStep (seen : Search) (log : Log) (place : ℕ) : Type 0 where
  pub search_is : IsSearch seen
  pub log_is : log ≡ seen.log
  pub few : HasFewSteps seen.log
  pub empty : slice_get (clauses_of seen.log.steps) place ≡ Some []

within_steps : (log : Log) (place : ℕ) → slice_get (clauses_of log.steps) place ≡ Some []
    → All (λ goal. goal < length log.steps) (place ∷ [])
within_steps log place empty =
    let below = slice_get_within (clauses_of log.steps) place [] empty in
    let same = length-map log.steps clause_of in
    All-cons (λ goal. goal < length log.steps) place [] (omega (arith, below, same)) (All-nil (λ goal. goal < length log.steps))

-- the log can be trimmed to the step
pub can_trim : EmptyLaws → (seen : Search) (log : Log) (place : ℕ) → HasEmptyStep seen log place → AreInPlace log (place ∷ [])
can_trim laws seen log place has =
    subst (λ (l : Log). AreInPlace l (place ∷ [])) (sym has.log_is)
    (laws.in_place seen.spec seen.posed seen.wanted seen.log (place ∷ []) has.search_is.within has.search_is.log
    has.few (within_steps seen.log place has.empty)).1

-- the step's new place, where the empty clause stands in the trimmed log
clause_stays : GoalClausesKeep → (log : Log) (place : ℕ) (trimmed : Trimmed) → AreInPlace log (place ∷ []) →
    (t : IsTrimmed log (place ∷ []) trimmed)
    → slice_get (clauses_of log.steps) place ≡ Some [] → slice_get (clauses_of trimmed.log.steps)
    (rank t.step_kept place) ≡ Some []
clause_stays law log place trimmed in_place t empty =
    let kept = law log (place ∷ []) trimmed in_place t 0 place refl in
    let new : rank t.step_kept place ≡ kept.0 = same_Some (rank t.step_kept place) kept.0
    (ap (λ (goals : List ℕ). slice_get goals 0) (sym t.new_goals) ∙ kept.1) in
    let none : lits_at log.steps place ≡ [] = get_or_from_slice_get (clauses_of log.steps) place [] [] empty in
    ap (slice_get (clauses_of trimmed.log.steps)) new ∙ kept.2
    ∙ ap (λ (lits : List Lit). Some (map (renumbered_lit t.statement_kept) lits)) none

has_empty : (log : Log) (place : ℕ) → slice_get (clauses_of log.steps) place ≡ Some [] → HasEmpty log
has_empty log place empty =
    list_any_at is_empty (clauses_of log.steps) place [] (slice_get_within (clauses_of log.steps) place [] empty)
    (ap is_empty (get_or_from_slice_get (clauses_of log.steps) place [] [] empty))

is_of_empty : (s : Spec) (q : Question) (budget : ℕ) (log : Log) (place : ℕ) (trimmed : Trimmed)
    → (t : IsTrimmed log (place ∷ []) trimmed) → slice_get (clauses_of trimmed.log.steps) (rank t.step_kept place) ≡
    Some [] → IsNeeded s budget trimmed.log trimmed.goals → AreAmong s q trimmed.log
    → IsOfEmpty s q budget trimmed.log
is_of_empty s q budget log place trimmed t empty needed among = record {
  goal = rank t.step_kept place;
  is_empty = empty;
  needed = subst (IsNeeded s budget trimmed.log) t.new_goals needed;
  among = among;
}

-- ---- the report

trimmed_reported : EmptyLaws → (seen : Search) (place : ℕ) (trimmed : Trimmed) (q : Question) (budget : ℕ)
    (completions : List Rankings) → IsSearchFor q seen
    → counted_steps seen.log.steps ≤ budget
    → IsSearch seen → HasFewSteps seen.log → slice_get (clauses_of seen.log.steps) place ≡ Some []
    → AreInPlace seen.log (place ∷ [])
    → IsTrimmed seen.log (place ∷ []) trimmed → completions ≡ []
    → IsReported seen.spec q budget (record { verdict = Inconsistent; completions = completions; log = trimmed.log })
trimmed_reported laws seen place trimmed q budget completions for_it within is few empty in_place t none = record {
  shown = record {
    sound = record {
      one_of = tt;
      consistent = subst (All (IsConsistent seen.spec)) (sym none) (All-nil (IsConsistent seen.spec));
      accepted = laws.trimmed_accepted seen.spec (query_of q) seen.log (place ∷ []) trimmed in_place
          (accepted_for laws.accepted q seen is for_it) t;
    };
    supported = has_empty trimmed.log (rank t.step_kept place) stays;
  };
  writable = record {
    verdict = tt;
    completions = few_none (IsWritableCompletion seen.spec.relations) completions none;
    cover = subst AllCover (sym none) tt;
    log = written.0;
    well_formed = written.1;
  };
  lists = (
    none,
    is_of_empty seen.spec q budget seen.log place trimmed t stays
        (needed_of laws.reached laws.used laws.no_more laws.right budget seen (place ∷ []) trimmed is in_place t within)
        (among_of laws.among laws.no_more q seen (place ∷ []) trimmed is for_it few t),
  );
  enough = λ count counts enough. refl;
  first = tt;
}
  where
    stays : slice_get (clauses_of trimmed.log.steps) (rank t.step_kept place) ≡ Some []
    stays = clause_stays laws.clauses seen.log place trimmed in_place t empty

    written : IsWritable trimmed.log × (first_fault seen.spec.relations trimmed.log ≡ None)
    written = laws.writable seen.spec seen.posed seen.wanted seen.log (place ∷ []) trimmed is.within is.log few
        (within_steps seen.log place empty) t

pub empty_reported : EmptyLaws → (seen : Search) (log : Log) (place : ℕ) (trimmed : Trimmed) (q : Question)
    (budget : ℕ) (completions : List Rankings)
    → IsSearchFor q seen → counted_steps seen.log.steps ≤ budget → HasEmptyStep seen log place
    → IsTrimmed log (place ∷ []) trimmed → completions ≡ []
    → IsReported seen.spec q budget (record { verdict = Inconsistent; completions = completions; log = trimmed.log })
empty_reported laws seen log place trimmed q budget completions for_it within has t none =
    trimmed_reported laws seen place trimmed q budget completions for_it within has.search_is has.few has.empty
    (subst (λ (l : Log). AreInPlace l (place ∷ [])) has.log_is (can_trim laws seen log place has))
    (subst (λ (l : Log). IsTrimmed l (place ∷ []) trimmed) has.log_is t) none
