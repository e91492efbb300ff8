-- What `possible` comes to, stage by stage.
use Rattle.std.proofs.Common.{◌≡◌, ◌∙◌, ℕ, false, List, All, Contains, Option, Some, None, IfOk, IfSome, Result, Ok, Err, ap}
use Rattle.std.proofs.Common.{arith, inr, slice_get, subst, sym}
use Rattle.std.specs.Prelude.{map}
use Rattle.std.proofs.lemmas.List.Elements.{All-map}
use Rattle.std.proofs.lemmas.Option.{get_or_from_slice_get, same_Some, slice_get_within}
use Rattle.bound_spec.specs.Growth.{IsWithinLimits}
use Rattle.command_stages.specs.Named.{IsDetermined}
use Rattle.command_stages.specs.Stages.{IsSpecRead, IsQuestionRead}
use Rattle.command_stages.specs.declared.done.Done.{Done}
use Rattle.command_stages.specs.declared.trouble.Trouble.{Trouble}
use Rattle.currency_base.specs.declared.memory.NoMemory.{NoMemory}
use Rattle.decided_facts.specs.Decided.{IsSpent}
use Rattle.match_premises.specs.declared.premise.Premise.{Premise}
use Rattle.posed_facts.specs.Facts.{IsPlaced}
use Rattle.posed_facts.specs.Questions.{fact_question}
use Rattle.posed_facts.specs.declared.fact.Fact.{Fact}
use Rattle.possible_values.specs.Candidates.{AreCandidates}
use Rattle.possible_values.specs.Possible.{AreFindings, IsPossible}
use Rattle.possible_values.specs.declared.candidates.Candidate.{Candidate}
use Rattle.possible_values.specs.declared.candidates.Candidate.TheVariants as candidate
use Rattle.possible_values.specs.declared.found.Found.{Found}
use Rattle.possible_values.specs.declared.found.Posed.TheVariants as posed
use Rattle.possible_values.specs.declared.found.Possible.{Possible}
use Rattle.possible_values.specs.declared.found.Possible.TheVariants as possible
use Rattle.program_words.specs.Words.{PossibleSaid}
use Rattle.query_model.specs.declared.query.Match.{Match}
use Rattle.report_model.specs.declared.report.Report.{Report}
use Rattle.search_logs.specs.Laws.{CompletionsAreWritable}
use Rattle.search_logs.specs.SearchLogs.{IsWithin}
use Rattle.spec_model.specs.Facts.{IsSpecification}
use Rattle.spec_model.specs.Questions.{IsQuestionOn}
use Rattle.spec_model.specs.Spec.{Spec}
use Rattle.spec_model.specs.declared.question.Asked.{Asked}
use Rattle.spec_model.specs.declared.question.Question.{Question}
use Rattle.spec_model.specs.declared.question.Question.TheVariants as asked
use Rattle.spec_model.specs.declared.relation.Relation.{Relation}
use Rattle.possible_command.specs.Possible.{ArePrinted, ComesOf, IsPossibleDue, IsPossibleOf, IsPossiblePrinted}
use Rattle.possible_command.specs.Text.{undecided, undecided_text}
use Rattle.possible_command.specs.Findings.{IsLeftAt, IsNamed, IsWritableFound, IsWritablePossible}

contains_at : {A : Type 0} (xs : List A) (k : ℕ) (x : A) → slice_get xs k ≡ Some x → Contains xs x
contains_at xs k x at = (k, slice_get_within xs k x at, get_or_from_slice_get xs k x x at)

-- no limit is exceeded, as the search says it
pub is_within : (s : Spec) → IsSpecification s → IsWithinLimits s → IsWithin s
is_within s specification within = record {
  specification = specification;
  parts = within.parts;
  variables_few = within.variables;
  instances_few = within.instances;
}

-- ---- what is found can be told

all_values : (relations : List Relation) (claims : List Premise) → All (IsPlaced relations) claims
    → All (IsNamed relations) (map (λ p. candidate.Value p) claims)
all_values relations claims placed = All-map (IsNamed relations) (λ (p : Premise). candidate.Value p) claims placed

all_matches : (relations : List Relation) (matches : List Match) → All (IsNamed relations) (map (λ m. candidate.Match m) matches)
all_matches relations matches = All-map (IsNamed relations) (λ (m : Match). candidate.Match m) matches (λ k d inside. tt)

-- what the candidates of a question speak of has names
all_named : (relations : List Relation) (q : Question) (list : List Candidate) → IsQuestionOn relations q
    → AreCandidates relations q list → All (IsNamed relations) list
all_named relations asked.Consistent list on are =
    subst (All (IsNamed relations)) (sym are) (λ k d inside. absurd (omega (arith, inside)))
all_named relations (asked.Certain pairs) list on are =
    subst (All (IsNamed relations)) (sym are) (All-map (IsNamed relations) (λ (p : Asked). candidate.Pair p) pairs on)
all_named relations (asked.Same rels) list on are =
    subst (All (IsNamed relations)) (sym are.are)
    (all_values relations are.claims (λ k d inside. (are.are_claims.each k d inside).0))
all_named relations (asked.Answers query) list on are =
    subst (All (IsNamed relations)) (sym are.are) (all_matches relations are.matches)

module _ (law : CompletionsAreWritable) (s : Spec) (within : IsWithin s) (q : Question) (on : IsQuestionOn s.relations q) where
  tellable : (f : Found) → AreFindings s q f → IsWritableFound s.relations f
  tellable f is = record {
    candidates = all_named s.relations q f.candidates on is.candidates;
    facts = is.posable;
    completions = λ k d inside. law s _ within (is.consistent k d inside).completion;
    facts_per_candidate = is.facts_per_candidate;
    shown_per_candidate = is.shown_per_candidate;
  }

  pub is_writable : (budget : ℕ) (x : Possible) → IsPossible s q budget x → IsWritablePossible s x
  is_writable budget (possible.Inconsistent report) is = is.1.writable
  is_writable budget (possible.Found f) is = tellable f is
  is_writable budget (possible.Undecided p report) is = (is.1, is.2.writable)
  is_writable budget possible.TooMany is = tt

-- ---- the whole text

-- that the budget is spent on one of the facts is told
pub left_open : (s : Spec) (budget : ℕ) (f : Found) (place : ℕ) (report : Report) (fact : Fact) (outcome : Result Done NoMemory)
    → slice_get f.facts place ≡ Some fact → IsLeftAt s budget f place report
    → IfOk outcome (λ d. d ≡ undecided (undecided_text s (posed.Fact fact) report))
    → IfOk outcome (λ d. ArePrinted s false budget f (Ok d))
left_open s budget f place report fact (Ok d) at left told =
    inr (record {
      fact = fact;
      is_there = contains_at f.facts place fact at;
      report = report;
      spent = subst (λ (x : Fact). IsSpent s (fact_question s.relations x) budget report)
          (same_Some left.fact fact (sym left.is_fact ∙ at)) left.spent;
      comes = ap Ok told;
    })
left_open s budget f place report fact (Err e) at left told = tt

-- ---- what is due

-- what may hold is told
pub possible_is_printed : (s : Spec) (a : PossibleSaid) (q : Question) (x : Possible) (outcome : Result Done Trouble)
    → IsPossible s q a.budget x → (IsDetermined outcome → ComesOf s a.brief a.budget x outcome) → IsDetermined outcome
    → IsPossibleOf s a q outcome
possible_is_printed s a q x outcome is told determined = (x, is, told determined)

printed_at : (told : List (List ℕ × List ℕ)) (a : PossibleSaid) (s : Spec) (q : Question) (d : Done)
    → IsSpecRead told a.spec (Ok s) → IsQuestionRead told s.relations a.question (Ok q) → IsPossibleOf s a q (Ok d)
    → IsPossiblePrinted told a d.text d.ending
printed_at told a s q d spec question h = record {
  spec = s;
  question = q;
  spec_read = spec;
  question_read = question;
  possible = h;
}

-- the stages together
pub stages_printed : (texts : Option (List (List ℕ × List ℕ))) (a : PossibleSaid) (s : Spec) (q : Question)
    (outcome : Result Done Trouble)
    → IfSome texts (λ told. IsSpecRead told a.spec (Ok s))
    → IfSome texts (λ told. IsQuestionRead told s.relations a.question (Ok q))
    → (IsDetermined outcome → IsPossibleOf s a q outcome)
    → IfOk outcome (λ d. IfSome texts (λ told. IsPossiblePrinted told a d.text d.ending))
stages_printed None a s q (Ok d) spec question job = tt
stages_printed (Some told) a s q (Ok d) spec question job = printed_at told a s q d spec question (job tt)
stages_printed texts a s q (Err e) spec question job = tt

-- what is told is due
pub stages_due : (texts : Option (List (List ℕ × List ℕ))) (a : PossibleSaid) (s : Spec) (q : Question)
    (outcome : Result Done Trouble)
    → IfSome texts (λ told. IsSpecRead told a.spec (Ok s))
    → IfSome texts (λ told. IsQuestionRead told s.relations a.question (Ok q))
    → (IsDetermined outcome → IsPossibleOf s a q outcome) → IsDetermined outcome
    → IfSome texts (λ told. IsPossibleDue told a outcome)
stages_due None a s q outcome spec question job determined = tt
stages_due (Some told) a s q outcome spec question job determined = (Ok s, spec, (Ok q, question, job determined))
