-- What is decided of candidates for certain answers, and what comes of it.
use Rattle.std.specs.Prelude.{◌≡◌, ℕ, true, List, [], ◌∷◌, All, Some, length, map, slice_get}
use Rattle.std.specs.List.{flat_map}
use Rattle.currency_base.specs.declared.ids.RelId.{RelId}
use Rattle.currency_base.specs.declared.lit.Lit.{Lit}
use Rattle.currency_base.specs.declared.value.Value.{Value}
use Rattle.query_model.specs.Answers.{IsMatch}
use Rattle.query_model.specs.declared.query.Atom.{Atom}
use Rattle.query_model.specs.declared.query.Disjunct.{Disjunct}
use Rattle.query_model.specs.declared.query.Match.{Match}
use Rattle.query_model.specs.declared.query.Query.{Query}
use Rattle.spec_model.specs.Completion.{IsCompletion, Rankings}
use Rattle.spec_model.specs.Consistent.{IsConsistent}
use Rattle.spec_model.specs.Spec.{Spec}
use Rattle.spec_model.specs.declared.relation.Relation.{Relation}
use Rattle.answer_laws.specs.Answered.{IsAnswerIn}
use Rattle.answer_candidates.specs.Candidates.{Standing}
use Rattle.refutation_log.specs.Counted.{IsOpenLog}
use Rattle.refutation_log.specs.Steps.{clauses_of}
use Rattle.match_clauses.specs.Clauses.{SaysAnswer}
use Rattle.match_clauses.specs.Matched.{IsMatchIn, IsOfWanted}
use Rattle.order_search.specs.Searches.{Search}
use Rattle.order_search.specs.declared.outcome.Outcome.{Outcome}
use Rattle.order_search.specs.declared.outcome.Outcome.TheVariants.{Model, Proved, Empty, Spent}
use Rattle.ucq_answers.specs.Planned.{IndexedQuery}
use Rattle.certain_answers.specs.declared.decisions.Decision.{Decision}
use Rattle.certain_answers.specs.declared.decisions.Decision.TheVariants as decision
use Rattle.certain_answers.specs.declared.decisions.Decisions.{Decisions}
use Rattle.certain_answers.specs.declared.decisions.Decisions.TheVariants as decisions
use Rattle.certain_answers.specs.declared.decisions.Step.{Step}
use Rattle.certain_answers.specs.declared.decisions.Step.TheVariants as step
use Rattle.certain_answers.specs.declared.matched.Matched.{Matched}

-- the relations of a disjunct's atoms
abbrev pub relations_in : Disjunct → List RelId
relations_in d = map (λ (a : Atom). a.relation) d.atoms

-- the relations of a query's atoms
abbrev pub relations_of : Query → List RelId
relations_of query = flat_map relations_in query.disjuncts

-- a search over a specification in which a query is posed, and the current values of its atoms' relations are wanted
pub record IsSearchFor (s : Spec) (query : Query) (search : Search) : Type 0 where
  pub spec : search.spec ≡ s
  pub query_is : search.posed.query ≡ Some query
  pub currents : search.wanted.currents ≡ relations_of query

-- ---- one candidate

-- the tuple at a place of the posed answers is no answer over a consistent completion
pub record IsRefuted (search : Search) (place : ℕ) (c : Rankings) : Type 0 where
  pub consistent : IsConsistent search.spec c
  pub fails : (query : Query) (tuple : List Value) → search.posed.query ≡ Some query → slice_get search.posed.answers
      place ≡ Some tuple
      → IsAnswerIn search.spec.relations query tuple c → ⊥

-- a step of the log is the unit of a literal that says that it is an answer
pub record IsProved (search : Search) (place step : ℕ) : Type 0 where
  pub lit : Lit
  pub says : SaysAnswer search.log.statements place lit
  pub is_unit : slice_get (clauses_of search.log.steps) step ≡ Some (lit ∷ [])

-- what deciding a candidate tells, with so many units left: a consistent completion over which it is no answer; the
-- step that is its unit; the step that is the empty clause; or that no unit is left, and the log is open
abbrev pub TellsAnswer : Search → ℕ → ℕ → Outcome → Type 0
TellsAnswer search place left (Model truths c) = IsRefuted search place c
TellsAnswer search place left (Proved step) = IsProved search place step
TellsAnswer search place left (Empty step) = slice_get (clauses_of search.log.steps) step ≡ Some []
TellsAnswer search place left Spent = (left ≡ 0) × IsOpenLog search.log.steps

-- a match of the posed query over a completion, which makes the tuple at a place of the posed answers one
pub record IsMatchAt (search : Search) (c : Rankings) (m : Match) (answer : ℕ) : Type 0 where
  pub query : Query
  pub is_query : search.posed.query ≡ Some query
  pub tuple : List Value
  pub is_tuple : slice_get search.posed.answers answer ≡ Some tuple
  pub completion : IsCompletion search.spec.relations c
  pub is_match : IsMatchIn search.spec.relations c query tuple m
  pub of_wanted : IsOfWanted search.wanted.currents query m

-- something holds of each match by which a tuple is an answer
pub record EachMatch (holds : Match → Type 0) (matched : Matched) : Type 0 where
  pub first : holds matched.first
  pub others : All holds matched.others

-- ---- all candidates

-- the search came to an end: a step is the empty clause, or no unit is left, and the log is open
abbrev pub IsEnd : Search → ℕ → Outcome → Type 0
IsEnd search left (Model truths c) = ⊥
IsEnd search left (Proved step) = ⊥
IsEnd search left (Empty step) = slice_get (clauses_of search.log.steps) step ≡ Some []
IsEnd search left Spent = (left ≡ 0) × IsOpenLog search.log.steps

-- what became of the candidate at a place: it is gone, or a step is its unit
abbrev pub IsDecided : Search → Standing → ℕ → Decision → Type 0
IsDecided search standing place decision.Gone = slice_get standing.gone place ≡ Some true
IsDecided search standing place (decision.Proved step) = IsProved search place step

-- so many first candidates are decided, each as the list says at its place
pub record AreDecidedUpTo (search : Search) (standing : Standing) (count : ℕ) (decisions : List Decision) : Type 0 where
  pub as_many : length decisions ≡ count
  pub each : (place : ℕ) (decision : Decision) → slice_get decisions place ≡ Some decision
      → IsDecided search standing place decision

-- what deciding all candidates came to, with so many units left
abbrev pub TellsDecisions : Search → Standing → ℕ → Decisions → Type 0
TellsDecisions search standing left (decisions.All all) = AreDecidedUpTo search standing (length standing.tuples) all
TellsDecisions search standing left (decisions.Ended outcome) = IsEnd search left outcome

-- what is gone stays gone
abbrev pub StaysGone : Standing → Standing → Type 0
StaysGone old new = (place : ℕ) → slice_get old.gone place ≡ Some true → slice_get new.gone place ≡ Some true

-- what deciding the candidate at a place came to, with so many units left
abbrev pub TellsStep : Search → Standing → ℕ → ℕ → Step → Type 0
TellsStep search standing place left (step.Decided decision) = IsDecided search standing place decision
TellsStep search standing place left (step.Ended outcome) = IsEnd search left outcome

-- ---- matches

-- one match of each tuple over the current instance of a completion
pub record AreMatches (relations : List Relation) (query : Query) (c : Rankings) (tuples : List (List Value))
    (matches : List Match) : Type 0 where
  pub as_many : length matches ≡ length tuples
  pub each : (place : ℕ) (tuple : List Value) (m : Match) → slice_get tuples place ≡ Some tuple → slice_get matches place ≡ Some m
      → IsMatchIn relations c query tuple m

-- a match of the tuple at a place over an instance that is indexed
abbrev pub IsMatchOver : IndexedQuery → List (List Value) → ℕ → Match → Type 0
IsMatchOver indexed tuples place m = (tuple : List Value) → slice_get tuples place ≡ Some tuple
    → IsMatch indexed.query indexed.instance tuple m

-- one of each of so many first tuples
pub record AreMatchesOver (indexed : IndexedQuery) (tuples : List (List Value)) (count : ℕ) (matches : List Match) : Type 0 where
  pub as_many : length matches ≡ count
  pub each : (place : ℕ) (m : Match) → slice_get matches place ≡ Some m → IsMatchOver indexed tuples place m
