-- What a report that answers a question has besides that it shows its verdict.
use Rattle.std.specs.Prelude.{◌≡◌, ◌≢◌, ◌⊎◌, ◌<◌, ◌≤◌, ℕ, true, List, [], ◌∷◌, All, Contains, Some, length, slice_get, take}
use Rattle.certain_answers.specs.Deciding.{relations_of}
use Rattle.currency_base.specs.declared.ids.AttrId.{AttrId}
use Rattle.currency_base.specs.declared.ids.EntId.{EntId}
use Rattle.currency_base.specs.declared.ids.RelId.{RelId}
use Rattle.currency_base.specs.declared.ids.RowId.{RowId}
use Rattle.currency_base.specs.declared.lit.Lit.{Lit}
use Rattle.currency_base.specs.declared.value.Value.{Value}
use Rattle.denial_rules.specs.Instances.{field_value}
use Rattle.partial_orders.specs.Pairs.{entity_of}
use Rattle.query_model.specs.declared.query.Query.{Query}
use Rattle.spec_model.specs.Completion.{Rankings}
use Rattle.spec_model.specs.Consistent.{IsConsistent}
use Rattle.spec_model.specs.Spec.{Spec}
use Rattle.spec_model.specs.declared.question.Asked.{Asked}
use Rattle.spec_model.specs.declared.question.Question.{Question}
use Rattle.spec_model.specs.declared.question.Question.TheVariants as asked
use Rattle.spec_model.specs.declared.relation.Relation.{Relation}
use Rattle.refutation_log.specs.Counted.{CountedAreNew, IsOpenLog, counted_steps}
use Rattle.refutation_log.specs.Steps.{clauses_of}
use Rattle.refutation_log.specs.declared.log.Log.{Log}
use Rattle.refutation_log.specs.declared.statement.Statement.{Statement}
use Rattle.log_axioms.specs.Axioms.{answer, before, last, lit_says}
use Rattle.log_trim.specs.Trimmed.{IsUsedAnswer, IsUsedVar, Reaches}
use Rattle.order_literals.specs.Enough.{IsEnough}
use Rattle.order_literals.specs.Numbers.{numbers_of}
use Rattle.order_literals.specs.Statements.{statements_of}
use Rattle.order_literals.specs.declared.wanted.Wanted.{Wanted}
use Rattle.order_search.specs.Searches.{BeginsWithAxioms}
use Rattle.report_model.specs.Verdicts.{is_decided, kind_of}
use Rattle.report_model.specs.declared.report.Report.{Report}
use Rattle.report_model.specs.declared.verdict.Verdict.{Verdict}
use Rattle.report_model.specs.declared.verdict.Verdict.TheVariants.{Inconsistent, Consistent, Certain, NotCertain, Same, NotSame, Answers, Undecided}
use Rattle.answer_candidates.specs.Candidates.{AreAnswersIn, EachRefutes, IsTooMany}
use Rattle.report_verify.specs.Asked.{query_of}
use Rattle.report_verify.specs.Right.{EachConsistent, PairHolds}
use Rattle.report_verify.specs.Supported.{Claim, Need, needs_of}
use Rattle.report_verify.specs.Supported.Claim.{Holds, HasValue, HasAnswer}
use Rattle.axiom_agreement.specs.Agreement.{HasAxioms}
use Rattle.search_logs.specs.Right.{AreStepsRight}

-- ---- the variables of a question

-- the relations whose current tuples a question asks about
abbrev pub currents_of : Question → List RelId
currents_of asked.Consistent = []
currents_of (asked.Certain pairs) = []
currents_of (asked.Same rels) = rels
currents_of (asked.Answers query) = relations_of query

-- what is numbered for a question beside the pairs of rows, with so many answers
abbrev pub wanted_of : Question → ℕ → Wanted
wanted_of q answers = record { currents = currents_of q; answers = answers }

-- the variables of a question, by what they say
abbrev pub variables_of : Spec → Question → ℕ → List Statement
variables_of s q answers = statements_of (numbers_of s.relations (wanted_of q answers))

-- exactly the answers of a query over the current instance of some consistent completion, ascending
pub record AreAnswersOverSome (s : Spec) (query : Query) (tuples : List (List Value)) : Type 0 where
  pub completion : Rankings
  pub consistent : IsConsistent s completion
  pub are : AreAnswersIn s.relations query completion tuples

-- the tuples whose being answers is numbered: none, or those of a query over some consistent completion
abbrev pub AreNumberedAnswers : Spec → Question → List (List Value) → Type 0
AreNumberedAnswers s q tuples = (tuples ≡ []) ⊎ ((query : Query) × (query_of q ≡ Some query) × AreAnswersOverSome s query tuples)

-- ---- logs

-- the log of a search that is cut off: so many counted steps, each new, and no others than those that may be are not counted; no
-- hint is idle; it is open; it begins with exactly the axioms of given pairs, rules and copy functions and those on the current
-- values that are asked for, none of which is counted, so it has every axiom of a given pair, a rule and a copy function; and its
-- statements are the variables of the question
pub record IsCutOff (s : Spec) (q : Question) (budget : ℕ) (log : Log) : Type 0 where
  pub counted : counted_steps log.steps ≡ budget
  pub counted_new : CountedAreNew log.steps
  pub right : AreStepsRight s log
  pub open_log : IsOpenLog log.steps
  pub begins : BeginsWithAxioms s (wanted_of q (length log.answers)) log.steps
  pub axioms : HasAxioms s log.steps
  pub answers : AreNumberedAnswers s q log.answers
  pub statements : log.statements ≡ variables_of s q (length log.answers)

-- the statements of a log are among the variables of the question, and its answers among those that are numbered
pub record AreAmong (s : Spec) (q : Question) (log : Log) : Type 0 where
  pub answers : List (List Value)
  pub numbered : AreNumberedAnswers s q answers
  pub each : All (Contains (variables_of s q (length answers))) log.statements
  pub candidates : All (Contains answers) log.answers

-- a log is what some of its steps, the goals, need: each step is reached from these by hints, each statement is that of a literal
-- of such a step, and each answer is named by such a statement; no more steps are counted than the budget has units, no others
-- than those that may be are not counted, and no hint is idle
pub record IsNeeded (s : Spec) (budget : ℕ) (log : Log) (goals : List ℕ) : Type 0 where
  pub reached : (place : ℕ) → place < length log.steps → Reaches log.steps goals place
  pub statements : (var : ℕ) → var < length log.statements → IsUsedVar log.steps goals var
  pub answers : (tuple : ℕ) → tuple < length log.answers → IsUsedAnswer log goals tuple
  pub counted : counted_steps log.steps ≤ budget
  pub right : AreStepsRight s log

-- a log is what one step needs, which is the empty clause
pub record IsOfEmpty (s : Spec) (q : Question) (budget : ℕ) (log : Log) : Type 0 where
  pub goal : ℕ
  pub is_empty : slice_get (clauses_of log.steps) goal ≡ Some []
  pub needed : IsNeeded s budget log (goal ∷ [])
  pub among : AreAmong s q log

-- a literal says that a value is the current one of an entity, which is named by a row of it with the value
pub record SaysValue (s : Spec) (log : Log) (lit : Lit) (rel : RelId) (attr : AttrId) (ent : EntId) (value : Value) : Type 0 where
  pub relation : Relation
  pub row : RowId
  pub is_relation : slice_get s.relations rel.0 ≡ Some relation
  pub of_entity : entity_of relation.rows row.0 ≡ Some ent.0
  pub of_value : field_value relation.rows (Some row) attr.0 ≡ Some value
  pub says : lit_says s.relations log.statements (last rel attr row) lit ≡ true

-- a literal says that a tuple is an answer, by a place of the log's answers
pub record SaysAnswer (s : Spec) (log : Log) (lit : Lit) (tuple : List Value) : Type 0 where
  pub place : ℕ
  pub is_tuple : slice_get log.answers place ≡ Some tuple
  pub says : lit_says s.relations log.statements (answer place) lit ≡ true

-- a literal says what is claimed
abbrev pub SaysClaim : Spec → Log → Lit → Claim → Type 0
SaysClaim s log lit (Holds p) = lit_says s.relations log.statements
    (before p.rel p.pair.attr p.pair.earlier p.pair.later) lit ≡ true
SaysClaim s log lit (HasValue rel attr ent v) = SaysValue s log lit rel attr ent v
SaysClaim s log lit (HasAnswer tuple) = SaysAnswer s log lit tuple

-- a step is the unit of a claim
pub record IsUnitOf (s : Spec) (log : Log) (claim : Claim) (goal : ℕ) : Type 0 where
  pub lit : Lit
  pub is_unit : slice_get (clauses_of log.steps) goal ≡ Some (lit ∷ [])
  pub says : SaysClaim s log lit claim

-- a log is what the units of a verdict's claims need: one step for each claim, in their order
pub record IsOfClaims (s : Spec) (q : Question) (budget : ℕ) (v : Verdict) (log : Log) : Type 0 where
  pub goals : List ℕ
  pub one_each : length goals ≡ length (needs_of q v)
  pub units : (k : ℕ) (need : Need) (goal : ℕ) → slice_get (needs_of q v) k ≡ Some need → slice_get goals k ≡ Some goal
      → IsUnitOf s log need.claim goal
  pub needed : IsNeeded s budget log goals
  pub among : AreAmong s q log

-- a log with nothing in it
pub record HasNothing (log : Log) : Type 0 where
  pub statements : log.statements ≡ []
  pub steps : log.steps ≡ []

-- ---- answers

-- of the query that is asked, each completion after the first lacks an answer that all before it have in common
abbrev pub EachLacksOne : Spec → Question → List Rankings → Type 0
EachLacksOne s q completions = (query : Query) → query_of q ≡ Some query → EachRefutes s.relations query completions

-- what a report that answers a question lists and derives, within a budget: what a claim of some completion asks for, and no log;
-- or one completion (of certain answers some, each of which is needed), and what the units of the claims need; or no completion,
-- and what the empty clause needs; or no completion, and the log of a search that took the whole budget
abbrev pub IsAnswerWithin : Spec → Question → ℕ → Report → Type 0
IsAnswerWithin s q budget r = by r.verdict
  where
    by : Verdict → Type 0
    by Inconsistent = (r.completions ≡ []) × IsOfEmpty s q budget r.log
    by Consistent = (length r.completions ≡ 1) × HasNothing r.log
    by Certain = (length r.completions ≡ 1) × IsOfClaims s q budget r.verdict r.log
    by (NotCertain p) = (length r.completions ≡ 1) × HasNothing r.log
    by (Same items) = (length r.completions ≡ 1) × IsOfClaims s q budget r.verdict r.log
    by (NotSame rel attr ent) = (length r.completions ≡ 2) × HasNothing r.log
    by (Answers tuples) = (r.completions ≢ []) × EachLacksOne s q r.completions × IsOfClaims s q budget r.verdict r.log
    by (Undecided counted) = (r.completions ≡ []) × (counted ≡ budget) × IsCutOff s q budget r.log

-- for each consistent completion it is told how many answers a question has over it; of a question that is no query, none
abbrev pub CountsAnswers : Spec → Question → (Rankings → ℕ) → Type 0
CountsAnswers s q count = (query : Query) (c : Rankings) (tuples : List (List Value)) → query_of q ≡ Some query → IsConsistent s c
    → AreAnswersIn s.relations query c tuples → count c ≡ length tuples

-- a budget that is at least three to the number of variables of the question decides it
abbrev pub IsDecidedBy : Spec → Question → ℕ → Report → Type 0
IsDecidedBy s q budget r =
    (count : Rankings → ℕ) → CountsAnswers s q count → IsEnough s (currents_of q) count budget → is_decided
    (kind_of r.verdict) ≡ true

-- ---- too many answers

-- the query has more answers than are gone through over a consistent completion
pub record HasTooMany (s : Spec) (q : Question) (c : Rankings) : Type 0 where
  pub query : Query
  pub is_query : query_of q ≡ Some query
  pub consistent : IsConsistent s c
  pub too_many : IsTooMany s.relations query 1000000 c

-- ---- which pair is named

-- a pair is asked at a place, and each pair that is asked before it holds in every consistent completion
pub record IsFirstToFail (s : Spec) (pairs : List Asked) (p : Asked) : Type 0 where
  pub place : ℕ
  pub is_pair : slice_get pairs place ≡ Some p
  pub others_hold : All (λ other. EachConsistent s (PairHolds other)) (take place pairs)

-- the same for the pairs of a question, if it asks about pairs
abbrev pub IsFirstOf : Spec → Question → Asked → Type 0
IsFirstOf s (asked.Certain pairs) p = IsFirstToFail s pairs p
IsFirstOf s q p = Unit {0}

-- the pair that `not certain` names is the first asked one that fails in some consistent completion
abbrev pub NamesFirst : Spec → Question → Verdict → Type 0
NamesFirst s q (NotCertain p) = IsFirstOf s q p
NamesFirst s q v = Unit {0}
