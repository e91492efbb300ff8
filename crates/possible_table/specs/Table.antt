-- What is due where the possible answers of a query are asked for as a table, and what is told.
use Rattle.std.specs.Prelude.{◌≡◌, ◌⊎◌, ℕ, List, Result, Ok, Err, false, true}
use Rattle.answer_tables.specs.Asked.{IsQueryRead, IsTableDue}
use Rattle.command_stages.specs.declared.done.Done.{Done}
use Rattle.command_stages.specs.declared.done.Ending.{Ending}
use Rattle.command_stages.specs.declared.done.Ending.TheVariants as ending
use Rattle.command_stages.specs.declared.trouble.Trouble.{Trouble}
use Rattle.command_stages.specs.declared.trouble.Trouble.TheVariants as trouble
use Rattle.possible_values.specs.Possible.{HasTooMany}
use Rattle.currency_base.specs.declared.value.Value.{Value}
use Rattle.possible_values.specs.Possible.{IsSpent}
use Rattle.possible_answers.specs.Answers.{ArePossibleAnswers}
pub use Rattle.possible_values.specs.Candidates.{HasTooManyCandidates}
use Rattle.possible_values.specs.Possible.{HasFewCandidates, IsPosed, posed_question}
use Rattle.possible_values.specs.declared.found.Posed.{Posed}
use Rattle.program_words.specs.Words.{TableSaid}
use Rattle.query_model.specs.declared.query.Query.{Query}
use Rattle.query_syntax.specs.declared.trees.QueryTree.{QueryTree}
use Rattle.report_model.specs.Verdicts.{is_decided, kind_of}
use Rattle.report_model.specs.declared.report.Report.{Report}
use Rattle.report_model.specs.declared.verdict.Verdict.TheVariants as verdict
use Rattle.report_verify.specs.Right.{AreCertainAnswers}
use Rattle.spec_model.specs.Completion.{Rankings}
use Rattle.spec_model.specs.Consistent.{IsSatisfiable}
use Rattle.spec_model.specs.Spec.{Spec}
use Rattle.spec_model.specs.declared.question.Question.{Question}
use Rattle.spec_model.specs.declared.question.Question.TheVariants as asked
use Rattle.answer_texts.specs.Answers.{IsAnswer, answer_text}
use Rattle.possible_table.specs.Text.{possible_text, undecided_text}

-- ---- what the job comes to

-- a table: exactly the tuples that are answers over the current instance of some consistent completion, ascending, each with
-- whether it is one over that of every consistent completion, of which there is one
pub record IsPossibleTable (s : Spec) (q : Question) (query : QueryTree) (outcome : Result Done Trouble) : Type 0 where
  pub bound : Query
  pub is_bound : q ≡ asked.Answers bound
  pub satisfiable : IsSatisfiable s
  pub tuples : List (List Value)
  pub possible : ArePossibleAnswers s bound tuples
  pub certain : List (List Value)
  pub are_certain : AreCertainAnswers s bound certain
  pub comes : outcome ≡ Ok (record { text = possible_text query certain tuples; ending = ending.Tabled })

-- there is no consistent completion
pub record IsBare (s : Spec) (outcome : Result Done Trouble) : Type 0 where
  pub report : Report
  pub verdict_is : report.verdict ≡ verdict.Inconsistent
  pub none : IsSatisfiable s → ⊥
  pub comes : outcome ≡ Ok (record { text = answer_text s.relations true report; ending = ending.Inconsistent })

-- the budget is spent on whether a match is possible
pub record IsLeftOpen (s : Spec) (budget : ℕ) (outcome : Result Done Trouble) : Type 0 where
  pub posed : Posed
  pub is_posed : IsPosed s posed
  pub report : Report
  pub spent : IsSpent s (posed_question s posed) budget report
  pub comes : outcome ≡ Ok (record { text = undecided_text s posed report; ending = ending.Open })

-- or on which answers are certain
pub record IsLeftShort (s : Spec) (q : Question) (budget : ℕ) (outcome : Result Done Trouble) : Type 0 where
  pub report : Report
  pub answer : IsAnswer s q budget report
  pub undecided : is_decided (kind_of report.verdict) ≡ false
  pub comes : outcome ≡ Ok (record { text = answer_text s.relations true report; ending = ending.Open })

pub data IsPossibleTableOf (budget : ℕ) (s : Spec) (q : Question) (query : QueryTree) (outcome : Result Done Trouble) : Type 0 where
  tabled : HasFewCandidates s q → IsPossibleTable s q query outcome → IsPossibleTableOf budget s q query outcome
  bare : HasFewCandidates s q → IsBare s outcome → IsPossibleTableOf budget s q query outcome
  left_open : HasFewCandidates s q → IsLeftOpen s budget outcome → IsPossibleTableOf budget s q query outcome
  left_short : HasFewCandidates s q → IsLeftShort s q budget outcome → IsPossibleTableOf budget s q query outcome
  many_matches : HasTooManyCandidates s.relations q → outcome ≡ Err (trouble.Limit 13) → IsPossibleTableOf budget s q query outcome
  many_answers : {c : Rankings} → HasFewCandidates s q → HasTooMany s q c → outcome ≡ Err (trouble.Limit 3)
      → IsPossibleTableOf budget s q query outcome

-- ---- what is due

abbrev pub IsPossibleTableDue : List (List ℕ × List ℕ) → TableSaid → Result Done Trouble → Type 0
IsPossibleTableDue told a = IsTableDue told a (IsPossibleTableOf a.budget)

-- ---- what is told

-- the documents are read as a specification and a question that asks a query, and this is told of it
pub record IsPossibleTablePrinted (told : List (List ℕ × List ℕ)) (a : TableSaid) (text : List ℕ) (ending : Ending) : Type 0 where
  pub spec : Spec
  pub question : Question
  pub query : QueryTree
  pub is_read : IsQueryRead told a spec question query
  pub job : IsPossibleTableOf a.budget spec question query (Ok (record { text = text; ending = ending }))

-- such a table is told
abbrev pub IsPossibleTabled : List (List ℕ × List ℕ) → TableSaid → List ℕ → Type 0
IsPossibleTabled told a text = (t : IsPossibleTablePrinted told a text ending.Tabled)
    × IsPossibleTable t.spec t.question t.query (Ok (record { text = text; ending = ending.Tabled }))

-- a budget was spent
abbrev pub IsPossibleTableShort : List (List ℕ × List ℕ) → TableSaid → List ℕ → Type 0
IsPossibleTableShort told a text = (t : IsPossibleTablePrinted told a text ending.Open)
    × (IsLeftOpen t.spec a.budget (Ok (record { text = text; ending = ending.Open }))
    ⊎ IsLeftShort t.spec t.question a.budget (Ok (record { text = text; ending = ending.Open })))

-- there is no consistent completion
abbrev pub IsPossibleTableBare : List (List ℕ × List ℕ) → TableSaid → List ℕ → Type 0
IsPossibleTableBare told a text =
    (t : IsPossibleTablePrinted told a text ending.Inconsistent) × (IsSatisfiable t.spec → ⊥)

-- the status of a question that asks a query, both being read
abbrev pub ComesToPossibleTable : Spec → Question → ℕ → Type 0
ComesToPossibleTable s q status =
    (status ≡ 0) ⊎ ((status ≡ 3) ⊎ (((status ≡ 6) × (HasTooManyCandidates s.relations q ⊎ ((c : Rankings) × HasTooMany s q c)))
    ⊎ (status ≡ 10)))
