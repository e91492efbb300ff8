-- What is due where the certain answers of a query are asked for as a table, and what is told.
use Rattle.std.specs.Prelude.{◌≡◌, ◌⊎◌, ◌∷◌, ℕ, List, Result, Ok, Err, map, true}
use Rattle.answer_tables.specs.Asked.{IsQueryRead, IsTableDue, Job}
use Rattle.answer_tables.specs.Records.{head_names, tuple_fields}
use Rattle.command_stages.specs.declared.done.Done.{Done}
use Rattle.command_stages.specs.declared.done.Ending.{Ending}
use Rattle.command_stages.specs.declared.done.Ending.TheVariants as ending
use Rattle.command_stages.specs.declared.trouble.Trouble.{Trouble}
use Rattle.command_stages.specs.declared.trouble.Trouble.TheVariants as trouble
use Rattle.currency_ask.specs.Answered.{HasTooMany}
use Rattle.currency_base.specs.declared.value.Value.{Value}
use Rattle.program_words.specs.Words.{TableSaid}
use Rattle.query_model.specs.Answers.{AreAscending}
use Rattle.query_model.specs.declared.query.Query.{Query}
use Rattle.query_syntax.specs.declared.trees.QueryTree.{QueryTree}
use Rattle.record_text.specs.Text.{records_text}
use Rattle.report_model.specs.declared.report.Report.{Report}
use Rattle.report_model.specs.declared.verdict.Verdict.{Verdict}
use Rattle.report_model.specs.declared.verdict.Verdict.TheVariants as verdict
use Rattle.report_verify.specs.Right.{AreCertainAnswers}
use Rattle.spec_model.specs.Completion.{Rankings}
use Rattle.spec_model.specs.Consistent.{IsSatisfiable}
use Rattle.spec_model.specs.Spec.{Spec}
use Rattle.spec_model.specs.declared.question.Question.{Question}
use Rattle.spec_model.specs.declared.question.Question.TheVariants as asked
use Rattle.spec_model.specs.declared.relation.Relation.{Relation}
use Rattle.answer_texts.specs.Answers.{IsAnswer, IsShort, answer_text}

-- ---- the text

-- the table of tuples: the names of the head's variables, and a record for each tuple
abbrev pub table_text : QueryTree → List (List Value) → List ℕ
table_text query tuples = records_text (head_names query ∷ map tuple_fields tuples)

-- what a verdict is told as: answers as a table; the brief text that there is no consistent completion; or the whole report where
-- the budget is spent
abbrev pub verdict_done : List Relation → QueryTree → Report → Verdict → Done
verdict_done relations query r (verdict.Answers tuples) = record { text = table_text query tuples; ending = ending.Tabled }
verdict_done relations query r verdict.Inconsistent = record { text = answer_text relations true r; ending = ending.Inconsistent }
verdict_done relations query r other = record { text = answer_text relations true r; ending = ending.Open }

abbrev pub table_done : List Relation → QueryTree → Report → Done
table_done relations query r = verdict_done relations query r r.verdict

-- ---- what is due

-- the job: what a report that answers the question is told as; or the query has more answers over a consistent completion than are
-- gone through
abbrev pub IsCertainTableOf : ℕ → Job
IsCertainTableOf budget s q query outcome =
    ((r : Report) × IsAnswer s q budget r × (outcome ≡ Ok (table_done s.relations query r)))
    ⊎ ((c : Rankings) × HasTooMany s q c × (outcome ≡ Err (trouble.Limit 3)))

abbrev pub IsCertainTableDue : List (List ℕ × List ℕ) → TableSaid → Result Done Trouble → Type 0
IsCertainTableDue told a = IsTableDue told a (IsCertainTableOf a.budget)

-- ---- what is told

-- the documents are read as a specification and a question that asks a query, and this is told of it
pub record IsCertainTablePrinted (told : List (List ℕ × List ℕ)) (a : TableSaid) (text : List ℕ) (ending : Ending) : Type 0 where
  pub spec : Spec
  pub question : Question
  pub query : QueryTree
  pub is_read : IsQueryRead told a spec question query
  pub job : IsCertainTableOf a.budget spec question query (Ok (record { text = text; ending = ending }))

-- the table has exactly the tuples that are answers over the current instance of every consistent completion, of which there is
-- one, and they ascend
pub record IsTableOfCertain (s : Spec) (q : Question) (query : QueryTree) (text : List ℕ) : Type 0 where
  pub bound : Query
  pub is_bound : q ≡ asked.Answers bound
  pub satisfiable : IsSatisfiable s
  pub tuples : List (List Value)
  pub certain : AreCertainAnswers s bound tuples
  pub ascending : AreAscending tuples
  pub is_text : text ≡ table_text query tuples

-- such a table is told
abbrev pub IsCertainTabled : List (List ℕ × List ℕ) → TableSaid → List ℕ → Type 0
IsCertainTabled told a text = (t : IsCertainTablePrinted told a text ending.Tabled) × IsTableOfCertain t.spec t.question t.query text

-- the budget was spent
pub record IsTableShort (told : List (List ℕ × List ℕ)) (a : TableSaid) (text : List ℕ) : Type 0 where
  pub table : IsCertainTablePrinted told a text ending.Open
  pub report : Report
  pub short : IsShort table.spec table.question a.budget report.verdict
  pub is_text : text ≡ answer_text table.spec.relations true report

-- there is no consistent completion
abbrev pub IsTableBare : List (List ℕ × List ℕ) → TableSaid → List ℕ → Type 0
IsTableBare told a text = (t : IsCertainTablePrinted told a text ending.Inconsistent) × (IsSatisfiable t.spec → ⊥)

-- the status of a question that asks a query, both being read
abbrev pub ComesToTable : Spec → Question → ℕ → Type 0
ComesToTable s q status =
    (status ≡ 0) ⊎ ((status ≡ 3) ⊎ (((status ≡ 6) × (c : Rankings) × HasTooMany s q c) ⊎ (status ≡ 10)))
