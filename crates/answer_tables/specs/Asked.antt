-- What is due where answers of a query are to be told as a table: the specification, the question on it, and the query that it
-- asks, and then the job, which is a parameter.
use Rattle.std.specs.Prelude.{◌≡◌, ◌⊎◌, ℕ, List, Result, Ok, Err, MatchResult}
use Rattle.command_stages.specs.Documents.{IsQuestionDue, IsSpecDocumentDue}
use Rattle.command_stages.specs.Stages.{Then, IsQuestionRead, IsSpecRead}
use Rattle.command_stages.specs.Trees.{IsQuestionTreeOf}
use Rattle.command_stages.specs.declared.done.Done.{Done}
use Rattle.command_stages.specs.declared.trouble.Trouble.{Trouble}
use Rattle.command_stages.specs.declared.trouble.Trouble.TheVariants as trouble
use Rattle.currency_base.specs.declared.error_code.ErrorCode.TheVariants as code
use Rattle.program_words.specs.Words.{TableSaid}
use Rattle.program_words.specs.declared.command.AnswerTable.{AnswerTable}
use Rattle.query_syntax.specs.declared.trees.QueryTree.{QueryTree}
use Rattle.question_syntax.specs.declared.trees.QuestionTree.{QuestionTree}
use Rattle.question_syntax.specs.declared.trees.QuestionTree.TheVariants as tree
use Rattle.spec_model.specs.Spec.{Spec}
use Rattle.spec_model.specs.declared.question.Question.{Question}

-- what is asked, with the names of documents as bytes
abbrev pub table_said : AnswerTable → TableSaid
table_said a = record { spec = a.spec.now; question = a.question.now; budget = a.budget; guide = a.guide }

-- the query that a question asks, or the line of the first word of one that asks none
abbrev pub query_asked : QuestionTree → Result QueryTree ℕ
query_asked (tree.Consistent line) = Err line
query_asked (tree.Certain line asked) = Err line
query_asked (tree.Same line relations) = Err line
query_asked (tree.Answers query) = Ok query

-- a question that asks none is refused at its first word
abbrev pub no_query : List ℕ → ℕ → Trouble
no_query name line = trouble.Refused code.Mismatch name line

-- ---- what is due

-- a job about a specification, a question on it, and the query that it asks
abbrev pub Job : Type 1
Job = Spec → Question → QueryTree → Result Done Trouble → Type 0

-- the job of the question's query, or the refusal of a question that asks none
abbrev pub IsOfQuery : List (List ℕ × List ℕ) → TableSaid → Job → Spec → Question → Result Done Trouble → Type 0
IsOfQuery told a job s q outcome = (t : QuestionTree) × IsQuestionTreeOf told s.relations a.question t q
    × MatchResult (query_asked t) (λ query. job s q query outcome) (λ line. outcome ≡ Err (no_query a.question line))

abbrev pub IsTableDue : List (List ℕ × List ℕ) → TableSaid → Job → Result Done Trouble → Type 0
IsTableDue told a job = Then (IsSpecRead told a.spec)
    (λ s. Then (IsQuestionRead told s.relations a.question) (IsOfQuery told a job s))

-- a document is due to be read
abbrev pub IsTableDocumentDue : List (List ℕ × List ℕ) → TableSaid → List ℕ → Type 0
IsTableDocumentDue told a name = IsSpecDocumentDue told a.spec name ⊎ IsQuestionDue told a.spec a.question name

-- ---- what is read

-- the documents are read as a specification and a question on it that asks this query
pub record IsQueryRead (told : List (List ℕ × List ℕ)) (a : TableSaid) (s : Spec) (q : Question) (query : QueryTree) : Type 0 where
  pub spec_read : IsSpecRead told a.spec (Ok s)
  pub question_read : IsQuestionRead told s.relations a.question (Ok q)
  pub tree : QuestionTree
  pub is_tree : IsQuestionTreeOf told s.relations a.question tree q
  pub is_query : query_asked tree ≡ Ok query

-- a question asks none, and is refused at its first word
pub record AsksNothing (tree : QuestionTree) (name : List ℕ) (e : Trouble) : Type 0 where
  pub line : ℕ
  pub is_line : query_asked tree ≡ Err line
  pub is_trouble : e ≡ no_query name line

-- the question that is read asks none
pub record AsksNone (told : List (List ℕ × List ℕ)) (a : TableSaid) (s : Spec) (e : Trouble) : Type 0 where
  pub question : Question
  pub question_read : IsQuestionRead told s.relations a.question (Ok question)
  pub tree : QuestionTree
  pub is_tree : IsQuestionTreeOf told s.relations a.question tree question
  pub nothing : AsksNothing tree a.question e

-- what is handed on of a specification, a question and its tree: both, and the query that the tree asks
pub record AreParts (s : Spec) (tree : QuestionTree) (q : Question) (own : Spec) (question : Question) (query : QueryTree)
    : Type 0 where
  pub same_spec : own ≡ s
  pub same_question : question ≡ q
  pub is_query : query_asked tree ≡ Ok query

-- a trouble that comes before the job: the specification is refused, or the question on it is, or it asks no query
abbrev pub IsTrouble : List (List ℕ × List ℕ) → TableSaid → Trouble → Type 0
IsTrouble told a e = IsSpecRead told a.spec (Err e)
    ⊎ ((s : Spec) × IsSpecRead told a.spec (Ok s)
    × (IsQuestionRead told s.relations a.question (Err e) ⊎ AsksNone told a s e))
