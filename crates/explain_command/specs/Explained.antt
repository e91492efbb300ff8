-- What is due where a unit of the verdict on a question is to be explained, and what is told.
use Rattle.std.specs.Prelude.{◌≡◌, ◌⊎◌, ◌-◌, ℕ, List, Result, Ok}
use Rattle.command_stages.specs.Documents.{IsSpecDocumentDue, IsQuestionDue}
use Rattle.command_stages.specs.Stages.{Then, IsSpecRead, IsQuestionRead}
use Rattle.command_stages.specs.declared.done.Done.{Done}
use Rattle.command_stages.specs.declared.done.Ending.{Ending}
use Rattle.command_stages.specs.declared.trouble.Trouble.{Trouble}
use Rattle.core_explain.specs.Explained.{IsExplained}
use Rattle.core_explain.specs.declared.explaining.Explained.{Explained}
use Rattle.program_words.specs.Words.{ExplainSaid}
use Rattle.program_words.specs.declared.command.Explain.{Explain}
use Rattle.spec_model.specs.Spec.{Spec}
use Rattle.spec_model.specs.declared.question.Question.{Question}
use Rattle.explain_command.specs.Text.{explained_done}

-- what is asked to be explained, with the names of documents as bytes
abbrev pub explain_said : Explain → ExplainSaid
explain_said e = record {
  spec = e.spec.now;
  question = e.question.now;
  unit = e.unit;
  budget = e.budget;
  guide = e.guide;
}

-- the job: what explains the unit is told
abbrev pub IsExplanationOf : Spec → ExplainSaid → Question → Result Done Trouble → Type 0
IsExplanationOf s e question outcome =
    (x : Explained) × IsExplained s question (e.unit - 1) e.budget x × (outcome ≡ explained_done s e.unit x)

-- what is due for a unit of the verdict on a question about a specification
abbrev pub IsExplainDue : List (List ℕ × List ℕ) → ExplainSaid → Result Done Trouble → Type 0
IsExplainDue told e = Then (IsSpecRead told e.spec) (λ s. Then (IsQuestionRead told s.relations e.question) (IsExplanationOf s e))

-- a document is due to be read for `explain`
abbrev pub IsExplainDocumentDue : List (List ℕ × List ℕ) → ExplainSaid → List ℕ → Type 0
IsExplainDocumentDue told e name = IsSpecDocumentDue told e.spec name ⊎ IsQuestionDue told e.spec e.question name

-- the documents are read as a specification and a question, and this is what is told of what explains the unit
pub record IsExplainPrinted (told : List (List ℕ × List ℕ)) (e : ExplainSaid) (text : List ℕ) (ending : Ending) : Type 0 where
  pub spec : Spec
  pub question : Question
  pub spec_read : IsSpecRead told e.spec (Ok spec)
  pub question_read : IsQuestionRead told spec.relations e.question (Ok question)
  pub explained : Explained
  pub is_explained : IsExplained spec question (e.unit - 1) e.budget explained
  pub done : explained_done spec e.unit explained ≡ Ok (record { text = text; ending = ending })
