-- What `explain` comes to, stage by stage.
use Rattle.std.proofs.Common.{◌≡◌, ◌-◌, ℕ, List, Option, Some, None, IfOk, IfSome, Result, Ok, Err, sym}
use Rattle.bound_spec.specs.Growth.{IsWithinLimits}
use Rattle.command_stages.specs.Named.{IsDetermined}
use Rattle.command_stages.specs.Stages.{IsSpecRead, IsQuestionRead}
use Rattle.command_stages.specs.declared.done.Done.{Done}
use Rattle.command_stages.specs.declared.trouble.Trouble.{Trouble}
use Rattle.core_explain.specs.Explained.{IsExplained}
use Rattle.core_explain.specs.declared.explaining.Explained.{Explained}
use Rattle.program_words.specs.Words.{ExplainSaid}
use Rattle.search_logs.specs.SearchLogs.{IsWithin}
use Rattle.spec_model.specs.Facts.{IsSpecification}
use Rattle.spec_model.specs.Spec.{Spec}
use Rattle.spec_model.specs.declared.question.Question.{Question}
use Rattle.explain_command.specs.Explained.{IsExplainDue, IsExplainPrinted, IsExplanationOf}
use Rattle.explain_command.specs.Text.{explained_done}

-- no limit is exceeded, as the search says it
pub is_within : (s : Spec) → IsSpecification s → IsWithinLimits s → IsWithin s
is_within s specification within = record {
  specification = specification;
  parts = within.parts;
  variables_few = within.variables;
  instances_few = within.instances;
}

-- what explains the unit is told
pub explained : (s : Spec) (e : ExplainSaid) (q : Question) (x : Explained) (outcome : Result Done Trouble)
    → IsExplained s q (e.unit - 1) e.budget x → (IsDetermined outcome → outcome ≡ explained_done s e.unit x)
    → IsDetermined outcome → IsExplanationOf s e q outcome
explained s e q x outcome is told determined = (x, is, told determined)

printed_explanation : (told : List (List ℕ × List ℕ)) (e : ExplainSaid) (s : Spec) (q : Question) (d : Done)
    → IsSpecRead told e.spec (Ok s) → IsQuestionRead told s.relations e.question (Ok q) → IsExplanationOf s e q (Ok d)
    → IsExplainPrinted told e d.text d.ending
printed_explanation told e s q d spec question h = record {
  spec = s;
  question = q;
  spec_read = spec;
  question_read = question;
  explained = h.0;
  is_explained = h.1;
  done = sym h.2;
}

-- the stages together
pub explain_printed : (texts : Option (List (List ℕ × List ℕ))) (e : ExplainSaid) (s : Spec) (q : Question)
    (outcome : Result Done Trouble)
    → IfSome texts (λ told. IsSpecRead told e.spec (Ok s))
    → IfSome texts (λ told. IsQuestionRead told s.relations e.question (Ok q))
    → (IsDetermined outcome → IsExplanationOf s e q outcome)
    → IfOk outcome (λ d. IfSome texts (λ told. IsExplainPrinted told e d.text d.ending))
explain_printed None e s q (Ok d) spec question job = tt
explain_printed (Some told) e s q (Ok d) spec question job = printed_explanation told e s q d spec question (job tt)
explain_printed texts e s q (Err trouble) spec question job = tt

-- an explanation is due
pub explain_due : (texts : Option (List (List ℕ × List ℕ))) (e : ExplainSaid) (s : Spec) (q : Question)
    (outcome : Result Done Trouble)
    → IfSome texts (λ told. IsSpecRead told e.spec (Ok s))
    → IfSome texts (λ told. IsQuestionRead told s.relations e.question (Ok q))
    → (IsDetermined outcome → IsExplanationOf s e q outcome) → IsDetermined outcome
    → IfSome texts (λ told. IsExplainDue told e outcome)
explain_due None e s q outcome spec question job determined = tt
explain_due (Some told) e s q outcome spec question job determined = (Ok s, spec, (Ok q, question, job determined))
