-- What is due for a unit differs in no more than what explains it.
use Rattle.std.proofs.Common.{◌≡◌, ◌⊎◌, ◌∙◌, ℕ, List, Result, Ok, Err, inl, inr, refl, subst, sym}
use Rattle.command_stages.proofs.OneRead.{IsOne}
use Rattle.command_stages.proofs.Outcomes.{IsLike, answer_or_limit, answers_alike, limit_or_answer, of_answers, same_alike, then_like}
use Rattle.command_stages.specs.Alike.{AreAlike}
use Rattle.command_stages.specs.Endings.{IsOfQuestion}
use Rattle.command_stages.specs.Stages.{IsSpecRead, IsQuestionRead}
use Rattle.command_stages.specs.declared.done.Done.{Done}
use Rattle.command_stages.specs.declared.trouble.Trouble.{Trouble}
use Rattle.command_stages.specs.declared.trouble.Trouble.TheVariants as trouble
use Rattle.core_explain.specs.declared.explaining.Explained.{Explained}
use Rattle.core_explain.specs.declared.explaining.Explained.TheVariants as explained
use Rattle.program_words.specs.Words.{ExplainSaid}
use Rattle.spec_model.specs.Spec.{Spec}
use Rattle.spec_model.specs.declared.question.Question.{Question}
use Rattle.spec_model.specs.declared.relation.Relation.{Relation}
use Rattle.explain_command.specs.Explained.{IsExplainDue, IsExplanationOf}
use Rattle.explain_command.specs.Text.{explained_done}

-- an answer to a question, or that there are too many answers
abbrev IsAnswerOrLimit : Result Done Trouble → Type 0
IsAnswerOrLimit outcome = ((d : Done) × IsOfQuestion d.ending × (outcome ≡ Ok d)) ⊎ (outcome ≡ Err (trouble.Limit 3))

either : (s : Spec) (unit : ℕ) (x : Explained) → IsAnswerOrLimit (explained_done s unit x)
either s unit (explained.Inconsistent needed) = inl (_, tt, refl)
either s unit (explained.Unit needed) = inl (_, tt, refl)
either s unit (explained.NoUnit report) = inl (_, tt, refl)
either s unit (explained.TooMany c) = inr refl
either s unit (explained.Undecided report) = inl (_, tt, refl)
either s unit (explained.Open spent) = inl (_, tt, refl)

alike : (a b : Result Done Trouble) → IsAnswerOrLimit a → IsAnswerOrLimit b → AreAlike a b
alike a b (inl h) (inl k) = answers_alike h.0 k.0 a b h.1 k.1 h.2 k.2
alike a b (inl h) (inr k) = answer_or_limit h.0 a b (of_answers h.0.ending h.1) h.2 k
alike a b (inr h) (inl k) = limit_or_answer k.0 a b (of_answers k.0.ending k.1) h k.2
alike a b (inr h) (inr k) = same_alike a b (h ∙ sym k)

pub explanation_like : (s : Spec) (e : ExplainSaid) (q : Question) → IsLike (IsExplanationOf s e q)
explanation_like s e q a b h k =
    alike a b (subst IsAnswerOrLimit (sym h.2) (either s e.unit h.0)) (subst IsAnswerOrLimit (sym k.2) (either s e.unit k.0))

-- the same once the documents are read, each of which has one reading
pub explain_like : ((told : List (List ℕ × List ℕ)) (name : List ℕ) → IsOne (IsSpecRead told name))
    → ((told : List (List ℕ × List ℕ)) (relations : List Relation) (name : List ℕ) → IsOne (IsQuestionRead told relations name))
    → (told : List (List ℕ × List ℕ)) (e : ExplainSaid) → IsLike (IsExplainDue told e)
explain_like one_spec one_question told e =
    then_like (IsSpecRead told e.spec) _ (one_spec told e.spec) (λ s.
    then_like (IsQuestionRead told s.relations e.question) (IsExplanationOf s e)
    (one_question told s.relations e.question) (explanation_like s e))
