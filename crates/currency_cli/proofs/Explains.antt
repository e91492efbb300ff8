-- Where the documents of `explain` are read, a unit is explained, or what hinders it is told.
use Rattle.std.proofs.Common.{◌≡◌, ◌∙◌, ◌-◌, ℕ, List, MatchResult, Result, Ok, Err, ap, subst, inl, inr}
use Rattle.command_stages.proofs.OneRead.{IsOne}
use Rattle.command_stages.specs.Outcomes.{status_of}
use Rattle.command_stages.specs.Stages.{Then, IsSpecRead, IsQuestionRead}
use Rattle.command_stages.specs.declared.done.Done.{Done}
use Rattle.command_stages.specs.declared.trouble.Trouble.{Trouble}
use Rattle.explain_command.specs.Explained.{IsExplanationOf, IsExplainDue}
use Rattle.explain_command.specs.Found.{Explained, IsExplained}
use Rattle.explain_command.specs.Found.{Inconsistent, Unit, NoUnit, TooMany, Undecided, Open}
use Rattle.explain_command.specs.Text.{explained_done}
use Rattle.program_words.specs.Words.{ExplainSaid}
use Rattle.spec_model.specs.Spec.{Spec}
use Rattle.spec_model.specs.declared.question.Question.{Question}
use Rattle.spec_model.specs.declared.relation.Relation.{Relation}
use Rattle.answer_texts.specs.Answers.{ComesToAnswer}

abbrev OneSpec : Type 0
OneSpec = (told : List (List ℕ × List ℕ)) (name : List ℕ) → IsOne (IsSpecRead told name)

abbrev OneQuestion : Type 0
OneQuestion = (told : List (List ℕ × List ℕ)) (relations : List Relation) (name : List ℕ)
    → IsOne (IsQuestionRead told relations name)

-- ---- both are read, so an explanation is due

asked_at : OneQuestion → (told : List (List ℕ × List ℕ)) (e : ExplainSaid) (s : Spec) (q : Question) (got : Result Done Trouble)
    → IsQuestionRead told s.relations e.question (Ok q) → Then (IsQuestionRead told s.relations e.question)
    (IsExplanationOf s e) got → IsExplanationOf s e q got
asked_at one told e s q got read h =
    subst (λ (r : Result Question Trouble). MatchResult r (λ x. IsExplanationOf s e x got) (λ x. got ≡ Err x))
    (one told s.relations e.question h.0 (Ok q) h.1 read) h.2

pub explanation_due : OneSpec → OneQuestion → (told : List (List ℕ × List ℕ)) (e : ExplainSaid) (s : Spec) (q : Question)
    (got : Result Done Trouble)
    → IsSpecRead told e.spec (Ok s) → IsQuestionRead told s.relations e.question (Ok q) → IsExplainDue told e got
    → IsExplanationOf s e q got
explanation_due one_spec one_question told e s q got spec question h =
    asked_at one_question told e s q got question
    (subst (λ (r : Result Spec Trouble). MatchResult r (λ x. Then (IsQuestionRead told x.relations e.question)
    (IsExplanationOf x e) got) (λ x. got ≡ Err x))
    (one_spec told e.spec h.0 (Ok s) h.1 spec) h.2)

-- ---- its status

comes_at : (s : Spec) (q : Question) (unit budget n status : ℕ) (x : Explained) → IsExplained s q unit budget x
    → status ≡ status_of (explained_done s n x) → ComesToAnswer s q status
comes_at s q unit budget n status (Inconsistent needed) is same = inl same
comes_at s q unit budget n status (Unit needed) is same = inl same
comes_at s q unit budget n status (NoUnit report) is same = inl same
comes_at s q unit budget n status (TooMany c) is same = inr (inr (inl (same, c, is)))
comes_at s q unit budget n status (Undecided report) is same = inr (inl same)
comes_at s q unit budget n status (Open spent) is same = inr (inl same)

pub explanation_comes : (s : Spec) (e : ExplainSaid) (q : Question) (got : Result Done Trouble) (status : ℕ)
    → IsExplanationOf s e q got → status ≡ status_of got → ComesToAnswer s q status
explanation_comes s e q got status h is =
    comes_at s q (e.unit - 1) e.budget e.unit status h.0 h.1 (is ∙ ap (λ (o : Result Done Trouble). status_of o) h.2)
