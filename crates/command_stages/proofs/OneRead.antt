-- Stages of told documents have one outcome each.
use Rattle.std.proofs.Common.{◌≡◌, ◌∙◌, ℕ, List, MatchResult, Result, Ok, Err, sym, subst, ap, inl, inr, arith}
use Rattle.currency_edge.specs.Shelf.{document}
use Rattle.text_tokens.specs.declared.token.TextFault.{TextFault}
use Rattle.spec_syntax.specs.Texts.{ReadsSpec, RefusesSpec}
use Rattle.spec_syntax.specs.declared.trees.SpecTree.{SpecTree}
use Rattle.question_syntax.specs.Texts.{ReadsQuestion, RefusesQuestion}
use Rattle.question_syntax.specs.declared.trees.QuestionTree.{QuestionTree}
use Rattle.spec_model.specs.declared.question.Question.{Question}
use Rattle.spec_model.specs.declared.relation.Relation.{Relation}
use Rattle.spec_model.specs.Spec.{Spec}
use Rattle.spec_bind.specs.Bound.{IsSpecBound as IsBound}
use Rattle.question_bind.specs.Bound.{IsQuestionBound}
use Rattle.bind_faults.specs.declared.fault.BindFault.{BindFault}
use Rattle.command_stages.specs.Stages.{Then, Within, IsSpecTree, IsSpecBound, IsSpecSaid, IsSpecRead, IsQuestionTree, IsQuestionOf, IsQuestionSaid, IsQuestionRead, text_trouble, bind_trouble}
use Rattle.command_stages.specs.declared.trouble.Trouble.{Trouble}

-- what the layers below say of one reading of a specification and a question, and of one binding of each
pub record Readings : Type 0 where
  pub spec_tree : (source : List ℕ) (a b : SpecTree) → ReadsSpec source a → ReadsSpec source b → a ≡ b
  pub spec_refusal : (source : List ℕ) (e f : TextFault) → RefusesSpec source e → RefusesSpec source f → e ≡ f
  pub spec_not_both : (source : List ℕ) (t : SpecTree) (e : TextFault) → ReadsSpec source t → RefusesSpec source e → ⊥
  pub question_tree : (source : List ℕ) (a b : QuestionTree) → ReadsQuestion source a → ReadsQuestion source b → a ≡ b
  pub question_refusal : (source : List ℕ) (e f : TextFault) → RefusesQuestion source e → RefusesQuestion source f → e ≡ f
  pub question_not_both : (source : List ℕ) (t : QuestionTree) (e : TextFault) → ReadsQuestion source t
      → RefusesQuestion source e → ⊥
  pub binding : (told : List (List ℕ × List ℕ)) (t : SpecTree) (a b : Result Spec BindFault) → IsBound told t a
      → IsBound told t b → a ≡ b
  pub question_binding : (told : List (List ℕ × List ℕ)) (relations : List Relation) (t : QuestionTree)
      (a b : Result Question BindFault)
      → IsQuestionBound told relations t a → IsQuestionBound told relations t b → a ≡ b

-- a stage has one outcome
abbrev pub IsOne : {A : Type 0} → (Result A Trouble → Type 0) → Type 0
IsOne {A} stage = (a b : Result A Trouble) → stage a → stage b → a ≡ b

-- ---- how stages are put together

then_at : {A B : Type 0} (next : A → Result B Trouble → Type 0) → ((x : A) → IsOne (next x)) → (r : Result A Trouble)
    (a b : Result B Trouble)
    → MatchResult r (λ x. next x a) (λ e. a ≡ Err e) → MatchResult r (λ x. next x b) (λ e. b ≡ Err e) → a ≡ b
then_at next one (Ok x) a b h k = one x a b h k
then_at next one (Err e) a b h k = h ∙ sym k

pub then_one : {A B : Type 0} (first : Result A Trouble → Type 0) (next : A → Result B Trouble → Type 0)
    → IsOne first → ((x : A) → IsOne (next x)) → IsOne (Then first next)
then_one {A} {B} first next one more a b h k =
    let same = one h.0 k.0 h.1 k.1 in
    then_at next more h.0 a b h.2 (subst (λ (r : Result A Trouble). MatchResult r (λ x. next x b) (λ e. b ≡ Err e))
    (sym same) k.2)

pub within_one : {A : Type 0} (bound : ℕ) (bytes : List ℕ) (next : Result A Trouble → Type 0) → IsOne next
    → IsOne (Within bound bytes next)
within_one bound bytes next one a b (inl h) (inl k) = h.1 ∙ sym k.1
within_one bound bytes next one a b (inl h) (inr k) = absurd (omega (arith, h.0, k.0))
within_one bound bytes next one a b (inr h) (inl k) = absurd (omega (arith, h.0, k.0))
within_one bound bytes next one a b (inr h) (inr k) = one a b h.1 k.1

-- ---- the stages

spec_tree_one : Readings → (name bytes : List ℕ) → IsOne (IsSpecTree name bytes)
spec_tree_one laws name bytes a b (inl h) (inl k) = h.2 ∙ ap Ok (laws.spec_tree bytes h.0 k.0 h.1 k.1) ∙ sym k.2
spec_tree_one laws name bytes a b (inl h) (inr k) = absurd (laws.spec_not_both bytes h.0 k.0 h.1 k.1)
spec_tree_one laws name bytes a b (inr h) (inl k) = absurd (laws.spec_not_both bytes k.0 h.0 k.1 h.1)
spec_tree_one laws name bytes a b (inr h) (inr k) = h.2 ∙ ap (λ f. Err (text_trouble name f))
    (laws.spec_refusal bytes h.0 k.0 h.1 k.1) ∙ sym k.2

pub ok_same : {A E : Type 0} (x y : A) → ◌≡◌ {A = Result A E} (Ok x) (Ok y) → x ≡ y
ok_same x y e = cc

pub err_same : {A E : Type 0} (x y : E) → ◌≡◌ {A = Result A E} (Err x) (Err y) → x ≡ y
err_same x y e = cc

pub apart : {A E : Type 0} (x : A) (y : E) → ◌≡◌ {A = Result A E} (Ok x) (Err y) → ⊥
apart x y e = cc

spec_bound_one : Readings → (told : List (List ℕ × List ℕ)) (name : List ℕ) (t : SpecTree) → IsOne (IsSpecBound told name t)
spec_bound_one laws told name t a b (inl h) (inl k) =
    h.2 ∙ ap Ok (ok_same h.0 k.0 (laws.binding told t (Ok h.0) (Ok k.0) h.1 k.1)) ∙ sym k.2
spec_bound_one laws told name t a b (inl h) (inr k) = absurd (apart h.0 k.0 (laws.binding told t (Ok h.0) (Err k.0) h.1 k.1))
spec_bound_one laws told name t a b (inr h) (inl k) = absurd (apart k.0 h.0 (laws.binding told t (Ok k.0) (Err h.0) k.1 h.1))
spec_bound_one laws told name t a b (inr h) (inr k) =
    h.2 ∙ ap (λ f. Err (bind_trouble name f)) (err_same h.0 k.0 (laws.binding told t (Err h.0) (Err k.0) h.1 k.1)) ∙ sym k.2

pub spec_read_one : Readings → (told : List (List ℕ × List ℕ)) (name : List ℕ) → IsOne (IsSpecRead told name)
spec_read_one laws told name =
    within_one _ (document told name) (IsSpecSaid told name (document told name))
    (then_one (IsSpecTree name (document told name)) (IsSpecBound told name)
    (spec_tree_one laws name (document told name)) (spec_bound_one laws told name))

pub question_tree_one : Readings → (name bytes : List ℕ) → IsOne (IsQuestionTree name bytes)
question_tree_one laws name bytes a b (inl h) (inl k) = h.2 ∙ ap Ok (laws.question_tree bytes h.0 k.0 h.1 k.1) ∙ sym k.2
question_tree_one laws name bytes a b (inl h) (inr k) = absurd (laws.question_not_both bytes h.0 k.0 h.1 k.1)
question_tree_one laws name bytes a b (inr h) (inl k) = absurd (laws.question_not_both bytes k.0 h.0 k.1 h.1)
question_tree_one laws name bytes a b (inr h) (inr k) = h.2 ∙ ap (λ f. Err (text_trouble name f))
    (laws.question_refusal bytes h.0 k.0 h.1 k.1) ∙ sym k.2

question_bound_one : Readings → (told : List (List ℕ × List ℕ)) (relations : List Relation) (name : List ℕ)
    (t : QuestionTree) → IsOne (IsQuestionOf told relations name t)
question_bound_one laws told relations name t a b (inl h) (inl k) =
    h.2 ∙ ap Ok (ok_same h.0 k.0 (laws.question_binding told relations t (Ok h.0) (Ok k.0) h.1 k.1)) ∙ sym k.2
question_bound_one laws told relations name t a b (inl h) (inr k) =
    absurd (apart h.0 k.0 (laws.question_binding told relations t (Ok h.0) (Err k.0) h.1 k.1))
question_bound_one laws told relations name t a b (inr h) (inl k) =
    absurd (apart k.0 h.0 (laws.question_binding told relations t (Ok k.0) (Err h.0) k.1 h.1))
question_bound_one laws told relations name t a b (inr h) (inr k) =
    h.2 ∙ ap (λ f. Err (bind_trouble name f))
    (err_same h.0 k.0 (laws.question_binding told relations t (Err h.0) (Err k.0) h.1 k.1)) ∙ sym k.2

pub question_read_one : Readings → (told : List (List ℕ × List ℕ)) (relations : List Relation) (name : List ℕ)
    → IsOne (IsQuestionRead told relations name)
question_read_one laws told relations name =
    within_one _ (document told name) (IsQuestionSaid told relations name (document told name))
    (then_one (IsQuestionTree name (document told name)) (IsQuestionOf told relations name)
    (question_tree_one laws name (document told name))
    (question_bound_one laws told relations name))
