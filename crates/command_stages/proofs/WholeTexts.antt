-- What holds of the bytes that were read holds of the document, which they are.
use Rattle.std.proofs.Common.{◌≡◌, ◌≤◌, ℕ, List, length, Option, Some, None, IfSome, IfOk, Result, Ok, Err, subst, inr}
use Rattle.currency_edge.specs.Shelf.{document}
use Rattle.spec_bind.specs.Bound.{IsSpecBound as IsBound}
use Rattle.question_bind.specs.Bound.{IsQuestionBound}
use Rattle.spec_model.specs.declared.relation.Relation.{Relation}
use Rattle.command_stages.specs.Stages.{Within, IsQuestionTree, IsSpecTree}
use Rattle.command_stages.specs.Trees.{IsQuestionTreeOf, IsTreeOf}
use Rattle.command_stages.specs.declared.with_tree.ReadQuestion.{ReadQuestion}
use Rattle.command_stages.specs.declared.with_tree.ReadSpec.{ReadSpec}
use Rattle.command_stages.specs.declared.trouble.Trouble.{Trouble}

pub of_document : {A : Type 0} (told : Option (List (List ℕ × List ℕ))) (name bytes : List ℕ) (bound : ℕ)
    (P : List (List ℕ × List ℕ) → List ℕ → Result A Trouble → Type 0) (outcome : Result A Trouble)
    → IfSome told (λ t. bytes ≡ document t name) → length bytes ≤ bound → IfSome told (λ t. P t bytes outcome)
    → IfSome told (λ t. Within bound (document t name) (P t (document t name)) outcome)
of_document None name bytes bound P outcome whole within holds = tt
of_document (Some t) name bytes bound P outcome whole within holds =
    inr (subst (λ (b : List ℕ). (length b ≤ bound) × P t b outcome) whole (within, holds))

-- the same of a document with no bound
pub of_whole_document : (told : Option (List (List ℕ × List ℕ))) (name bytes : List ℕ) (P : List ℕ → Type 0)
    → IfSome told (λ t. bytes ≡ document t name) → P bytes → IfSome told (λ t. P (document t name))
of_whole_document None name bytes P whole holds = tt
of_whole_document (Some t) name bytes P whole holds = subst P whole holds

-- the tree of the bytes is the tree of the document
pub of_whole_tree : (told : Option (List (List ℕ × List ℕ))) (name bytes : List ℕ) (outcome : Result ReadSpec Trouble)
    → IfSome told (λ t. bytes ≡ document t name) → IfOk outcome (λ read. IsSpecTree name bytes (Ok read.tree))
    → IfOk outcome (λ read. IfSome told (λ t. IsBound t read.tree (Ok read.spec)))
    → IfOk outcome (λ read. IfSome told (λ t. IsTreeOf t name read.tree read.spec))
of_whole_tree told name bytes (Err e) whole reads bound = tt
of_whole_tree None name bytes (Ok read) whole reads bound = tt
of_whole_tree (Some t) name bytes (Ok read) whole reads bound = record {
  reads = subst (λ (b : List ℕ). IsSpecTree name b (Ok read.tree)) whole reads;
  bound = bound;
}

-- the same of a question
pub of_whole_question : (told : Option (List (List ℕ × List ℕ))) (relations : List Relation) (name bytes : List ℕ)
    (outcome : Result ReadQuestion Trouble)
    → IfSome told (λ t. bytes ≡ document t name) → IfOk outcome (λ read. IsQuestionTree name bytes (Ok read.tree))
    → IfOk outcome (λ read. IfSome told (λ t. IsQuestionBound t relations read.tree (Ok read.question)))
    → IfOk outcome (λ read. IfSome told (λ t. IsQuestionTreeOf t relations name read.tree read.question))
of_whole_question told relations name bytes (Err e) whole reads bound = tt
of_whole_question None relations name bytes (Ok read) whole reads bound = tt
of_whole_question (Some t) relations name bytes (Ok read) whole reads bound = record {
  reads = subst (λ (b : List ℕ). IsQuestionTree name b (Ok read.tree)) whole reads;
  bound = bound;
}
