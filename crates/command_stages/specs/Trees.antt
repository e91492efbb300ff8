-- A specification and a question, each with the tree of its text.
use Rattle.std.specs.Prelude.{ℕ, List, Result, Ok, Err}
use Rattle.currency_edge.specs.Shelf.{document}
use Rattle.spec_syntax.specs.declared.trees.SpecTree.{SpecTree}
use Rattle.question_bind.specs.Bound.{IsQuestionBound}
use Rattle.question_syntax.specs.declared.trees.QuestionTree.{QuestionTree}
use Rattle.spec_model.specs.Spec.{Spec}
use Rattle.spec_model.specs.declared.question.Question.{Question}
use Rattle.spec_model.specs.declared.relation.Relation.{Relation}
use Rattle.spec_bind.specs.Bound.{IsSpecBound as IsBound}
use Rattle.command_stages.specs.Stages.{IsQuestionTree, IsSpecTree}
use Rattle.command_stages.specs.declared.with_tree.ReadQuestion.{ReadQuestion}
use Rattle.command_stages.specs.declared.with_tree.ReadSpec.{ReadSpec}
use Rattle.command_stages.specs.declared.trouble.Trouble.{Trouble}

-- the outcome without the tree
abbrev pub spec_result : Result ReadSpec Trouble → Result Spec Trouble
spec_result (Ok read) = Ok read.spec
spec_result (Err e) = Err e

-- the tree is that of the specification's text, and the specification is what it says with the tables that it names
pub record IsTreeOf (told : List (List ℕ × List ℕ)) (name : List ℕ) (tree : SpecTree) (s : Spec) : Type 0 where
  pub reads : IsSpecTree name (document told name) (Ok tree)
  pub bound : IsBound told tree (Ok s)

-- the outcome without the tree
abbrev pub question_result : Result ReadQuestion Trouble → Result Question Trouble
question_result (Ok read) = Ok read.question
question_result (Err e) = Err e

-- the tree is that of the question's text, and the question is what it says of relations with the tables that it names
pub record IsQuestionTreeOf (told : List (List ℕ × List ℕ)) (relations : List Relation) (name : List ℕ)
    (tree : QuestionTree) (q : Question) : Type 0 where
  pub reads : IsQuestionTree name (document told name) (Ok tree)
  pub bound : IsQuestionBound told relations tree (Ok q)
