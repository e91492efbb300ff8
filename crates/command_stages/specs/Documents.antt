-- Which documents are due to be read for a specification and for a question.
use Rattle.std.specs.Prelude.{◌≡◌, ◌⊎◌, ◌≤◌, ℕ, List, length, Ok}
use Rattle.currency_edge.specs.Shelf.{document}
use Rattle.spec_syntax.specs.declared.trees.SpecTree.{SpecTree}
use Rattle.question_syntax.specs.declared.trees.QuestionTree.{QuestionTree}
use Rattle.spec_model.specs.Spec.{Spec}
use Rattle.spec_model.specs.declared.relation.Relation.{Relation}
use Rattle.bound_spec.specs.Growth.{nothing}
use Rattle.spec_bind.specs.Bound.{TableDue}
use Rattle.question_bind.specs.Bound.{IsQuestionTableDue}
use Rattle.command_stages.specs.Stages.{text_bound, IsSpecTree, IsSpecRead, IsQuestionTree}

-- a table is due to be read: these bytes of a specification name it, and what stands before is bound
abbrev pub IsSaidTableDue : List (List ℕ × List ℕ) → List ℕ → List ℕ → List ℕ → Type 0
IsSaidTableDue told name bytes table = (t : SpecTree) × IsSpecTree name bytes (Ok t) × TableDue told nothing t.statements table

-- the same of the document of that name, where it is not too long
abbrev pub IsTableDue : List (List ℕ × List ℕ) → List ℕ → List ℕ → Type 0
IsTableDue told name table = (length (document told name) ≤ text_bound) × IsSaidTableDue told name (document told name) table

-- a document is due to be read for a specification: its text, or a table that it names
abbrev pub IsSpecDocumentDue : List (List ℕ × List ℕ) → List ℕ → List ℕ → Type 0
IsSpecDocumentDue told spec name = (name ≡ spec) ⊎ IsTableDue told spec name

-- a table is due to be read: these bytes of a question name it, and what stands before is bound
abbrev pub IsQuestionSaidTableDue : List (List ℕ × List ℕ) → List Relation → List ℕ → List ℕ → List ℕ → Type 0
IsQuestionSaidTableDue told relations name bytes table =
    (t : QuestionTree) × IsQuestionTree name bytes (Ok t) × IsQuestionTableDue told relations t table

-- a document is due to be read for a question: its text, or a table that it names, where the text is not too long
abbrev pub IsQuestionDocumentDue : List (List ℕ × List ℕ) → List Relation → List ℕ → List ℕ → Type 0
IsQuestionDocumentDue told relations question name =
    (name ≡ question)
    ⊎ ((length (document told question) ≤ text_bound)
    × IsQuestionSaidTableDue told relations question (document told question) name)

-- the same, once the specification is read
abbrev pub IsQuestionDue : List (List ℕ × List ℕ) → List ℕ → List ℕ → List ℕ → Type 0
IsQuestionDue told spec question name =
    (s : Spec) × IsSpecRead told spec (Ok s) × IsQuestionDocumentDue told s.relations question name
