-- Laws of the questions for claims, as statements.
use Rattle.std.specs.Prelude.{◌↔◌, List}
use Rattle.report_verify.specs.Supported.{Claim}
use Rattle.spec_model.specs.Completion.{Rankings, IsCompletion}
use Rattle.spec_model.specs.Facts.{AreRelations}
use Rattle.spec_model.specs.Questions.{IsQuestionOn}
use Rattle.spec_model.specs.declared.question.Question.{Question}
use Rattle.spec_model.specs.declared.relation.Relation.{Relation}
use Rattle.unit_questions.specs.Claims.{ClaimHolds, HoldsInOne}
use Rattle.unit_questions.specs.Facts.{FactHolds}
use Rattle.unit_questions.specs.Units.{question_of}

-- the question for a claim that holds in some completion asks whether it holds: in each completion its fact holds exactly where
-- the claim does
abbrev pub ClaimsAreAsked : Type 0
ClaimsAreAsked = (relations : List Relation) (q : Question) (claim : Claim) → AreRelations relations → IsQuestionOn relations q
    → HoldsInOne relations q claim → (c : Rankings) → IsCompletion relations c
    → FactHolds relations (question_of relations q claim) c ↔ ClaimHolds relations q claim c
