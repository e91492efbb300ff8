-- What is found of the items that a fact needs.
use Rattle.std.specs.Prelude.{ℕ, Option, None, Some}
use Rattle.minimal_items.specs.Explanations.{IsExplanation}
use Rattle.minimal_items.specs.Reduced.{IsSpentOn}
use Rattle.spec_model.specs.Completion.{Rankings}
use Rattle.spec_model.specs.Consistent.{IsConsistent}
use Rattle.spec_model.specs.Spec.{Spec}
use Rattle.spec_model.specs.declared.question.Question.{Question}
use Rattle.unit_questions.specs.Facts.{FactHolds}
use Rattle.near_items.specs.declared.seeking.Sought.{Sought}
use Rattle.near_items.specs.declared.seeking.Sought.TheVariants.{Needs, Open}

-- an explanation of a question's fact, or a part for which the budget is spent
abbrev pub IsSought : Spec → Question → ℕ → Sought → Type 0
IsSought s q budget (Needs needed) = IsExplanation s (FactHolds s.relations q) needed
IsSought s q budget (Open spent) = IsSpentOn s q budget spent

-- a completion that is lent, if one is, is consistent
abbrev pub IsBase : Spec → Option Rankings → Type 0
IsBase s None = Unit {0}
IsBase s (Some c) = IsConsistent s c
