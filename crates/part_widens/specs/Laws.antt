-- A law of explanations over parts, as a statement.
use Rattle.std.specs.Prelude.{List, All}
use Rattle.minimal_items.specs.Explanations.{AreInOrder, IsExplanation, needed_items}
use Rattle.minimal_items.specs.declared.needed.Needed.{Needed}
use Rattle.part_facts.specs.Questions.{IsPartQuestion}
use Rattle.part_laws.specs.Parts.{Scope, Places, IsPartOf}
use Rattle.spec_items.specs.Items.{items_of}
use Rattle.spec_items.specs.Kept.{kept}
use Rattle.spec_model.specs.Completion.{Rankings}
use Rattle.spec_model.specs.Consistent.{IsConsistent}
use Rattle.spec_model.specs.Facts.{IsSpecification}
use Rattle.spec_model.specs.Spec.{Spec}
use Rattle.spec_model.specs.declared.question.Question.{Question}
use Rattle.unit_questions.specs.Facts.{FactHolds, IsFactQuestion}
use Rattle.part_widens.specs.Widened.{AreWidened, IsSeenToFail, rules_among}

-- what explains a fact over a part explains it over the whole: the same items, in the whole's order, each with its completion
-- joined with one that satisfies the rules among them
abbrev pub ExplanationsWiden : Type 0
ExplanationsWiden = (s : Spec) (scope : Scope) (n : Places) (part : Spec) (new q : Question) (base : Rankings)
    (narrow wide : List Needed) → IsSpecification s → IsSpecification part
    → IsPartOf s scope n part → IsFactQuestion s.relations q → IsPartQuestion n new q
    → IsConsistent (kept (rules_among (needed_items wide)) s) base
    → IsExplanation part (FactHolds part.relations new) narrow
    → AreInOrder (items_of s) (needed_items wide)
    → AreWidened s.relations s.copies n base narrow wide
    → All (IsSeenToFail s.relations q) wide
    → IsExplanation s (FactHolds s.relations q) wide
