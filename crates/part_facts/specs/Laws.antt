-- Laws of facts over parts, as statements.
use Rattle.part_laws.specs.Parts.{Scope, Places, IsPartOf, IsNarrowed}
use Rattle.spec_model.specs.Completion.{Rankings, HasShape, IsCompletion}
use Rattle.spec_model.specs.Facts.{IsSpecification}
use Rattle.spec_model.specs.Spec.{Spec}
use Rattle.spec_model.specs.declared.question.Question.{Question}
use Rattle.unit_questions.specs.Facts.{FactHolds, IsFactQuestion}
use Rattle.part_facts.specs.Questions.{IsPartQuestion}

-- a fact that holds of a part's rows holds of the whole
abbrev pub FactsWiden : Type 0
FactsWiden = (s : Spec) (scope : Scope) (n : Places) (part : Spec) (c narrow : Rankings) (new q : Question) → IsSpecification s
    → IsPartOf s scope n part → IsCompletion s.relations c → HasShape part.relations narrow → IsNarrowed s.relations n c narrow
    → IsFactQuestion s.relations q → IsPartQuestion n new q
    → FactHolds part.relations new narrow → FactHolds s.relations q c

-- a question of a part that is one of the whole for a fact is for a fact itself
abbrev pub PartsAreAsked : Type 0
PartsAreAsked = (s : Spec) (scope : Scope) (n : Places) (part : Spec) (new q : Question) → IsSpecification s
    → IsPartOf s scope n part → IsFactQuestion s.relations q → IsPartQuestion n new q → IsFactQuestion part.relations new
