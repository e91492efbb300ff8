-- Parts at which an explanation is sought.
use Rattle.std.specs.Prelude.{◌<◌, List, All, length}
use Rattle.part_facts.specs.Questions.{IsPartQuestion}
use Rattle.part_laws.specs.Parts.{IsPartOf, Places, Scope}
use Rattle.search_logs.specs.SearchLogs.{IsWithin}
use Rattle.spec_model.specs.Completion.{Rankings}
use Rattle.spec_model.specs.Facts.{IsSpecification}
use Rattle.spec_model.specs.Spec.{Spec}
use Rattle.spec_model.specs.declared.question.Asked.{Asked}
use Rattle.spec_model.specs.declared.question.Question.{Question}
use Rattle.spec_model.specs.declared.question.Question.TheVariants as asked
use Rattle.spec_model.specs.declared.relation.Relation.{Relation}
use Rattle.unit_questions.specs.Facts.{FactHolds, IsFactQuestion}
use Rattle.near_items.specs.declared.asking.Asking.{Asking}
use Rattle.near_items.specs.declared.asking.Asking.TheVariants as asking

-- a part of a specification, a question for a fact, and what it asks of the part
pub record IsSite (s : Spec) (n : Places) (part : Spec) (q asks : Question) : Type 0 where
  pub within : IsWithin s
  pub part_within : IsWithin part
  pub specification : IsSpecification s
  pub part_specification : IsSpecification part
  pub scope : Scope
  pub is_part : IsPartOf s scope n part
  pub question : IsFactQuestion s.relations q
  pub is_part_question : IsPartQuestion n asks q
  pub asked : IsFactQuestion part.relations asks

-- ---- what is asked

-- an asked pair is of one of the relations of which places are known
abbrev pub IsInPlaces : Places → Asked → Type 0
IsInPlaces n p = p.rel.0 < length n.rows

-- so is each pair of a question
abbrev pub AreInPlaces : Places → Question → Type 0
AreInPlaces n (asked.Certain pairs) = All (IsInPlaces n) pairs
AreInPlaces n q = Unit {0}

-- what a question for a fact asks of a part
abbrev pub IsAskedOf : Places → Question → Asking → Type 0
IsAskedOf n q asking.Same = IsPartQuestion n q q
IsAskedOf n q (asking.Other new) = IsPartQuestion n new q
IsAskedOf n q asking.Beyond = Unit {0}

-- ---- what is seen

-- a query was looked at, and has no answer in a completion
abbrev pub SeesFail : List Relation → Question → Rankings → Type 0
SeesFail relations (asked.Answers query) c = FactHolds relations (asked.Answers query) c → ⊥
SeesFail relations q c = Unit {0}
