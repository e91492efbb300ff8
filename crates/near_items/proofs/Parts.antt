-- The part of closed places as a site, and what explains a fact there.
use Rattle.std.proofs.Common.{◌≡◌, List, Option, Some, subst}
use Rattle.minimal_items.specs.Explanations.{IsExplanation, needed_items}
use Rattle.minimal_items.specs.declared.needed.Needed.{Needed}
use Rattle.part_facts.specs.Laws.{PartsAreAsked}
use Rattle.part_facts.specs.Questions.{IsPartQuestion}
use Rattle.part_laws.specs.Parts.{Places}
use Rattle.part_limits.specs.Laws.{PartsAreWithin}
use Rattle.part_widens.specs.Laws.{ExplanationsWiden}
use Rattle.part_widens.specs.Widened.{rules_among}
use Rattle.search_logs.specs.SearchLogs.{IsWithin}
use Rattle.spec_items.specs.Kept.{kept}
use Rattle.spec_items.specs.Laws.{FewerItems}
use Rattle.spec_model.specs.Completion.{Rankings}
use Rattle.spec_model.specs.Consistent.{IsConsistent}
use Rattle.spec_model.specs.Facts.{IsSpecification}
use Rattle.spec_model.specs.Spec.{Spec}
use Rattle.spec_model.specs.declared.question.Question.{Question}
use Rattle.spec_parts.specs.Built.{AreClosedPlaces, IsBuilt}
use Rattle.unit_questions.specs.Facts.{FactHolds, IsFactQuestion}
use Rattle.near_items.specs.Sites.{IsSite}
use Rattle.near_items.specs.Sought.{IsBase}
use Rattle.near_items.specs.Steps.{AreWide}
use Rattle.near_items.proofs.Rules.{rules_of_wide}

pub is_site : PartsAreWithin → PartsAreAsked → (s : Spec) (n : Places) (part : Spec) (q asks : Question) → IsWithin s
    → AreClosedPlaces s n → IsFactQuestion s.relations q → IsPartQuestion n asks q → IsBuilt s n part → IsSpecification part
    → IsSite s n part q asks
is_site within_law asked_law s n part q asks whole closed question is_asks built specification =
    let scope = closed.0 in
    let of = built scope closed.1 closed.2 in
    let none = within_law s scope n part whole.specification of
    (record { parts = whole.parts; variables_few = whole.variables_few; instances_few = whole.instances_few }) in
    record {
      within = whole;
      part_within = record {
        specification = specification;
        parts = none.parts;
        variables_few = none.variables_few;
        instances_few = none.instances_few;
      };
      specification = whole.specification;
      part_specification = specification;
      scope = scope;
      is_part = of;
      question = question;
      is_part_question = is_asks;
      asked = asked_law s scope n part asks q whole.specification of question is_asks;
    }

-- a completion that is lent is consistent
pub base_of : (s : Spec) (base : Option Rankings) (c : Rankings) → base ≡ Some c → IsBase s base → IsConsistent s c
base_of s base c is lent = subst (IsBase s) is lent

-- what explains the fact over the part does so over the whole, once it is put in there
pub explained : ExplanationsWiden → FewerItems → (s : Spec) (n : Places) (part : Spec) (q asks : Question) (base : Rankings)
    (narrow wide : List Needed) → IsSite s n part q asks → IsExplanation part (FactHolds part.relations asks) narrow
    → IsConsistent (kept (rules_among (needed_items narrow)) s) base → AreWide s n q base narrow wide
    → IsExplanation s (FactHolds s.relations q) wide
explained law fewer s n part q asks base narrow wide site is rules are =
    law s site.scope n part asks q base narrow wide site.specification site.part_specification site.is_part site.question
    site.is_part_question
    (rules_of_wide fewer s n base narrow wide are.widened rules) is are.in_order are.widened are.seen
