-- The question for a unit, as it is made part by part.
use Rattle.std.specs.Prelude.{◌==◌, ℕ, List, [], Option, Some, None, if◌then◌else◌}
use Rattle.currency_base.specs.declared.ids.AttrId.{AttrId}
use Rattle.currency_base.specs.declared.ids.RelId.{RelId}
use Rattle.currency_base.specs.declared.value.Value.{Value}
use Rattle.query_model.specs.declared.query.Term.{Term}
use Rattle.query_model.specs.declared.query.Term.TheVariants as term
use Rattle.spec_model.specs.declared.question.Asked.{Asked}
use Rattle.spec_model.specs.declared.question.Question.{Question}
use Rattle.spec_model.specs.declared.question.Question.TheVariants as asked
use Rattle.unit_questions.specs.Units.{value_query}

-- the pairs that are asked about
abbrev pub asked_pairs : Question → List Asked
asked_pairs (asked.Certain pairs) = pairs
asked_pairs q = []

-- the question for a value of an entity of a relation with so many attributes, if it has a name
abbrev pub entity_question : RelId → ℕ → AttrId → Value → Option (List ℕ) → Question
entity_question rel attrs attr value None = asked.Consistent
entity_question rel attrs attr value (Some name) = asked.Answers (value_query rel name attrs attr value)

-- what stands at the place of an attribute
abbrev pub value_term : ℕ → ℕ → Value → Term
value_term place attr value = if place == attr then term.Constant value else term.Any
