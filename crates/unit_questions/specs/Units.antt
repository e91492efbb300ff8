-- The question for a unit of a verdict: for one of the claims that it makes of every consistent completion.
use Rattle.std.specs.Prelude.{ℕ, zero, suc, List, [], ◌∷◌, length, Option, Some, None, slice_get}
use Rattle.currency_base.specs.declared.ids.AttrId.{AttrId}
use Rattle.currency_base.specs.declared.ids.EntId.{EntId}
use Rattle.currency_base.specs.declared.ids.RelId.{RelId}
use Rattle.currency_base.specs.declared.value.Value.{Value}
use Rattle.currency_base.specs.declared.value.Value.TheVariants.{Text}
use Rattle.query_model.specs.declared.query.Query.{Query}
use Rattle.query_model.specs.declared.query.Term.{Term}
use Rattle.query_model.specs.declared.query.Term.TheVariants as term
use Rattle.report_verify.specs.Asked.{query_of}
use Rattle.report_verify.specs.Supported.{Claim}
use Rattle.report_verify.specs.Supported.Claim.{Holds, HasValue, HasAnswer}
use Rattle.spec_model.specs.declared.question.Question.{Question}
use Rattle.spec_model.specs.declared.question.Question.TheVariants as asked
use Rattle.spec_model.specs.declared.relation.Relation.{Relation}
use Rattle.unit_questions.specs.Substituted.{given_query}

-- ---- current values

-- anything at each of so many places
abbrev pub any_places : ℕ → List Term
any_places zero = []
any_places (suc attrs) = term.Any ∷ any_places attrs

-- the same, but a value at one of them
abbrev pub value_places : ℕ → ℕ → Value → List Term
value_places zero attr value = []
value_places (suc attrs) zero value = term.Constant value ∷ any_places attrs
value_places (suc attrs) (suc attr) value = term.Any ∷ value_places attrs attr value

-- whether the relation has an entity of this name with this value of the attribute
abbrev pub value_query : RelId → List ℕ → ℕ → AttrId → Value → Query
value_query rel name attrs attr value = record {
  disjuncts =
      record {
        head = [];
        atoms = record { relation = rel; terms = term.Constant (Text name) ∷ value_places attrs attr.0 value } ∷ [];
        tests = [];
        vars = 0;
      } ∷ [];
}

-- the same for the entity of that number, if it is there
abbrev pub value_question : Option Relation → RelId → AttrId → EntId → Value → Question
value_question None rel attr ent value = asked.Consistent
value_question (Some r) rel attr ent value = named (slice_get r.entities ent.0)
  where
    named : Option (List ℕ) → Question
    named None = asked.Consistent
    named (Some name) = asked.Answers (value_query rel name (length r.attrs) attr value)

-- ---- answers

abbrev pub answer_question : List Value → Option Query → Question
answer_question tuple None = asked.Consistent
answer_question tuple (Some query) = asked.Answers (given_query tuple query)

-- ---- units

-- the question for a claim: for the pair alone; whether the entity has the value; whether the tuple is an answer
abbrev pub question_of : List Relation → Question → Claim → Question
question_of relations q (Holds p) = asked.Certain (p ∷ [])
question_of relations q (HasValue rel attr ent value) = value_question (slice_get relations rel.0) rel attr ent value
question_of relations q (HasAnswer tuple) = answer_question tuple (query_of q)
