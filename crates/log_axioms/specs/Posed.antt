-- What is posed of a specification: a query, and the tuples that statements name.
use Rattle.std.specs.Prelude.{◌≡◌, ◌⊎◌, ℕ, Bool, true, List, Option, Some, slice_get}
use Rattle.currency_base.specs.declared.value.Value.{Value}
use Rattle.query_model.specs.Answers.{IsAnswer}
use Rattle.query_model.specs.declared.query.Query.{Query}
use Rattle.refutation_log.specs.declared.log.Log.{Log}
use Rattle.spec_model.specs.Completion.{Rankings}
use Rattle.spec_model.specs.Current.{IsCurrentInstance}
use Rattle.spec_model.specs.Spec.{Spec}
use Rattle.spec_model.specs.declared.relation.Relation.{Relation}

-- what may be posed of a specification: a query, if there is one, and the tuples that statements name, by their places
pub record Posed : Type 0 where
  pub query : Option Query
  pub answers : List (List Value)

-- the query, and the log's answers
abbrev pub posed_by : Option Query → Log → Posed
posed_by query log = record { query = query; answers = log.answers }

-- what axioms are of: a specification, and what is posed of it
pub record Basis : Type 0 where
  pub spec : Spec
  pub posed : Posed

-- which tuples are answers, by their places, over the current instance of a completion
pub record AreAnswersOver (relations : List Relation) (posed : Posed) (c : Rankings) (answers : ℕ → Type 0) : Type 0 where
  pub instance : List (List (List Value))
  pub is_current : IsCurrentInstance relations c instance
  pub complete : (q : Query) (place : ℕ) (tuple : List Value) → posed.query ≡ Some q → slice_get posed.answers place ≡ Some tuple
      → IsAnswer q instance tuple → answers place

-- whether each tuple is an answer is decided
abbrev pub AreDecided : (ℕ → Type 0) → Type 0
AreDecided answers = (place : ℕ) → answers place ⊎ (answers place → ⊥)

-- the tuples of which a test says that they are answers
abbrev pub passing : (ℕ → Bool) → ℕ → Type 0
passing answers place = answers place ≡ true
