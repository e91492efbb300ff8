-- Tuples that may be answers in all completions, and are none of those that are printed.
use Rattle.std.specs.Prelude.{◌⊎◌, ℕ, List, [], All, Contains, map, slice_index_or}
use Rattle.answer_laws.specs.Answered.{IsAnswerIn}
use Rattle.currency_base.specs.declared.value.Value.{Value}
use Rattle.query_model.specs.declared.query.Query.{Query}
use Rattle.spec_model.specs.Completion.{Rankings}
use Rattle.spec_model.specs.declared.relation.Relation.{Relation}

abbrev pub Tuples : Type 0
Tuples = List (List Value)

-- the tuples at these places
abbrev pub tuples_at : Tuples → List ℕ → Tuples
tuples_at tuples places = map (λ place. slice_index_or tuples place []) places

-- exactly the answers that are none of the tuples
pub record IsRest (answers tuples rest : Tuples) : Type 0 where
  pub of_answers : All (Contains answers) rest
  pub apart : All (λ tuple. Contains tuples tuple → ⊥) rest
  pub all : (tuple : List Value) → Contains answers tuple → Contains tuples tuple ⊎ Contains rest tuple

-- exactly those of which it holds
pub record IsKept (P : List Value → Type 0) (old new : Tuples) : Type 0 where
  pub of_old : All (Contains old) new
  pub hold : All P new
  pub all : (tuple : List Value) → Contains old tuple → P tuple → Contains new tuple

-- the tuples are answers in each of the completions, and exactly these others are too
pub record AreLeft (relations : List Relation) (query : Query) (tuples : Tuples) (completions : List Rankings)
    (others : Tuples) : Type 0 where
  pub each : All (λ tuple. All (IsAnswerIn relations query tuple) completions) tuples
  pub other : All (λ tuple. All (IsAnswerIn relations query tuple) completions) others
  pub apart : All (λ tuple. Contains tuples tuple → ⊥) others
  pub all : (tuple : List Value) → All (IsAnswerIn relations query tuple) completions → Contains tuples tuple ⊎
      Contains others tuple
