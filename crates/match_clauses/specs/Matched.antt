-- Matches over the current instance of a completion, and what of them a numbering and a log have to know.
use Rattle.std.specs.Prelude.{◌≡◌, ◌<◌, ℕ, true, List, All, Some, slice_get}
use Rattle.currency_base.specs.declared.ids.RelId.{RelId}
use Rattle.currency_base.specs.declared.value.Value.{Value}
use Rattle.query_model.specs.Answers.{IsMatch}
use Rattle.query_model.specs.declared.query.Disjunct.{Disjunct}
use Rattle.query_model.specs.declared.query.Match.{Match}
use Rattle.query_model.specs.declared.query.Query.{Query}
use Rattle.spec_model.specs.Completion.{Rankings}
use Rattle.spec_model.specs.Current.{IsCurrentInstance}
use Rattle.spec_model.specs.declared.relation.Relation.{Relation}
use Rattle.log_axioms.specs.Posed.{Posed}
use Rattle.order_literals.specs.Numbers.{is_wanted}

-- over the current instance of a completion it is a match, which makes the tuple an answer
pub record IsMatchIn (relations : List Relation) (c : Rankings) (query : Query) (tuple : List Value) (m : Match) : Type 0 where
  pub instance : List (List (List Value))
  pub is_current : IsCurrentInstance relations c instance
  pub is_match : IsMatch query instance tuple m

-- the current values of the relations of a match's atoms are wanted
abbrev pub IsOfWanted : List RelId → Query → Match → Type 0
IsOfWanted currents query m =
    (d : Disjunct) → slice_get query.disjuncts m.disjunct ≡ Some d
    → All (λ atom. is_wanted currents atom.relation.0 ≡ true) d.atoms

-- the query is posed, and the first of the posed places at which the tuple stands is this
pub record IsPosedAt (posed : Posed) (query : Query) (tuple : List Value) (answer : ℕ) : Type 0 where
  pub is_query : posed.query ≡ Some query
  pub is_tuple : slice_get posed.answers answer ≡ Some tuple
  pub first : (place : ℕ) → place < answer → slice_get posed.answers place ≡ Some tuple → ⊥
