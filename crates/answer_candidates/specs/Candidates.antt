-- The tuples that may be answers in every consistent completion.
use Rattle.std.specs.Prelude.{◌≡◌, ◌≢◌, ◌<◌, ◌⊎◌, ℕ, Bool, true, false, not, List, [], All, Contains, Some, length, map, slice_get, slice_index_or, take}
use Rattle.std.specs.List.{filter, range_with_len}
use Rattle.answer_laws.specs.Answered.{IsAnswerIn}
use Rattle.currency_base.specs.declared.value.Value.{Value}
use Rattle.query_model.specs.Answers.{AreAnswers, AreAscending, HasMore, IsAnswer}
use Rattle.query_model.specs.declared.query.Query.{Query}
use Rattle.spec_model.specs.Completion.{Rankings}
use Rattle.spec_model.specs.Consistent.{IsConsistent}
use Rattle.spec_model.specs.Current.{IsCurrentInstance}
use Rattle.spec_model.specs.Spec.{Spec}
use Rattle.spec_model.specs.declared.relation.Relation.{Relation}
use Rattle.ucq_answers.specs.Planned.{IndexedQuery}

-- tuples, the listed completions, and which of the tuples are no answers over one of these
pub record Standing : Type 0 where
  pub tuples : List (List Value)
  pub completions : List Rankings
  pub gone : List Bool

-- the tuple is an answer over each of the completions
abbrev pub IsCommon : List Relation → Query → List Rankings → List Value → Type 0
IsCommon relations query completions tuple = All (IsAnswerIn relations query tuple) completions

-- a tuple is gone exactly where it is no answer over one of the completions
abbrev pub IsMarked : List Relation → Query → List Rankings → List Value → Bool → Type 0
IsMarked relations query completions tuple false = IsCommon relations query completions tuple
IsMarked relations query completions tuple true = IsCommon relations query completions tuple → ⊥

-- a completion refutes a tuple: it is an answer over each of those that are listed before, and none over this one
pub record Refutes (relations : List Relation) (query : Query) (earlier : List Rankings) (c : Rankings) : Type 0 where
  pub tuple : List Value
  pub common : IsCommon relations query earlier tuple
  pub fails : IsAnswerIn relations query tuple c → ⊥

-- each completion but the first refutes a tuple that is an answer over all those before it
abbrev pub EachRefutes : List Relation → Query → List Rankings → Type 0
EachRefutes relations query completions = (place : ℕ) (c : Rankings) → 0 < place
    → slice_get completions place ≡ Some c
    → Refutes relations query (take place completions) c

-- consistent completions, at least one; the tuples ascend, each common answer is one of them, and those that are no
-- common answers are gone; and each completion but the first refutes a tuple that those before it have in common
pub record AreCandidates (s : Spec) (query : Query) (c : Standing) : Type 0 where
  pub per_tuple : length c.gone ≡ length c.tuples
  pub consistent : All (IsConsistent s) c.completions
  pub some : c.completions ≢ []
  pub ascending : AreAscending c.tuples
  pub all : (tuple : List Value) → IsCommon s.relations query c.completions tuple → Contains c.tuples tuple
  pub marked : (place : ℕ) (tuple : List Value) (gone : Bool) → slice_get c.tuples place ≡ Some tuple
      → slice_get c.gone place ≡ Some gone
      → IsMarked s.relations query c.completions tuple gone
  pub refuting : EachRefutes s.relations query c.completions

-- an instance that is indexed for a query is the current one of a completion
pub record IsOver (relations : List Relation) (query : Query) (c : Rankings) (indexed : IndexedQuery) : Type 0 where
  pub of_query : indexed.query ≡ query
  pub is_current : IsCurrentInstance relations c indexed.instance

-- exactly the answers over the current instance of a completion, ascending
pub record AreAnswersIn (relations : List Relation) (query : Query) (c : Rankings) (tuples : List (List Value)) : Type 0 where
  pub instance : List (List (List Value))
  pub is_current : IsCurrentInstance relations c instance
  pub are : AreAnswers query instance tuples

-- a completion has more answers than so many
pub record IsTooMany (relations : List Relation) (query : Query) (bound : ℕ) (c : Rankings) : Type 0 where
  pub instance : List (List (List Value))
  pub is_current : IsCurrentInstance relations c instance
  pub more : HasMore query instance bound

-- ---- marks

-- whether a tuple is gone, once one more instance is looked at: it was, or it is no answer over this one
abbrev pub IsMark : IndexedQuery → List Value → Bool → Bool → Type 0
IsMark indexed tuple was true = (was ≡ true) ⊎ (IsAnswer indexed.query indexed.instance tuple → ⊥)
IsMark indexed tuple was false = (was ≡ false) × IsAnswer indexed.query indexed.instance tuple

-- a tuple that was not gone is gone now
pub record GoesNow (tuples : List (List Value)) (old new : List Bool) : Type 0 where
  pub place : ℕ
  pub tuple : List Value
  pub at : slice_get tuples place ≡ Some tuple
  pub was : slice_get old place ≡ Some false
  pub now : slice_get new place ≡ Some true

-- the marks of so many first tuples; there are more of them where one that was not gone is gone now, and else they are
-- what they were
pub record AreMarks (indexed : IndexedQuery) (tuples : List (List Value)) (old : List Bool) (count : ℕ)
    (new : List Bool) (more : Bool) : Type 0 where
  pub as_many : length new ≡ count
  pub each : (place : ℕ) (tuple : List Value) (was is : Bool) → slice_get tuples place ≡ Some tuple
      → slice_get old place ≡ Some was
      → slice_get new place ≡ Some is → IsMark indexed tuple was is
  pub none : more ≡ false → new ≡ take count old
  pub some : more ≡ true → GoesNow tuples old new

-- ---- what is left

-- the tuple at a place is not gone
abbrev pub is_left : List Bool → ℕ → Bool
is_left gone place = not (slice_index_or gone place true)

-- the places of the tuples that are not gone
abbrev pub left_of : List Bool → List ℕ
left_of gone = filter (is_left gone) (range_with_len 0 (length gone))

-- the tuples at places
abbrev pub tuples_at : List (List Value) → List ℕ → List (List Value)
tuples_at tuples places = map (λ place. slice_index_or tuples place []) places

-- the tuples that are not gone
abbrev pub left_tuples : Standing → List (List Value)
left_tuples c = tuples_at c.tuples (left_of c.gone)

-- exactly the answers that the listed completions have in common, ascending
pub record AreLeft (relations : List Relation) (query : Query) (c : Standing) : Type 0 where
  pub each : All (IsCommon relations query c.completions) (left_tuples c)
  pub all : (tuple : List Value) → IsCommon relations query c.completions tuple → Contains (left_tuples c) tuple
  pub ascending : AreAscending (left_tuples c)

abbrev pub LeftAreCommon : Type 0
LeftAreCommon = (s : Spec) (query : Query) (c : Standing) → AreCandidates s query c → AreLeft s.relations query c
