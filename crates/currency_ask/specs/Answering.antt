-- What is known while the answers of a query are decided.
use Rattle.std.specs.Prelude.{◌≡◌, ◌≤◌, ◌∷◌, ℕ, List, [], Some, length, slice_get}
use Rattle.answer_candidates.specs.Candidates.{AreAnswersIn, Standing}
use Rattle.certain_answers.specs.Deciding.{IsEnd}
use Rattle.certain_answers.specs.declared.decisions.Decision.{Decision}
use Rattle.certain_answers.specs.declared.decisions.Decision.TheVariants as decision
use Rattle.order_search.specs.Searches.{Search}
use Rattle.order_search.specs.declared.outcome.Outcome.{Outcome}
use Rattle.order_search.specs.declared.outcome.Outcome.TheVariants.{Model, Proved, Empty, Spent}
use Rattle.query_model.specs.declared.query.Query.{Query}
use Rattle.spec_model.specs.Completion.{Rankings}
use Rattle.spec_model.specs.Consistent.{IsConsistent}
use Rattle.spec_model.specs.Spec.{Spec}

-- the candidates are the answers over the one completion that is listed, and at most a million
pub record IsFirst (s : Spec) (query : Query) (standing : Standing) : Type 0 where
  pub completion : Rankings
  pub listed : standing.completions ≡ completion ∷ []
  pub consistent : IsConsistent s completion
  pub over : AreAnswersIn s.relations query completion standing.tuples
  pub few : length standing.tuples ≤ 1000000

-- a consistent completion; or the end of the search, with so many units left
abbrev pub TellsSecond : Search → ℕ → Outcome → Type 0
TellsSecond search left (Model truths c) = IsConsistent search.spec c
TellsSecond search left (Proved step) = ⊥
TellsSecond search left (Empty step) = IsEnd search left (Empty step)
TellsSecond search left Spent = IsEnd search left Spent

-- ---- units

-- the candidate at a place is proved by a step
abbrev pub IsProvedBy : List Decision → ℕ → ℕ → Type 0
IsProvedBy decisions place step = slice_get decisions place ≡ Some (decision.Proved step)

-- it is proved
abbrev pub IsProvedAt : List Decision → ℕ → Type 0
IsProvedAt decisions place = (step : ℕ) × IsProvedBy decisions place step

-- the candidates at so many first places are proved, each by the step that stands there
pub record AreUnitsAt (decisions : List Decision) (places : List ℕ) (count : ℕ) (units : List ℕ) : Type 0 where
  pub as_many : length units ≡ count
  pub each : (at place step : ℕ) → slice_get places at ≡ Some place → slice_get units at ≡ Some step
      → IsProvedBy decisions place step
