-- Marks of places, and what is marked from lists of places.
use Rattle.std.specs.Prelude.{◌≡◌, ◌<◌, ◌↔◌, ℕ, zero, suc, Bool, true, false, if◌then◌else◌, List, [], ◌∷◌, length, map, Contains, slice_set, slice_index, slice_index_or}
use Rattle.currency_base.specs.Literals.{var_of}
use Rattle.refutation_log.specs.declared.statement.Statement.{Statement}
use Rattle.refutation_log.specs.declared.statement.Statement.TheVariants as statement
use Rattle.refutation_log.specs.declared.step.Step.{Step}
use Rattle.refutation_log.specs.declared.log.Log.{Log}
use Rattle.log_trim.specs.Trimmed.{Reaches, IsUsedVar, IsUsedAnswer, lits_at, rank}

-- a place is marked
abbrev pub is_marked : List Bool → ℕ → Bool
is_marked marks place = slice_index_or marks place false

-- the places that are marked are those for which it holds
abbrev pub IsMarkedWhere : List Bool → (ℕ → Type 0) → Type 0
IsMarkedWhere marks P = (place : ℕ) → (is_marked marks place ≡ true) ↔ P place

-- the marks with each of these places marked too
abbrev pub with_all : List Bool → List ℕ → List Bool
with_all marks [] = marks
with_all marks (place ∷ places) = with_all (slice_set marks place true) places

-- the marks with these places marked too, where so told
abbrev pub with_all_where : Bool → List Bool → List ℕ → List Bool
with_all_where told marks places = if told then with_all marks places else marks

-- going down from a number, at each place that is marked all that the lists have there is marked too
abbrev pub swept : (ℕ → List ℕ) → ℕ → List Bool → List Bool
swept lists zero marks = marks
swept lists (suc n) marks = swept lists n (with_all_where (is_marked marks n) marks (lists n))

-- going up to a number, at each place that is marked in the first marks all that the lists have there is marked in the others
abbrev pub gathered : List Bool → (ℕ → List ℕ) → ℕ → List Bool → List Bool
gathered from lists zero marks = marks
gathered from lists (suc n) marks = with_all_where (is_marked from n) (gathered from lists n marks) (lists n)

-- the lists have the number at a place, below a number, that is marked
pub record IsOfMarked (from : List Bool) (lists : ℕ → List ℕ) (n : ℕ) (number : ℕ) : Type 0 where
  pub place : ℕ
  pub below : place < n
  pub marked : is_marked from place ≡ true
  pub is_in : Contains (lists place) number

-- the variables of the step at a place
abbrev pub vars_at : List Step → ℕ → List ℕ
vars_at steps place = map var_of (lits_at steps place)

-- the answers that a statement names: one, or none
abbrev pub answers_of : Statement → List ℕ
answers_of (statement.Before rel attr earlier later) = []
answers_of (statement.Top rel attr row) = []
answers_of (statement.Last rel attr row) = []
answers_of (statement.Answer tuple) = tuple ∷ []

-- the answers that the statement at a place names
abbrev pub answers_at : List Statement → ℕ → List ℕ
answers_at statements place = slice_index_or (map answers_of statements) place []

-- of each place the rank among those that are marked
pub record AreRanks (marks : List Bool) (ranks : List ℕ) : Type 0 where
  pub count : length ranks ≡ length marks
  pub each : (place : ℕ) → place < length marks → slice_index ranks place ≡ rank (is_marked marks) place

-- the item, where it is kept
abbrev pub one_where : {X : Type 0} → Bool → X → List X
one_where told x = if told then x ∷ [] else []

-- ---- what is kept of a log

-- the steps that goals reach are marked
pub record AreReached (log : Log) (goals : List ℕ) (marks : List Bool) : Type 0 where
  pub count : length marks ≡ length log.steps
  pub marked : IsMarkedWhere marks (Reaches log.steps goals)

-- the statements whose variables stand in such a step are marked
pub record AreUsed (log : Log) (goals : List ℕ) (marks : List Bool) : Type 0 where
  pub count : length marks ≡ length log.statements
  pub marked : IsMarkedWhere marks (IsUsedVar log.steps goals)

-- the answers that such a statement names are marked
pub record AreNamed (log : Log) (goals : List ℕ) (marks : List Bool) : Type 0 where
  pub count : length marks ≡ length log.answers
  pub marked : IsMarkedWhere marks (IsUsedAnswer log goals)
