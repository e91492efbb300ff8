-- Nodes of a tournament. Node i, from 1 on, has the one of what stands at its children 2i and 2i + 1 that comes first.
-- The last half of all nodes are the numbers themselves, where they are present.
use Rattle.std.specs.Prelude.{◌≡◌, ◌≢◌, ◌⊎◌, ◌<◌, ◌≤◌, ◌+◌, ◌-◌, ◌*◌, ◌/◌, ℕ, zero, suc, Bool, false, cond, List, length, nat_lt, slice_index_or}

-- what stands at a node with no present number below it; it comes after each number
abbrev pub no_number : ℕ
no_number = 4294967295

-- the count of a number; what is no number has count 0
abbrev pub count_at : List ℕ → ℕ → ℕ
count_at counts number = slice_index_or counts number 0

-- of two numbers the first comes before the second
abbrev pub IsBefore : List ℕ → ℕ → ℕ → Type 0
IsBefore counts number other = (count_at counts other < count_at counts number) ⊎
    ((count_at counts number ≡ count_at counts other) × (number ≤ other))

-- what stands at the last node of a number
abbrev pub leaf : List Bool → ℕ → ℕ
leaf present number = cond (slice_index_or present number false) number no_number

-- what stands at a node
abbrev pub node : List Bool → List ℕ → ℕ → ℕ
node present best place = cond (nat_lt place (length best)) (slice_index_or best place 0) (leaf present (place - length best))

-- the better one of two
pub record IsBetter (counts : List ℕ) (left right better : ℕ) : Type 0 where
  pub one_of : (better ≡ left) ⊎ (better ≡ right)
  pub before_left : IsBefore counts better left
  pub before_right : IsBefore counts better right

-- a node has the better one of what its children have
abbrev pub IsRight : List ℕ → List Bool → List ℕ → ℕ → Type 0
IsRight counts present best place = IsBetter counts (node present best (2 * place))
    (node present best (2 * place + 1)) (slice_index_or best place 0)

-- all nodes of a tree are right; the first place is none
pub record IsTree (counts : List ℕ) (present : List Bool) (best : List ℕ) : Type 0 where
  pub few : length counts ≤ 4294967295
  pub present_length : length present ≡ length counts
  pub best_length : length best ≡ length counts
  pub right : (place : ℕ) → 0 < place → place < length best → IsRight counts present best place

-- the node so many steps above another one
abbrev pub above : ℕ → ℕ → ℕ
above zero place = place
above (suc steps) place = above steps place / 2

-- a node is another one, or stands above it
pub record IsAbove (place other : ℕ) : Type 0 where
  pub steps : ℕ
  pub is : place ≡ above steps other

-- all nodes are right but one and those above it
abbrev pub AreRightBelow : List ℕ → List Bool → List ℕ → ℕ → Type 0
AreRightBelow counts present best other = (place : ℕ) → 0 < place → place < length best → IsRight counts present best
    place ⊎ IsAbove place other

-- all nodes are right but one
abbrev pub AreRightBut : List ℕ → List Bool → List ℕ → ℕ → Type 0
AreRightBut counts present best other = (place : ℕ) → 0 < place → place < length best → place ≢ other
    → IsRight counts present best place
