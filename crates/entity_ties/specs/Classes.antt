-- Numbers that links lead between, and labels that tell which they are.
use Rattle.std.specs.Prelude.{◌≡◌, ◌==◌, ◌<◌, ◌⊎◌, ◌↔◌, ℕ, List, [], Some, Contains, length, slice_get, slice_index_or, if◌then◌else◌}
use Rattle.entity_ties.specs.declared.links.Link.{Link}

-- there is a link between two numbers, from one to the other
abbrev pub HasLink : List Link → ℕ → ℕ → Type 0
HasLink links one other = Contains links (record { one = one; other = other })

-- a chain of links leads from one number to the other, either way at each link
pub data AreLinked (links : List Link) : ℕ → ℕ → Type 0 where
  here : (a : ℕ) → AreLinked links a a
  onward : (a b c : ℕ) → AreLinked links a b → HasLink links b c → AreLinked links a c
  backward : (a b c : ℕ) → AreLinked links a b → HasLink links c b → AreLinked links a c

-- numbers have one label just where links lead from one to the other; a label is a number below the count
pub record AreLabels (links : List Link) (labels : List ℕ) : Type 0 where
  pub within : (a n : ℕ) → slice_get labels a ≡ Some n → n < length labels
  pub exact : (a b : ℕ) → a < length labels → b < length labels → (slice_get labels a ≡ slice_get labels b) ↔ AreLinked links a b

-- ---- classes

-- the numbers of a label
abbrev pub numbers_of : List (List ℕ) → ℕ → List ℕ
numbers_of members label = slice_index_or members label []

-- by label, the numbers that have it
pub record AreClasses (labels : List ℕ) (members : List (List ℕ)) : Type 0 where
  pub as_many : length members ≡ length labels
  pub within : (a n : ℕ) → slice_get labels a ≡ Some n → n < length labels
  pub each : (a n : ℕ) → slice_get labels a ≡ Some n → Contains (numbers_of members n) a
  pub only : (a n : ℕ) → Contains (numbers_of members n) a → slice_get labels a ≡ Some n

-- each number below the count is alone
pub record AreSingle (count : ℕ) (labels : List ℕ) (members : List (List ℕ)) : Type 0 where
  pub many : length labels ≡ count
  pub own : (a : ℕ) → a < count → slice_get labels a ≡ Some a
  pub classes : AreClasses labels members

-- some numbers got a label
pub record IsRelabelled (to : ℕ) (moved old new : List ℕ) : Type 0 where
  pub many : length new ≡ length old
  pub these : (a : ℕ) → Contains moved a → slice_get new a ≡ Some to
  pub others : (a : ℕ) → (Contains moved a → ⊥) → slice_get new a ≡ slice_get old a

-- what is labelled `from` got the label `to`
abbrev pub united : ℕ → ℕ → ℕ → ℕ
united from to label = if label == from then to else label

pub record IsUnited (from to : ℕ) (old new : List ℕ) : Type 0 where
  pub many : length new ≡ length old
  pub each : (a n : ℕ) → slice_get old a ≡ Some n → slice_get new a ≡ Some (united from to n)

-- two numbers have, under the labels, the classes of these two
pub record AreAcross (labels : List ℕ) (one other a b : ℕ) : Type 0 where
  pub first : slice_get labels a ≡ slice_get labels one
  pub second : slice_get labels b ≡ slice_get labels other

-- the classes of two numbers are one now
pub record IsJoined (one other : ℕ) (old new : List ℕ) : Type 0 where
  pub many : length new ≡ length old
  pub equal : slice_get new one ≡ slice_get new other
  pub kept : (a b : ℕ) → a < length old → b < length old → slice_get old a ≡ slice_get old b → slice_get new a ≡ slice_get new b
  pub sound : (a b : ℕ) → a < length old → b < length old → slice_get new a ≡ slice_get new b
      → (slice_get old a ≡ slice_get old b) ⊎ (AreAcross old one other a b ⊎ AreAcross old other one a b)
