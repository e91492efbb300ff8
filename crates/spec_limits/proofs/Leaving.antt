-- What a sum leaves of a bound, item by item.
use Rattle.std.proofs.Common.{◌≡◌, ◌<◌, ◌≤◌, ◌+◌, ◌-◌, ◌∙◌, ℕ, List, length, get_or, take, Some, None, refl, sym, ap, arith, inl, inr}
use Rattle.std.specs.List.{sum_by}
use Rattle.std.proofs.lemmas.Bool.{cases_lt, lt-ltb, le-ltb}
use Rattle.std.proofs.lemmas.List.{take_all}
use Rattle.std.proofs.lemmas.List.Sums.{sum_by_more, sum_by-take-le}
use Rattle.std.proofs.lemmas.Option.{none-some, same_Some}
use Rattle.spec_limits.specs.Left.{left_of}

pub left_none : (bound n : ℕ) → bound < n → left_of bound n ≡ None
unfolding left_of
left_none bound n above = rw (lt-ltb bound n above) refl

pub left_some : (bound n rest : ℕ) → rest + n ≡ bound → left_of bound n ≡ Some rest
unfolding left_of
left_some bound n rest is =
    let within : n ≤ bound = omega arith in
    let left : bound - n ≡ rest = omega arith in
    rw (le-ltb bound n within) (ap Some left)

-- where nothing is left, the number is above the bound
pub above : (bound n : ℕ) → left_of bound n ≡ None → bound < n
above bound n is = elim (cases_lt bound n) [
  | inl lt ↦ lt
  | inr le ↦ absurd (none-some (bound - n) (sym is ∙ left_some bound n (bound - n) (omega arith)))
]

-- what is left, and the number, are the bound
pub left_and : (bound n rest : ℕ) → left_of bound n ≡ Some rest → rest + n ≡ bound
left_and bound n rest is = elim (cases_lt bound n) [
  | inl lt ↦ absurd (none-some rest (sym (left_none bound n lt) ∙ is))
  | inr le ↦ (let same : bound - n ≡ rest = same_Some (bound - n) rest
      (sym (left_some bound n (bound - n) (omega arith)) ∙ is) in omega arith)
]

-- ---- over a list, of which some items are counted

pub starts : {X : Type 0} (f : X → ℕ) (xs : List X) (bound : ℕ) → bound + sum_by f (take 0 xs) ≡ bound
starts f xs bound = omega arith

pub goes_on : {X : Type 0} (f : X → ℕ) (xs : List X) (i : ℕ) (x : X) (bound left rest : ℕ) → i < length xs → x ≡ get_or xs i x
    → left + sum_by f (take i xs) ≡ bound → left_of left (f x) ≡ Some rest → rest + sum_by f (take (i + 1) xs) ≡ bound
goes_on f xs i x bound left rest lt is so_far some =
    let here : f (get_or xs i x) ≡ f x = ap f (sym is) in
    omega (arith, sum_by_more f xs i x lt, here, left_and left (f x) rest some)

pub stops : {X : Type 0} (f : X → ℕ) (xs : List X) (i : ℕ) (x : X) (bound left : ℕ) → i < length xs → x ≡ get_or xs i x
    → left + sum_by f (take i xs) ≡ bound → left_of left (f x) ≡ None → left_of bound (sum_by f xs) ≡ None
stops f xs i x bound left lt is so_far none =
    let here : f (get_or xs i x) ≡ f x = ap f (sym is) in
    left_none bound (sum_by f xs) (omega (
      arith,
      sum_by_more f xs i x lt,
      sum_by-take-le f xs (i + 1),
      here,
      above left (f x) none,
    ))

pub ends : {X : Type 0} (f : X → ℕ) (xs : List X) (i bound left : ℕ) → length xs ≤ i → left + sum_by f (take i xs) ≡ bound
    → left_of bound (sum_by f xs) ≡ Some left
ends f xs i bound left all so_far =
    left_some bound (sum_by f xs) left (ap (λ ys. left + sum_by f ys) (sym (take_all i xs all)) ∙ so_far)

-- ---- one number after another

pub both : (bound a b rest : ℕ) → left_of bound a ≡ Some rest → left_of bound (a + b) ≡ left_of rest b
both bound a b rest is = elim (cases_lt rest b) [
  | inl lt ↦ left_none bound (a + b) (omega (arith, left_and bound a rest is)) ∙ sym (left_none rest b lt)
  | inr le ↦ left_some bound (a + b) (rest - b) (omega (arith, left_and bound a rest is))
      ∙ sym (left_some rest b (rest - b) (omega arith))
]

pub first_above : (bound a b : ℕ) → left_of bound a ≡ None → left_of bound (a + b) ≡ None
first_above bound a b none = left_none bound (a + b) (omega (arith, above bound a none))
