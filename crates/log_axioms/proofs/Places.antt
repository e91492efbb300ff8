-- The first place of a tuple, and tuples that ascend.
use Rattle.std.proofs.Common.{◌≡◌, ◌⊎◌, inl, inr, ◌∙◌, ◌+◌, ◌<◌, ◌≤◌, ℕ, zero, suc, Bool, true, false, List, [], ◌∷◌, Some, None, option_map, length, get_or, slice_get, refl, sym, ap, subst, arith}
use Rattle.std.specs.Cmp.Lexicographic.{slice_cmp}
use Rattle.std.specs.Cmp.{IsTotalOrder}
use Rattle.std.specs.List.Sorted.{IsPartitionedBy, IsPartitionPoint}
use Rattle.std.specs.Ordering.{is_eq, is_lt}
use Rattle.std.specs.declared.cmp.Ordering.{Ordering}
use Rattle.std.specs.declared.cmp.Ordering.TheVariants.{Less, Equal, Greater}
use Rattle.std.proofs.lemmas.Bool.{cases_lt, cases_eq, false≢true}
use Rattle.std.proofs.lemmas.Option.{same_Some, none-some, get_or_from_slice_get, slice_get-get_or, slice_get_within}
use Rattle.currency_base.specs.Values.{value_cmp}
use Rattle.currency_base.specs.declared.value.Value.{Value}
use Rattle.query_model.specs.Answers.{IsBelow, AreAscending}
use Rattle.log_axioms.specs.Matches.{first_place, is_tuple}

-- ---- the first place

-- a place with the tuple and none before it is the first
pub is_first : (xs : List (List Value)) (tuple x : List Value) (k : ℕ) → slice_get xs k ≡ Some x → is_tuple x tuple ≡ true
    → ((i : ℕ) (y : List Value) → i < k → slice_get xs i ≡ Some y → is_tuple y tuple ≡ false) → Some k ≡ first_place xs tuple
is_first [] tuple x k at same none = absurd (none-some x at)
is_first (y ∷ xs) tuple x zero at same none =
    let here : is_tuple y tuple ≡ true = ap (λ z. is_tuple z tuple) (same_Some y x at) ∙ same in
    rw here refl
is_first (y ∷ xs) tuple x (suc k) at same none =
    let not_here : is_tuple y tuple ≡ false = none 0 y (omega arith) refl in
    let later = is_first xs tuple x k at same (λ i z below there. none (suc i) z (omega (arith, below)) there) in
    rw not_here (ap (option_map suc) later)

-- where no place has it, there is no first one
pub is_nowhere : (xs : List (List Value)) (tuple : List Value)
    → ((i : ℕ) (y : List Value) → slice_get xs i ≡ Some y → is_tuple y tuple ≡ false) → None ≡ first_place xs tuple
is_nowhere [] tuple none = refl
is_nowhere (y ∷ xs) tuple none =
    let not_here : is_tuple y tuple ≡ false = none 0 y refl in
    let later = is_nowhere xs tuple (λ i z there. none (suc i) z there) in
    rw not_here (ap (option_map suc) later)

-- no place up to one has it: the step of a scan
pub scanned_more : (xs : List (List Value)) (tuple x : List Value) (k : ℕ) → slice_get xs k ≡ Some x → is_tuple x tuple ≡ false
    → ((i : ℕ) (y : List Value) → i < k → slice_get xs i ≡ Some y → is_tuple y tuple ≡ false)
    → (i : ℕ) (y : List Value) → i < k + 1 → slice_get xs i ≡ Some y → is_tuple y tuple ≡ false
scanned_more xs tuple x k at other none i y below there = by (cases_lt i k)
  where
    by : (i < k) ⊎ (k ≤ i) → is_tuple y tuple ≡ false
    by (inl before) = none i y before there
    by (inr past) =
        let same : i ≡ k = omega (arith, past, below) in
        let one : y ≡ x = same_Some y x (sym there ∙ (ap (slice_get xs) same ∙ at)) in
        ap (λ z. is_tuple z tuple) one ∙ other

-- ---- orders

less : (o : Ordering) → is_lt o ≡ true → o ≡ Less
less Less e = refl
less Equal e = absurd (false≢true e)
less Greater e = absurd (false≢true e)

equal : (o : Ordering) → is_eq o ≡ true → o ≡ Equal
equal Less e = absurd (false≢true e)
equal Equal e = refl
equal Greater e = absurd (false≢true e)

less_differs : (a b : List Value) → IsBelow a b → is_tuple a b ≡ false
less_differs a b below = ap is_eq below

pub below_if : (a b : List Value) → is_lt (slice_cmp value_cmp a b) ≡ true → IsBelow a b
below_if a b e = less (slice_cmp value_cmp a b) e

-- ---- tuples that ascend

item_at : (xs : List (List Value)) (k : ℕ) → k < length xs → (x : List Value) × (slice_get xs k ≡ Some x)
item_at xs k below = (get_or xs k [], slice_get-get_or xs k [] below)

-- where each is below the next, each is below all after it
pub ascending_by_steps : IsTotalOrder (slice_cmp value_cmp) → (xs : List (List Value))
    → ((k : ℕ) (a b : List Value) → slice_get xs k ≡ Some a → slice_get xs (k + 1) ≡ Some b → IsBelow a b) → AreAscending xs
ascending_by_steps total xs steps i j a b below at at' = go j b below at'
  where
    go : (j : ℕ) (b : List Value) → i < j → slice_get xs j ≡ Some b → IsBelow a b
    go zero b below at' = absurd (omega (arith, below))
    go (suc m) b below at' =
        let next : m + 1 ≡ suc m = omega arith in
        let there : slice_get xs (m + 1) ≡ Some b = ap (slice_get xs) next ∙ at' in
        let within = slice_get_within xs (suc m) b at' in
        let x = item_at xs m (omega (arith, within)) in
        elim (cases_lt i m) [
          | inl before ↦ total.trans a x.0 b (go m x.0 before x.1) (steps m x.0 b x.1 there)
          | inr past ↦
              let same : m ≡ i = omega (arith, past, below) in
              let here : slice_get xs m ≡ Some a = ap (slice_get xs) same ∙ at in
              steps m a b here there
        ]

-- those below a tuple come first
pub lesser_first : IsTotalOrder (slice_cmp value_cmp) → (xs : List (List Value)) (tuple : List Value) → AreAscending xs
    → IsPartitionedBy (λ y. is_lt (slice_cmp value_cmp y tuple)) xs
lesser_first total xs tuple ascending i j d order within passes = by (cases_lt i j)
  where
    by : (i < j) ⊎ (j ≤ i) → is_lt (slice_cmp value_cmp (get_or xs i d) tuple) ≡ true
    by (inl before) =
        let at = slice_get-get_or xs i d (omega (arith, before, within)) in
        let at' = slice_get-get_or xs j d within in
        let under = ascending i j (get_or xs i d) (get_or xs j d) before at at' in
        ap is_lt (total.trans (get_or xs i d) (get_or xs j d) tuple under (below_if (get_or xs j d) tuple passes))
    by (inr same) =
        let one : i ≡ j = omega (arith, same, order) in
        rw one passes

-- where those below the tuple end: no place before has it
abbrev IsCut : List (List Value) → List Value → ℕ → Type 0
IsCut xs tuple i =
    IsPartitionPoint (λ y. is_lt (slice_cmp value_cmp y tuple) ≡ true) (λ y. is_lt (slice_cmp value_cmp y tuple) ≡ false) xs i

none_before : (xs : List (List Value)) (tuple : List Value) (i : ℕ) → IsCut xs tuple i
    → (k : ℕ) (y : List Value) → k < i → slice_get xs k ≡ Some y → is_tuple y tuple ≡ false
none_before xs tuple i cut k y before at =
    let passes = cut.0 k y (omega arith) before in
    let here : is_lt (slice_cmp value_cmp y tuple) ≡ true =
    subst (λ z. is_lt (slice_cmp value_cmp z tuple) ≡ true) (get_or_from_slice_get xs k y y at) passes in
    less_differs y tuple (below_if y tuple here)

pub first_by_cut : (xs : List (List Value)) (tuple x : List Value) (i : ℕ) → IsCut xs tuple i → slice_get xs i ≡ Some x
    → is_tuple x tuple ≡ true → Some i ≡ first_place xs tuple
first_by_cut xs tuple x i cut at same = is_first xs tuple x i at same (none_before xs tuple i cut)

pub nowhere_by_cut : (xs : List (List Value)) (tuple : List Value) (i : ℕ) →
    ((a b : List Value) → slice_cmp value_cmp a b ≡ Equal → a ≡ b)
    → AreAscending xs → IsCut xs tuple i → ((x : List Value) → slice_get xs i ≡ Some x → is_tuple x tuple ≡ false)
    → None ≡ first_place xs tuple
nowhere_by_cut xs tuple i exact ascending cut other = is_nowhere xs tuple (λ k y at. by k y at (cases_lt k i) (cases_eq k i))
  where
    above : (k : ℕ) (y x : List Value) → i < k → slice_get xs k ≡ Some y → slice_get xs i ≡ Some x → (t : Bool)
        → is_tuple y tuple ≡ t → t ≡ false
    above k y x past at here false e = refl
    above k y x past at here true e =
        let same : y ≡ tuple = exact y tuple (equal (slice_cmp value_cmp y tuple) e) in
        let under : IsBelow x tuple = subst (IsBelow x) same (ascending i k x y past here at) in
        let fails = cut.1 i x (omega arith) (slice_get_within xs i x here) in
        let not_less : is_lt (slice_cmp value_cmp x tuple) ≡ false =
        subst (λ z. is_lt (slice_cmp value_cmp z tuple) ≡ false) (get_or_from_slice_get xs i x x here) fails in
        absurd (false≢true (sym not_less ∙ ap is_lt under))

    by : (k : ℕ) (y : List Value) → slice_get xs k ≡ Some y → (k < i) ⊎ (i ≤ k) → (k ≡ i) ⊎ (k ≡ i → ⊥) → is_tuple y tuple ≡ false
    by k y at (inl before) same = none_before xs tuple i cut k y before at
    by k y at (inr past) (inl same) = other y (sym (ap (slice_get xs) same) ∙ at)
    by k y at (inr past) (inr apart) =
        let late : i < k = omega (arith, past, apart) in
        let within = slice_get_within xs k y at in
        let x = item_at xs i (omega (arith, late, within)) in
        above k y x.0 late at x.1 (is_tuple y tuple) refl
