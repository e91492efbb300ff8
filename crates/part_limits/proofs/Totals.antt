-- Sums over the numbers below a bound.
use Rattle.std.proofs.Common.{◌≡◌, ◌<◌, ◌≤◌, ◌+◌, ◌*◌, ◌-◌, ◌^◌, ◌∙◌, ℕ, zero, suc, List, [], ◌∷◌, length, slice_get, refl, sym, ap, subst, ⊎_elim, arith}
use Rattle.std.specs.List.{range_with_len, sum_by}
use Rattle.std.specs.Option.{option_map_or}
use Rattle.std.proofs.lemmas.Bool.{cases_lt}
use Rattle.std.proofs.lemmas.List.Sums.{sum_by-cons}
use Rattle.std.proofs.lemmas.Nat.{mul-le}
use Rattle.std.proofs.Math.Nat.{pow-zero, pow-suc}
use Rattle.spec_limits.specs.Instances.{two_for_each_three}

-- the sum of a term over the numbers below a bound
abbrev pub total : (ℕ → ℕ) → ℕ → ℕ
total f zero = 0
total f (suc n) = total f n + f n

-- the first term apart from the others
pub first_apart : (f : ℕ → ℕ) (n : ℕ) → total f (suc n) ≡ f 0 + total (λ i. f (suc i)) n
first_apart f zero = omega arith
first_apart f (suc n) = let more = first_apart f n in omega (arith, more)

pub alike : (f g : ℕ → ℕ) (n : ℕ) → ((i : ℕ) → f i ≡ g i) → total f n ≡ total g n
alike f g zero same = refl
alike f g (suc n) same = let more = alike f g n same in omega (arith, more, same n)

pub added : (f g : ℕ → ℕ) (n : ℕ) → total (λ i. f i + g i) n ≡ total f n + total g n
added f g zero = refl
added f g (suc n) = let more = added f g n in omega (arith, more)

pub ones : (n : ℕ) → total (λ i. 1) n ≡ n
ones zero = refl
ones (suc n) = let more = ones n in omega (arith, more)

up_to : (f : ℕ → ℕ) (m n : ℕ) → m ≤ n → total f m ≤ total f n
up_to f m zero low = let none : m ≡ 0 = omega (arith, low) in subst (λ k. total f m ≤ total f k) none (omega arith)
up_to f m (suc n) low =
    ⊎_elim
    (λ (under : m < suc n). let more = up_to f m n (omega (arith, under)) in omega (arith, more))
    (λ (high : suc n ≤ m).
    let same : m ≡ suc n = omega (arith, low, high) in
    subst (λ k. total f m ≤ total f k) same (omega arith))
    (cases_lt m (suc n))

-- terms that are no larger than others at numbers that ascend
pub embedded : (f g e : ℕ → ℕ) (k n : ℕ) → ((i : ℕ) → i < k → e i < n) → ((i j : ℕ) → i < j → j < k → e i < e j)
    → ((i : ℕ) → i < k → f i ≤ g (e i))
    → total f k ≤ total g n
embedded f g e zero n inside ascend each = omega arith
embedded f g e (suc k) n inside ascend each =
    let rest = embedded f g e k (e k) (λ i below. ascend i k below (omega arith))
    (λ i j low high. ascend i j low (omega (arith, high)))
    (λ i below. each i (omega (arith, below))) in
    let last = each k (omega arith) in
    let more = up_to g (suc (e k)) n (let under = inside k (omega arith) in omega (arith, under)) in
    omega (arith, rest, last, more)

-- ---- other sums

-- a term of the item at a place, and nothing past the end
abbrev pub at_place : {A : Type 0} → (A → ℕ) → List A → ℕ → ℕ
at_place f xs i = option_map_or f (slice_get xs i) 0

pub of_list : {A : Type 0} (f : A → ℕ) (xs : List A) → sum_by f xs ≡ total (at_place f xs) (length xs)
of_list f [] = refl
of_list f (x ∷ xs) =
    let more = of_list f xs in
    let apart : total (at_place f (x ∷ xs)) (suc (length xs)) ≡ f x + total (at_place f xs) (length xs) =
    first_apart (at_place f (x ∷ xs)) (length xs) in
    omega (arith, more, apart, sum_by-cons f x xs)

of_range_from : (f : ℕ → ℕ) (a n : ℕ) → sum_by f (range_with_len a n) ≡ total (λ i. f (a + i)) n
of_range_from f a zero = refl
of_range_from f a (suc n) =
    let more = of_range_from f (a + 1) n in
    let here : a + 0 ≡ a = omega arith in
    let moved = alike (λ i. f (a + suc i)) (λ i. f (a + 1 + i)) n (λ i. ap f (omega arith)) in
    omega (arith, more, moved, ap f here, first_apart (λ i. f (a + i)) n, sum_by-cons f a (range_with_len (a + 1) n))

pub of_range : (f : ℕ → ℕ) (n : ℕ) → sum_by f (range_with_len 0 n) ≡ total f n
of_range f n = of_range_from f 0 n ∙ alike (λ i. f (0 + i)) f n (λ i. ap f (omega arith))

-- ---- terms that grow

-- no larger where its number is no larger
abbrev pub Grows : (ℕ → ℕ) → Type 0
Grows term = (n m : ℕ) → n ≤ m → term n ≤ term m

pub powers_grow : (v : ℕ) → Grows (λ n. n ^ v)
powers_grow zero n m low = let same : n ^ 0 ≡ m ^ 0 = pow-zero n ∙ sym (pow-zero m) in omega (arith, same)
powers_grow (suc v) n m low =
    let more = mul-le (n ^ v) n (m ^ v) m (powers_grow v n m low) low in
    omega (arith, more, pow-suc n v, pow-suc m v)

pub threes_grow : Grows two_for_each_three
unfolding two_for_each_three
threes_grow n m low =
    let pairs = mul-le n (n - 1) m (m - 1) low (omega (arith, low)) in
    let all = mul-le (n * (n - 1)) (n - 2) (m * (m - 1)) (m - 2) pairs (omega (arith, low)) in
    omega (arith, all)
