-- Lists that are joined of lists: what stands in them, and that nothing stands twice.
use Rattle.std.proofs.Common.{◌≡◌, ◌∙◌, ◌⊎◌, ◌<◌, ◌+◌, ℕ, zero, suc, List, [], ◌∷◌, ◌++◌, Contains, Some, length, slice_get, refl, sym, ap, subst, inl, inr, ⊎_elim, arith}
use Rattle.std.specs.List.{flat_map}
use Rattle.std.proofs.lemmas.Bool.{cases_eq}
use Rattle.std.proofs.lemmas.List.Elements.{Contains-append_left, Contains-append_right, Contains-append_cases}
use Rattle.std.proofs.lemmas.Option.{same_Some, none-some, slice_get-get_or}
use Rattle.currency_base.specs.Lists.{OnlyOnce}
use Rattle.refutation_log.specs.declared.step.Label.{Label}
use Rattle.order_clauses.specs.Added.{below}
use Rattle.order_clauses.proofs.Saying.{contains_at}

-- where an item stands
pub at_of : {A : Type 0} (xs : List A) (x : A) → Contains xs x → (i : ℕ) × (slice_get xs i ≡ Some x)
at_of xs x h = (h.0, slice_get-get_or xs h.0 x h.1 ∙ ap Some h.2)

-- ---- one list after another

get_both : {A : Type 0} (xs ys : List A) (i : ℕ) (x : A) → slice_get (xs ++ ys) i ≡ Some x
    → (slice_get xs i ≡ Some x) ⊎ ((j : ℕ) × (i ≡ length xs + j) × (slice_get ys j ≡ Some x))
get_both [] ys i x at = inr (i, omega arith, at)
get_both (z ∷ xs) ys zero x at = inl at
get_both (z ∷ xs) ys (suc i) x at = ⊎_elim
    (λ (h : slice_get xs i ≡ Some x). inl h)
    (λ (h : (j : ℕ) × (i ≡ length xs + j) × (slice_get ys j ≡ Some x)). inr (h.0, omega (arith, h.1), h.2))
    (get_both xs ys i x at)

pub once_both : {A : Type 0} (xs ys : List A) → OnlyOnce xs → OnlyOnce ys →
    ((x : A) → Contains xs x → Contains ys x → ⊥) → OnlyOnce (xs ++ ys)
once_both {A} xs ys once_xs once_ys apart i j x at_i at_j = ⊎_elim
    (λ (p : slice_get xs i ≡ Some x). ⊎_elim
    (λ (q : slice_get xs j ≡ Some x). once_xs i j x p q)
    (λ (q : (k : ℕ) × (j ≡ length xs + k) × (slice_get ys k ≡ Some x)). absurd
    (apart x (contains_at xs i x p) (contains_at ys q.0 x q.2)))
    (get_both xs ys j x at_j))
    (λ (p : (k : ℕ) × (i ≡ length xs + k) × (slice_get ys k ≡ Some x)). ⊎_elim
    (λ (q : slice_get xs j ≡ Some x). absurd (apart x (contains_at xs j x q) (contains_at ys p.0 x p.2)))
    (λ (q : (k : ℕ) × (j ≡ length xs + k) × (slice_get ys k ≡ Some x)).
    p.1 ∙ ap (λ (k : ℕ). length xs + k) (once_ys p.0 q.0 x p.2 q.2) ∙ sym q.1)
    (get_both xs ys j x at_j))
    (get_both xs ys i x at_i)

pub once_none : {A : Type 0} → OnlyOnce {A = A} []
once_none i j x at_i at_j = absurd (none-some x at_i)

pub once_one : {A : Type 0} (x : A) → OnlyOnce (x ∷ [])
once_one x zero zero y at_i at_j = refl
once_one x zero (suc j) y at_i at_j = absurd (none-some y at_j)
once_one x (suc i) j y at_i at_j = absurd (none-some y at_i)

pub in_one : {A : Type 0} (x y : A) → Contains (x ∷ []) y → x ≡ y
in_one x y (zero, within, e) = e
in_one x y (suc k, within, e) = absurd (omega arith)

pub in_none : {A : Type 0} (y : A) → Contains [] y → ⊥
in_none y h = absurd (omega (arith, h.1))

-- ---- a list for each number below a bound

pub in_below : (f : ℕ → List Label) (n : ℕ) (l : Label) → Contains (below f n) l → (i : ℕ) × (i < n) × Contains (f i) l
unfolding below
in_below f zero l h = absurd (in_none l h)
in_below f (suc n) l h = ⊎_elim
    (λ (p : Contains (below f n) l). let m = in_below f n l p in (m.0, omega (arith, m.1), m.2))
    (λ (p : Contains (f n) l). (n, omega arith, p))
    (Contains-append_cases (below f n) (f n) l h)

pub below_in : (f : ℕ → List Label) (n i : ℕ) (l : Label) → i < n → Contains (f i) l → Contains (below f n) l
unfolding below
below_in f zero i l within h = absurd (omega arith)
below_in f (suc n) i l within h = ⊎_elim
    (λ (e : i ≡ n). Contains-append_right (below f n) (f n) l (subst (λ (k : ℕ). Contains (f k) l) e h))
    (λ (ne : i ≡ n → ⊥). Contains-append_left (below f n) (f n) l (below_in f n i l (omega arith) h))
    (cases_eq i n)

pub once_below : (f : ℕ → List Label) (n : ℕ) → ((i : ℕ) → i < n → OnlyOnce (f i))
    → ((i j : ℕ) (l : Label) → i < n → j < n → Contains (f i) l → Contains (f j) l → i ≡ j) → OnlyOnce (below f n)
unfolding below
once_below f zero each apart = once_none
once_below f (suc n) each apart = once_both (below f n) (f n)
    (once_below f n (λ i within. each i (omega arith)) (λ i j l at_i at_j p q. apart i j l (omega arith) (omega arith) p q))
    (each n (omega arith))
    (λ l p q. let m = in_below f n l p in let same = apart m.0 n l (omega (arith, m.1)) (omega arith) m.2 q in absurd
    (omega (arith, m.1, same)))

-- ---- a list for each item

pub in_flat : {A : Type 0} (f : A → List Label) (xs : List A) (l : Label) → Contains (flat_map f xs) l →
    (i : ℕ) × (x : A) × (slice_get xs i ≡ Some x) × Contains (f x) l
in_flat f [] l h = absurd (in_none l h)
in_flat {A} f (x ∷ xs) l h = ⊎_elim
    (λ (p : Contains (f x) l). (0, x, refl, p))
    (λ (p : Contains (flat_map f xs) l). let m = in_flat f xs l p in (suc m.0, m.1, m.2, m.3))
    (Contains-append_cases (f x) (flat_map f xs) l h)

pub flat_in : {A : Type 0} (f : A → List Label) (xs : List A) (i : ℕ) (x : A) (l : Label) → slice_get xs i ≡ Some x
    → Contains (f x) l → Contains (flat_map f xs) l
flat_in f [] i x l at h = absurd (none-some x at)
flat_in f (y ∷ xs) zero x l at h =
    let same = same_Some y x at in Contains-append_left (f y) (flat_map f xs) l (subst (λ z. Contains (f z) l) (sym same) h)
flat_in f (y ∷ xs) (suc i) x l at h = Contains-append_right (f y) (flat_map f xs) l (flat_in f xs i x l at h)

pub once_flat : {A : Type 0} (f : A → List Label) (xs : List A) → OnlyOnce xs →
    ((i : ℕ) (x : A) → slice_get xs i ≡ Some x → OnlyOnce (f x))
    → ((x y : A) (l : Label) → Contains (f x) l → Contains (f y) l → x ≡ y) → OnlyOnce (flat_map f xs)
once_flat f [] once each apart = once_none
once_flat f (x ∷ xs) once each apart = once_both (f x) (flat_map f xs) (each 0 x refl)
    (once_flat f xs (λ i j y p q. let e = once (suc i) (suc j) y p q in omega (arith, e)) (λ i y at. each (suc i) y at) apart)
    (λ l p q. let m = in_flat f xs l q in
    let same = apart x m.1 l p m.3 in
    let e = once 0 (suc m.0) x refl (m.2 ∙ ap Some (sym same)) in absurd (omega (arith, e)))
