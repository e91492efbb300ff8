-- Lists that are made number by number, and the literals of clauses.
use Rattle.std.proofs.Common.{◌≡◌, ◌≢◌, ◌⊎◌, ◌<◌, ◌≤◌, ◌∙◌, ◌+◌, ℕ, zero, suc, eqb, ltb, cond, List, [], ◌∷◌, ◌++◌, Contains, Some, length, slice_get, refl, sym, subst, inl, inr, ⊎_elim, arith}
use Rattle.std.proofs.lemmas.Bool.{cases_eq, cases_lt, eq-eqb, ne_eqb, lt-ltb, le-ltb, cond-true, cond-false}
use Rattle.std.proofs.lemmas.List.Elements.{Contains-append_left, Contains-append_right, Contains-push_cases, Contains-push}
use Rattle.std.proofs.lemmas.Option.{none-some, same_Some}
use Rattle.currency_base.specs.Lists.{OnlyOnce}
use Rattle.last_rows.specs.Rows.{AreApart, Literals, clause_lits, each_below, lit_of}

-- ---- one item more

-- where an item of a list with one more stands
pub get_push : {A : Type 0} (xs : List A) (y : A) (i : ℕ) (x : A) → slice_get (xs ++ y ∷ []) i ≡ Some x
    → (slice_get xs i ≡ Some x) ⊎ ((i ≡ length xs) × (y ≡ x))
get_push [] y zero x at = inr (refl, same_Some y x at)
get_push [] y (suc i) x at = absurd (none-some x at)
get_push (z ∷ xs) y zero x at = inl at
get_push (z ∷ xs) y (suc i) x at = ⊎_elim
    (λ (h : slice_get xs i ≡ Some x). inl h)
    (λ (h : (i ≡ length xs) × (y ≡ x)). inr (omega (arith, h.0), h.1))
    (get_push xs y i x at)

contains_get : {A : Type 0} (xs : List A) (i : ℕ) (x : A) → slice_get xs i ≡ Some x → Contains xs x
contains_get [] i x at = absurd (none-some x at)
contains_get (y ∷ xs) zero x at = Contains-append_left (y ∷ []) xs x (subst (λ z. Contains (y ∷ []) z) (same_Some y x at)
    (Contains-push [] y))
contains_get (y ∷ xs) (suc i) x at = Contains-append_right (y ∷ []) xs x (contains_get xs i x at)

pub once_push : {A : Type 0} (xs : List A) (y : A) → OnlyOnce xs → (Contains xs y → ⊥) → OnlyOnce (xs ++ y ∷ [])
once_push {A} xs y once apart i j x at_i at_j = ⊎_elim
    (λ (p : slice_get xs i ≡ Some x). ⊎_elim
    (λ (q : slice_get xs j ≡ Some x). once i j x p q)
    (λ (q : (j ≡ length xs) × (y ≡ x)). absurd (apart (subst (λ z. Contains xs z) (sym q.1) (contains_get xs i x p))))
    (get_push xs y j x at_j))
    (λ (p : (i ≡ length xs) × (y ≡ x)). ⊎_elim
    (λ (q : slice_get xs j ≡ Some x). absurd (apart (subst (λ z. Contains xs z) (sym p.1) (contains_get xs j x q))))
    (λ (q : (j ≡ length xs) × (y ≡ x)). p.0 ∙ sym q.0)
    (get_push xs y j x at_j))
    (get_push xs y i x at_i)

pub once_none : {A : Type 0} → OnlyOnce {A = A} []
once_none i j x at_i at_j = absurd (none-some x at_i)

pub once_one : {A : Type 0} (x : A) → OnlyOnce (x ∷ [])
once_one x zero zero y at_i at_j = refl
once_one x zero (suc j) y at_i at_j = absurd (none-some y at_j)
once_one x (suc i) j y at_i at_j = absurd (none-some y at_i)

pub in_none : {A : Type 0} (y : A) → Contains [] y → ⊥
in_none y h = absurd (omega (arith, h.1))

pub in_one : {A : Type 0} (x y : A) → Contains (x ∷ []) y → x ≡ y
in_one x y h = ⊎_elim (λ (p : Contains [] y). absurd (in_none y p)) (λ (p : x ≡ y). p) (Contains-push_cases [] x y h)

-- ---- the items at the numbers below a bound

pub each_none : {A : Type 0} (f : ℕ → A) → each_below f 0 ≡ []
unfolding each_below
each_none f = refl

pub each_more : {A : Type 0} (f : ℕ → A) (n : ℕ) → each_below f (n + 1) ≡ each_below f n ++ f n ∷ []
unfolding each_below
each_more f n = let next : n + 1 ≡ suc n = omega arith in rw next refl

pub in_each : {A : Type 0} (f : ℕ → A) (n : ℕ) (x : A) → Contains (each_below f n) x → (i : ℕ) × (i < n) × (x ≡ f i)
unfolding each_below
in_each f zero x h = absurd (in_none x h)
in_each {A} f (suc n) x h = ⊎_elim
    (λ (p : Contains (each_below f n) x). let m = in_each f n x p in (m.0, omega (arith, m.1), m.2))
    (λ (p : f n ≡ x). (n, omega arith, sym p))
    (Contains-push_cases (each_below f n) (f n) x h)

pub each_in : {A : Type 0} (f : ℕ → A) (n i : ℕ) → i < n → Contains (each_below f n) (f i)
unfolding each_below
each_in f zero i within = absurd (omega (arith, within))
each_in {A} f (suc n) i within = ⊎_elim
    (λ (e : i ≡ n). subst (λ (k : ℕ). Contains (each_below f n ++ f n ∷ []) (f k)) (sym e) (Contains-push (each_below f n) (f n)))
    (λ (ne : i ≡ n → ⊥). Contains-append_left (each_below f n) (f n ∷ []) (f i) (each_in f n i
    (grind (arith, within, ne))))
    (cases_eq i n)

pub once_each : {A : Type 0} (f : ℕ → A) (n : ℕ) → ((i j : ℕ) → i < n → j < n → f i ≡ f j → i ≡ j)
    → OnlyOnce (each_below f n)
unfolding each_below
once_each f zero apart = once_none
once_each f (suc n) apart = once_push (each_below f n) (f n)
    (once_each f n (λ i j at_i at_j e. apart i j (omega (arith, at_i)) (omega (arith, at_j)) e))
    (λ h. let m = in_each f n (f n) h in
    let same = apart n m.0 (omega arith) (let w = m.1 in omega (arith, w)) m.2 in
    let w = m.1 in absurd (omega (arith, w, same)))

-- ---- the literals of a clause

pub lit_own : (l : Literals) (first own : ℕ) → lit_of l first own own ≡ l.top own
lit_own l first own = cond-true (eqb own own) (l.top own) (cond (ltb own first) (l.before own own) (l.top own)) (eq-eqb own own refl)

pub lit_low : (l : Literals) (first own row : ℕ) → row ≢ own → row < first → lit_of l first own row ≡ l.before own row
lit_low l first own row differ low =
    cond-false (eqb row own) (l.top row) (cond (ltb row first) (l.before own row) (l.top row)) (ne_eqb row own differ)
    ∙ cond-true (ltb row first) (l.before own row) (l.top row) (lt-ltb row first low)

pub lit_high : (l : Literals) (first own row : ℕ) → first ≤ row → lit_of l first own row ≡ l.top row
lit_high l first own row high = ⊎_elim
    (λ (e : row ≡ own). subst (λ (k : ℕ). lit_of l first own k ≡ l.top k) (sym e) (lit_own l first own))
    (λ (ne : row ≡ own → ⊥).
    cond-false (eqb row own) (l.top row) (cond (ltb row first) (l.before own row) (l.top row)) (ne_eqb row own ne)
    ∙ cond-false (ltb row first) (l.before own row) (l.top row) (le-ltb row first high))
    (cases_eq row own)

-- which of both a literal is
pub record IsTopOf (l : Literals) (first own row : ℕ) : Type 0 where
  pub who : (row ≡ own) ⊎ (first ≤ row)
  pub is : lit_of l first own row ≡ l.top row

pub record IsPairOf (l : Literals) (first own row : ℕ) : Type 0 where
  pub differ : row ≢ own
  pub low : row < first
  pub is : lit_of l first own row ≡ l.before own row

pub lit_how : (l : Literals) (first own row : ℕ) → IsTopOf l first own row ⊎ IsPairOf l first own row
lit_how l first own row = ⊎_elim
    (λ (e : row ≡ own). inl (record {
      who = inl e;
      is = subst (λ (k : ℕ). lit_of l first own k ≡ l.top k) (sym e) (lit_own l first own);
    }))
    (λ (ne : row ≡ own → ⊥). ⊎_elim
    (λ (low : row < first). inr (record { differ = ne; low = low; is = lit_low l first own row ne low }))
    (λ (high : first ≤ row). inl (record { who = inr high; is = lit_high l first own row high }))
    (cases_lt row first))
    (cases_eq row own)

module _ (l : Literals) (apart : AreApart l) (first own : ℕ) (few : first ≤ l.count) (own_within : own < l.count) where
  lit_once : (a b : ℕ) → a < l.count → b < l.count → lit_of l first own a ≡ lit_of l first own b → a ≡ b
  lit_once a b at_a at_b e = ⊎_elim
      (λ (p : IsTopOf l first own a). ⊎_elim
      (λ (q : IsTopOf l first own b). apart.top_once a b at_a at_b (sym p.is ∙ e ∙ q.is))
      (λ (q : IsPairOf l first own b). absurd (apart.top_before a own b at_a own_within at_b (λ s. q.differ (sym s))
      (sym p.is ∙ e ∙ q.is)))
      (lit_how l first own b))
      (λ (p : IsPairOf l first own a). ⊎_elim
      (λ (q : IsTopOf l first own b). absurd (apart.top_before b own a at_b own_within at_a (λ s. p.differ (sym s))
      (sym q.is ∙ sym e ∙ p.is)))
      (λ (q : IsPairOf l first own b). (apart.before_once own a own b own_within at_a own_within at_b (λ s. p.differ (sym s))
      (λ s. q.differ (sym s)) (sym p.is ∙ e ∙ q.is)).1)
      (lit_how l first own b))
      (lit_how l first own a)

  pub clause_once : OnlyOnce (clause_lits l first own)
  clause_once = once_each (lit_of l first own) l.count lit_once
