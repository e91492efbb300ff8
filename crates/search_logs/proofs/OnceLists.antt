-- Lists in which no item stands twice: they stay such where a function keeps their items apart, and numbers in them are few.
use Rattle.std.proofs.Common.{◌≡◌, ◌⊎◌, inl, inr, ◌∙◌, ◌<◌, ◌≤◌, ◌*◌, ℕ, zero, suc, eqb, true, false, List, [], ◌∷◌, length, map, get_or, All, Some, option_map, slice_get, refl, sym, ap, subst, arith}
use Rattle.std.specs.List.{list_any, IsDistinct, AllByRecursion}
use Rattle.std.proofs.lemmas.Bool.{ne_eqb, eqb-true, or_cases}
use Rattle.std.proofs.lemmas.List.{length-map, get_or_past}
use Rattle.std.proofs.lemmas.List.Elements.{All-contains, All-nil}
use Rattle.std.proofs.lemmas.Map.Steps.{length-le_from_distinct_below}
use Rattle.std.proofs.lemmas.Option.{none-some, same_Some, slice_get-map, slice_get-get_or, slice_get_cases, get_or_from_slice_get}
use Rattle.currency_base.specs.Lists.{OnlyOnce}
use Rattle.currency_base.specs.Literals.{var_of}
use Rattle.currency_base.specs.declared.ids.RowId.{RowId}
use Rattle.currency_base.specs.declared.lit.Lit.{Lit}
use Rattle.order_literals.proofs.Items.{IsIn, place_of, in_at, contained, from_map}

-- ---- items and their places

pub all_placed : {X : Type 0} (P : X → Type 0) (xs : List X) → ((n : ℕ) (x : X) → slice_get xs n ≡ Some x → P x) → All P xs
all_placed P xs each k d below = each k (get_or xs k d) (slice_get-get_or xs k d below)

pub all_in : {X : Type 0} (P : X → Type 0) (xs : List X) (x : X) → All P xs → IsIn xs x → P x
all_in P xs x all at = All-contains P xs x all (contained xs x at)

pub mapped_at : {A B : Type 0} (f : A → B) (xs : List A) (k : ℕ) (x : A) → slice_get xs k ≡ Some x
    → slice_get (map f xs) k ≡ Some (f x)
mapped_at f xs k x at = slice_get-map f xs k ∙ ap (option_map f) at

pub from_mapped : {A B : Type 0} (f : A → B) (xs : List A) (k : ℕ) (y : B) → slice_get (map f xs) k ≡ Some y
    → (x : A) × (slice_get xs k ≡ Some x) × (f x ≡ y)
from_mapped f [] k y at = absurd (none-some y at)
from_mapped f (x ∷ xs) zero y at = (x, refl, same_Some (f x) y at)
from_mapped f (x ∷ xs) (suc k) y at = from_mapped f xs k y at

-- what a list of lists has for the item at a place
pub list_at : {A B : Type 0} (f : A → List B) (xs : List A) (n : ℕ) (x : A) → slice_get xs n ≡ Some x
    → get_or (map f xs) n [] ≡ f x
list_at f xs n x at = get_or_from_slice_get (map f xs) n (f x) [] (mapped_at f xs n x at)

-- ---- no item twice

pub once_mapped : {A B : Type 0} (f : A → B) (xs : List A) → OnlyOnce xs
    → ((x y : A) → IsIn xs x → IsIn xs y → f x ≡ f y → x ≡ y) → OnlyOnce (map f xs)
once_mapped f xs once apart i j y at_i at_j =
    let one = from_mapped f xs i y at_i in
    let other = from_mapped f xs j y at_j in
    let same = apart one.0 other.0 (in_at xs i one.0 one.1) (in_at xs j other.0 other.1) (one.2 ∙ sym other.2) in
    once i j other.0 (one.1 ∙ ap Some same) other.1

not_among : (x : ℕ) (xs : List ℕ) → (IsIn xs x → ⊥) → AllByRecursion (λ y. eqb x y ≡ false) xs
not_among x [] apart = tt
not_among x (y ∷ ys) apart = (ne_eqb x y (λ same. apart (inl (sym same))), not_among x ys (λ there. apart (inr there)))

distinct : (xs : List ℕ) → OnlyOnce xs → IsDistinct eqb xs
unfolding IsDistinct
distinct [] once = tt
distinct (x ∷ xs) once = (
  not_among x xs (λ there.
      let at = place_of xs x there in
      let same : 0 ≡ next at.0 = once 0 (next at.0) x refl at.1 in
      omega (arith, same)),
  distinct xs (λ i j y a b. let same : next i ≡ next j = once (next i) (next j) y a b in omega (arith, same)),
)
  where
    next : ℕ → ℕ
    next n = suc n

is_member : (q : ℕ) (xs : List ℕ) → list_any (eqb q) xs ≡ true → IsIn xs q
is_member q [] is = absurd (cc)
is_member q (x ∷ xs) is = by (λ h. is_member q xs h) (or_cases (eqb q x) (list_any (eqb q) xs) is)
  where
    by : (list_any (eqb q) xs ≡ true → IsIn xs q) → (eqb q x ≡ true) ⊎ (list_any (eqb q) xs ≡ true) → IsIn (x ∷ xs) q
    by more (inl h) = inl (sym (eqb-true q x h))
    by more (inr h) = inr (more h)

-- numbers below a bound, none of them twice, are no more than the bound
pub few_numbers : (xs : List ℕ) (n : ℕ) → OnlyOnce xs → All (λ x. x < n) xs → length xs ≤ n
few_numbers xs n once below =
    length-le_from_distinct_below xs n (distinct xs once) (λ q is. all_in (λ x. x < n) xs q below (is_member q xs is))

lit_number : Lit → ℕ
lit_number lit = lit.0

same_lit : (a b : Lit) → lit_number a ≡ lit_number b → a ≡ b
unfolding lit_number
same_lit a b same = ap (λ (n : ℕ). let lit : Lit = record { 0 = n } in lit) same

number_below : (n : ℕ) (lit : Lit) → var_of lit < n → lit_number lit < 2 * n
unfolding lit_number
number_below n lit below = omega arith

-- literals of so many variables, none of them twice, are at most two for each variable
pub few_lits : (lits : List Lit) (n : ℕ) → OnlyOnce lits → All (λ lit. var_of lit < n) lits → length lits ≤ 2 * n
few_lits lits n once within =
    let few =
    few_numbers (map lit_number lits) (2 * n) (once_mapped lit_number lits once (λ a b in_a in_b same. same_lit a b same))
    (all_placed (λ x. x < 2 * n) (map lit_number lits) (λ k x at.
    let from = from_map lit_number lits x (in_at (map lit_number lits) k x at) in
    let low = number_below n from.0 (all_in (λ lit. var_of lit < n) lits from.0 within from.1) in
    omega (arith, low, from.2))) in
    omega (arith, few, length-map lits lit_number)

row_number : RowId → ℕ
row_number row = row.0

same_row : (a b : RowId) → row_number a ≡ row_number b → a ≡ b
unfolding row_number
same_row a b same = ap (λ (n : ℕ). let row : RowId = record { 0 = n } in row) same

number_of : (n : ℕ) (row : RowId) → row.0 < n → row_number row < n
unfolding row_number
number_of n row below = below

-- rows of so many, none of them twice, are no more
pub few_rows : (rows : List RowId) (n : ℕ) → OnlyOnce rows → All (λ row. row.0 < n) rows → length rows ≤ n
few_rows rows n once within =
    let few =
    few_numbers (map row_number rows) n (once_mapped row_number rows once (λ a b in_a in_b same. same_row a b same))
    (all_placed (λ x. x < n) (map row_number rows) (λ k x at.
    let from = from_map row_number rows x (in_at (map row_number rows) k x at) in
    let low = number_of n from.0 (all_in (λ (row : RowId). row.0 < n) rows from.0 within from.1) in
    omega (arith, low, from.2))) in
    omega (arith, few, length-map rows row_number)

-- ---- lists at places

-- what holds of the list of each item holds of the list at each place
pub lists_at : {A B : Type 0} (f : A → List B) (P : ℕ → B → Type 0) (xs : List A)
    → ((n : ℕ) (x : A) → slice_get xs n ≡ Some x → All (P n) (f x)) → (n : ℕ) → All (P n) (get_or (map f xs) n [])
lists_at {A} {B} f P xs each n =
    elim ((slice_get_cases xs n).1) [
      | inl one ↦ subst (λ (ys : List B). All (P n) ys) (sym (list_at f xs n one.0 one.2)) (each n one.0 one.2)
      | inr past ↦
          let none : get_or (map f xs) n [] ≡ [] = get_or_past (map f xs) n [] (omega (arith, past.0, length-map xs f)) in
          subst (λ (ys : List B). All (P n) ys) (sym none) (All-nil (P n))
    ]
