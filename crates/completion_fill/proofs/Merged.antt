-- Two lists made one, item by item.
use Rattle.std.proofs.Common.{◌≡◌, ◌<◌, ◌+◌, ℕ, zero, suc, List, [], ◌∷◌, length, take, get_or, set, refl, sym, ap, arith}
use Rattle.completion_fill.specs.Filled.{merged}

-- where one of two lists has no item, the other stays
pub merged_none : {A : Type 0} (f : A → A → A) (ys : List A) → merged f [] ys ≡ ys
merged_none f [] = refl
merged_none f (y ∷ ys) = refl

-- as many items
pub length-merged : {A : Type 0} (f : A → A → A) (xs ys : List A) → length xs ≡ length ys → length (merged f xs ys) ≡ length ys
length-merged f [] [] e = refl
length-merged f [] (y ∷ ys) e = refl
length-merged f (x ∷ xs) [] e = absurd (omega arith)
length-merged f (x ∷ xs) (y ∷ ys) e = ap suc (length-merged f xs ys (omega arith))

-- the item at a place is made of the items there
pub get_or-merged : {A : Type 0} (f : A → A → A) (xs ys : List A) (i : ℕ) (d : A) → f d d ≡ d → length xs ≡ length ys
    → get_or (merged f xs ys) i d ≡ f (get_or xs i d) (get_or ys i d)
get_or-merged f [] [] i d none e = sym none
get_or-merged f [] (y ∷ ys) i d none e = absurd (omega arith)
get_or-merged f (x ∷ xs) [] i d none e = absurd (omega arith)
get_or-merged f (x ∷ xs) (y ∷ ys) zero d none e = refl
get_or-merged f (x ∷ xs) (y ∷ ys) (suc i) d none e = get_or-merged f xs ys i d none (omega arith)

merged_next : {A : Type 0} (f : A → A → A) (xs ys : List A) (k : ℕ) (d : A) → k < length xs → length xs ≡ length ys
    → set (merged f (take k xs) ys) k (f (get_or xs k d) (get_or (merged f (take k xs) ys) k d)) ≡ merged f (take (suc k) xs) ys
merged_next f [] ys k d below e = absurd (omega arith)
merged_next f (x ∷ xs) [] k d below e = absurd (omega arith)
merged_next f (x ∷ xs) (y ∷ ys) zero d below e = ap (λ zs. f x y ∷ zs) (sym (merged_none f ys))
merged_next f (x ∷ xs) (y ∷ ys) (suc k) d below e = ap (λ zs. f x y ∷ zs) (merged_next f xs ys k d (omega arith) (omega arith))

-- one item more is made of two
pub merged_more : {A : Type 0} (f : A → A → A) (xs ys : List A) (k : ℕ) (d : A) → k < length xs → length xs ≡ length ys
    → set (merged f (take k xs) ys) k (f (get_or xs k d) (get_or (merged f (take k xs) ys) k d)) ≡ merged f (take (k + 1) xs) ys
merged_more f xs ys k d below e = let next : k + 1 ≡ suc k = omega arith in rw next (merged_next f xs ys k d below e)

-- of two writes at one place the second stays
pub set_twice : {A : Type 0} (xs : List A) (i : ℕ) (a b : A) → set (set xs i a) i b ≡ set xs i b
set_twice [] i a b = refl
set_twice (x ∷ xs) zero a b = refl
set_twice (x ∷ xs) (suc i) a b = ap (λ ys. x ∷ ys) (set_twice xs i a b)
