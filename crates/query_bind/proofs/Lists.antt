-- Members of lists, and the first of what they give.
use Rattle.std.proofs.Common.{◌≡◌, ◌∙◌, ◌+◌, ◌⊎◌, inl, inr, ℕ, zero, suc, Bool, true, false, List, [], ◌∷◌, ◌++◌, length, Option, Some, None, Result, Ok, Err, All, slice_get, refl, sym, ap, subst, arith}
use Rattle.std.specs.Prelude.{if◌then◌else◌, ◌||◌}
use Rattle.std.specs.List.{list_any}
use Rattle.std.proofs.lemmas.Bool.{or_parts}
use Rattle.std.proofs.lemmas.List.Elements.{All-nil, All-cons}
use Rattle.bind_faults.specs.Faults.{all_of, and_then, first_of, or_else, unless}
use Rattle.bind_faults.specs.declared.fault.BindFault.{BindFault}
use Rattle.query_bind.specs.Queried.{first_at, first_some, or_first}

abbrev pub IsIn : {A : Type 0} → A → List A → Type 0
IsIn x [] = ⊥
IsIn x (y ∷ ys) = (x ≡ y) ⊎ IsIn x ys

pub in_from_get : {A : Type 0} (xs : List A) (i : ℕ) (x : A) → slice_get xs i ≡ Some x → IsIn x xs
in_from_get [] i x is = absurd (cc)
in_from_get (y ∷ ys) zero x is = let same : x ≡ y = cc in inl same
in_from_get (y ∷ ys) (suc i) x is = inr (in_from_get ys i x is)

pub in_get : {A : Type 0} (xs : List A) (x : A) → IsIn x xs → (i : ℕ) × (slice_get xs i ≡ Some x)
in_get [] x there = elim there [ ]
in_get (y ∷ ys) x (inl is) = (0, ap Some (sym is))
in_get (y ∷ ys) x (inr there) = let rest = in_get ys x there in (suc rest.0, rest.1)

-- a member of a list with one more
pub in_push : {A : Type 0} (xs : List A) (y x : A) → IsIn x (xs ++ y ∷ []) → IsIn x xs ⊎ (x ≡ y)
in_push [] y x (inl is) = inr is
in_push [] y x (inr there) = elim there [ ]
in_push (z ∷ zs) y x (inl is) = inl (inl is)
in_push (z ∷ zs) y x (inr there) = elim (in_push zs y x there) [ inl before ↦ inl (inr before) | inr is ↦ inr is ]

-- ---- what checks leave

pub and_then_ok : {A B : Type 0} (first : Result A BindFault) (next : A → Result B BindFault) (y : B) → and_then first next ≡ Ok y
    → (x : A) × (first ≡ Ok x) × (next x ≡ Ok y)
and_then_ok (Ok x) next y is = (x, refl, is)
and_then_ok (Err e) next y is = absurd (cc)

pub unless_ok : {B : Type 0} (o : Option BindFault) (r : Result B BindFault) (y : B) → unless o r ≡ Ok y → (o ≡ None) × (r ≡ Ok y)
unless_ok None r y is = (refl, is)
unless_ok (Some fault) r y is = absurd (cc)

pub neither : (a b : Option BindFault) → or_else a b ≡ None → (a ≡ None) × (b ≡ None)
neither None b is = (refl, is)
neither (Some fault) b is = absurd (cc)

pub if_none : {A : Type 0} (b : Bool) (a : A) → (if b then Some a else None) ≡ None → b ≡ false
if_none true a is = absurd (cc)
if_none false a is = refl

pub none_of : {A : Type 0} (f : A → Option BindFault) (xs : List A) (x : A) → first_of f xs ≡ None → IsIn x xs → f x ≡ None
none_of f [] x none there = elim there [ ]
none_of f (y ∷ ys) x none (inl is) = ap f is ∙ (neither (f y) (first_of f ys) none).0
none_of f (y ∷ ys) x none (inr there) = none_of f ys x (neither (f y) (first_of f ys) none).1 there

or_none : {A : Type 0} (a b : Option A) → or_first a b ≡ None → (a ≡ None) × (b ≡ None)
or_none None b is = (refl, is)
or_none (Some a) b is = absurd (cc)

or_some : {A : Type 0} (a b : Option A) (y : A) → or_first a b ≡ Some y → (a ≡ Some y) ⊎ (b ≡ Some y)
or_some None b y is = inr is
or_some (Some a) b y is = inl is

pub none_some : {A B : Type 0} (f : A → Option B) (xs : List A) (x : A) → first_some f xs ≡ None → IsIn x xs → f x ≡ None
none_some f [] x none there = elim there [ ]
none_some f (y ∷ ys) x none (inl is) = ap f is ∙ (or_none (f y) (first_some f ys) none).0
none_some f (y ∷ ys) x none (inr there) = none_some f ys x (or_none (f y) (first_some f ys) none).1 there

pub some_in : {A B : Type 0} (f : A → Option B) (xs : List A) (b : B) → first_some f xs ≡ Some b →
    (x : A) × IsIn x xs × (f x ≡ Some b)
some_in f [] b is = absurd (cc)
some_in f (y ∷ ys) b is = elim (or_some (f y) (first_some f ys) b is) [
  | inl here ↦ (y, inl refl, here)
  | inr later ↦ (let rest = some_in f ys b later in (rest.0, inr rest.1, rest.2))
]

pub none_at : {A B : Type 0} (f : ℕ → A → Option B) (k : ℕ) (xs : List A) (i : ℕ) (x : A) → first_at f k xs ≡ None
    → slice_get xs i ≡ Some x
    → f (k + i) x ≡ None
none_at f k [] i x none is = absurd (cc)
none_at f k (y ∷ ys) zero x none is =
    let same : y ≡ x = cc in
    let at : k + 0 ≡ k = omega arith in
    ap (λ n. f n x) at ∙ ap (f k) (sym same) ∙ (or_none (f k y) (first_at f (k + 1) ys) none).0
none_at f k (y ∷ ys) (suc i) x none is =
    let at : k + suc i ≡ k + 1 + i = omega arith in
    ap (λ n. f n x) at ∙ none_at f (k + 1) ys i x (or_none (f k y) (first_at f (k + 1) ys) none).1 is

pub some_at : {A B : Type 0} (f : ℕ → A → Option B) (k : ℕ) (xs : List A) (b : B) → first_at f k xs ≡ Some b
    → (i : ℕ) × (x : A) × (slice_get xs i ≡ Some x) × (f (k + i) x ≡ Some b)
some_at f k [] b is = absurd (cc)
some_at f k (y ∷ ys) b is = elim (or_some (f k y) (first_at f (k + 1) ys) b is) [
  | inl here ↦ (let at : k + 0 ≡ k = omega arith in (0, y, refl, ap (λ n. f n y) at ∙ here))
  | inr later ↦ (
      let rest = some_at f (k + 1) ys b later in
      let at : k + suc rest.0 ≡ k + 1 + rest.0 = omega arith in
      (suc rest.0, rest.1, rest.2, ap (λ n. f n rest.1) at ∙ rest.3)
      )
]

-- the same of lists that are counted from 0
pub none_from : {A B : Type 0} (f : ℕ → A → Option B) (xs : List A) (i : ℕ) (x : A) → first_at f 0 xs ≡ None
    → slice_get xs i ≡ Some x → f i x ≡ None
none_from f xs i x none is = let at : i ≡ 0 + i = omega arith in ap (λ n. f n x) at ∙ none_at f 0 xs i x none is

pub some_from : {A B : Type 0} (f : ℕ → A → Option B) (xs : List A) (b : B) → first_at f 0 xs ≡ Some b
    → (i : ℕ) × (x : A) × (slice_get xs i ≡ Some x) × (f i x ≡ Some b)
some_from f xs b is =
    let found = some_at f 0 xs b is in
    let at : found.0 ≡ 0 + found.0 = omega arith in
    (found.0, found.1, found.2, ap (λ n. f n found.1) at ∙ found.3)

-- a test that none passes
pub not_any : {A : Type 0} (p : A → Bool) (xs : List A) (x : A) → list_any p xs ≡ false → IsIn x xs → p x ≡ false
not_any p [] x none there = elim there [ ]
not_any p (y ∷ ys) x none (inl is) = ap p is ∙ (or_parts (p y) (list_any p ys) none).0
not_any p (y ∷ ys) x none (inr there) = not_any p ys x (or_parts (p y) (list_any p ys) none).1 there

-- and one that a member passes
pub any_in : {A : Type 0} (p : A → Bool) (xs : List A) (x : A) → IsIn x xs → p x ≡ true → list_any p xs ≡ true
any_in p [] x there passes = elim there [ ]
any_in p (y ∷ ys) x (inl is) passes = ap (λ b. b || list_any p ys) (sym (ap p is) ∙ passes)
any_in p (y ∷ ys) x (inr there) passes = ap (λ b. p y || b) (any_in p ys x there passes) ∙ or_true (p y)
  where
    or_true : (b : Bool) → (b || true) ≡ true
    or_true true = refl
    or_true false = refl

-- ---- what each gives

pub first_ok : {A B : Type 0} (f : A → Result B BindFault) (x : A) (xs : List A) (ys : List B) → all_of f (x ∷ xs) ≡ Ok ys
    → (y : B) × (more : List B) × (f x ≡ Ok y) × (all_of f xs ≡ Ok more) × (y ∷ more ≡ ys)
first_ok f x xs ys is =
    let a = and_then_ok (f x) (λ y. and_then (all_of f xs) (λ more. Ok (y ∷ more))) ys is in
    let b = and_then_ok (all_of f xs) (λ more. Ok (a.0 ∷ more)) ys a.2 in
    let made : a.0 ∷ b.0 ≡ ys = cc in
    (a.0, b.0, a.1, b.1, made)

pub each_is : {A B : Type 0} (P : B → Type 0) (f : A → Result B BindFault) (xs : List A) (ys : List B) → all_of f xs ≡ Ok ys
    → ((x : A) (y : B) → IsIn x xs → f x ≡ Ok y → P y) → All P ys
each_is P f [] ys is each = let made : [] ≡ ys = cc in subst (All P) made (All-nil P)
each_is P f (x ∷ xs) ys is each =
    let a = first_ok f x xs ys is in
    subst (All P) a.4 (All-cons P a.0 a.1 (each x a.0 (inl refl) a.2)
    (each_is P f xs a.1 a.3 (λ z y there. each z y (inr there))))

pub as_many : {A B : Type 0} (f : A → Result B BindFault) (xs : List A) (ys : List B) → all_of f xs ≡ Ok ys
    → length ys ≡ length xs
as_many f [] ys is = let made : [] ≡ ys = cc in ap length (sym made)
as_many f (x ∷ xs) ys is = let a = first_ok f x xs ys is in ap length (sym a.4) ∙ ap suc (as_many f xs a.1 a.3)

-- what a member gives
pub one_ok : {A B : Type 0} (f : A → Result B BindFault) (xs : List A) (ys : List B) (x : A) → all_of f xs ≡ Ok ys → IsIn x xs
    → (y : B) × (f x ≡ Ok y)
one_ok f [] ys x is there = elim there [ ]
one_ok f (z ∷ zs) ys x is (inl here) = let a = first_ok f z zs ys is in (a.0, ap f here ∙ a.2)
one_ok f (z ∷ zs) ys x is (inr there) = let a = first_ok f z zs ys is in one_ok f zs a.1 x a.3 there

-- what an item is made of, and what it gives
pub made_of : {A B : Type 0} (f : A → Result B BindFault) (xs : List A) (ys : List B) (i : ℕ) (y : B)
    → all_of f xs ≡ Ok ys → slice_get ys i ≡ Some y
    → (x : A) × (slice_get xs i ≡ Some x) × (f x ≡ Ok y)
made_of f [] ys i y is at = let made : [] ≡ ys = cc in absurd (none (subst (λ zs. slice_get zs i ≡ Some y) (sym made) at))
  where
    none : slice_get [] i ≡ Some y → ⊥
    none e = cc
made_of f (x ∷ xs) ys zero y is at =
    let a = first_ok f x xs ys is in
    let here : slice_get (a.0 ∷ a.1) 0 ≡ Some y = ap (λ l. slice_get l 0) a.4 ∙ at in
    let same : a.0 ≡ y = cc in
    (x, refl, a.2 ∙ ap Ok same)
made_of f (x ∷ xs) ys (suc i) y is at =
    let a = first_ok f x xs ys is in
    let here : slice_get (a.0 ∷ a.1) (suc i) ≡ Some y = ap (λ l. slice_get l (suc i)) a.4 ∙ at in
    made_of f xs a.1 i y a.3 here

pub gives : {A B : Type 0} (f : A → Result B BindFault) (xs : List A) (ys : List B) (i : ℕ) (x : A)
    → all_of f xs ≡ Ok ys → slice_get xs i ≡ Some x
    → (y : B) × (slice_get ys i ≡ Some y) × (f x ≡ Ok y)
gives f [] ys i x is at = absurd (cc)
gives f (z ∷ zs) ys zero x is at =
    let a = first_ok f z zs ys is in
    let same : z ≡ x = cc in
    (a.0, ap (λ l. slice_get l 0) (sym a.4), ap f (sym same) ∙ a.2)
gives f (z ∷ zs) ys (suc i) x is at =
    let a = first_ok f z zs ys is in
    let rest = gives f zs a.1 i x a.3 at in
    (rest.0, ap (λ l. slice_get l (suc i)) (sym a.4) ∙ rest.1, rest.2)
