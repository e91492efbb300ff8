-- Lists of which each item is below all later ones, and numbers in turn of which the first that differs is less.
use Rattle.std.proofs.Common.{◌≡◌, ◌⊎◌, ◌+◌, ◌<◌, ℕ, zero, suc, Bool, true, false, cond, ◌==◌, List, [], ◌∷◌, ◌++◌, map, flat_map, Some, slice_get, refl, sym, ap, ◌∙◌, subst, inl, inr, ⊎_elim, nat_cmp, Ordering, Less, Equal, Greater, arith}
use Rattle.std.specs.List.{range_with_len}
use Rattle.std.specs.List.Sorted.{IsStrictlySortedBy}
use Rattle.std.specs.Cmp.Lexicographic.{slice_cmp}
use Rattle.std.specs.Ordering.{ordering_then}
use Rattle.std.specs.Bool.{⊤}
use Rattle.std.proofs.lemmas.Bool.{lt-ltb}
use Rattle.std.proofs.lemmas.Cmp.{nat_cmp_total, tied_itself}
use Rattle.std.proofs.lemmas.Option.{none-some}
use Rattle.order_literals.proofs.Items.{IsIn, in_at, in_either, from_map, all_from, from_flat_map, kept, in_range}

-- each item is below all later ones
abbrev pub Ascends : {A : Type 0} → (A → A → Type 0) → List A → Type 0
Ascends R [] = ⊤
Ascends {A} R (x ∷ xs) = ((y : A) → IsIn xs y → R x y) × Ascends R xs

module _ {A : Type 0} (R : A → A → Type 0) where
  pub ascends_append : (xs ys : List A) → Ascends R xs → Ascends R ys → ((x y : A) → IsIn xs x → IsIn ys y → R x y)
      → Ascends R (xs ++ ys)
  ascends_append [] ys up later below = later
  ascends_append (x ∷ xs) ys up later below = (
    λ y at. ⊎_elim (up.0 y) (below x y (inl refl)) (in_either xs ys y at),
    ascends_append xs ys up.1 later (λ z y at. below z y (inr at)),
  )

  pub ascends_kept : (test : Bool) (x : A) (xs : List A) → (test ≡ true → (y : A) → IsIn xs y → R x y) → Ascends R xs
      → Ascends R (kept test x xs)
  ascends_kept true x xs below up = (below refl, up)
  ascends_kept false x xs below up = up

  -- an item that is not below itself stands at one place
  pub one_place : ((x : A) → R x x → ⊥) → (xs : List A) → Ascends R xs → (i j : ℕ) (x : A) → slice_get xs i ≡ Some x
      → slice_get xs j ≡ Some x → i ≡ j
  one_place never [] up i j x e f = absurd (none-some x e)
  one_place never (y ∷ xs) up zero zero x e f = refl
  one_place never (y ∷ xs) up zero (suc j) x e f = absurd (never y (up.0 y (in_at xs j y (f ∙ sym e))))
  one_place never (y ∷ xs) up (suc i) zero x e f = absurd (never y (up.0 y (in_at xs i y (e ∙ sym f))))
  one_place never (y ∷ xs) up (suc i) (suc j) x e f = ap suc (one_place never xs up.1 i j x e f)

module _ {A B : Type 0} (R : B → B → Type 0) where
  -- what a function makes of an ascending list ascends, where it keeps what is below
  pub ascends_map : (S : A → A → Type 0) (f : A → B) → ((x y : A) → S x y → R (f x) (f y)) → (xs : List A) → Ascends S xs
      → Ascends R (map f xs)
  ascends_map S f keeps [] up = tt
  ascends_map S f keeps (x ∷ xs) up = (
    λ y at. (let from = from_map f xs y at in subst (R (f x)) from.2 (keeps x from.0 (up.0 from.0 from.1))),
    ascends_map S f keeps xs up.1,
  )

  pub ascends_flat_map : (S : A → A → Type 0) (f : A → List B) → ((x : A) → Ascends R (f x))
      → ((x y : A) (a b : B) → S x y → IsIn (f x) a → IsIn (f y) b → R a b) → (xs : List A) → Ascends S xs
      → Ascends R (flat_map f xs)
  ascends_flat_map S f each apart [] up = tt
  ascends_flat_map S f each apart (x ∷ xs) up =
      ascends_append R (f x) (flat_map f xs) (each x) (ascends_flat_map S f each apart xs up.1)
      (λ a b in_a at. (let from = from_flat_map f xs b at in apart x from.0 a b (up.0 from.0 from.1) in_a from.2))

pub ascends_weaker : {A : Type 0} (R S : A → A → Type 0) → ((x y : A) → R x y → S x y) → (xs : List A) → Ascends R xs
    → Ascends S xs
ascends_weaker R S weaker [] up = tt
ascends_weaker R S weaker (x ∷ xs) up = (λ y at. weaker x y (up.0 y at), ascends_weaker R S weaker xs up.1)

pub range_ascends : (a n : ℕ) → Ascends (λ x y. x < y) (range_with_len a n)
range_ascends a zero = tt
range_ascends a (suc n) = (
  λ y at. (let low = (in_range (a + 1) n y at).0 in omega arith),
  range_ascends (a + 1) n,
)

pub sorted_from : {A : Type 0} (cmp : A → A → Ordering) (xs : List A) → Ascends (λ x y. cmp x y ≡ Less) xs
    → IsStrictlySortedBy cmp xs
unfolding IsStrictlySortedBy
sorted_from cmp [] up = tt
sorted_from cmp (x ∷ xs) up = (all_from (λ y. cmp x y ≡ Less) xs up.0, sorted_from cmp xs up.1)

-- ---- numbers in turn

-- the first number that differs is less
abbrev pub Precedes : List ℕ → List ℕ → Type 0
Precedes [] ys = ⊥
Precedes (x ∷ xs) [] = ⊥
Precedes (x ∷ xs) (y ∷ ys) = (x < y) ⊎ ((x ≡ y) × Precedes xs ys)

pub precedes_less : (xs ys : List ℕ) → Precedes xs ys → slice_cmp nat_cmp xs ys ≡ Less
precedes_less [] ys p = absurd p
precedes_less (x ∷ xs) [] p = absurd p
precedes_less (x ∷ xs) (y ∷ ys) (inl below) =
    ap (λ o. ordering_then o (slice_cmp nat_cmp xs ys)) (ap (λ b. cond b Less (cond (x == y) Equal Greater)) (lt-ltb x y below))
precedes_less (x ∷ xs) (y ∷ ys) (inr more) =
    ap (λ o. ordering_then o (slice_cmp nat_cmp xs ys)) (ap (nat_cmp x) (sym more.0) ∙ tied_itself nat_cmp_total x)
    ∙ precedes_less xs ys more.1

-- whatever numbers follow
pub precedes_on : (xs ys us vs : List ℕ) → Precedes xs ys → Precedes (xs ++ us) (ys ++ vs)
precedes_on [] ys us vs p = absurd p
precedes_on (x ∷ xs) [] us vs p = absurd p
precedes_on (x ∷ xs) (y ∷ ys) us vs (inl below) = inl below
precedes_on (x ∷ xs) (y ∷ ys) us vs (inr more) = inr (more.0, precedes_on xs ys us vs more.1)

pub never_itself : (xs : List ℕ) → Precedes xs xs → ⊥
never_itself [] p = p
never_itself (x ∷ xs) (inl below) = absurd (omega arith)
never_itself (x ∷ xs) (inr more) = never_itself xs more.1
