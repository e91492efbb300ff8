-- The first free variable of a scope, and whether a variable of it is free.
use Rattle.std.proofs.Common.{◌≡◌, ◌<◌, ◌∙◌, ◌&&◌, ℕ, zero, suc, Bool, true, false, List, [], ◌∷◌, Option, Some, None, Contains, not, option_map, slice_get, slice_index_or, refl, sym, ap, subst, arith}
use Rattle.currency_base.specs.Literals.{literal, var_of}
use Rattle.currency_base.specs.declared.lit.Lit.{Lit}
use Rattle.search_trail.specs.Trails.{Ascend, HasNoFree, IsFirstFree, IsFreeInScope, ScopedValues, is_in_scope}
use Rattle.search_trail.proofs.Scopes.{contains_at, in_scope, of_scope, place_in}
use Rattle.solver_guides.specs.Choices.{as_in, first_free, first_free_of, first_free_as, is_free, is_open, is_pick}

-- ---- one variable

pub free_of : (given : List (Option Bool)) (var : ℕ) → slice_get given var ≡ Some None → is_free given var ≡ true
free_of given var none = ap is_open none

pub none_of : (given : List (Option Bool)) (var : ℕ) → is_free given var ≡ true → slice_get given var ≡ Some None
none_of given var is = go (slice_get given var) refl
  where
    go : (o : Option (Option Bool)) → slice_get given var ≡ o → slice_get given var ≡ Some None
    go None e = let no : is_free given var ≡ false = ap is_open e in absurd (cc)
    go (Some None) e = e
    go (Some (Some b)) e = let no : is_free given var ≡ false = ap is_open e in absurd (cc)

pub not_free : (given : List (Option Bool)) (var : ℕ) → (slice_get given var ≡ Some None → ⊥) → is_free given var ≡ false
not_free given var some = go (slice_get given var) refl
  where
    go : (o : Option (Option Bool)) → slice_get given var ≡ o → is_free given var ≡ false
    go None e = ap is_open e
    go (Some None) e = absurd (some e)
    go (Some (Some b)) e = ap is_open e

both : (a b : Bool) → a && b ≡ true → (a ≡ true) × (b ≡ true)
both true true e = (refl, refl)
both true false e = absurd (cc)
both false b e = absurd (cc)

-- what may be picked
pub pick_of : (values : ScopedValues) (var : ℕ) → is_pick values var ≡ true → IsFreeInScope values var
pick_of values var is =
    let parts = both (is_free values.given var) (is_in_scope values.scope var) is in
    record { is_in = of_scope values.scope var parts.1; free = none_of values.given var parts.0 }

-- what may not, has a value if it is of the scope
pub taken_of : (values : ScopedValues) (var : ℕ) → is_pick values var ≡ false → Contains values.scope var
    → is_free values.given var ≡ false
taken_of values var is c = go (is_free values.given var) refl
  where
    go : (b : Bool) → is_free values.given var ≡ b → is_free values.given var ≡ false
    go false e = e
    go true e =
        let yes : is_pick values var ≡ true = rw (e, in_scope values.scope var c) refl in
        absurd (cc)

-- ---- the first one

first_at : (given : List (Option Bool)) (vars : List ℕ) (i var : ℕ) → slice_get vars i ≡ Some var → is_free given var ≡ true
    → ((j x : ℕ) → j < i → slice_get vars j ≡ Some x → is_free given x ≡ false) → first_free_of given vars ≡ Some var
first_at given [] i var at free before = absurd (cc)
first_at given (x ∷ xs) zero var at free before =
    let same : x ≡ var = cc in
    let here : is_free given x ≡ true = ap (is_free given) same ∙ free in
    rw here (ap Some same)
first_at given (x ∷ xs) (suc i) var at free before =
    let here : is_free given x ≡ false = before 0 x (omega arith) refl in
    rw here (first_at given xs i var at free (λ j y h a. before (suc j) y (omega (arith, h)) a))

none_at : (given : List (Option Bool)) (vars : List ℕ) → ((j x : ℕ) → slice_get vars j ≡ Some x → is_free given x ≡ false)
    → first_free_of given vars ≡ None
none_at given [] full = refl
none_at given (x ∷ xs) full =
    let here : is_free given x ≡ false = full 0 x refl in
    rw here (none_at given xs (λ j y a. full (suc j) y a))

-- the first variable of a scope with no value is found
pub first_there : (values : ScopedValues) (var : ℕ) → Ascend values.scope → IsFirstFree values var → first_free values ≡ Some var
first_there values var ascend is =
    first_at values.given values.scope there.0 var there.1 (free_of values.given var is.is_free.free) before
  where
    there : (i : ℕ) × (slice_get values.scope i ≡ Some var)
    there = place_in values.scope var is.is_free.is_in

    before : (j x : ℕ) → j < there.0 → slice_get values.scope j ≡ Some x → is_free values.given x ≡ false
    before j x h at = not_free values.given x (λ none. is.earlier x (ascend j there.0 x var h at there.1)
        (record { is_in = contains_at values.scope j x at; free = none }))

-- where all have values, none is found
pub first_nowhere : (values : ScopedValues) → HasNoFree values → first_free values ≡ None
first_nowhere values full =
    none_at values.given values.scope (λ j x at. not_free values.given x (λ none. full x
    (record { is_in = contains_at values.scope j x at; free = none })))

-- the literal of the first free variable
pub some_as : (truths : List Bool) (values : ScopedValues) (var : ℕ) → Ascend values.scope → IsFirstFree values var
    → Some (as_in truths var) ≡ first_free_as truths values
some_as truths values var ascend is = sym (ap (option_map (as_in truths)) (first_there values var ascend is))

pub none_as : (truths : List Bool) (values : ScopedValues) → HasNoFree values → None ≡ first_free_as truths values
none_as truths values full = sym (ap (option_map (as_in truths)) (first_nowhere values full))

-- what is found is one of them, with no value
found_of : (given : List (Option Bool)) (vars : List ℕ) (k : ℕ) → first_free_of given vars ≡ Some k → (i : ℕ) ×
    (slice_get vars i ≡ Some k) × (is_free given k ≡ true)
found_of given [] k found = absurd (cc)
found_of given (x ∷ xs) k found = go (λ h. found_of given xs k h) (is_free given x) refl
  where
    go : (first_free_of given xs ≡ Some k → (i : ℕ) × (slice_get xs i ≡ Some k) × (is_free given k ≡ true))
        → (b : Bool) → is_free given x ≡ b
        → (i : ℕ) × (slice_get (x ∷ xs) i ≡ Some k) × (is_free given k ≡ true)
    go more true e =
        let that : first_free_of given (x ∷ xs) ≡ Some x = rw e refl in
        let same : x ≡ k = cc in
        (0, ap Some same, ap (is_free given) (sym same) ∙ e)
    go more false e =
        let that : first_free_of given (x ∷ xs) ≡ first_free_of given xs = rw e refl in
        let later = more (sym that ∙ found) in
        (suc later.0, later.1, later.2)

pub var_of_literal : (var : ℕ) (negative : Bool) → var_of (literal var negative) ≡ var
var_of_literal var true = omega arith
var_of_literal var false = omega arith

-- the literal of the first free variable is one of a free variable
pub as_is_free : (truths : List Bool) (values : ScopedValues) (lit : Lit) → Some lit ≡ first_free_as truths values
    → IsFreeInScope values (var_of lit)
as_is_free truths values lit is = go (first_free values) refl
  where
    go : (o : Option ℕ) → first_free values ≡ o → IsFreeInScope values (var_of lit)
    go None none = absurd (clash)
      where
        none_too : first_free_as truths values ≡ None
        none_too = ap (option_map (as_in truths)) none

        clash : ⊥
        clash = cc
    go (Some k) some =
        let found = found_of values.given values.scope k some in
        let that : first_free_as truths values ≡ Some (as_in truths k) = ap (option_map (as_in truths)) some in
        let lit_is : lit ≡ as_in truths k = cc in
        let var_is : var_of lit ≡ k = ap var_of lit_is ∙ var_of_literal k (not (slice_index_or truths k false)) in
        subst (IsFreeInScope values) (sym var_is)
        (record { is_in = contains_at values.scope found.0 k found.1; free = none_of values.given k found.2 })

-- where a variable is free, one is found
free_at : (given : List (Option Bool)) (vars : List ℕ) (i var : ℕ) → slice_get vars i ≡ Some var → is_free given var ≡ true
    → first_free_of given vars ≡ None → ⊥
free_at given [] i var at free none = absurd (cc)
free_at given (x ∷ xs) zero var at free none =
    let same : x ≡ var = cc in
    let here : is_free given x ≡ true = ap (is_free given) same ∙ free in
    let that : first_free_of given (x ∷ xs) ≡ Some x = rw here refl in
    absurd (cc)
free_at given (x ∷ xs) (suc i) var at free none = go (is_free given x) refl (λ h. free_at given xs i var at free h)
  where
    go : (b : Bool) → is_free given x ≡ b → (first_free_of given xs ≡ None → ⊥) → ⊥
    go true e more =
        let that : first_free_of given (x ∷ xs) ≡ Some x = rw e refl in
        absurd (cc)
    go false e more =
        let that : first_free_of given (x ∷ xs) ≡ first_free_of given xs = rw e refl in
        more (sym that ∙ none)

pub some_is_free : (truths : List Bool) (values : ScopedValues) (var : ℕ) → IsFreeInScope values var
    → None ≡ first_free_as truths values → ⊥
some_is_free truths values var free none = go (first_free values) refl
  where
    go : (o : Option ℕ) → first_free values ≡ o → ⊥
    go None gone =
        let there = place_in values.scope var free.is_in in
        free_at values.given values.scope there.0 var there.1 (free_of values.given var free.free) gone
    go (Some k) some =
        let that : first_free_as truths values ≡ Some (as_in truths k) = ap (option_map (as_in truths)) some in
        let clash : None ≡ Some (as_in truths k) = none ∙ that in
        absurd (cc)
