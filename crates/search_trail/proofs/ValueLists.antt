-- The list of values, when a literal comes and when literals are taken back.
use Rattle.std.proofs.Common.{◌≡◌, ◌⊎◌, ◌<◌, ◌∙◌, ℕ, Bool, not, List, [], ◌∷◌, ◌++◌, Option, Some, None, length, map, get_or, slice_set, replicate, refl, sym, subst, inl, inr, arith}
use Rattle.std.specs.List.{range_with_len}
use Rattle.std.proofs.lemmas.Bool.{cases_eq}
use Rattle.std.proofs.lemmas.List.{ext_get_or, get_or-set_other, get_or-set_same, length-set, get_or-replicate, length-replicate}
use Rattle.std.proofs.lemmas.List.FromFn.{get_or-map-range_with_len, length-map-range_with_len}
use Rattle.currency_base.specs.Literals.{var_of, is_negative}
use Rattle.currency_base.specs.declared.lit.Lit.{Lit}
use Rattle.search_trail.specs.Trails.{value_in}
use Rattle.search_trail.specs.Kept.{Once, freed}
use Rattle.search_trail.proofs.LitFacts.{value_here, value_past, none_here, none_past, value_append_none, value_append_some, once_apart}

-- the values that literals give so many variables
abbrev pub values_by : List Lit → ℕ → List (Option Bool)
values_by lits n = map (value_in lits) (range_with_len 0 n)

pub values_at : (lits : List Lit) (n i : ℕ) → i < n → get_or (values_by lits n) i None ≡ value_in lits i
values_at lits n i h = get_or-map-range_with_len (value_in lits) 0 n i i None h (omega arith)

pub no_values : (n : ℕ) → replicate n None ≡ values_by [] n
no_values n =
    ext_get_or None (replicate n None) (values_by [] n)
    (length-replicate n None ∙ sym (length-map-range_with_len (value_in []) 0 n)) same
  where
    same : (i : ℕ) → i < length (replicate {A = Option Bool} n None) → get_or (replicate n None) i None ≡ get_or
        (values_by [] n) i None
    same i h =
        let within : i < n = omega (arith, h, length-replicate {A = Option Bool} n None) in
        get_or-replicate n i None None within ∙ sym (values_at [] n i within)

-- a literal of a free variable comes
pub values_push : (lits : List Lit) (lit : Lit) (n : ℕ) → value_in lits (var_of lit) ≡ None → var_of lit < n
    → slice_set (values_by lits n) (var_of lit) (Some (not (is_negative lit))) ≡ values_by (lits ++ lit ∷ []) n
values_push lits lit n fresh h =
    ext_get_or None (slice_set (values_by lits n) (var_of lit) (Some (not (is_negative lit))))
    (values_by (lits ++ lit ∷ []) n) as_long same
  where
    long : length (values_by lits n) ≡ n
    long = length-map-range_with_len (value_in lits) 0 n

    as_long : length (slice_set (values_by lits n) (var_of lit) (Some (not (is_negative lit)))) ≡ length
        (values_by (lits ++ lit ∷ []) n)
    as_long = length-set (values_by lits n) (var_of lit) (Some (not (is_negative lit))) ∙ long
        ∙ sym (length-map-range_with_len (value_in (lits ++ lit ∷ [])) 0 n)

    at : (i : ℕ) → i < n → (var_of lit ≡ i) ⊎ (var_of lit ≡ i → ⊥)
        → get_or (slice_set (values_by lits n) (var_of lit) (Some (not (is_negative lit)))) i None ≡ value_in (lits ++ lit ∷ []) i
    at i within (inl e) =
        subst (λ j. get_or (slice_set (values_by lits n) (var_of lit) (Some (not (is_negative lit)))) j None ≡
        value_in (lits ++ lit ∷ []) j) e
        (get_or-set_same (values_by lits n) (var_of lit) (Some (not (is_negative lit))) None (omega (arith, long, h))
        ∙ sym (value_append_none lits (lit ∷ []) (var_of lit) fresh ∙ value_here lit [] (var_of lit) refl))
    at i within (inr d) =
        get_or-set_other (values_by lits n) (var_of lit) i (Some (not (is_negative lit))) None (λ e. d (sym e))
        ∙ values_at lits n i within
        ∙ sym (value_append_some lits (lit ∷ []) i (value_past lit [] i d))

    same : (i : ℕ) → i < length (slice_set (values_by lits n) (var_of lit) (Some (not (is_negative lit))))
        → get_or (slice_set (values_by lits n) (var_of lit) (Some (not (is_negative lit)))) i None ≡ get_or
        (values_by (lits ++ lit ∷ []) n) i None
    same i short =
        let within : i < n = omega (
          arith,
          short,
          length-set (values_by lits n) (var_of lit)
              (Some (not (is_negative lit))),
          long,
        ) in
        at i within (cases_eq (var_of lit) i) ∙ sym (values_at (lits ++ lit ∷ []) n i within)

-- ---- literals are taken back

pub freed_length : (values : List (Option Bool)) (lits : List Lit) → length (freed values lits) ≡ length values
freed_length values [] = refl
freed_length values (x ∷ xs) = freed_length (slice_set values (var_of x) None) xs ∙ length-set values (var_of x) None

freed_other : (values : List (Option Bool)) (lits : List Lit) (i : ℕ) → value_in lits i ≡ None
    → get_or (freed values lits) i None ≡ get_or values i None
freed_other values [] i none = refl
freed_other values (x ∷ xs) i none =
    freed_other (slice_set values (var_of x) None) xs i (none_past x xs i none)
    ∙ get_or-set_other values (var_of x) i None None (λ e. none_here x xs i none (sym e))

set_none : (values : List (Option Bool)) (v i : ℕ) → i < length values → get_or values i None ≡ None
    → get_or (slice_set values v None) i None ≡ None
set_none values v i h none = go (cases_eq i v)
  where
    go : (i ≡ v) ⊎ (i ≡ v → ⊥) → get_or (slice_set values v None) i None ≡ None
    go (inl e) = subst (λ j. get_or (slice_set values j None) i None ≡ None) e (get_or-set_same values i None None h)
    go (inr d) = get_or-set_other values v i None None d ∙ none

freed_none : (values : List (Option Bool)) (lits : List Lit) (i : ℕ) → i < length values → get_or values i None ≡
    None → get_or (freed values lits) i None ≡ None
freed_none values [] i h none = none
freed_none values (x ∷ xs) i h none =
    freed_none (slice_set values (var_of x) None) xs i (omega (arith, h, length-set values (var_of x) None))
    (set_none values (var_of x) i h none)

freed_there : (values : List (Option Bool)) (lits : List Lit) (i : ℕ) (b : Bool) → i < length values
    → value_in lits i ≡ Some b → get_or (freed values lits) i None ≡ None
freed_there values [] i b h some = absurd (cc)
freed_there values (x ∷ xs) i b h some = go (λ s. freed_there (slice_set values (var_of x) None) xs i b longer s)
    (cases_eq (var_of x) i)
  where
    longer : i < length (slice_set values (var_of x) None)
    longer = omega (arith, h, length-set values (var_of x) None)

    go : (value_in xs i ≡ Some b → get_or (freed (slice_set values (var_of x) None) xs) i None ≡ None) →
        (var_of x ≡ i) ⊎ (var_of x ≡ i → ⊥)
        → get_or (freed (slice_set values (var_of x) None) xs) i None ≡ None
    go more (inl e) =
        freed_none (slice_set values (var_of x) None) xs i longer
        (subst (λ j. get_or (slice_set values j None) i None ≡ None) (sym e) (get_or-set_same values i None None h))
    go more (inr d) = more (sym (value_past x xs i d) ∙ some)

pub values_freed : (xs ys : List Lit) (n : ℕ) → Once (xs ++ ys) → freed (values_by (xs ++ ys) n) ys ≡ values_by xs n
values_freed xs ys n once = ext_get_or None (freed (values_by (xs ++ ys) n) ys) (values_by xs n) as_long same
  where
    long : length (values_by (xs ++ ys) n) ≡ n
    long = length-map-range_with_len (value_in (xs ++ ys)) 0 n

    as_long : length (freed (values_by (xs ++ ys) n) ys) ≡ length (values_by xs n)
    as_long = freed_length (values_by (xs ++ ys) n) ys ∙ long ∙ sym (length-map-range_with_len (value_in xs) 0 n)

    at : (i : ℕ) → i < n → (o : Option Bool) → value_in ys i ≡ o → get_or (freed (values_by (xs ++ ys) n) ys) i
        None ≡ value_in xs i
    at i within None none =
        freed_other (values_by (xs ++ ys) n) ys i none ∙ values_at (xs ++ ys) n i within ∙ value_append_some xs ys i none
    at i within (Some b) some =
        freed_there (values_by (xs ++ ys) n) ys i b (omega (arith, within, long)) some ∙ sym (once_apart xs ys i b once some)

    same : (i : ℕ) → i < length (freed (values_by (xs ++ ys) n) ys) → get_or (freed (values_by (xs ++ ys) n) ys) i
        None ≡ get_or (values_by xs n) i None
    same i short =
        let within : i < n = omega (arith, short, freed_length (values_by (xs ++ ys) n) ys, long) in
        at i within (value_in ys i) refl ∙ sym (values_at xs n i within)
