-- Values of some variables that become their truths.
use Rattle.std.proofs.Common.{◌≡◌, ◌∙◌, ◌<◌, ◌≤◌, ◌⊎◌, ℕ, zero, suc, Bool, List, [], ◌∷◌, ◌++◌, Contains, Option, Some, length, map, option_map, slice_get, slice_set, get_or, refl, sym, ap, subst, inl, inr, ⊎_elim, arith}
use Rattle.std.proofs.lemmas.Bool.{cases_eq, cases_lt}
use Rattle.std.proofs.lemmas.List.{get_or-set_other, get_or-set_same, length-set, same_lists}
use Rattle.std.proofs.lemmas.List.Elements.{Contains-append_cases, Contains-append_left, Contains-append_right, Contains-push, Contains-push_cases}
use Rattle.std.proofs.lemmas.Option.{get_or_from_slice_get, same_Some, slice_get-get_or, slice_get-map, slice_get_past}
use Rattle.order_clauses.proofs.Reading.{item_at}
use Rattle.known_models.specs.Changes.{Takes}

-- ---- lists with one item set

pub get_same : {A : Type 0} (xs : List A) (i : ℕ) (y : A) → i < length xs → slice_get (slice_set xs i y) i ≡ Some y
get_same xs i y within =
    slice_get-get_or (slice_set xs i y) i y (omega (arith, length-set xs i y)) ∙ ap Some (get_or-set_same xs i y y within)

pub get_other : {A : Type 0} (xs : List A) (i j : ℕ) (y : A) → (j ≡ i → ⊥) → slice_get (slice_set xs i y) j ≡ slice_get xs j
get_other xs i j y differ =
    ⊎_elim
    (λ (h : j < length xs).
    slice_get-get_or (slice_set xs i y) j y (omega (arith, length-set xs i y))
    ∙ (ap Some (get_or-set_other xs i j y y differ) ∙ sym (slice_get-get_or xs j y h)))
    (λ (h : length xs ≤ j).
    slice_get_past (slice_set xs i y) j (omega (arith, length-set xs i y)) ∙ sym (slice_get_past xs j h))
    (cases_lt j (length xs))

-- lists with the same items are one
pub same_items : {A : Type 0} (xs ys : List A) → length xs ≡ length ys → ((i : ℕ) → i < length xs → slice_get
    xs i ≡ slice_get ys i)
    → xs ≡ ys
same_items xs ys long each =
    same_lists xs ys long (λ k d within.
    sym (get_or_from_slice_get ys k (get_or xs k d) d (sym (each k within) ∙ slice_get-get_or xs k d within)))

-- a number is among others or not
pub among : (xs : List ℕ) (x : ℕ) → Contains xs x ⊎ (Contains xs x → ⊥)
among [] x = inr (λ c. omega (arith, c.1))
among (y ∷ xs) x = go (cases_eq y x) (among xs x)
  where
    only : Contains (y ∷ []) x → y ≡ x
    only (zero, h, is) = is
    only (suc k, h, is) = absurd (omega (arith, h))

    go : (y ≡ x) ⊎ (y ≡ x → ⊥) → Contains xs x ⊎ (Contains xs x → ⊥) → Contains (y ∷ xs) x ⊎ (Contains (y ∷ xs) x → ⊥)
    go (inl e) more = inl (0, omega arith, e)
    go (inr d) (inl c) = inl (Contains-append_right (y ∷ []) xs x c)
    go (inr d) (inr out) = inr (λ c. neither (Contains-append_cases (y ∷ []) xs x c))
      where
        neither : Contains (y ∷ []) x ⊎ Contains xs x → ⊥
        neither (inl c) = d (only c)
        neither (inr c) = out c

-- ---- one variable after another

-- none yet
pub takes_none : (given : List (Option Bool)) (truths : List Bool) → Takes [] given truths truths
takes_none given truths = record {
  many = refl;
  taken = λ var value has is. absurd (omega (arith, has.1));
  kept = λ var out. refl;
}

-- one more
pub takes_more : (vars : List ℕ) (given : List (Option Bool)) (old now : List Bool) (var : ℕ) (value : Bool)
    → var < length old → slice_get given var ≡ Some (Some value) → Takes vars given old now
    → Takes (vars ++ var ∷ []) given old (slice_set now var value)
takes_more vars given old now var value within is takes = record {
  many = length-set now var value ∙ takes.many;
  taken = λ other v has given_is.
      by other v given_is (cases_eq other var) (Contains-push_cases vars var other has);
  kept = λ other out.
      get_other now var other value (λ same. out (subst (λ x. Contains (vars ++ var ∷ []) x) (sym same) (Contains-push vars var)))
      ∙ takes.kept other (λ has. out (Contains-append_left vars (var ∷ []) other has));
}
  where
    inside : var < length now
    inside = omega (arith, within, takes.many)

    here : (other : ℕ) (v : Bool) → slice_get given other ≡ Some (Some v) → other ≡ var
        → slice_get (slice_set now var value) other ≡ Some v
    here other v given_is same =
        let one : value ≡ v =
        same_Some value v (same_Some (Some value) (Some v) (sym is ∙ (ap (slice_get given) (sym same) ∙ given_is))) in
        ap (slice_get (slice_set now var value)) same ∙ (get_same now var value inside ∙ ap Some one)

    by : (other : ℕ) (v : Bool) → slice_get given other ≡ Some (Some v) → (other ≡ var) ⊎ (other ≡ var → ⊥)
        → Contains vars other ⊎ (var ≡ other) → slice_get (slice_set now var value) other ≡ Some v
    by other v given_is (inl same) has = here other v given_is same
    by other v given_is (inr differ) (inl has) =
        get_other now var other value differ ∙ takes.taken other v has given_is
    by other v given_is (inr differ) (inr same) = absurd (differ (sym same))

-- ---- one assignment made the other

-- what is read of the other as values
pub as_value : (truths : List Bool) (var : ℕ) (value : Bool) → slice_get truths var ≡ Some value
    → slice_get (map Some truths) var ≡ Some (Some value)
as_value truths var value is = slice_get-map Some truths var ∙ ap (option_map Some) is

pub made_same : (vars : List ℕ) (old new other : List Bool) → length other ≡ length old
    → ((var : ℕ) → (Contains vars var → ⊥) → slice_get old var ≡ slice_get other var)
    → Takes vars (map Some other) old new → new ≡ other
made_same vars old new other long others takes =
    same_items new other (takes.many ∙ sym long) (λ var within. by var within (among vars var))
  where
    by : (var : ℕ) → var < length new → Contains vars var ⊎ (Contains vars var → ⊥) → slice_get new var ≡ slice_get other var
    by var within (inl has) =
        let value = item_at other var (omega (arith, within, long, takes.many)) in
        takes.taken var value.0 has (as_value other var value.0 value.1) ∙ sym value.1
    by var within (inr out) = takes.kept var out ∙ others var out
