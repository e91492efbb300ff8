-- Lists of answers by part: one more is put into a list, or one is left out.
use Rattle.std.proofs.Common.{◌≡◌, ◌≢◌, ◌⊎◌, ◌<◌, ◌≤◌, ◌∙◌, ℕ, List, [], ◌∷◌, ◌++◌, Contains, Some, length, slice_get, slice_set, refl, sym, ap, subst, inl, inr, ⊎_elim, arith}
use Rattle.std.proofs.lemmas.Bool.{cases_eq, cases_lt}
use Rattle.std.proofs.lemmas.List.{get_or-set_other, get_or-set_same, length-set}
use Rattle.std.proofs.lemmas.List.Elements.{Contains-append_left, Contains-push, Contains-push_cases}
use Rattle.std.proofs.lemmas.Option.{get_or_from_slice_get, slice_get-get_or, slice_get_past}
use Rattle.entity_ties.specs.Parts.{Puts, list_at}
use Rattle.order_search.specs.Moved.{Drops, IsWithout, Keeps}

-- ---- lists with one item set

pub get_same : {A : Type 0} (xs : List A) (i : ℕ) (y : A) → i < length xs → slice_get (slice_set xs i y) i ≡ Some y
get_same xs i y within =
    slice_get-get_or (slice_set xs i y) i y (omega (arith, length-set xs i y)) ∙ ap Some (get_or-set_same xs i y y within)

pub get_other : {A : Type 0} (xs : List A) (i j : ℕ) (y : A) → (j ≡ i → ⊥) → slice_get (slice_set xs i y) j ≡ slice_get xs j
get_other xs i j y differ =
    ⊎_elim
    (λ (h : j < length xs).
    slice_get-get_or (slice_set xs i y) j y (omega (arith, length-set xs i y))
    ∙ (ap Some (get_or-set_other xs i j y y differ) ∙ sym (slice_get-get_or xs j y h)))
    (λ (h : length xs ≤ j).
    slice_get_past (slice_set xs i y) j (omega (arith, length-set xs i y)) ∙ sym (slice_get_past xs j h))
    (cases_lt j (length xs))

module _ (old : List (List ℕ)) (place : ℕ) (ys : List ℕ) (inside : place < length old) where
  pub set_here : list_at (slice_set old place ys) place ≡ ys
  set_here = get_or-set_same old place ys [] inside

  pub set_there : (p : ℕ) → p ≢ place → list_at (slice_set old place ys) p ≡ list_at old p
  set_there p apart = get_or-set_other old place p ys [] apart

-- a list is taken out, and put back with an item more
module _ (place item : ℕ) (list : List ℕ) (old new : List (List ℕ)) (inside : place < length old)
    (at : slice_get old place ≡ Some list) (new_is : new ≡ slice_set (slice_set old place []) place (list ++ item ∷ [])) where
  was : list_at old place ≡ list
  was = get_or_from_slice_get old place list [] at

  here : list_at new place ≡ list ++ item ∷ []
  here =
      ap (λ (l : List (List ℕ)). list_at l place) new_is
      ∙ set_here (slice_set old place []) place (list ++ item ∷ []) (omega (arith, inside, length-set old place []))

  other : (p : ℕ) → p ≢ place → list_at new p ≡ list_at old p
  other p apart =
      ap (λ (l : List (List ℕ)). list_at l p) new_is
      ∙ (set_there (slice_set old place []) place (list ++ item ∷ []) (omega (arith, inside, length-set old place [])) p apart
      ∙ set_there old place [] inside p apart)

  kept : (p x : ℕ) → (p ≡ place) ⊎ (p ≡ place → ⊥) → Contains (list_at old p) x → Contains (list_at new p) x
  kept p x (inl e) c =
      subst (λ (l : List ℕ). Contains l x) (sym (ap (list_at new) e ∙ here))
      (Contains-append_left list (item ∷ []) x (subst (λ (l : List ℕ). Contains l x) (ap (list_at old) e ∙ was) c))
  kept p x (inr apart) c = subst (λ (l : List ℕ). Contains l x) (sym (other p apart)) c

  only : (p x : ℕ) → (p ≡ place) ⊎ (p ≡ place → ⊥) → Contains (list_at new p) x → Contains (list_at old p) x
      ⊎ ((p ≡ place) × (item ≡ x))
  only p x (inl e) c =
      ⊎_elim (λ (o : Contains list x). inl (subst (λ (l : List ℕ). Contains l x) (sym (ap (list_at old) e ∙ was)) o))
      (λ (s : item ≡ x). inr (e, s))
      (Contains-push_cases list item x (subst (λ (l : List ℕ). Contains l x) (ap (list_at new) e ∙ here) c))
  only p x (inr apart) c = inl (subst (λ (l : List ℕ). Contains l x) (other p apart) c)

  pub one_more : Puts place item old new
  one_more = record {
    many = ap length new_is ∙ (length-set (slice_set old place []) place (list ++ item ∷ []) ∙ length-set old place []);
    kept = λ p x c. kept p x (cases_eq p place) c;
    has = subst (λ (l : List ℕ). Contains l item) (sym here) (Contains-push list item);
    only = λ p x c. only p x (cases_eq p place) c;
  }

-- ---- one is left out

pub without_none : (item : ℕ) → IsWithout item [] []
without_none item x = (λ c. absurd (omega (arith, c.1)), λ c. absurd (omega (arith, c.0.1)))

pub without_more : (item other : ℕ) (front front_kept new : List ℕ) → IsWithout item front front_kept
    → Keeps item other front_kept new → IsWithout item (front ++ other ∷ []) new
without_more item other front front_kept new were keeps x = (there, back)
  where
    there : Contains new x → Contains (front ++ other ∷ []) x × x ≢ item
    there c = by ((keeps x).0 c)
      where
        by : Contains front_kept x ⊎ ((other ≡ x) × x ≢ item) → Contains (front ++ other ∷ []) x × x ≢ item
        by (inl h) = let w = (were x).0 h in (Contains-append_left front (other ∷ []) x w.0, w.1)
        by (inr h) = (subst (λ (y : ℕ). Contains (front ++ other ∷ []) y) h.0 (Contains-push front other), h.1)

    back : Contains (front ++ other ∷ []) x × x ≢ item → Contains new x
    back c = by (Contains-push_cases front other x c.0)
      where
        by : Contains front x ⊎ (other ≡ x) → Contains new x
        by (inl h) = (keeps x).1 (inl ((were x).1 (h, c.1)))
        by (inr h) = (keeps x).1 (inr (h, c.1))

pub keeps_same : (item other : ℕ) (old : List ℕ) → other ≡ item → Keeps item other old old
keeps_same item other old same x = (
  λ c. inl c,
  λ c. ⊎_elim (λ (h : Contains old x). h) (λ (h : (other ≡ x) × x ≢ item). absurd (h.1 (sym h.0 ∙ same))) c,
)

pub keeps_pushed : (item other : ℕ) (old : List ℕ) → (other ≡ item → ⊥) → Keeps item other old (old ++ other ∷ [])
keeps_pushed item other old differ x = (
  λ c. ⊎_elim (λ (h : Contains old x). inl h) (λ (h : other ≡ x). inr (h, λ e. differ (h ∙ e)))
      (Contains-push_cases old other x c),
  λ c. ⊎_elim (λ (h : Contains old x). Contains-append_left old (other ∷ []) x h)
      (λ (h : (other ≡ x) × x ≢ item). subst (λ (y : ℕ). Contains (old ++ other ∷ []) y) h.0 (Contains-push old other)) c,
)

pub dropped : (place item : ℕ) (list kept : List ℕ) (old new : List (List ℕ)) → place < length old
    → slice_get old place ≡ Some list → IsWithout item list kept → new ≡ slice_set old place kept → Drops place item old new
dropped place item list kept old new inside at without new_is = record {
  many = ap length new_is ∙ length-set old place kept;
  kept = λ p x apart c. stays p x apart (cases_eq p place) c;
  only = λ p x c. was_in p x (cases_eq p place) c;
  gone = λ c. ((without item).0 (subst (λ (l : List ℕ). Contains l item) here c)).1 refl;
}
  where
    was : list_at old place ≡ list
    was = get_or_from_slice_get old place list [] at

    here : list_at new place ≡ kept
    here = ap (λ (l : List (List ℕ)). list_at l place) new_is ∙ set_here old place kept inside

    other : (p : ℕ) → p ≢ place → list_at new p ≡ list_at old p
    other p apart = ap (λ (l : List (List ℕ)). list_at l p) new_is ∙ set_there old place kept inside p apart

    stays : (p x : ℕ) → x ≢ item → (p ≡ place) ⊎ (p ≡ place → ⊥) → Contains (list_at old p) x → Contains (list_at new p) x
    stays p x apart (inl e) c =
        subst (λ (l : List ℕ). Contains l x) (sym (ap (list_at new) e ∙ here))
        ((without x).1 (subst (λ (l : List ℕ). Contains l x) (ap (list_at old) e ∙ was) c, apart))
    stays p x apart (inr d) c = subst (λ (l : List ℕ). Contains l x) (sym (other p d)) c

    was_in : (p x : ℕ) → (p ≡ place) ⊎ (p ≡ place → ⊥) → Contains (list_at new p) x → Contains (list_at old p) x
    was_in p x (inl e) c =
        subst (λ (l : List ℕ). Contains l x) (sym (ap (list_at old) e ∙ was))
        ((without x).0 (subst (λ (l : List ℕ). Contains l x) (ap (list_at new) e ∙ here) c)).0
    was_in p x (inr d) c = subst (λ (l : List ℕ). Contains l x) (other p d) c
