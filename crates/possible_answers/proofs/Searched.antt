-- A tuple is found among tuples that ascend.
use Rattle.std.proofs.Common.{◌≡◌, ◌∙◌, ◌||◌, ◌⊎◌, ◌+◌, ◌<◌, ◌≤◌, ℕ, zero, suc, Bool, true, false, List, [], ◌∷◌, MatchResult, Option, Some, None}
use Rattle.std.proofs.Common.{Result, Ok, Err, ap, arith, get_or, inl, inr, length, refl, slice_get, sym}
use Rattle.std.specs.Cmp.{IsTotalOrder}
use Rattle.std.specs.Cmp.Lexicographic.{slice_cmp}
use Rattle.std.specs.List.{list_any}
use Rattle.std.specs.List.Sorted.{IsBinarySearchResult, IsPartitionPoint, IsSortedBy}
use Rattle.std.specs.Ordering.{is_eq, is_lt, ordering_reverse}
use Rattle.std.specs.Result.{is_ok}
use Rattle.std.specs.declared.cmp.Ordering.{Ordering}
use Rattle.std.specs.declared.cmp.Ordering.TheVariants.{Less, Equal, Greater}
use Rattle.std.proofs.lemmas.Bool.{cases_lt}
use Rattle.std.proofs.lemmas.List.Sorted.{searchable_from_sorted}
use Rattle.std.proofs.lemmas.Option.{slice_get-get_or}
use Rattle.currency_base.specs.Values.{value_cmp}
use Rattle.currency_base.specs.declared.value.Value.{Value}
use Rattle.query_model.specs.Answers.{AreAscending}
use Rattle.possible_answers.specs.Distinct.{is_among}

-- ---- tests over lists

any_at : {A : Type 0} (p : A → Bool) (xs : List A) (k : ℕ) (d : A) → k < length xs → p (get_or xs k d) ≡ true → list_any p xs ≡ true
any_at p [] k d inside is = absurd (omega (arith, inside))
any_at p (x ∷ xs) zero d inside is = ap (λ (b : Bool). b || list_any p xs) is
any_at {A} p (x ∷ xs) (suc k) d inside is = by (p x) (any_at p xs k d (omega (arith, inside)) is)
  where
    by : (b : Bool) → list_any p xs ≡ true → (b || list_any p xs) ≡ true
    by true rest = refl
    by false rest = rest

none_any : {A : Type 0} (p : A → Bool) (xs : List A) → ((k : ℕ) (d : A) → k < length xs → p (get_or xs k d) ≡ false)
    → list_any p xs ≡ false
none_any p [] none = refl
none_any p (x ∷ xs) none =
    ap (λ (b : Bool). b || list_any p xs) (none zero x (omega arith))
    ∙ none_any p xs (λ k d inside. none (suc k) d (omega (arith, inside)))

module _ (total : IsTotalOrder (slice_cmp value_cmp)) where
  -- what ascends is sorted
  sorted : (xs : List (List Value)) → AreAscending xs → IsSortedBy (λ a b. is_lt (slice_cmp value_cmp a b)) xs
  sorted xs up k d from inside =
      let here = get_or xs k d in
      let next = get_or xs (k + 1) d in
      let below : slice_cmp value_cmp here next ≡ Less = up k (k + 1) here next (omega arith)
      (slice_get-get_or xs k d (omega (arith, inside))) (slice_get-get_or xs (k + 1) d inside) in
      ap is_lt (total.antisymm next here ∙ ap ordering_reverse below)

  pub found_is : (xs : List (List Value)) (tuple : List Value) (r : Result ℕ ℕ) → AreAscending xs
      → MatchResult r (λ i. i < length xs) (λ i. i ≤ length xs)
      → IsBinarySearchResult (λ y. slice_cmp value_cmp y tuple) xs r → is_ok r ≡ is_among xs tuple
  found_is xs tuple (Ok i) up inside at = sym (any_at (λ t. is_eq (slice_cmp value_cmp t tuple)) xs i tuple inside
      (ap is_eq (at tuple)))
  found_is xs tuple (Err i) up inside at =
      sym (none_any (λ t. is_eq (slice_cmp value_cmp t tuple)) xs (λ k d within. apart k d within (cases_lt k i)))
    where
      parts : IsPartitionPoint (λ y. slice_cmp value_cmp y tuple ≡ Less) (λ y. slice_cmp value_cmp y tuple ≡ Greater) xs i
      parts = at (searchable_from_sorted total (λ t. t) xs tuple (sorted xs up))

      apart : (k : ℕ) (d : List Value) → k < length xs → (k < i) ⊎ (i ≤ k) → is_eq (slice_cmp value_cmp (get_or xs k d) tuple) ≡ false
      apart k d within (inl before) = ap is_eq (parts.0 k d (omega arith) before)
      apart k d within (inr after) = ap is_eq (parts.1 k d after within)
