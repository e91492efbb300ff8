-- Values that are listed once.
use Rattle.std.proofs.Common.{◌≡◌, ◌⊎◌, inl, inr, ℕ, zero, suc, true, List, [], ◌∷◌, ◌++◌, map, Some, slice_get, sym, subst}
use Rattle.std.specs.List.{Contains}
use Rattle.std.specs.List.Sorted.{IsPermutation}
use Rattle.std.proofs.lemmas.List.Elements.{Contains-append_left, Contains-push, Contains-push_cases}
use Rattle.std.proofs.lemmas.List.Sorted.{Contains-permutation, IsPermutation-sym}
use Rattle.std.proofs.lemmas.Option.{none-some, same_Some}
use Rattle.currency_base.specs.Values.{value_test}
use Rattle.currency_base.specs.declared.value.Cmp.TheVariants.{Eq}
use Rattle.currency_base.specs.declared.value.Value.{Value}
use Rattle.match_candidates.specs.Tables.{HaveSame}
use Rattle.match_candidates.proofs.Among.{Among, from_contains, to_contains}
use Rattle.match_candidates.proofs.AlikeEntries.{mapped, unmapped}
use Rattle.match_candidates.proofs.Values.{tested_same}

among_at : {A : Type 0} (xs : List A) (k : ℕ) (x : A) → slice_get xs k ≡ Some x → Among xs x
among_at [] k x at = absurd (none-some x at)
among_at (y ∷ ys) zero x at = inl (same_Some y x at)
among_at (y ∷ ys) (suc k) x at = inr (among_at ys k x at)

-- what equals an item is one
pub is_contained : {A : Type 0} (now : A → Value) (xs : List A) (k : ℕ) (last : A) (v : Value) → slice_get xs k ≡ Some last
    → value_test Eq (now last) v ≡ true → Contains (map now xs) v
is_contained now xs k last v at same =
    subst (Contains (map now xs)) (tested_same (now last) v same) (to_contains (map now xs) (now last) (mapped now xs last
    (among_at xs k last at)))

module _ (xs more : List Value) (x : Value) (once : List Value) (after : more ≡ xs ++ x ∷ []) (are : HaveSame xs once) where
  -- a value that stands there already
  pub same_skip : Contains once x → HaveSame more once
  same_skip has = record {
    all = λ y is. by y (Contains-push_cases xs x y (subst (λ l. Contains l y) after is));
    each = λ y is. subst (λ l. Contains l y) (sym after) (Contains-append_left xs (x ∷ []) y (are.each y is));
  }
    where
      by : (y : Value) → Contains xs y ⊎ (x ≡ y) → Contains once y
      by y (inl before) = are.all y before
      by y (inr same) = subst (Contains once) same has

  -- one more
  pub same_push : (now : List Value) → now ≡ once ++ x ∷ [] → HaveSame more now
  same_push now pushed = record {
    all = λ y is. subst (λ l. Contains l y) (sym pushed) (all y (Contains-push_cases xs x y (subst
        (λ l. Contains l y) after is)));
    each = λ y is. subst (λ l. Contains l y) (sym after) (each y (Contains-push_cases once x y (subst
        (λ l. Contains l y) pushed is)));
  }
    where
      all : (y : Value) → Contains xs y ⊎ (x ≡ y) → Contains (once ++ x ∷ []) y
      all y (inl before) = Contains-append_left once (x ∷ []) y (are.all y before)
      all y (inr same) = subst (Contains (once ++ x ∷ [])) same (Contains-push once x)

      each : (y : Value) → Contains once y ⊎ (x ≡ y) → Contains (xs ++ x ∷ []) y
      each y (inl before) = Contains-append_left xs (x ∷ []) y (are.each y before)
      each y (inr same) = subst (Contains (xs ++ x ∷ [])) same (Contains-push xs x)

-- in whatever order they stood before
pub same_sorted : {A : Type 0} (now : A → Value) (xs ys : List A) (once : List Value) → IsPermutation xs ys
    → HaveSame (map now ys) once
    → HaveSame (map now xs) once
same_sorted {A} now xs ys once same are = record {
  all = λ y is. are.all y (there y (unmapped now xs y (from_contains (map now xs) y is)));
  each = λ y is. back y (unmapped now ys y (from_contains (map now ys) y (are.each y is)));
}
  where
    there : (y : Value) → (x : A) × Among xs x × (now x ≡ y) → Contains (map now ys) y
    there y own = subst (Contains (map now ys)) own.2
        (to_contains (map now ys) (now own.0) (mapped now ys own.0 (from_contains ys own.0
        (Contains-permutation xs ys own.0 same (to_contains xs own.0 own.1)))))

    back : (y : Value) → (x : A) × Among ys x × (now x ≡ y) → Contains (map now xs) y
    back y own = subst (Contains (map now xs)) own.2
        (to_contains (map now xs) (now own.0) (mapped now xs own.0 (from_contains xs own.0 (Contains-permutation ys xs own.0
        (IsPermutation-sym xs ys same) (to_contains ys own.0 own.1)))))
