-- Items that are listed one after another.
use Rattle.std.proofs.Common.{◌≡◌, ◌+◌, ◌<◌, ◌≤◌, ◌⊎◌, inl, inr, ℕ, List, [], ◌∷◌, ◌++◌, sym, ap, subst, arith}
use Rattle.std.specs.List.{Contains}
use Rattle.std.proofs.lemmas.Bool.{cases_lt}
use Rattle.std.proofs.lemmas.List.Elements.{Contains-append_left, Contains-push}
use Rattle.currency_base.specs.declared.ids.EntId.{EntId}

-- one place more
pub listed_more : (ents now : List EntId) (i at : ℕ) → at ≡ i → now ≡ ents ++ record { 0 = at } ∷ [] →
    ((k : ℕ) → k < i → Contains ents record { 0 = k })
    → (k : ℕ) → k < i + 1 → Contains now record { 0 = k }
listed_more ents now i at same after before k below = subst (λ l. Contains l record { 0 = k }) (sym after) (by (cases_lt k i))
  where
    last : EntId
    last = record { 0 = at }

    own : EntId
    own = record { 0 = k }

    by : (k < i) ⊎ (i ≤ k) → Contains (ents ++ last ∷ []) own
    by (inl low) = Contains-append_left ents (last ∷ []) own (before k low)
    by (inr high) =
        let here : at ≡ k = omega arith in
        let equal : last ≡ own = ap (λ n. record { 0 = n }) here in
        subst (λ e. Contains (ents ++ last ∷ []) e) equal (Contains-push ents last)
