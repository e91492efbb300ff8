-- Scopes that are made variable by variable.
use Rattle.std.proofs.Common.{◌≡◌, ◌⊎◌, ◌<◌, ◌≤◌, ◌+◌, ℕ, zero, suc, List, [], ◌∷◌, ◌++◌, Some, length, slice_get, refl, inl, inr, arith}
use Rattle.search_trail.specs.Trails.{IsScope}
use Rattle.std.proofs.lemmas.Option.{slice_get_within}

pub scope_none : (vars : ℕ) → IsScope vars []
scope_none vars = record {
  ascend = λ i j low high less a b. let no : ⊥ = cc in absurd no;
  within = λ i var a. let no : ⊥ = cc in absurd no;
}

-- more variables
pub scope_wider : (vars more : ℕ) (scope : List ℕ) → IsScope vars scope → vars ≤ more → IsScope more scope
scope_wider vars more scope is grow = record {
  ascend = is.ascend;
  within = λ i var a. let h = is.within i var a in omega (arith, h, grow);
}

at_push : (xs : List ℕ) (y i x : ℕ) → slice_get (xs ++ y ∷ []) i ≡ Some x
    → (slice_get xs i ≡ Some x) ⊎ ((i ≡ length xs) × (y ≡ x))
at_push [] y i x is = go i is
  where
    go : (k : ℕ) → slice_get (y ∷ []) k ≡ Some x → (slice_get [] k ≡ Some x) ⊎ ((k ≡ 0) × (y ≡ x))
    go zero at = inr (refl, cc)
    go (suc k) at = let no : ⊥ = cc in absurd no
at_push (z ∷ zs) y zero x is = inl is
at_push (z ∷ zs) y (suc i) x is = go (at_push zs y i x is)
  where
    go : (slice_get zs i ≡ Some x) ⊎ ((i ≡ length zs) × (y ≡ x)) →
        (slice_get zs i ≡ Some x) ⊎ ((suc i ≡ suc (length zs)) × (y ≡ x))
    go (inl a) = inl a
    go (inr b) = inr (omega (arith, b.0), b.1)

-- one variable more, above all
pub scope_push : (var : ℕ) (scope : List ℕ) → IsScope var scope → IsScope (var + 1) (scope ++ var ∷ [])
scope_push var scope is = record {
  ascend = λ i j low high less a b. rise i j low high less (at_push scope var i low a) (at_push scope var j high b);
  within = λ i x a. below i x (at_push scope var i x a);
}
  where
    rise : (i j low high : ℕ) → i < j → (slice_get scope i ≡ Some low) ⊎ ((i ≡ length scope) × (var ≡ low))
        → (slice_get scope j ≡ Some high) ⊎ ((j ≡ length scope) × (var ≡ high)) → low < high
    rise i j low high less (inl a) (inl b) = is.ascend i j low high less a b
    rise i j low high less (inl a) (inr b) = let h = is.within i low a in omega (arith, h, b.1)
    rise i j low high less (inr a) (inl b) = absurd (let h = slice_get_within scope j high b in omega (arith, h, a.0, less))
    rise i j low high less (inr a) (inr b) = absurd (omega (arith, a.0, b.0, less))

    below : (i x : ℕ) → (slice_get scope i ≡ Some x) ⊎ ((i ≡ length scope) × (var ≡ x)) → x < var + 1
    below i x (inl a) = let h = is.within i x a in omega (arith, h)
    below i x (inr b) = omega (arith, b.1)
