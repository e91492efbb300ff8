-- What holds of each item of a list after those before it, by places and by recursion.
use Rattle.std.proofs.Common.{◌≡◌, ℕ, List, [], ◌∷◌, ◌++◌, Some, length, take, slice_get, refl, sym, subst, append_assoc, take_at}

-- of each item, with the items before it, the first of which are a front
abbrev pub EachAfter : {X : Type 0} → (List X → X → Type 0) → List X → List X → Type 0
EachAfter P front [] = Unit {0}
EachAfter P front (x ∷ xs) = P front x × EachAfter P (front ++ x ∷ []) xs

-- the item behind a front
slice_get_at : {X : Type 0} → (front rest : List X) (x : X) → slice_get (front ++ x ∷ rest) (length front) ≡ Some x
slice_get_at [] rest x = refl
slice_get_at (y ∷ front) rest x = slice_get_at front rest x

-- what holds of the item at each place and of those before it, holds so by recursion
pub each_after : {X : Type 0} (P : List X → X → Type 0) → (front rest : List X)
    → ((place : ℕ) (x : X) → slice_get (front ++ rest) place ≡ Some x → P (take place (front ++ rest)) x) → EachAfter P front rest
each_after P front [] each = tt
each_after {X} P front (x ∷ rest) each = (
  subst (λ l. P l x) (take_at front (x ∷ rest) (length front) refl) (each (length front) x (slice_get_at front rest x)),
  each_after P (front ++ x ∷ []) rest (subst HoldsAtEach (sym (append_assoc front (x ∷ []) rest)) each),
)
  where
    HoldsAtEach : List X → Type 0
    HoldsAtEach l = (place : ℕ) (y : X) → slice_get l place ≡ Some y → P (take place l) y
