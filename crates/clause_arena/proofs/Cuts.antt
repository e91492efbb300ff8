-- Clauses cut out of one vector of literals: which they are, and where each stands.
use Rattle.std.proofs.Common.{◌≡◌, ◌<◌, ◌≤◌, ℕ, zero, suc, List, [], ◌∷◌, Some, length, get_or, slice_get, slice_range, refl, arith}
use Rattle.flat_lists.proofs.Cuts.{start_within}
use Rattle.flat_lists.specs.Flat.{cut_from, Ascend}

-- the list at a place
pub list_at : {A : Type 0} (start : ℕ) (ends : List ℕ) (xs : List A) (place : ℕ) → place < length ends
    → slice_get (cut_from start ends xs) place ≡ Some (slice_range xs (get_or (start ∷ ends) place 0) (get_or ends place 0))
list_at start [] xs place h = absurd (omega arith)
list_at start (end ∷ ends) xs zero h = refl
list_at start (end ∷ ends) xs (suc place) h = list_at end ends xs place (omega arith)

-- it starts no later than it ends
pub span_order : (start : ℕ) (ends : List ℕ) (total place : ℕ) → Ascend start ends total → place < length ends
    → get_or (start ∷ ends) place 0 ≤ get_or ends place 0
span_order start [] total place a h = absurd (omega arith)
span_order start (end ∷ ends) total zero a h = a.0
span_order start (end ∷ ends) total (suc place) a h = span_order end ends total place a.1 (omega arith)

-- and starts within the items
pub span_within : (start : ℕ) (ends : List ℕ) (total place : ℕ) → Ascend start ends total → place ≤ length ends
    → get_or (start ∷ ends) place 0 ≤ total
span_within start ends total zero a h = start_within start ends total a
span_within start [] total (suc place) a h = absurd (omega arith)
span_within start (end ∷ ends) total (suc place) a h = span_within end ends total place a.1 (omega arith)

-- as it ends, too
pub end_within : (start : ℕ) (ends : List ℕ) (total place : ℕ) → Ascend start ends total → place < length ends
    → get_or ends place 0 ≤ total
end_within start [] total place a h = absurd (omega arith)
end_within start (end ∷ ends) total place a h = span_within end ends total place a.1 (omega arith)
