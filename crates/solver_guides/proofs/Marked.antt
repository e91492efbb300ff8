-- Variables that are made present, or taken off, one after another.
use Rattle.std.proofs.Common.{◌≡◌, ◌<◌, ◌+◌, ℕ, zero, suc, Bool, List, [], ◌∷◌, length, drop, slice_index_or, slice_set, ap, arith}
use Rattle.solver_guides.specs.Known.{marked}

pub marked_more : (present : List Bool) (vars : List ℕ) (i var d : ℕ) (now : Bool) → i < length vars
    → var ≡ slice_index_or vars i d → marked (slice_set present var now) (drop (i + 1) vars) now
    ≡ marked present (drop i vars) now
marked_more present [] i var d now h at = absurd (omega (arith, h))
marked_more present (x ∷ xs) zero var d now h at = ap (λ (v : ℕ). marked (slice_set present v now) xs now) at
marked_more present (x ∷ xs) (suc i) var d now h at =
    let next : suc i + 1 ≡ suc (i + 1) = omega arith in
    rw next (marked_more present xs i var d now (omega (arith, h)) at)
