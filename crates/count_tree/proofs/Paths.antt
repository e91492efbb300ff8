-- The nodes above a node.
use Rattle.std.proofs.Common.{◌≡◌, ◌/◌, ℕ, zero, suc, refl, ap}
use Rattle.count_tree.specs.Nodes.{above}

-- nothing stands above the place that is no node
pub above_zero : (steps : ℕ) → above steps 0 ≡ 0
above_zero zero = refl
above_zero (suc steps) = rw (above_zero steps)

-- a step first is a step last
pub above_half : (steps place : ℕ) → above steps (place / 2) ≡ above (suc steps) place
above_half zero place = refl
above_half (suc steps) place = ap (λ (n : ℕ). n / 2) (above_half steps place)
