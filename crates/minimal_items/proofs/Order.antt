-- Marked items stand in the order of the items.
use Rattle.std.proofs.Common.{◌≡◌, ◌∙◌, ◌+◌, ◌<◌, ◌≤◌, ℕ, zero, suc, Bool, true, false, if◌then◌else◌, List, [], ◌∷◌, Some, length, slice_get, refl, ap, arith}
use Rattle.std.proofs.lemmas.Option.{none-some, same_Some}
use Rattle.spec_items.specs.declared.item.Item.{Item}
use Rattle.minimal_items.specs.Among.{marked_items}
use Rattle.minimal_items.specs.Explanations.{AreInOrder}

-- the places of the marked ones, of items of which the first has this place
abbrev places : ℕ → List Item → List Bool → List ℕ
places n [] marks = []
places n (i ∷ items) [] = []
places n (i ∷ items) (m ∷ marks) = if m then n ∷ places (suc n) items marks else places (suc n) items marks

as_many : (n : ℕ) (items : List Item) (marks : List Bool) → length (places n items marks) ≡ length (marked_items items marks)
as_many n [] marks = refl
as_many n (i ∷ items) [] = refl
as_many n (i ∷ items) (true ∷ marks) = ap suc (as_many (suc n) items marks)
as_many n (i ∷ items) (false ∷ marks) = as_many (suc n) items marks

from : (n : ℕ) (items : List Item) (marks : List Bool) (k x : ℕ) → slice_get (places n items marks) k ≡ Some x → n ≤ x
from n [] marks k x at = absurd (none-some x at)
from n (i ∷ items) [] k x at = absurd (none-some x at)
from n (i ∷ items) (true ∷ marks) zero x at = let same = same_Some n x at in omega (arith, same)
from n (i ∷ items) (true ∷ marks) (suc k) x at = let above = from (suc n) items marks k x at in omega (arith, above)
from n (i ∷ items) (false ∷ marks) k x at = let above = from (suc n) items marks k x at in omega (arith, above)

ascending : (n : ℕ) (items : List Item) (marks : List Bool) (i j x y : ℕ) → i < j → slice_get (places n items marks) i ≡ Some x
    → slice_get (places n items marks) j ≡ Some y → x < y
ascending n [] marks i j x y below at_i at_j = absurd (none-some x at_i)
ascending n (it ∷ items) [] i j x y below at_i at_j = absurd (none-some x at_i)
ascending n (it ∷ items) (true ∷ marks) i zero x y below at_i at_j = absurd (omega (arith, below))
ascending n (it ∷ items) (true ∷ marks) zero (suc j) x y below at_i at_j =
    let same = same_Some n x at_i in
    let above = from (suc n) items marks j y at_j in
    omega (arith, same, above)
ascending n (it ∷ items) (true ∷ marks) (suc i) (suc j) x y below at_i at_j =
    ascending (suc n) items marks i j x y (omega (arith, below)) at_i at_j
ascending n (it ∷ items) (false ∷ marks) i j x y below at_i at_j = ascending (suc n) items marks i j x y below at_i at_j

there : (n : ℕ) (items : List Item) (marks : List Bool) (k x : ℕ) (i : Item) → slice_get (places n items marks) k ≡ Some x
    → slice_get (marked_items items marks) k ≡ Some i → (d : ℕ) × (x ≡ n + d) × (slice_get items d ≡ Some i)
there n [] marks k x i at here = absurd (none-some x at)
there n (it ∷ items) [] k x i at here = absurd (none-some x at)
there n (it ∷ items) (true ∷ marks) zero x i at here = (0, (let same = same_Some n x at in omega (arith, same)), here)
there n (it ∷ items) (true ∷ marks) (suc k) x i at here =
    let more = there (suc n) items marks k x i at here in
    (suc more.0, (let same = more.1 in omega (arith, same)), more.2)
there n (it ∷ items) (false ∷ marks) k x i at here =
    let more = there (suc n) items marks k x i at here in
    (suc more.0, (let same = more.1 in omega (arith, same)), more.2)

pub in_order : (items : List Item) (marks : List Bool) → AreInOrder items (marked_items items marks)
in_order items marks = record {
  places = places 0 items marks;
  per_item = as_many 0 items marks;
  ascend = λ i j x y below at_i at_j. ascending 0 items marks i j x y below at_i at_j;
  each = λ k place i at here.
      let is = there 0 items marks k place i at here in
      let far = is.1 in
      let same : place ≡ is.0 = omega (arith, far) in
      ap (slice_get items) same ∙ is.2;
}
