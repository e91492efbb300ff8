-- A slot is that of one cell.
use Rattle.std.proofs.Common.{◌≡◌, ◌⊎◌, ◌+◌, ◌*◌, ◌<◌, ◌≤◌, ◌∙◌, ℕ, zero, suc, List, [], ◌∷◌, Some, length, take, slice_get, sym, ap, inl, inr, arith}
use Rattle.std.specs.List.{sum_by}
use Rattle.std.proofs.lemmas.Bool.{cases_lt}
use Rattle.std.proofs.lemmas.List.{take_all}
use Rattle.std.proofs.lemmas.List.Sums.{sum_by-cons, sum_by-take-le}
use Rattle.std.proofs.lemmas.Nat.{mul-add-lt, same_from_place}
use Rattle.std.proofs.lemmas.Option.{same_Some, none-some}
use Rattle.horn_closure.specs.Least.{IsCell, base_of, cells_of}

base_cons : (x : ℕ) (xs : List ℕ) (k : ℕ) → base_of (x ∷ xs) (suc k) ≡ x * x + base_of xs k
base_cons x xs k = sum_by-cons (λ n. n * n) x (take k xs)

-- behind a square begins the next
pub base_next : (sizes : List ℕ) (k n : ℕ) → slice_get sizes k ≡ Some n → base_of sizes (k + 1) ≡ base_of sizes k + n * n
base_next [] k n at = absurd (none-some n at)
base_next (x ∷ xs) zero n at =
    let same : x ≡ n = same_Some x n at in
    base_cons x xs 0 ∙ (ap (λ m. m * m + 0) same ∙ omega arith)
base_next (x ∷ xs) (suc k) n at =
    let next : suc k + 1 ≡ suc (k + 1) = omega arith in
    let more = base_next xs k n at in
    ap (base_of (x ∷ xs)) next ∙ (base_cons x xs (k + 1) ∙ (omega (arith, more, base_cons x xs k)))

pub base_le : (sizes : List ℕ) (j k : ℕ) → j ≤ k → base_of sizes j ≤ base_of sizes k
base_le [] j k less = none j
  where
    none : (j : ℕ) → base_of [] j ≤ base_of [] k
    none zero = omega arith
    none (suc j) = omega arith
base_le (x ∷ xs) zero k less = omega arith
base_le (x ∷ xs) (suc j) zero less = absurd (omega arith)
base_le (x ∷ xs) (suc j) (suc k) less =
    omega (arith, base_cons x xs j, base_cons x xs k, base_le xs j k (omega (arith, less)))

pub base_end : (sizes : List ℕ) (k : ℕ) → length sizes ≤ k → base_of sizes k ≡ cells_of sizes
base_end sizes k past = ap (sum_by (λ n. n * n)) (take_all k sizes past)

-- a cell lies behind its square's base and before the next one's
pub cell_within : (sizes : List ℕ) (square row column slot : ℕ) → (c : IsCell sizes square row column slot)
    → (base_of sizes square ≤ slot) × (slot < base_of sizes (square + 1))
cell_within sizes square row column slot c =
    let below = mul-add-lt row c.size column c.size c.row_in c.column_in in (
      omega (arith, c.slot_is),
      omega (arith, c.slot_is, below, base_next sizes square c.size c.is_size),
    )

pub cell_in : (sizes : List ℕ) (square row column slot : ℕ) → IsCell sizes square row column slot → slot < cells_of sizes
cell_in sizes square row column slot c =
    omega (arith, (cell_within sizes square row column slot c).1, sum_by-take-le (λ n. n * n) sizes (square + 1))

-- the square, the row and the column of a slot are one
pub record IsOneCell (square row column square' row' column' : ℕ) : Type 0 where
  pub squares : square ≡ square'
  pub rows : row ≡ row'
  pub columns : column ≡ column'

pub one_cell : (sizes : List ℕ) (square row column square' row' column' slot : ℕ) → IsCell sizes square row column slot
    → IsCell sizes square' row' column' slot → IsOneCell square row column square' row' column'
one_cell sizes square row column square' row' column' slot c d = by (cases_lt square square') (cases_lt square' square)
  where
    by : (square < square') ⊎ (square' ≤ square) → (square' < square) ⊎ (square ≤ square') → IsOneCell square row
        column square' row' column'
    by (inl less) other =
        absurd (omega (
          arith,
          (cell_within sizes square row column slot c).1,
          (cell_within sizes square' row' column' slot d).0,
          base_le sizes (square + 1) square' (omega (arith, less)),
        ))
    by (inr h) (inl less) =
        absurd (omega (
          arith,
          (cell_within sizes square' row' column' slot d).1,
          (cell_within sizes square row column slot c).0,
          base_le sizes (square' + 1) square (omega (arith, less)),
        ))
    by (inr h) (inr k) =
        let same : square ≡ square' = omega (arith, h, k) in
        let sized : d.size ≡ c.size = same_Some d.size c.size (sym d.is_size ∙ (ap (slice_get sizes) (sym same) ∙ c.is_size)) in
        let slots : base_of sizes square + row * c.size + column ≡ base_of sizes square + row' * c.size + column' =
        sym c.slot_is ∙ (d.slot_is ∙ (ap (λ q. base_of sizes q + row' * d.size + column') (sym same)
        ∙ ap (λ n. base_of sizes square + row' * n + column') sized)) in
        let places : row * c.size + column ≡ row' * c.size + column' = omega (arith, slots) in
        let both = same_from_place row column row' column' c.size c.column_in (omega (arith, d.column_in, sized)) places in
        record { squares = same; rows = both.0; columns = both.1 }
