-- Cells and their slots: each slot is that of one cell, and what two cells that meet are.
use Rattle.std.proofs.Common.{◌≡◌, ◌⊎◌, ◌+◌, ◌*◌, ◌<◌, ◌≤◌, ◌∙◌, ℕ, zero, suc, List, [], ◌∷◌, Some, length, take, get_or, slice_get, slice_index, sym, ap, ap₂, refl, subst, inl, inr, arith}
use Rattle.std.specs.List.Sorted.{IsNonDecreasing}
use Rattle.std.proofs.lemmas.Bool.{cases_lt}
use Rattle.std.proofs.lemmas.List.Sums.{sum_by-cons, sum_by-take-le, sum_by_more}
use Rattle.std.proofs.lemmas.Nat.{mul-add-lt, same_from_place}
use Rattle.std.proofs.lemmas.Option.{same_Some, slice_get_within, slice_get-get_or, get_or_from_slice_get}
use Rattle.horn_closure.specs.Least.{IsCell, Meet, base_of, cells_of}
use Rattle.horn_closure.specs.Steps.{AreBases, IsPlaced, IsCellAt, slot_of}
use Rattle.horn_closure.specs.declared.squares.Cell.{Cell}

-- ---- where squares begin

pub base_more : (sizes : List ℕ) (k size : ℕ) → slice_get sizes k ≡ Some size → base_of sizes (k + 1) ≡ base_of sizes
    k + size * size
base_more sizes k size at =
    sum_by_more (λ n. n * n) sizes k 0 (slice_get_within sizes k size at)
    ∙ ap (λ n. base_of sizes k + n * n) (get_or_from_slice_get sizes k size 0 at)

pub base_within : (sizes : List ℕ) (k : ℕ) → base_of sizes k ≤ cells_of sizes
base_within sizes k = sum_by-take-le (λ n. n * n) sizes k

pub base_order : (sizes : List ℕ) (i j : ℕ) → i ≤ j → base_of sizes i ≤ base_of sizes j
base_order [] zero zero h = omega arith
base_order [] zero (suc j) h = omega arith
base_order [] (suc i) zero h = omega arith
base_order [] (suc i) (suc j) h = omega arith
base_order (n ∷ sizes) zero j h = omega (arith, first (n ∷ sizes))
  where
    first : (xs : List ℕ) → base_of xs 0 ≡ 0
    first [] = refl
    first (x ∷ xs) = refl
base_order (n ∷ sizes) (suc i) zero h = absurd (omega arith)
base_order (n ∷ sizes) (suc i) (suc j) h =
    let more = base_order sizes i j (omega arith) in
    omega (arith, more, sum_by-cons (λ m. m * m) n (take i sizes), sum_by-cons (λ m. m * m) n (take j sizes))

module _ (sizes bases : List ℕ) (are : AreBases sizes bases) where
  base_at : (k d : ℕ) → k < length bases → get_or bases k d ≡ base_of sizes k
  base_at k d less =
      get_or_from_slice_get bases k (slice_index bases k) d (slice_get-get_or bases k 0 less) ∙ are.each k
      (omega (arith, are.one_each))

  pub bases_rise : IsNonDecreasing bases
  bases_rise i j d order less =
      omega (arith, base_at i d (omega arith), base_at j d less, base_order sizes i j order)

-- ---- cells

-- a cell's slot stands behind where its square begins, and before where the next does
cell_before : (sizes : List ℕ) (k row column slot : ℕ) → IsCell sizes k row column slot → slot < base_of sizes (k + 1)
cell_before sizes k row column slot c =
    omega (arith, base_more sizes k c.size c.is_size, mul-add-lt row c.size column c.size c.row_in c.column_in, c.slot_is)

pub record IsSameCell (square row column square' row' column' : ℕ) : Type 0 where
  pub square_is : square ≡ square'
  pub row_is : row ≡ row'
  pub column_is : column ≡ column'

pub one_cell : (sizes : List ℕ) (k row column k' row' column' slot : ℕ) → IsCell sizes k row column slot
    → IsCell sizes k' row' column' slot
    → IsSameCell k row column k' row' column'
one_cell sizes k row column k' row' column' slot c c' = by (cases_lt k k') (cases_lt k' k)
  where
    within : (square : ℕ) → k ≡ square → (size : ℕ) → slice_get sizes square ≡ Some size → c.size ≡ size
    within square same size is = same_Some c.size size (sym c.is_size ∙ ap (slice_get sizes) same ∙ is)

    by : (k < k') ⊎ (k' ≤ k) → (k' < k) ⊎ (k ≤ k') → IsSameCell k row column k' row' column'
    by (inl h) b = absurd (omega (
      arith,
      cell_before sizes k row column slot c,
      base_order sizes (k + 1) k'
          (omega arith),
      c'.slot_is,
    ))
    by (inr h) (inl g) = absurd (omega (
      arith,
      cell_before sizes k' row' column' slot c',
      base_order sizes (k' + 1) k
          (omega arith),
      c.slot_is,
    ))
    by (inr h) (inr g) =
        let same : k ≡ k' = omega arith in
        let sizes_are : c.size ≡ c'.size = within k' same c'.size c'.is_size in
        let bases : base_of sizes k ≡ base_of sizes k' = ap (base_of sizes) same in
        let mine : slot ≡ base_of sizes k + (row * c'.size + column) = c.slot_is
        ∙ ap (λ n. base_of sizes k + row * n + column) sizes_are ∙ omega arith in
        let place : row * c'.size + column ≡ row' * c'.size + column' = omega (arith, mine, bases, c'.slot_is) in
        let both = same_from_place row column row' column' c'.size (subst (λ n. column < n) sizes_are c.column_in)
        c'.column_in place in
        record { square_is = same; row_is = both.0; column_is = both.1 }

-- the cell of a slot in its square
pub cell_found : (sizes : List ℕ) (k base size slot : ℕ) (cell : Cell) → slice_get sizes k ≡ Some size → base ≡ base_of sizes k
    → IsPlaced base size slot cell → IsCellAt sizes cell slot
cell_found sizes k base size slot cell at base_is is = record {
  square = k;
  is_size = at ∙ ap Some (sym is.size_is);
  base_is = is.base_is ∙ base_is;
  row_in = is.row_in;
  column_in = is.column_in;
  slot_is = is.slot_is;
  inside =
      let size_is : cell.size * cell.size ≡ size * size = ap (λ n. n * n) is.size_is in
      omega (arith, size_is, is.base_is, base_is, base_more sizes k size at, base_within sizes (k + 1));
}

module _ (sizes : List ℕ) (cell : Cell) (slot : ℕ) (is : IsCellAt sizes cell slot) where
  -- the cell in a row and a column of its square
  pub cell_is : (row column : ℕ) → row < cell.size → column < cell.size → IsCell sizes is.square row column
      (slot_of cell row column)
  cell_is row column row_in column_in = record {
    size = cell.size;
    is_size = is.is_size;
    row_in = row_in;
    column_in = column_in;
    slot_is = ap (λ base. base + row * cell.size + column) is.base_is;
  }

  own_cell : IsCell sizes is.square cell.row cell.column slot
  own_cell = record {
    size = cell.size;
    is_size = is.is_size;
    row_in = is.row_in;
    column_in = is.column_in;
    slot_is = is.slot_is ∙ ap (λ base. base + cell.row * cell.size + cell.column) is.base_is;
  }

  -- a cell in a row and a column of its square is where they say
  there : (square row column other : ℕ) → square ≡ is.square → IsCell sizes square row column other
      → (row < cell.size) × (column < cell.size) × (other ≡ slot_of cell row column)
  there square row column other same c =
      let size_is : c.size ≡ cell.size = same_Some c.size cell.size (sym c.is_size ∙ ap (slice_get sizes) same ∙ is.is_size) in
      let base_is : base_of sizes square ≡ cell.base = ap (base_of sizes) same ∙ sym is.base_is in (
        subst (λ n. row < n) size_is c.row_in,
        subst (λ n. column < n) size_is c.column_in,
        c.slot_is ∙ ap₂ (λ base size. base + row * size + column) base_is size_is,
      )

  -- what goes on from a cell stands in a column of the row that its column names
  pub goes_on : (second third : ℕ) → Meet sizes slot second third
      → (other : ℕ) × (other < cell.size) × (second ≡ slot_of cell cell.column other) × (third ≡ slot_of cell cell.row other)
  goes_on second third m =
      let same = one_cell sizes m.square m.row m.middle is.square cell.row cell.column slot m.first_is own_cell in
      let one = there m.square m.middle m.column second same.square_is m.second_is in
      let end = there m.square m.row m.column third same.square_is m.third_is in (
        m.column,
        one.1,
        one.2 ∙ ap (λ row. slot_of cell row m.column) same.column_is,
        end.2
            ∙ ap (λ row. slot_of cell row m.column) same.row_is,
      )

  -- and what comes to it in a row of the column that its row names
  pub comes_to : (first third : ℕ) → Meet sizes first slot third
      → (other : ℕ) × (other < cell.size) × (first ≡ slot_of cell other cell.row) × (third ≡ slot_of cell other cell.column)
  comes_to first third m =
      let same = one_cell sizes m.square m.middle m.column is.square cell.row cell.column slot m.second_is own_cell in
      let one = there m.square m.row m.middle first same.square_is m.first_is in
      let end = there m.square m.row m.column third same.square_is m.third_is in (
        m.row,
        one.0,
        one.2 ∙ ap (λ column. slot_of cell m.row column) same.row_is,
        end.2
            ∙ ap (λ column. slot_of cell m.row column) same.column_is,
      )

  pub meet_ahead : (other : ℕ) → other < cell.size → Meet sizes slot (slot_of cell cell.column other)
      (slot_of cell cell.row other)
  meet_ahead other less = record {
    square = is.square;
    row = cell.row;
    middle = cell.column;
    column = other;
    first_is = own_cell;
    second_is = cell_is cell.column other is.column_in less;
    third_is = cell_is cell.row other is.row_in less;
  }

  pub meet_behind : (other : ℕ) → other < cell.size → Meet sizes (slot_of cell other cell.row) slot
      (slot_of cell other cell.column)
  meet_behind other less = record {
    square = is.square;
    row = other;
    middle = cell.row;
    column = cell.column;
    first_is = cell_is other cell.row less is.row_in;
    second_is = own_cell;
    third_is = cell_is other cell.column less is.column_in;
  }
