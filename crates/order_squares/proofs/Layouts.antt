-- What a layout that is kept gives for reading it.
use Rattle.std.proofs.Common.{◌≡◌, ◌⊎◌, ◌+◌, ◌*◌, ◌/◌, ◌%◌, ◌-◌, ◌<◌, ◌≤◌, ◌^◌, ◌∙◌, ℕ, zero, suc, List, Option, Some, None, length, get_or, slice_get, slice_index, option_map, refl, sym, ap, subst, inl, inr, arith}
use Rattle.std.specs.List.Sorted.{IsNonDecreasing}
use Rattle.std.proofs.lemmas.Bool.{cases_lt}
use Rattle.std.proofs.lemmas.Grind.{get_or_default_zero}
use Rattle.std.proofs.lemmas.List.{length-map}
use Rattle.std.proofs.lemmas.List.Sums.{sum_by-take-le}
use Rattle.std.proofs.lemmas.Nat.{div-add-mod'}
use Rattle.std.proofs.Math.Nat.{mod-lt, div-lt_iff_lt-mul}
use Rattle.std.proofs.lemmas.Option.{same_Some, none-some, slice_get_within, slice_get-get_or, get_or_from_slice_get}
use Rattle.currency_base.specs.declared.ids.EntId.{EntId}
use Rattle.currency_base.specs.declared.ids.RowId.{RowId}
use Rattle.entity_lists.proofs.Facts.{member_of}
use Rattle.spec_model.specs.declared.relation.Relation.{Relation}
use Rattle.horn_closure.specs.Least.{base_of, cells_of}
use Rattle.order_squares.specs.Entities.{count_of, entities_in, members_of}
use Rattle.order_squares.specs.Squares.{attrs_of, square_at, size_of, AreListed, AreBases, AreRowsAt, Layout, IsLayout, IsLaidOut, IsSlot}
use Rattle.order_squares.specs.declared.square.Square.{Square}
use Rattle.order_squares.proofs.Cells.{base_next, base_le, base_end}
use Rattle.order_squares.proofs.Places.{get_map}

-- what is read at an index
pub read_at : (xs : List ℕ) (i x : ℕ) → i < length xs → x ≡ get_or xs i x → slice_get xs i ≡ Some x
read_at xs i x below read = slice_get-get_or xs i x below ∙ ap Some (sym read)

pub layout_of : (l : Layout) (starts : List (List ℕ)) (bases : List ℕ) → IsLaidOut l starts bases → IsLayout l
layout_of l starts bases is = record { starts = starts; listed = is.listed; sizes = is.sizes; few = is.few }

-- ---- the number of a square

pub start_within : (relations : List Relation) (starts : List (List ℕ)) (squares : List Square) (rel attr : ℕ)
    → AreListed relations starts squares
    → attr < attrs_of relations rel → rel < length starts
start_within relations starts squares rel attr are below =
    let s = are.has_start rel attr below in
    slice_get_within starts rel s.1.column s.1.is_column

-- a square is read at the start of its attribute and its entity's number
pub record IsRead (squares : List Square) (column : List ℕ) (rel attr ent : ℕ) : Type 0 where
  pub within : attr < length column
  pub square : slice_get squares (slice_index column attr + ent) ≡ Some (square_at rel attr ent)
  pub bound : slice_index column attr + ent < length squares

pub is_read : (relations : List Relation) (starts : List (List ℕ)) (squares : List Square) (rel attr ent : ℕ)
    (column : List ℕ) → AreListed relations starts squares
    → attr < attrs_of relations rel → ent < count_of relations rel → slice_get starts rel ≡ Some column
    → IsRead squares column rel attr ent
is_read relations starts squares rel attr ent column are below counted at =
    let s = are.has_start rel attr below in
    let same : s.1.column ≡ column = same_Some s.1.column column (sym s.1.is_column ∙ at) in
    let start : slice_get column attr ≡ Some s.0 = ap (λ c. slice_get c attr) (sym same) ∙ s.1.is_start in
    let read : slice_index column attr ≡ s.0 = get_or_from_slice_get column attr s.0 0 start in
    let square = ap (λ n. slice_get squares (n + ent)) read ∙ are.are_squares.all rel attr s.0 ent s.1 counted in
    record {
      within = slice_get_within column attr s.0 start;
      square = square;
      bound = slice_get_within squares
          (slice_index column attr + ent) (square_at rel attr ent) square;
    }

-- ---- a square's base and size

pub record IsPlaced (l : Layout) (q : Square) (k base size : ℕ) : Type 0 where
  pub base_is : base ≡ base_of l.sizes k
  pub is_size : slice_get l.sizes k ≡ Some size
  pub size_is : size ≡ size_of l.relations q
  pub room : base + size * size < 2 ^ 32

pub as_many : (l : Layout) (starts : List (List ℕ)) (bases : List ℕ) → IsLaidOut l starts bases
    → length l.sizes ≡ length l.squares
as_many l starts bases is = ap length is.sizes ∙ length-map l.squares (size_of l.relations)

pub placed : (l : Layout) (starts : List (List ℕ)) (bases : List ℕ) → IsLaidOut l starts bases → (q : Square) (k base size : ℕ)
    → slice_get l.squares k ≡ Some q → base ≡ get_or bases k base → size ≡ get_or l.sizes k size → IsPlaced l q k base size
placed l starts bases is q k base size at read_base read_size =
    let many = as_many l starts bases is in
    let below : k < length l.sizes = omega (arith, many, slice_get_within l.squares k q at) in
    let in_bases : k < length bases = omega (arith, below, is.bases_are.many) in
    let is_size = read_at l.sizes k size below read_size in
    let base_is : base ≡ base_of l.sizes k =
    sym (get_or_from_slice_get bases k base 0 (read_at bases k base in_bases read_base)) ∙ is.bases_are.each k in_bases in
    record {
      base_is = base_is;
      is_size = is_size;
      size_is = same_Some size (size_of l.relations q)
          (sym is_size ∙ (ap (λ sizes. slice_get sizes k) is.sizes ∙ get_map (size_of l.relations) l.squares k q at));
      room = omega (arith, base_is, base_next l.sizes k size is_size, sum_by-take-le (λ n. n * n) l.sizes (k + 1), is.few);
    }

-- the place of a row, as it is told of the same relations
pub place_of : (rs rs' : List Relation) (rel ent place : ℕ) (row : RowId) → rs ≡ rs'
    → ((ent : ℕ) → slice_get (entities_in rs rel) row.0 ≡ Some ent → slice_get (members_of rs rel ent) place ≡ Some row)
    → slice_get (entities_in rs' rel) row.0 ≡ Some ent → slice_get (members_of rs' rel ent) place ≡ Some row
place_of rs rs' rel ent place row same gives of =
    subst (λ (r : List Relation). (ent : ℕ) → slice_get (entities_in r rel) row.0 ≡ Some ent
    → slice_get (members_of r rel ent) place ≡ Some row) same gives ent of

-- the rows of a pair are places in its square
pub place_within : (l : Layout) (q : Square) (k base size row : ℕ) (a : RowId) → IsPlaced l q k base size
    → slice_get (members_of l.relations q.rel.0 q.ent.0) row ≡ Some a → row < size
place_within l q k base size row a is at =
    let within = slice_get_within (members_of l.relations q.rel.0 q.ent.0) row a at in
    omega (arith, within, is.size_is)

pub made_slot : (l : Layout) (rel attr ent k base size row column slot : ℕ) (a b : RowId) → slice_get l.squares k ≡
    Some (square_at rel attr ent)
    → IsPlaced l (square_at rel attr ent) k base size → slice_get (members_of l.relations rel ent) row ≡ Some a
    → slice_get (members_of l.relations rel ent) column ≡ Some b → slot ≡ base + row * size + column → IsSlot l rel attr a b slot
made_slot l rel attr ent k base size row column slot a b at is at_a at_b e = record {
  ent = ent;
  square = k;
  row = row;
  column = column;
  is_square = at;
  earlier_is = at_a;
  later_is = at_b;
  cell = record {
    size = size;
    is_size = is.is_size;
    row_in = place_within l (square_at rel attr ent) k base size row a is at_a;
    column_in = place_within l (square_at rel attr ent) k base size column b is at_b;
    slot_is = e ∙ ap (λ n. n + row * size + column) is.base_is;
  };
}

-- ---- pairs that have no slot

-- the rows of a slot's pair are of its entity
pub slot_ent : (l : Layout) (rel attr : ℕ) (a b : RowId) (slot : ℕ) → (s : IsSlot l rel attr a b slot)
    → (slice_get (entities_in l.relations rel) a.0 ≡ Some s.ent) × (slice_get (entities_in l.relations rel) b.0 ≡ Some s.ent)
slot_ent l rel attr a b slot s = (
  member_of (entities_in l.relations rel) s.ent s.row a s.earlier_is,
  member_of (entities_in l.relations rel) s.ent s.column b s.later_is,
)

-- ---- the pair of a slot

pub bases_ascend : (sizes bases : List ℕ) → AreBases sizes bases → IsNonDecreasing bases
bases_ascend sizes bases are i j d less below =
    let within : i < length bases = omega (arith, less, below) in
    omega (
      arith,
      get_or_default_zero bases i d within,
      get_or_default_zero bases j d below,
      are.each i within,
      are.each j below,
      base_le sizes i j less,
    )

-- the last square whose base is up to a slot
pub record IsFound (l : Layout) (k base slot : ℕ) : Type 0 where
  pub within : k < length l.squares
  pub base_is : base ≡ base_of l.sizes k
  pub below : slot < base_of l.sizes (k + 1)
  pub above : base ≤ slot

pub found : (l : Layout) (starts : List (List ℕ)) (bases : List ℕ) → IsLaidOut l starts bases → (k slot : ℕ)
    → slot < cells_of l.sizes → k < length bases
    → slice_index bases k ≤ slot → (k + 1 < length bases → slot < slice_index bases (k + 1)) → IsFound l k
    (slice_index bases k) slot
found l starts bases is k slot few below up_to last =
    let many = as_many l starts bases is in
    let within : k < length l.squares = by (cases_lt k (length l.sizes)) in
    let next : k + 1 < length bases = omega (arith, within, many, is.bases_are.many) in
    record {
      within = within;
      base_is = is.bases_are.each k below;
      below = omega (arith, last next, is.bases_are.each (k + 1) next);
      above = up_to;
    }
  where
    by : (k < length l.sizes) ⊎ (length l.sizes ≤ k) → k < length l.squares
    by (inl less) = omega (arith, less, as_many l starts bases is)
    by (inr past) = absurd (omega (arith, base_end l.sizes k past, is.bases_are.each k below, up_to, few))

-- the same, where the bases are read from another list that is the same
pub found_in : (l : Layout) (starts : List (List ℕ)) (bases items : List ℕ) → IsLaidOut l starts bases
    → items ≡ bases → (k base slot : ℕ) → slot < cells_of l.sizes
    → k < length items → slice_index items k ≤ slot → (k + 1 < length items → slot < slice_index items (k + 1))
    → base ≡ get_or bases k base → IsFound l k base slot
found_in l starts bases items is same k base slot few below up_to last read =
    let within : k < length bases = subst (λ (xs : List ℕ). k < length xs) same below in
    let f = found l starts bases is k slot few within (subst (λ (xs : List ℕ). slice_index xs k ≤ slot) same up_to)
    (subst (λ (xs : List ℕ). k + 1 < length xs → slot < slice_index xs (k + 1)) same last) in
    subst (λ n. IsFound l k n slot) (sym (read ∙ get_or_default_zero bases k base within)) f

pub found_within : (l : Layout) (starts : List (List ℕ)) (bases items : List ℕ) → IsLaidOut l starts bases
    → items ≡ bases → (k slot : ℕ) → slot < cells_of l.sizes
    → k < length items → slice_index items k ≤ slot → (k + 1 < length items → slot < slice_index items (k + 1))
    → k < length l.squares
found_within l starts bases items is same k slot few below up_to last =
    (found l starts bases is k slot few (subst (λ (xs : List ℕ). k < length xs) same below)
    (subst (λ (xs : List ℕ). slice_index xs k ≤ slot) same up_to)
    (subst (λ (xs : List ℕ). k + 1 < length xs → slot < slice_index xs (k + 1)) same last)).within

-- a square that is read is the one at its place
pub square_read : (squares : List Square) (k : ℕ) (q : Square) → k < length squares → q ≡ get_or squares k q
    → slice_get squares k ≡ Some q
square_read squares k q below read = slice_get-get_or squares k q below ∙ ap Some (sym read)

-- the cell of a slot in its square
pub record IsWithin (l : Layout) (q : Square) (k base slot size : ℕ) : Type 0 where
  pub is_size : slice_get l.sizes k ≡ Some size
  pub size_is : size ≡ size_of l.relations q
  pub cell_in : slot - base < size * size

pub within_square : (l : Layout) (starts : List (List ℕ)) (bases : List ℕ) → IsLaidOut l starts bases →
    (q : Square) (k base slot : ℕ) → slice_get l.squares k ≡ Some q
    → IsFound l k base slot → IsWithin l q k base slot (size_of l.relations q)
within_square l starts bases is q k base slot at f =
    let is_size : slice_get l.sizes k ≡ Some (size_of l.relations q) = ap (λ sizes. slice_get sizes k) is.sizes
    ∙ get_map (size_of l.relations) l.squares k q at in
    record {
      is_size = is_size;
      size_is = refl;
      cell_in = omega (arith, f.below, f.above, f.base_is, base_next l.sizes k (size_of l.relations q) is_size);
    }

pub some_size : (size cell : ℕ) → cell < size * size → 0 < size
some_size zero cell below = absurd (omega (arith, below))
some_size (suc size) cell below = omega arith

pub row_within : (size cell : ℕ) → cell < size * size → cell / size < size
row_within size cell below = (div-lt_iff_lt-mul (some_size size cell below)).1 below

pub column_within : (size cell : ℕ) → cell < size * size → cell % size < size
column_within size cell below = mod-lt cell (some_size size cell below)

pub found_slot : (l : Layout) (q : Square) (k base slot : ℕ) (a b : RowId) → slice_get l.squares k ≡ Some q
    → IsFound l k base slot
    → IsWithin l q k base slot (size_of l.relations q) → AreRowsAt (members_of l.relations q.rel.0 q.ent.0) (slot - base) a b
    → IsSlot l q.rel.0 q.attr.0 a b slot
found_slot l q k base slot a b at f is rows =
    let size : ℕ = size_of l.relations q in
    let cell : ℕ = slot - base in
    let split : cell / size * size + cell % size ≡ cell = div-add-mod' cell size in
    record {
      ent = q.ent.0;
      square = k;
      row = cell / size;
      column = cell % size;
      is_square = at;
      earlier_is = rows.earlier_is;
      later_is = rows.later_is;
      cell = record {
        size = size;
        is_size = is.is_size;
        row_in = row_within size cell is.cell_in;
        column_in = column_within size cell is.cell_in;
        slot_is = omega (arith, split, f.base_is, f.above);
      };
    }

pub no_entity : (o : Option EntId) (p : Option ℕ) (ent : ℕ) → o ≡ None → option_map (λ (e : EntId). e.0) o ≡ p → p ≡ Some ent → ⊥
no_entity o p ent none is some = absurd (none-some ent (ap (option_map (λ (e : EntId). e.0)) (sym none) ∙ (is ∙ some)))

pub one_ent : (o : Option EntId) (p : Option ℕ) (e : EntId) (ent : ℕ) → o ≡ Some e → option_map (λ (e : EntId). e.0)
    o ≡ p → p ≡ Some ent → e.0 ≡ ent
one_ent o p e ent some is at = same_Some e.0 ent (ap (option_map (λ (e : EntId). e.0)) (sym some) ∙ (is ∙ at))
