-- Slots of pairs: one pair has one slot, a slot is that of one pair, and pairs meet as their slots do.
use Rattle.std.proofs.Common.{◌≡◌, ◌+◌, ◌*◌, ◌<◌, ◌∙◌, ℕ, Some, length, slice_get, refl, sym, ap, subst, arith}
use Rattle.std.proofs.lemmas.Option.{same_Some}
use Rattle.currency_base.specs.declared.ids.RowId.{RowId}
use Rattle.entity_lists.proofs.Facts.{rows_once, one_entity}
use Rattle.horn_closure.specs.Least.{IsCell, Meet, base_of, cells_of}
use Rattle.order_squares.specs.Entities.{entities_in, members_of}
use Rattle.order_squares.specs.Squares.{Layout, IsLayout, IsSlot, size_of, square_at}
use Rattle.order_squares.specs.declared.square.Square.{Square}
use Rattle.order_squares.proofs.Cells.{cell_in, one_cell}
use Rattle.order_squares.proofs.Columns.{start_one}
use Rattle.order_squares.proofs.Places.{get_map, item_at}

-- a slot is that of a cell
pub slot_in : (l : Layout) (rel attr : ℕ) (a b : RowId) (slot : ℕ) → IsSlot l rel attr a b slot → slot < cells_of l.sizes
slot_in l rel attr a b slot is = cell_in l.sizes is.square is.row is.column slot is.cell

-- a square has one number
square_once : (l : Layout) → IsLayout l → (rel attr ent ent' k k' : ℕ) → ent ≡ ent' → slice_get l.squares k ≡ Some
    (square_at rel attr ent)
    → slice_get l.squares k' ≡ Some (square_at rel attr ent') → k ≡ k'
square_once l is rel attr ent ent' k k' same at at' =
    let n = is.listed.are_squares.each k (square_at rel attr ent) at in
    let n' = is.listed.are_squares.each k' (square_at rel attr ent') at' in
    let starts = start_one is.starts rel attr n.start n'.start n.starts_at n'.starts_at in
    omega (arith, n.number, n'.number, starts, same)

-- a square's size is the number of its entity's rows
sized : (l : Layout) → IsLayout l → (k : ℕ) (q : Square) (size : ℕ) → slice_get l.squares k ≡ Some q
    → slice_get l.sizes k ≡ Some size
    → size ≡ size_of l.relations q
sized l is k q size at at_size =
    same_Some size (size_of l.relations q)
    (sym at_size ∙ (ap (λ sizes. slice_get sizes k) is.sizes ∙ get_map (size_of l.relations) l.squares k q at))

-- two pairs of an attribute that have a row in common: their squares, and the places of that row, are one
record Share (l : Layout) (k k' row row' : ℕ) : Type 0 where
  squares : k ≡ k'
  rows : row ≡ row'

share : (l : Layout) → IsLayout l → (rel attr ent ent' k k' i j : ℕ) (row : RowId) → slice_get l.squares k ≡ Some
    (square_at rel attr ent)
    → slice_get l.squares k' ≡ Some (square_at rel attr ent') → slice_get (members_of l.relations rel ent) i ≡ Some row
    → slice_get (members_of l.relations rel ent') j ≡ Some row → Share l k k' i j
share l is rel attr ent ent' k k' i j row at at' at_i at_j =
    let same = one_entity (entities_in l.relations rel) ent ent' i j row at_i at_j in
    let here : slice_get (members_of l.relations rel ent') i ≡ Some row =
    ap (λ e. slice_get (members_of l.relations rel e) i) (sym same) ∙ at_i in
    record {
      squares = square_once l is rel attr ent ent' k k' same at at';
      rows = rows_once
          (entities_in l.relations rel) ent' i j row here at_j;
    }

-- a pair has one slot
pub one_slot : (l : Layout) → IsLayout l → (rel attr : ℕ) (a b : RowId) (slot slot' : ℕ) → IsSlot l rel attr a b slot
    → IsSlot l rel attr a b slot' → slot ≡ slot'
one_slot l is rel attr a b slot slot' s t =
    let first = share l is rel attr s.ent t.ent s.square t.square s.row t.row a s.is_square t.is_square s.earlier_is
    t.earlier_is in
    let second = share l is rel attr s.ent t.ent s.square t.square s.column t.column b s.is_square t.is_square
    s.later_is t.later_is in
    let sizes : s.cell.size ≡ t.cell.size = same_Some s.cell.size t.cell.size
    (sym s.cell.is_size ∙ (ap (slice_get l.sizes) first.squares ∙ t.cell.is_size)) in
    s.cell.slot_is ∙ (ap (λ k. base_of l.sizes k + s.row * s.cell.size + s.column) first.squares
    ∙ (ap (λ n. base_of l.sizes t.square + s.row * n + s.column) sizes
    ∙ (ap (λ r. base_of l.sizes t.square + r * t.cell.size + s.column) first.rows
    ∙ (ap (λ c. base_of l.sizes t.square + t.row * t.cell.size + c) second.rows ∙ sym t.cell.slot_is))))

-- the pairs of a slot are one
pub record IsOnePair (rel attr : ℕ) (a b : RowId) (rel' attr' : ℕ) (a' b' : RowId) : Type 0 where
  pub rels : rel ≡ rel'
  pub attrs : attr ≡ attr'
  pub earliers : a ≡ a'
  pub laters : b ≡ b'

pub one_pair : (l : Layout) (rel attr : ℕ) (a b : RowId) (rel' attr' : ℕ) (a' b' : RowId) (slot : ℕ) → IsSlot l rel attr a b slot
    → IsSlot l rel' attr' a' b' slot → IsOnePair rel attr a b rel' attr' a' b'
one_pair l rel attr a b rel' attr' a' b' slot s t =
    let one = one_cell l.sizes s.square s.row s.column t.square t.row t.column slot s.cell t.cell in
    let squares : square_at rel attr s.ent ≡ square_at rel' attr' t.ent =
    same_Some (square_at rel attr s.ent) (square_at rel' attr' t.ent)
    (sym s.is_square ∙ (ap (slice_get l.squares) one.squares ∙ t.is_square)) in
    let rels : rel ≡ rel' = ap (λ (q : Square). q.rel.0) squares in
    let members : members_of l.relations rel s.ent ≡ members_of l.relations rel' t.ent =
    ap (λ (q : Square). members_of l.relations q.rel.0 q.ent.0) squares in
    record {
      rels = rels;
      attrs = ap (λ (q : Square). q.attr.0) squares;
      earliers = same_Some a a' (sym s.earlier_is ∙
          (ap (λ m. slice_get m s.row) members ∙ (ap (slice_get (members_of l.relations rel' t.ent)) one.rows ∙ t.earlier_is)));
      laters = same_Some b b' (sym s.later_is ∙ (ap (λ m. slice_get m s.column) members ∙
          (ap (slice_get (members_of l.relations rel' t.ent)) one.columns ∙ t.later_is)));
    }

-- where two pairs meet, their slots do, and the pair from end to end has a slot
pub record Joins (l : Layout) (rel attr : ℕ) (a d : RowId) (first second : ℕ) : Type 0 where
  pub slot : ℕ
  pub is_slot : IsSlot l rel attr a d slot
  pub meet : Meet l.sizes first second slot

pub joins : (l : Layout) → IsLayout l → (rel attr : ℕ) (a b d : RowId) (first second : ℕ) → IsSlot l rel attr a b
    first → IsSlot l rel attr b d second
    → Joins l rel attr a d first second
joins l is rel attr a b d first second s t =
    let shared = share l is rel attr s.ent t.ent s.square t.square s.column t.row b s.is_square t.is_square
    s.later_is t.earlier_is in
    let ents : s.ent ≡ t.ent = one_entity (entities_in l.relations rel) s.ent t.ent s.column t.row b s.later_is t.earlier_is in
    let sizes : t.cell.size ≡ s.cell.size = same_Some t.cell.size s.cell.size
    (sym t.cell.is_size ∙ (ap (slice_get l.sizes) (sym shared.squares) ∙ s.cell.is_size)) in
    let column_in : t.column < s.cell.size = omega (arith, t.cell.column_in, sizes) in
    let slot : ℕ = base_of l.sizes s.square + s.row * s.cell.size + t.column in
    let third : IsCell l.sizes s.square s.row t.column slot =
    record { size = s.cell.size; is_size = s.cell.is_size; row_in = s.cell.row_in; column_in = column_in; slot_is = refl } in
    let other : IsCell l.sizes s.square s.column t.column second =
    subst (λ k. IsCell l.sizes k s.column t.column second) (sym shared.squares)
    (subst (λ r. IsCell l.sizes t.square r t.column second) (sym shared.rows) t.cell) in
    record {
      slot = slot;
      is_slot = record {
        ent = s.ent;
        square = s.square;
        row = s.row;
        column = t.column;
        is_square = s.is_square;
        earlier_is = s.earlier_is;
        later_is = ap (λ e. slice_get (members_of l.relations rel e) t.column) ents ∙ t.later_is;
        cell = third;
      };
      meet = record {
        square = s.square;
        row = s.row;
        middle = s.column;
        column = t.column;
        first_is =
            s.cell;
        second_is = other;
        third_is = third;
      };
    }

-- where the slots of two cells meet in that of a pair, the cells are those of two pairs that meet
pub record Parts (l : Layout) (rel attr : ℕ) (a d : RowId) (first second : ℕ) : Type 0 where
  pub middle : RowId
  pub first_is : IsSlot l rel attr a middle first
  pub second_is : IsSlot l rel attr middle d second

pub parts : (l : Layout) → IsLayout l → (rel attr : ℕ) (a d : RowId) (first second third : ℕ) → IsSlot l rel attr a d
    third → Meet l.sizes first second third
    → Parts l rel attr a d first second
parts l is rel attr a d first second third s m =
    let one = one_cell l.sizes m.square m.row m.column s.square s.row s.column third m.third_is s.cell in
    let size_is : m.first_is.size ≡ length (members_of l.relations rel s.ent) =
    sized l is s.square (square_at rel attr s.ent) m.first_is.size s.is_square
    (ap (slice_get l.sizes) (sym one.squares) ∙ m.first_is.is_size) in
    let there : m.middle < length (members_of l.relations rel s.ent) = omega (arith, m.first_is.column_in, size_is) in
    let middle = item_at (members_of l.relations rel s.ent) m.middle there in
    record {
      middle = middle.0;
      first_is = record {
        ent = s.ent;
        square = s.square;
        row = s.row;
        column = m.middle;
        is_square = s.is_square;
        earlier_is = s.earlier_is;
        later_is = middle.1;
        cell = subst (λ k. IsCell l.sizes k s.row m.middle first) one.squares
            (subst (λ r. IsCell l.sizes m.square r m.middle first) one.rows m.first_is);
      };
      second_is = record {
        ent = s.ent;
        square = s.square;
        row = m.middle;
        column = s.column;
        is_square = s.is_square;
        earlier_is = middle.1;
        later_is = s.later_is;
        cell = subst (λ k. IsCell l.sizes k m.middle s.column second) one.squares
            (subst (λ c. IsCell l.sizes m.square m.middle c second) one.columns m.second_is);
      };
    }
