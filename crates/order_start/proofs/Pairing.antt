-- The rows of a list.
use Rattle.std.proofs.Common.{◌≡◌, ◌≢◌, ◌<◌, ◌-◌, ◌∙◌, ℕ, Bool, true, false, List, Some, if◌then◌else◌, length, slice_get, sym, ap, arith}
use Rattle.std.proofs.lemmas.Option.{slice_get_within}
use Rattle.currency_base.specs.declared.ids.RowId.{RowId}
use Rattle.currency_base.specs.declared.row.Row.{Row}
use Rattle.entity_lists.specs.Lists.{entities_of, rows_of}
use Rattle.entity_lists.proofs.Facts.{member_of, rows_once, length-entities_of}
use Rattle.order_literals.specs.Numbers.{Numbers, IsPairOf}
use Rattle.order_literals.specs.Statements.{statements_of}
use Rattle.order_start.specs.Lists.{Listed, IsListed, HasTruths, slot_of}

pair_of : (l : Listed) (i j : ℕ) (t u : RowId) → IsListed l → slice_get l.rows i ≡ Some t → slice_get l.rows j ≡ Some u → i ≢ j
    → IsPairOf l.numbers l.rel.0 l.attr.0 t u
pair_of l i j t u is at_i at_j differ =
    let at_i' : slice_get (rows_of is.table.rows.entities is.ent) i ≡ Some t = rw is.rows_are at at_i in
    let at_j' : slice_get (rows_of is.table.rows.entities is.ent) j ≡ Some u = rw is.rows_are at at_j in
    record {
      table = is.table;
      is_table = is.is_table;
      attr_within = is.attr_within;
      ent = is.ent;
      first_of = member_of is.table.rows.entities is.ent i t at_i';
      second_of = member_of is.table.rows.entities is.ent j u at_j';
      differ = λ same. differ (rows_once is.table.rows.entities is.ent i j u (at_i' ∙ ap Some same) at_j');
    }

slots_differ : (turned : Bool) (rows i j : ℕ) → i < rows → j < rows → i ≢ j → (if turned then rows - 1 - i else i) ≢
    (if turned then rows - 1 - j else j)
slots_differ true rows i j below_i below_j differ = omega arith
slots_differ false rows i j below_i below_j differ = differ

-- the rows at two places are different rows of one entity
pub pair_at : (l : Listed) (i j : ℕ) (t u : RowId) → IsListed l → i < length l.rows → j < length l.rows → i ≢ j
    → slice_get l.rows (slot_of l i) ≡ Some t → slice_get l.rows (slot_of l j) ≡ Some u → IsPairOf l.numbers l.rel.0 l.attr.0 t u
pair_at l i j t u is below_i below_j differ at_i at_j =
    pair_of l (slot_of l i) (slot_of l j) t u is at_i at_j (slots_differ l.turned (length l.rows) i j below_i below_j differ)

-- truths of the numbers of a list are so many
pub truths_are : (l : Listed) (n : Numbers) (truths : List Bool) → l.numbers ≡ n → length truths ≡ length
    (statements_of n) → HasTruths l truths
truths_are l n truths same e = e ∙ ap (λ (m : Numbers). length (statements_of m)) (sym same)

-- a row of an entity of a relation is one of its rows
pub row_within : (rows : List Row) (names : List RowId) (ent i : ℕ) (row : RowId) → names ≡ rows_of
    (entities_of rows) ent → slice_get names i ≡ Some row
    → row.0 < length rows
row_within rows names ent i row e at =
    let at' : slice_get (rows_of (entities_of rows) ent) i ≡ Some row = rw e at at in
    let below = slice_get_within (entities_of rows) row.0 ent (member_of (entities_of rows) ent i row at') in
    let many = length-entities_of rows in
    omega arith
