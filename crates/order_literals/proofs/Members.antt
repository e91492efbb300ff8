-- Which statements are numbered, by kind.
use Rattle.std.proofs.Common.{◌≡◌, ◌<◌, ℕ, List, [], Option, Some, None, length, slice_get, slice_index_or, refl, sym, ap, subst, arith}
use Rattle.std.specs.List.{range_with_len}
use Rattle.currency_base.specs.declared.ids.AttrId.{AttrId}
use Rattle.currency_base.specs.declared.ids.RelId.{RelId}
use Rattle.currency_base.specs.declared.ids.RowId.{RowId}
use Rattle.refutation_log.specs.declared.statement.Statement.{Statement}
use Rattle.refutation_log.specs.declared.statement.Statement.TheVariants as says
use Rattle.pair_numbers.specs.Pairs.{pairs_of}
use Rattle.pair_numbers.specs.declared.pair.RowPair.{RowPair}
use Rattle.order_literals.specs.declared.block.Block.{Block}
use Rattle.order_literals.specs.declared.block.Block.TheVariants.{Pairs, Tops, Lasts, Answers}
use Rattle.order_literals.specs.Numbers.{Numbered, Numbers, IsPairOf, IsRowOf}
use Rattle.order_literals.specs.Statements.{blocks_of, block_statements, pair_statements, top_statements, last_statements, wanted_rows, wanted_values, statements_of}
use Rattle.order_literals.proofs.Items.{IsIn, in_map, from_map, in_flat_map, from_flat_map, in_range, range_in}
use Rattle.order_literals.proofs.RowLaws.{IsLess, in_row_ids, row_ids_in, in_firsts_from, firsts_from_in, pair_at, IsPairFrom, in_pairs_from, pairs_from_in}
use Rattle.order_literals.proofs.BlockLaws.{IsAttrOf, IsBlockOf, in_blocks, blocks_in}

-- the row names one of the values of an attribute of a relation whose current values are wanted
pub record IsNameOf (n : Numbers) (rel attr : ℕ) (row : RowId) : Type 0 where
  pub table : Numbered
  pub is_table : slice_get n.tables rel ≡ Some table
  pub attr_within : attr < table.attrs
  pub names : List (List RowId)
  pub wanted : table.names ≡ Some names
  pub named : slice_get (slice_index_or names attr []) row.0 ≡ Some row

-- ---- of a block

-- a statement is numbered exactly where it is one of a block
pub in_statements : (n : Numbers) (s : Statement) → IsIn (statements_of n) s → (b : Block) × IsBlockOf n b × IsIn
    (block_statements n b) s
in_statements n s at =
    let from = from_flat_map (block_statements n) (blocks_of n) s at in
    (from.0, in_blocks n from.0 from.1, from.2)

pub statements_in : (n : Numbers) (b : Block) (s : Statement) → IsBlockOf n b → IsIn (block_statements n b) s
    → IsIn (statements_of n) s
statements_in n b s of at = in_flat_map (block_statements n) (blocks_of n) b s (blocks_in n b of) at

-- ---- what is numbered of a table

-- the statement is on these two rows, the lesser first
record IsOnPair (rel : RelId) (attr : AttrId) (t : Numbered) (s : Statement) : Type 0 where
  earlier : RowId
  later : RowId
  from : IsPairFrom 0 t.rows.entities (pair_at earlier later)
  is : says.Before rel attr earlier later ≡ s

on_pair : (rel : RelId) (attr : AttrId) (t : Numbered) (s : Statement) → IsIn (pair_statements rel attr (Some t)) s
    → IsOnPair rel attr t s
on_pair rel attr t s at =
    let from = from_map (λ (p : RowPair). says.Before rel attr p.earlier p.later) (pairs_of t.rows.entities) s at in
    record { earlier = from.0.earlier; later = from.0.later; from = in_pairs_from 0 t.rows.entities from.0 from.1; is = from.2 }

record IsOnTop (rel : RelId) (attr : AttrId) (t : Numbered) (s : Statement) : Type 0 where
  row : RowId
  row_within : row.0 < length t.rows.entities
  names : List (List RowId)
  wanted : t.names ≡ Some names
  is : says.Top rel attr row ≡ s

on_top : (rel : RelId) (attr : AttrId) (t : Numbered) (s : Statement) → IsIn (top_statements rel attr (Some t)) s
    → IsOnTop rel attr t s
on_top rel attr t s at = by t.names refl (from_map (says.Top rel attr) (wanted_rows t t.names) s at)
  where
    by : (names : Option (List (List RowId))) → t.names ≡ names
        → (row : RowId) × IsIn (wanted_rows t names) row × (says.Top rel attr row ≡ s) → IsOnTop rel attr t s
    by None e from = absurd from.1
    by (Some names) e from = record {
      row = from.0;
      row_within = in_row_ids (length t.rows.entities) from.0 from.1;
      names = names;
      wanted = e;
      is = from.2;
    }

record IsOnLast (rel : RelId) (attr : AttrId) (t : Numbered) (s : Statement) : Type 0 where
  row : RowId
  names : List (List RowId)
  wanted : t.names ≡ Some names
  named : slice_get (slice_index_or names attr.0 []) row.0 ≡ Some row
  is : says.Last rel attr row ≡ s

on_last : (rel : RelId) (attr : AttrId) (t : Numbered) (s : Statement) → IsIn (last_statements rel attr (Some t)) s
    → IsOnLast rel attr t s
on_last rel attr t s at = by t.names refl (from_map (says.Last rel attr) (wanted_values attr t.names) s at)
  where
    by : (names : Option (List (List RowId))) → t.names ≡ names
        → (row : RowId) × IsIn (wanted_values attr names) row × (says.Last rel attr row ≡ s) → IsOnLast rel attr t s
    by None e from = absurd from.1
    by (Some names) e from =
        let first = in_firsts_from 0 (slice_index_or names attr.0 []) from.0 from.1 in
        let place : first.place ≡ (from.0).0 = omega (arith, first.is) in
        record {
          row = from.0;
          names = names;
          wanted = e;
          named = subst (λ k. slice_get (slice_index_or names attr.0 []) k ≡ Some from.0) place first.named;
          is = from.2;
        }

-- ---- pairs

-- that a row stands before another is numbered exactly where they are different rows of one entity, the lesser first
pub before_in : (n : Numbers) (rel : RelId) (attr : AttrId) (t u : RowId) → IsIn (statements_of n) (says.Before rel attr t u)
    → IsPairOf n rel.0 attr.0 t u × IsLess t u
before_in n rel attr t u at = let from = in_statements n (says.Before rel attr t u) at in by from.0 from.1 from.2
  where
    of_pair : (rel' : RelId) (attr' : AttrId) (of : IsAttrOf n.tables rel'.0 attr'.0) → IsOnPair rel' attr' of.table
        (says.Before rel attr t u)
        → IsPairOf n rel.0 attr.0 t u × IsLess t u
    of_pair rel' attr' of on =
        let same_rel : rel' ≡ rel = cc (on.is) in
        let same_attr : attr' ≡ attr = cc (on.is) in
        let same_t : on.earlier ≡ t = cc (on.is) in
        let same_u : on.later ≡ u = cc (on.is) in
        let low : on.from.earlier_of.place ≡ t.0 = omega (arith, on.from.earlier_of.is, ap (λ (r : RowId). r.0) same_t) in
        let high : on.from.later_of.place ≡ u.0 = omega (arith, on.from.later_of.is, ap (λ (r : RowId). r.0) same_u) in
        let below : t.0 < u.0 = omega (arith, on.from.below, ap (λ (r : RowId). r.0) same_t, ap (λ (r : RowId). r.0) same_u) in (
          record {
            table = of.table;
            is_table = subst (λ (r : RelId). slice_get n.tables r.0 ≡ Some of.table) same_rel of.is_table;
            attr_within = subst (λ (a : AttrId). a.0 < of.table.attrs) same_attr of.attr_within;
            ent = on.from.ent;
            first_of = subst (λ k. slice_get of.table.rows.entities k ≡ Some on.from.ent) low on.from.earlier_of.of;
            second_of = subst (λ k. slice_get of.table.rows.entities k ≡ Some on.from.ent) high on.from.later_of.of;
            differ = λ e. omega (arith, below, ap (λ (r : RowId). r.0) e);
          },
          below,
        )

    by : (b : Block) → IsBlockOf n b → IsIn (block_statements n b) (says.Before rel attr t u)
        → IsPairOf n rel.0 attr.0 t u × IsLess t u
    by (Pairs rel' attr') of at =
        of_pair rel' attr' of (on_pair rel' attr' of.table (says.Before rel attr t u)
        (subst (λ o. IsIn (pair_statements rel' attr' o) (says.Before rel attr t u)) of.is_table at))
    by (Tops rel' attr') of at =
        let on = on_top rel' attr' of.table (says.Before rel attr t u)
        (subst (λ o. IsIn (top_statements rel' attr' o) (says.Before rel attr t u)) of.is_table at) in
        absurd (cc (on.is))
    by (Lasts rel' attr') of at =
        let on = on_last rel' attr' of.table (says.Before rel attr t u)
        (subst (λ o. IsIn (last_statements rel' attr' o) (says.Before rel attr t u)) of.is_table at) in
        absurd (cc (on.is))
    by Answers of at = let from = from_map says.Answer (range_with_len 0 n.answers) (says.Before rel attr t u)
        at in absurd (cc (from.2))

pub in_before : (n : Numbers) (rel : RelId) (attr : AttrId) (t u : RowId) → IsPairOf n rel.0 attr.0 t u → IsLess t u
    → IsIn (statements_of n) (says.Before rel attr t u)
in_before n rel attr t u pair below =
    let among = in_map (λ (p : RowPair). says.Before rel attr p.earlier p.later) (pairs_of pair.table.rows.entities) (pair_at t u)
    (pairs_from_in 0 pair.table.rows.entities pair.ent t u t.0 u.0 (omega arith) (omega arith) below pair.first_of
    pair.second_of) in
    statements_in n (Pairs rel attr) (says.Before rel attr t u)
    (record { table = pair.table; is_table = pair.is_table; attr_within = pair.attr_within })
    (subst (λ o. IsIn (pair_statements rel attr o) (says.Before rel attr t u)) (sym pair.is_table) among)

-- ---- rows that stand last

-- that a row stands last is numbered exactly where it is a row of a relation whose current values are wanted
pub top_in : (n : Numbers) (rel : RelId) (attr : AttrId) (row : RowId) → IsIn (statements_of n)
    (says.Top rel attr row) → IsRowOf n rel.0 attr.0 row
top_in n rel attr row at = let from = in_statements n (says.Top rel attr row) at in by from.0 from.1 from.2
  where
    of_row : (rel' : RelId) (attr' : AttrId) (of : IsAttrOf n.tables rel'.0 attr'.0) → IsOnTop rel' attr' of.table
        (says.Top rel attr row)
        → IsRowOf n rel.0 attr.0 row
    of_row rel' attr' of on =
        let same_rel : rel' ≡ rel = cc (on.is) in
        let same_attr : attr' ≡ attr = cc (on.is) in
        let same_row : on.row ≡ row = cc (on.is) in
        record {
          table = of.table;
          is_table = subst (λ (r : RelId). slice_get n.tables r.0 ≡ Some of.table) same_rel of.is_table;
          attr_within = subst (λ (a : AttrId). a.0 < of.table.attrs) same_attr of.attr_within;
          row_within = subst (λ (r : RowId). r.0 < length of.table.rows.entities) same_row on.row_within;
          names = on.names;
          wanted = on.wanted;
        }

    by : (b : Block) → IsBlockOf n b → IsIn (block_statements n b) (says.Top rel attr row) → IsRowOf n rel.0 attr.0 row
    by (Pairs rel' attr') of at =
        let on = on_pair rel' attr' of.table (says.Top rel attr row)
        (subst (λ o. IsIn (pair_statements rel' attr' o) (says.Top rel attr row)) of.is_table at) in
        absurd (cc (on.is))
    by (Tops rel' attr') of at =
        of_row rel' attr' of (on_top rel' attr' of.table (says.Top rel attr row)
        (subst (λ o. IsIn (top_statements rel' attr' o) (says.Top rel attr row)) of.is_table at))
    by (Lasts rel' attr') of at =
        let on = on_last rel' attr' of.table (says.Top rel attr row)
        (subst (λ o. IsIn (last_statements rel' attr' o) (says.Top rel attr row)) of.is_table at) in
        absurd (cc (on.is))
    by Answers of at = let from = from_map says.Answer (range_with_len 0 n.answers) (says.Top rel attr row)
        at in absurd (cc (from.2))

pub in_top : (n : Numbers) (rel : RelId) (attr : AttrId) (row : RowId) → IsRowOf n rel.0 attr.0 row
    → IsIn (statements_of n) (says.Top rel attr row)
in_top n rel attr row of =
    let wanted : IsIn (wanted_rows of.table of.table.names) row =
    subst (λ o. IsIn (wanted_rows of.table o) row) (sym of.wanted)
    (row_ids_in (length of.table.rows.entities) row of.row_within) in
    statements_in n (Tops rel attr) (says.Top rel attr row)
    (record { table = of.table; is_table = of.is_table; attr_within = of.attr_within })
    (subst (λ o. IsIn (top_statements rel attr o) (says.Top rel attr row)) (sym of.is_table)
    (in_map (says.Top rel attr) (wanted_rows of.table of.table.names) row wanted))

-- ---- values that are current

-- that a value is current is numbered exactly where its row names it, in a relation whose current values are wanted
pub last_in : (n : Numbers) (rel : RelId) (attr : AttrId) (row : RowId) → IsIn (statements_of n)
    (says.Last rel attr row) → IsNameOf n rel.0 attr.0 row
last_in n rel attr row at = let from = in_statements n (says.Last rel attr row) at in by from.0 from.1 from.2
  where
    of_row : (rel' : RelId) (attr' : AttrId) (of : IsAttrOf n.tables rel'.0 attr'.0) → IsOnLast rel' attr' of.table
        (says.Last rel attr row)
        → IsNameOf n rel.0 attr.0 row
    of_row rel' attr' of on =
        let same_rel : rel' ≡ rel = cc (on.is) in
        let same_attr : attr' ≡ attr = cc (on.is) in
        let same_row : on.row ≡ row = cc (on.is) in
        record {
          table = of.table;
          is_table = subst (λ (r : RelId). slice_get n.tables r.0 ≡ Some of.table) same_rel of.is_table;
          attr_within = subst (λ (a : AttrId). a.0 < of.table.attrs) same_attr of.attr_within;
          names = on.names;
          wanted = on.wanted;
          named = subst (λ (r : RowId). slice_get (slice_index_or on.names attr.0 []) r.0 ≡ Some r) same_row
              (subst (λ (a : AttrId). slice_get (slice_index_or on.names a.0 []) (on.row).0 ≡ Some on.row) same_attr on.named);
        }

    by : (b : Block) → IsBlockOf n b → IsIn (block_statements n b) (says.Last rel attr row) → IsNameOf n rel.0 attr.0 row
    by (Pairs rel' attr') of at =
        let on = on_pair rel' attr' of.table (says.Last rel attr row)
        (subst (λ o. IsIn (pair_statements rel' attr' o) (says.Last rel attr row)) of.is_table at) in
        absurd (cc (on.is))
    by (Tops rel' attr') of at =
        let on = on_top rel' attr' of.table (says.Last rel attr row)
        (subst (λ o. IsIn (top_statements rel' attr' o) (says.Last rel attr row)) of.is_table at) in
        absurd (cc (on.is))
    by (Lasts rel' attr') of at =
        of_row rel' attr' of (on_last rel' attr' of.table (says.Last rel attr row)
        (subst (λ o. IsIn (last_statements rel' attr' o) (says.Last rel attr row)) of.is_table at))
    by Answers of at = let from = from_map says.Answer (range_with_len 0 n.answers) (says.Last rel attr row)
        at in absurd (cc (from.2))

pub in_last : (n : Numbers) (rel : RelId) (attr : AttrId) (row : RowId) → IsNameOf n rel.0 attr.0 row
    → IsIn (statements_of n) (says.Last rel attr row)
in_last n rel attr row of =
    let wanted : IsIn (wanted_values attr of.table.names) row =
    subst (λ o. IsIn (wanted_values attr o) row) (sym of.wanted)
    (firsts_from_in 0 (slice_index_or of.names attr.0 []) row row.0 (omega arith) of.named) in
    statements_in n (Lasts rel attr) (says.Last rel attr row)
    (record { table = of.table; is_table = of.is_table; attr_within = of.attr_within })
    (subst (λ o. IsIn (last_statements rel attr o) (says.Last rel attr row)) (sym of.is_table)
    (in_map (says.Last rel attr) (wanted_values attr of.table.names) row wanted))

-- ---- answers

-- that a tuple is an answer is numbered exactly where there are so many
pub answer_in : (n : Numbers) (tuple : ℕ) → IsIn (statements_of n) (says.Answer tuple) → tuple < n.answers
answer_in n tuple at = let from = in_statements n (says.Answer tuple) at in by from.0 from.1 from.2
  where
    by : (b : Block) → IsBlockOf n b → IsIn (block_statements n b) (says.Answer tuple) → tuple < n.answers
    by (Pairs rel attr) of at =
        let on = on_pair rel attr of.table (says.Answer tuple)
        (subst (λ o. IsIn (pair_statements rel attr o) (says.Answer tuple)) of.is_table at) in
        absurd (cc (on.is))
    by (Tops rel attr) of at =
        let on = on_top rel attr of.table (says.Answer tuple)
        (subst (λ o. IsIn (top_statements rel attr o) (says.Answer tuple)) of.is_table at) in
        absurd (cc (on.is))
    by (Lasts rel attr) of at =
        let on = on_last rel attr of.table (says.Answer tuple)
        (subst (λ o. IsIn (last_statements rel attr o) (says.Answer tuple)) of.is_table at) in
        absurd (cc (on.is))
    by Answers of at =
        let from = from_map says.Answer (range_with_len 0 n.answers) (says.Answer tuple) at in
        let same : from.0 ≡ tuple = cc (from.2) in
        omega (arith, (in_range 0 n.answers from.0 from.1).1, same)

pub in_answer : (n : Numbers) (tuple : ℕ) → tuple < n.answers → IsIn (statements_of n) (says.Answer tuple)
in_answer n tuple within =
    statements_in n Answers (says.Answer tuple) tt
    (in_map says.Answer (range_with_len 0 n.answers) tuple (range_in 0 n.answers tuple (omega arith) (omega arith)))
