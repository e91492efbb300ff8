-- Which statements literals say: those that are numbered, and no other.
use Rattle.std.proofs.Common.{◌≡◌, ◌∙◌, inl, inr, ◌<◌, ℕ, Bool, true, false, List, [], Option, Some, None, length, map, option_map, get_or, slice_get, slice_index_or, refl, sym, ap, subst, arith}
use Rattle.std.proofs.lemmas.List.FromFn.{length-map-range_with_len}
use Rattle.std.proofs.lemmas.Option.{slice_get_within, slice_get-get_or}
use Rattle.currency_base.specs.Literals.{var_of, is_negative}
use Rattle.currency_base.specs.declared.ids.AttrId.{AttrId}
use Rattle.currency_base.specs.declared.ids.RelId.{RelId}
use Rattle.currency_base.specs.declared.ids.RowId.{RowId}
use Rattle.currency_base.specs.declared.lit.Lit.{Lit}
use Rattle.pair_numbers.specs.Pairs.{pairs_of}
use Rattle.pair_numbers.specs.declared.pair.RowPair.{RowPair}
use Rattle.pair_numbers.proofs.PairFacts.{pair_in}
use Rattle.refutation_log.specs.declared.statement.Statement.{Statement}
use Rattle.refutation_log.specs.declared.statement.Statement.TheVariants as says
use Rattle.value_names.specs.Names.{row_ids, firsts_of}
use Rattle.value_names.proofs.NameFacts.{first_is}
use Rattle.order_literals.specs.Held.{IsOwnName, IsRowPair}
use Rattle.order_literals.specs.Layout.{HasPlace, IsBlockOf}
use Rattle.order_literals.specs.Numbers.{Numbered, Numbers, IsPairOf, IsRowOf}
use Rattle.order_literals.specs.Said.{Said, Says, said_by, before, top, last, positive}
use Rattle.order_literals.specs.Statements.{block_statements, blocks_of, statements_of, wanted_rows, wanted_values}
use Rattle.order_literals.specs.declared.block.Block.{Block}
use Rattle.order_literals.specs.declared.block.Block.TheVariants.{Pairs, Tops, Lasts, Answers}
use Rattle.order_literals.proofs.AllBlocks.{block_known}
use Rattle.order_literals.proofs.Inside.{made_at, from_mapped}
use Rattle.order_literals.proofs.Placed.{in_piece}

-- ---- what is said

-- a literal of a statement's variable says the statement
pub says_it : (statements : List Statement) (lit : Lit) (var : ℕ) (s : Statement) → var_of lit ≡ var → is_negative lit ≡ false
    → slice_get statements var ≡ Some s → Says statements lit (positive s)
says_it statements lit var s is sign at =
    let here : slice_get statements (var_of lit) ≡ Some s = rw is at in
    inl (rw (here, sign) refl)

-- and the negated literal says it of a pair turned
pub says_turned : (statements : List Statement) (lit : Lit) (var : ℕ) (rel : RelId) (attr : AttrId)
    (earlier later : RowId) → var_of lit ≡ var
    → is_negative lit ≡ true → slice_get statements var ≡ Some (says.Before rel attr later earlier)
    → Says statements lit (before rel attr earlier later)
says_turned statements lit var rel attr earlier later is sign at =
    let here : slice_get statements (var_of lit) ≡ Some (says.Before rel attr later earlier) = rw is at in
    inr (rw (here, sign) refl)

-- ---- what is numbered

-- a pair of rows the other way round
pub turned_pair : (n : Numbers) (rel attr : ℕ) (first second : RowId) → IsPairOf n rel attr first second
    → IsPairOf n rel attr second first
turned_pair n rel attr first second p = record {
  table = p.table;
  is_table = p.is_table;
  attr_within = p.attr_within;
  ent = p.ent;
  first_of = p.second_of;
  second_of = p.first_of;
  differ = λ same. p.differ (sym same);
}

-- a statement that is numbered
abbrev pub IsNumbered : Numbers → Statement → Type 0
IsNumbered n (says.Before rel attr earlier later) = IsPairOf n rel.0 attr.0 earlier later
IsNumbered n (says.Top rel attr row) = IsRowOf n rel.0 attr.0 row
IsNumbered n (says.Last rel attr row) = (t : Numbered) × (slice_get n.tables rel.0 ≡ Some t) × (attr.0 < t.attrs) ×
    IsOwnName t attr.0 row
IsNumbered n (says.Answer tuple) = tuple < n.answers

of_pairs : (n : Numbers) (rel : RelId) (attr : AttrId) (k : ℕ) (s : Statement) → HasPlace n.tables rel.0 attr.0
    → slice_get (block_statements n (Pairs rel attr)) k ≡ Some s → IsNumbered n s
of_pairs n rel attr k s here at =
    let t = here.table in
    let mapped : slice_get (map (λ (p : RowPair). says.Before rel attr p.earlier p.later) (pairs_of t.rows.entities))
    k ≡ Some s = rw here.is_table at at in
    let made = from_mapped (λ (p : RowPair). says.Before rel attr p.earlier p.later) (pairs_of t.rows.entities) k s mapped in
    let pair = pair_in t.rows.entities k made.0 made.1 in
    let later = slice_get-get_or t.rows.entities made.0.later.0 0 pair.within in
    let numbered : IsNumbered n (says.Before rel attr made.0.earlier made.0.later) = record {
      table = t;
      is_table = here.is_table;
      attr_within = here.attr_within;
      ent = get_or t.rows.entities made.0.later.0 0;
      first_of = pair.one_entity ∙ later;
      second_of = later;
      differ = λ same. absurd (omega (arith, pair.order, ap (λ (r : RowId). r.0) same));
    } in
    subst (IsNumbered n) made.2 numbered

of_tops : (n : Numbers) (rel : RelId) (attr : AttrId) (k : ℕ) (s : Statement) → HasPlace n.tables rel.0 attr.0
    → slice_get (block_statements n (Tops rel attr)) k ≡ Some s → IsNumbered n s
of_tops n rel attr k s here at =
    let mapped : slice_get (map (says.Top rel attr) (wanted_rows here.table here.table.names)) k ≡ Some s =
    rw here.is_table at at in
    by here.table.names refl mapped
  where
    by : (o : Option (List (List RowId))) → here.table.names ≡ o
        → slice_get (map (says.Top rel attr) (wanted_rows here.table o)) k ≡ Some s → IsNumbered n s
    by None is e = cc
    by (Some names) is e =
        let count = length here.table.rows.entities in
        let made = from_mapped (says.Top rel attr) (row_ids count) k s e in
        let inside = slice_get_within (row_ids count) k made.0 made.1 in
        let many : length (row_ids count) ≡ count = length-map-range_with_len {X = RowId} (λ at. record { 0 = at }) 0 count in
        let within : k < count = omega arith in
        let row : slice_get (row_ids count) k ≡ Some (record { 0 = k }) = made_at {A = RowId}
        (λ at. record { 0 = at }) count k within in
        let same : made.0 ≡ record { 0 = k } = cc in
        let number = ap (λ (r : RowId). r.0) same in
        let numbered : IsNumbered n (says.Top rel attr made.0) = record {
          table = here.table;
          is_table = here.is_table;
          attr_within = here.attr_within;
          row_within = omega arith;
          names = names;
          wanted = is;
        } in
        subst (IsNumbered n) made.2 numbered

of_lasts : (n : Numbers) (rel : RelId) (attr : AttrId) (k : ℕ) (s : Statement) → HasPlace n.tables rel.0 attr.0
    → slice_get (block_statements n (Lasts rel attr)) k ≡ Some s → IsNumbered n s
of_lasts n rel attr k s here at =
    let mapped : slice_get (map (says.Last rel attr) (wanted_values attr here.table.names)) k ≡ Some s = rw here.is_table at at in
    by here.table.names refl mapped
  where
    by : (o : Option (List (List RowId))) → here.table.names ≡ o
        → slice_get (map (says.Last rel attr) (wanted_values attr o)) k ≡ Some s → IsNumbered n s
    by None is e = cc
    by (Some names) is e =
        let made = from_mapped (says.Last rel attr) (firsts_of (slice_index_or names attr.0 [])) k s e in
        let own = first_is (slice_index_or names attr.0 []) k made.0 made.1 in
        let numbered : IsNumbered n (says.Last rel attr made.0) =
        (here.table, here.is_table, here.attr_within, record { names = names; wanted = is; named = own }) in
        subst (IsNumbered n) made.2 numbered

of_answers : (n : Numbers) (k : ℕ) (s : Statement) → slice_get (block_statements n Answers) k ≡ Some s → IsNumbered n s
of_answers n k s at =
    let inside = slice_get_within (block_statements n Answers) k s at in
    let many : length (block_statements n Answers) ≡ n.answers = length-map-range_with_len says.Answer 0 n.answers in
    let within : k < n.answers = omega arith in
    let made = made_at says.Answer n.answers k within in
    let same : says.Answer k ≡ s = cc in
    subst (IsNumbered n) same within

in_block : (n : Numbers) (b : Block) (k : ℕ) (s : Statement) → IsBlockOf n.tables b
    → slice_get (block_statements n b) k ≡ Some s → IsNumbered n s
in_block n (Pairs rel attr) k s here at = of_pairs n rel attr k s here at
in_block n (Tops rel attr) k s here at = of_tops n rel attr k s here at
in_block n (Lasts rel attr) k s here at = of_lasts n rel attr k s here at
in_block n Answers k s here at = of_answers n k s at

-- each statement that has a variable is numbered
pub numbered_at : (n : Numbers) (var : ℕ) (s : Statement) → slice_get (statements_of n) var ≡ Some s → IsNumbered n s
numbered_at n var s at =
    let found = in_piece (block_statements n) (blocks_of n) var s at in
    in_block n found.2 found.1 s (block_known n found.0 found.2 found.3) found.4

-- an attribute of a pair is there
pub place_of_pair : (n : Numbers) (rel attr : ℕ) (first second : RowId) → IsPairOf n rel attr first second
    → HasPlace n.tables rel attr
place_of_pair n rel attr first second p = record { table = p.table; is_table = p.is_table; attr_within = p.attr_within }

-- and the rows are two of its table
pub rows_of_pair : (n : Numbers) (rel attr : ℕ) (first second : RowId) (t : Numbered) → IsPairOf n rel attr first
    second → slice_get n.tables rel ≡ Some t
    → IsRowPair t.rows.entities first.0 second.0
rows_of_pair n rel attr first second t p at =
    let same : p.table ≡ t = cc (p.is_table) in
    let whole : IsRowPair p.table.rows.entities first.0 second.0 = record {
      ent = p.ent;
      first_of = p.first_of;
      second_of = p.second_of;
      differ = λ equal. p.differ (ap {B = RowId} (λ at. record { 0 = at }) equal);
    } in
    subst (λ (u : Numbered). IsRowPair u.rows.entities first.0 second.0) same whole

-- ---- what no other literal says

-- what is said of a statement with this sign
abbrev said_of : Bool → Option Statement → Option Said
said_of negative o = option_map (λ s. record { statement = s; negative = negative }) o

statement_of : (negative : Bool) (o : Option Statement) (s : Said) → said_of negative o ≡ Some s → o ≡ Some s.statement
statement_of negative None s e = cc
statement_of negative (Some t) s e =
    let same : record { statement = t; negative = negative } ≡ s = cc in
    ap (λ (u : Said). Some u.statement) same

told_is : (statements : List Statement) (lit : Lit) (s : Said) → said_by statements lit ≡ Some s
    → slice_get statements (var_of lit) ≡ Some s.statement
told_is statements lit s told = statement_of (is_negative lit) (slice_get statements (var_of lit)) s told

-- a pair, of which it is said that the one row stands before the other, is numbered
pub pair_said : (n : Numbers) (rel : RelId) (attr : AttrId) (earlier later : RowId) (lit : Lit)
    → Says (statements_of n) lit (before rel attr earlier later)
    → IsPairOf n rel.0 attr.0 earlier later
pair_said n rel attr earlier later lit (inl told) =
    numbered_at n (var_of lit) (says.Before rel attr earlier later)
    (told_is (statements_of n) lit (before rel attr earlier later) told)
pair_said n rel attr earlier later lit (inr told) =
    turned_pair n rel.0 attr.0 later earlier
    (numbered_at n (var_of lit) (says.Before rel attr later earlier)
    (told_is (statements_of n) lit (record { statement = says.Before rel attr later earlier; negative = true }) told))

-- so is a row that is said to stand last
pub top_said : (n : Numbers) (rel : RelId) (attr : AttrId) (row : RowId) (lit : Lit) → Says (statements_of n) lit
    (top rel attr row) → IsRowOf n rel.0 attr.0 row
top_said n rel attr row lit (inl told) = numbered_at n (var_of lit) (says.Top rel attr row)
    (told_is (statements_of n) lit (top rel attr row) told)
top_said n rel attr row lit (inr told) = numbered_at n (var_of lit) (says.Top rel attr row)
    (told_is (statements_of n) lit (top rel attr row) told)

-- and a value that is said to be current
pub last_said : (n : Numbers) (rel : RelId) (attr : AttrId) (row : RowId) (lit : Lit) → Says (statements_of n) lit
    (last rel attr row)
    → IsNumbered n (says.Last rel attr row)
last_said n rel attr row lit (inl told) = numbered_at n (var_of lit) (says.Last rel attr row)
    (told_is (statements_of n) lit (last rel attr row) told)
last_said n rel attr row lit (inr told) = numbered_at n (var_of lit) (says.Last rel attr row)
    (told_is (statements_of n) lit (last rel attr row) told)

-- and an answer
pub answer_said : (n : Numbers) (tuple : ℕ) (lit : Lit) → Says (statements_of n) lit (positive (says.Answer tuple))
    → tuple < n.answers
answer_said n tuple lit (inl told) = numbered_at n (var_of lit) (says.Answer tuple)
    (told_is (statements_of n) lit (positive (says.Answer tuple)) told)
answer_said n tuple lit (inr told) = numbered_at n (var_of lit) (says.Answer tuple)
    (told_is (statements_of n) lit (positive (says.Answer tuple)) told)
