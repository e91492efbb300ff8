-- The numbered statements ascend, so that each has one place.
use Rattle.std.proofs.Common.{◌≡◌, ◌<◌, ℕ, List, [], ◌∷◌, ◌++◌, Option, Some, None, length, slice_get, slice_index_or, refl, ap, subst₂, inl, inr, Less}
use Rattle.std.specs.List.{range_with_len}
use Rattle.std.specs.List.Sorted.{IsStrictlySortedBy}
use Rattle.currency_base.specs.declared.ids.AttrId.{AttrId}
use Rattle.currency_base.specs.declared.ids.RelId.{RelId}
use Rattle.currency_base.specs.declared.ids.RowId.{RowId}
use Rattle.refutation_log.specs.declared.statement.Statement.{Statement}
use Rattle.refutation_log.specs.declared.statement.Statement.TheVariants as says
use Rattle.pair_numbers.specs.Pairs.{pairs_of}
use Rattle.pair_numbers.specs.declared.pair.RowPair.{RowPair}
use Rattle.order_literals.specs.declared.block.Block.{Block}
use Rattle.order_literals.specs.declared.block.Block.TheVariants.{Pairs, Tops, Lasts, Answers}
use Rattle.order_literals.specs.Numbers.{Numbered, Numbers}
use Rattle.order_literals.specs.Statements.{blocks_of, block_statements, pair_statements, top_statements, last_statements, wanted_rows, wanted_values, statements_of, key_of, statement_cmp}
use Rattle.order_literals.proofs.Items.{IsIn, from_map}
use Rattle.order_literals.proofs.Ascents.{Ascends, Precedes, ascends_map, ascends_flat_map, ascends_weaker, range_ascends, sorted_from, precedes_less, precedes_on, never_itself, one_place}
use Rattle.order_literals.proofs.RowLaws.{IsLess, row_ids_ascend, firsts_from_ascend, IsPairBelow, pairs_from_ascend}
use Rattle.order_literals.proofs.BlockLaws.{block_key, IsBlockBelow, blocks_ascend}

-- a statement stands before another in the order of statements
abbrev pub IsBelow : Statement → Statement → Type 0
IsBelow a b = Precedes (key_of a) (key_of b)

-- ---- in a block

rows_ascend : (t : Numbered) (names : Option (List (List RowId))) → Ascends IsLess (wanted_rows t names)
rows_ascend t None = tt
rows_ascend t (Some names) = row_ids_ascend (length t.rows.entities)

values_ascend : (attr : AttrId) (names : Option (List (List RowId))) → Ascends IsLess (wanted_values attr names)
values_ascend attr None = tt
values_ascend attr (Some names) = firsts_from_ascend 0 (slice_index_or names attr.0 [])

pairs_ascend : (rel : RelId) (attr : AttrId) (t : Option Numbered) → Ascends IsBelow (pair_statements rel attr t)
pairs_ascend rel attr None = tt
pairs_ascend rel attr (Some t) =
    ascends_map IsBelow IsPairBelow (λ (p : RowPair). says.Before rel attr p.earlier p.later)
    (λ p q below. inr (refl, inr (refl, inr (refl, below)))) (pairs_of t.rows.entities) (pairs_from_ascend 0 t.rows.entities)

tops_ascend : (rel : RelId) (attr : AttrId) (t : Option Numbered) → Ascends IsBelow (top_statements rel attr t)
tops_ascend rel attr None = tt
tops_ascend rel attr (Some t) =
    ascends_map IsBelow IsLess (says.Top rel attr) (λ a b below. inr (refl, inr (refl, inr (refl, inl below))))
    (wanted_rows t t.names) (rows_ascend t t.names)

lasts_ascend : (rel : RelId) (attr : AttrId) (t : Option Numbered) → Ascends IsBelow (last_statements rel attr t)
lasts_ascend rel attr None = tt
lasts_ascend rel attr (Some t) =
    ascends_map IsBelow IsLess (says.Last rel attr) (λ a b below. inr (refl, inr (refl, inr (refl, inl below))))
    (wanted_values attr t.names) (values_ascend attr t.names)

block_ascends : (n : Numbers) (block : Block) → Ascends IsBelow (block_statements n block)
block_ascends n (Pairs rel attr) = pairs_ascend rel attr (slice_get n.tables rel.0)
block_ascends n (Tops rel attr) = tops_ascend rel attr (slice_get n.tables rel.0)
block_ascends n (Lasts rel attr) = lasts_ascend rel attr (slice_get n.tables rel.0)
block_ascends n Answers =
    ascends_map IsBelow (λ x y. x < y) says.Answer (λ a b below. inr (refl, inl below)) (range_with_len 0 n.answers)
    (range_ascends 0 n.answers)

-- ---- from block to block

-- the key of the statement begins with these numbers
abbrev Begins : List ℕ → Statement → Type 0
Begins front s = (rest : List ℕ) × (front ++ rest ≡ key_of s)

begins : (n : Numbers) (block : Block) (s : Statement) → IsIn (block_statements n block) s → Begins (block_key block) s
begins n (Pairs rel attr) s at = by (slice_get n.tables rel.0) at
  where
    by : (t : Option Numbered) → IsIn (pair_statements rel attr t) s → Begins (block_key (Pairs rel attr)) s
    by None none = absurd none
    by (Some t) there =
        let from = from_map (λ (p : RowPair). says.Before rel attr p.earlier p.later) (pairs_of t.rows.entities) s there in
        (from.0.earlier.0 ∷ from.0.later.0 ∷ [], ap key_of from.2)
begins n (Tops rel attr) s at = by (slice_get n.tables rel.0) at
  where
    by : (t : Option Numbered) → IsIn (top_statements rel attr t) s → Begins (block_key (Tops rel attr)) s
    by None none = absurd none
    by (Some t) there =
        let from = from_map (says.Top rel attr) (wanted_rows t t.names) s there in
        ((from.0).0 ∷ [], ap key_of from.2)
begins n (Lasts rel attr) s at = by (slice_get n.tables rel.0) at
  where
    by : (t : Option Numbered) → IsIn (last_statements rel attr t) s → Begins (block_key (Lasts rel attr)) s
    by None none = absurd none
    by (Some t) there =
        let from = from_map (says.Last rel attr) (wanted_values attr t.names) s there in
        ((from.0).0 ∷ [], ap key_of from.2)
begins n Answers s at =
    let from = from_map says.Answer (range_with_len 0 n.answers) s at in
    (from.0 ∷ [], ap key_of from.2)

apart : (n : Numbers) (a b : Block) (s t : Statement) → IsBlockBelow a b → IsIn (block_statements n a) s
    → IsIn (block_statements n b) t → IsBelow s t
apart n a b s t below in_a in_b =
    let of_s = begins n a s in_a in
    let of_t = begins n b t in_b in
    subst₂ Precedes of_s.1 of_t.1 (precedes_on (block_key a) (block_key b) of_s.0 of_t.0 below)

-- ---- all

pub statements_ascend : (n : Numbers) → Ascends IsBelow (statements_of n)
statements_ascend n =
    ascends_flat_map IsBelow IsBlockBelow (block_statements n) (block_ascends n) (apart n) (blocks_of n) (blocks_ascend n)

pub statements_sorted : (n : Numbers) → IsStrictlySortedBy statement_cmp (statements_of n)
statements_sorted n =
    sorted_from statement_cmp (statements_of n)
    (ascends_weaker IsBelow (λ a b. statement_cmp a b ≡ Less) (λ a b below. precedes_less (key_of a) (key_of b) below)
    (statements_of n) (statements_ascend n))

-- a statement is numbered once
pub numbered_once : (n : Numbers) (i j : ℕ) (s : Statement) → slice_get (statements_of n) i ≡ Some s
    → slice_get (statements_of n) j ≡ Some s → i ≡ j
numbered_once n = one_place IsBelow (λ s. never_itself (key_of s)) (statements_of n) (statements_ascend n)
