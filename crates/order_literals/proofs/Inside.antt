-- Which statement stands where in a block.
use Rattle.std.proofs.Common.{◌≡◌, ◌∙◌, ◌<◌, ℕ, zero, suc, List, [], ◌∷◌, Option, Some, None, length, map, option_map, slice_get, refl, ap, arith}
use Rattle.std.specs.List.{range_with_len}
use Rattle.std.proofs.lemmas.List.{length-map}
use Rattle.std.proofs.lemmas.List.FromFn.{get_or-map-range_with_len, length-map-range_with_len}
use Rattle.std.proofs.lemmas.Option.{slice_get-map, slice_get-get_or}
use Rattle.currency_base.specs.declared.ids.AttrId.{AttrId}
use Rattle.currency_base.specs.declared.ids.RelId.{RelId}
use Rattle.currency_base.specs.declared.ids.RowId.{RowId}
use Rattle.pair_numbers.specs.Pairs.{pairs_of}
use Rattle.pair_numbers.specs.declared.pair.RowPair.{RowPair}
use Rattle.value_names.specs.Names.{row_ids}
use Rattle.refutation_log.specs.declared.statement.Statement.TheVariants as says
use Rattle.order_literals.specs.Numbers.{Numbered, Numbers}
use Rattle.order_literals.specs.Statements.{block_statements, top_statements, wanted_rows, wanted_values}
use Rattle.order_literals.specs.declared.block.Block.TheVariants.{Pairs, Tops, Lasts, Answers}

-- what stands in a list that is made of places
pub made_at : {A : Type 0} (f : ℕ → A) (count k : ℕ) → k < count → slice_get (map f (range_with_len 0 count)) k ≡ Some (f k)
made_at f count k within =
    let many : length (map f (range_with_len 0 count)) ≡ count = length-map-range_with_len f 0 count in
    let read = get_or-map-range_with_len f 0 count k k (f k) within (omega arith) in
    slice_get-get_or (map f (range_with_len 0 count)) k (f k) (omega arith) ∙ ap Some read

-- what stands in a mapped list
pub mapped_at : {A B : Type 0} (f : A → B) (xs : List A) (k : ℕ) (x : A) → slice_get xs k ≡ Some x
    → slice_get (map f xs) k ≡ Some (f x)
mapped_at f xs k x at = slice_get-map f xs k ∙ ap (option_map f) at

-- what stands in a mapped list is made of what stands there
pub from_mapped : {A B : Type 0} (f : A → B) (xs : List A) (k : ℕ) (y : B) → slice_get (map f xs) k ≡ Some y →
    (x : A) × (slice_get xs k ≡ Some x) × (f x ≡ y)
from_mapped f [] k y e = cc
from_mapped f (x ∷ xs) zero y e = (x, refl, cc)
from_mapped f (x ∷ xs) (suc k) y e = from_mapped f xs k y e

-- of a pair of rows
pub pair_in : (n : Numbers) (rel : RelId) (attr : AttrId) (t : Numbered) (k : ℕ) (p : RowPair) → slice_get n.tables rel.0 ≡ Some t
    → slice_get (pairs_of t.rows.entities) k ≡ Some p
    → slice_get (block_statements n (Pairs rel attr)) k ≡ Some (says.Before rel attr p.earlier p.later)
pair_in n rel attr t k p is_table at = rw is_table
    (mapped_at (λ (q : RowPair). says.Before rel attr q.earlier q.later) (pairs_of t.rows.entities) k p at)

-- of a row that stands last
pub top_in : (n : Numbers) (rel : RelId) (attr : AttrId) (t : Numbered) (names : List (List RowId)) (k : ℕ)
    → slice_get n.tables rel.0 ≡ Some t
    → t.names ≡ Some names → k < length t.rows.entities
    → slice_get (block_statements n (Tops rel attr)) k ≡ Some (says.Top rel attr (record { 0 = k }))
top_in n rel attr t names k is_table wanted within =
    let row : slice_get (row_ids (length t.rows.entities)) k ≡ Some (record { 0 = k }) = made_at {A = RowId}
    (λ at. record { 0 = at }) (length t.rows.entities) k within in
    rw (is_table, wanted) (mapped_at (says.Top rel attr) (row_ids (length t.rows.entities)) k (record { 0 = k }) row)

-- of each place of such a block
pub top_within : (n : Numbers) (rel : RelId) (attr : AttrId) (k : ℕ) → k < length (block_statements n (Tops rel attr))
    → slice_get (block_statements n (Tops rel attr)) k ≡ Some (says.Top rel attr (record { 0 = k }))
top_within n rel attr k = by (slice_get n.tables rel.0)
  where
    of_names : (t : Numbered) (o : Option (List (List RowId))) → k < length (map (says.Top rel attr) (wanted_rows t o))
        → slice_get (map (says.Top rel attr) (wanted_rows t o)) k ≡ Some (says.Top rel attr (record { 0 = k }))
    of_names t None within = absurd (omega arith)
    of_names t (Some names) within =
        let some = length-map (row_ids (length t.rows.entities)) (says.Top rel attr) in
        let many : length (row_ids (length t.rows.entities)) ≡ length t.rows.entities =
        length-map-range_with_len {X = RowId} (λ at. record { 0 = at }) 0 (length t.rows.entities) in
        let row : slice_get (row_ids (length t.rows.entities)) k ≡ Some (record { 0 = k }) =
        made_at {A = RowId} (λ at. record { 0 = at }) (length t.rows.entities) k (omega arith) in
        mapped_at (says.Top rel attr) (row_ids (length t.rows.entities)) k (record { 0 = k }) row

    by : (o : Option Numbered) → k < length (top_statements rel attr o) → slice_get (top_statements rel attr o) k ≡
        Some (says.Top rel attr (record { 0 = k }))
    by None within = absurd (omega arith)
    by (Some t) within = of_names t t.names within

-- of a current value
pub last_in : (n : Numbers) (rel : RelId) (attr : AttrId) (t : Numbered) (k : ℕ) (row : RowId) → slice_get n.tables rel.0 ≡ Some t
    → slice_get (wanted_values attr t.names) k ≡ Some row
    → slice_get (block_statements n (Lasts rel attr)) k ≡ Some (says.Last rel attr row)
last_in n rel attr t k row is_table at = rw is_table (mapped_at (says.Last rel attr) (wanted_values attr t.names) k row at)

-- of an answer
pub answer_in : (n : Numbers) (k : ℕ) → k < n.answers → slice_get (block_statements n Answers) k ≡ Some (says.Answer k)
answer_in n k within = made_at says.Answer n.answers k within

-- how many answers there are
pub answers_count : (n : Numbers) → length (block_statements n Answers) ≡ n.answers
answers_count n = length-map-range_with_len says.Answer 0 n.answers
