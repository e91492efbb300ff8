-- How many statements blocks have, and the steps of loops that count them.
use Rattle.std.proofs.Common.{◌≡◌, ◌∙◌, ◌+◌, ◌<◌, ◌≤◌, ℕ, List, [], ◌∷◌, ◌++◌, length, map, take, drop, get_or, refl, sym, ap, append_assoc, arith, length-append}
use Rattle.std.specs.List.{flat_map, range_with_len}
use Rattle.std.proofs.lemmas.List.{append-nil, take_more, take_all, take-append-drop}
use Rattle.std.proofs.lemmas.List.Concat.{flat_map-append}
use Rattle.std.proofs.lemmas.List.FromFn.{length-map-range_with_len, map-range_with_len_more}
use Rattle.std.proofs.lemmas.List.Sums.{sum_by_more}
use Rattle.currency_base.specs.declared.ids.RowId.{RowId}
use Rattle.refutation_log.specs.declared.statement.Statement.TheVariants as says
use Rattle.value_names.specs.Names.{row_ids}
use Rattle.order_literals.specs.Layout.{attrs_before, statements_before}
use Rattle.order_literals.specs.Numbers.{Numbered, Numbers}
use Rattle.order_literals.specs.Statements.{block_statements}
use Rattle.order_literals.specs.declared.block.Block.{Block}

-- so many rows
pub count_of_row_ids : (count : ℕ) → length (row_ids count) ≡ count
count_of_row_ids count = length-map-range_with_len {X = RowId} (λ at. record { 0 = at }) 0 count

-- so many answers
pub count_of_answers : (count : ℕ) → length (map says.Answer (range_with_len 0 count)) ≡ count
count_of_answers count = length-map-range_with_len says.Answer 0 count

-- ---- loops over what stands at each place, and at one more

-- one more place
pub put_more : {A : Type 0} (f : ℕ → A) (n : ℕ) (xs ys : List A) (x : A) → xs ≡ map f (range_with_len 0 n) → x ≡ f n
    → ys ≡ xs ++ x ∷ []
    → ys ≡ map f (range_with_len 0 (n + 1))
put_more f n xs ys x before is pushed =
    let more = map-range_with_len_more f 0 n n (omega arith) in
    cc

-- one more place, behind others
pub put_after : {A : Type 0} (f : ℕ → A) (n : ℕ) (front xs ys : List A) (x : A) → xs ≡ front
    ++ map f (range_with_len 0 n) → x ≡ f n
    → ys ≡ xs ++ x ∷ [] → ys ≡ front ++ map f (range_with_len 0 (n + 1))
put_after f n front xs ys x before is pushed =
    let more = map-range_with_len_more f 0 n n (omega arith) in
    let joined = append_assoc front (map f (range_with_len 0 n)) (x ∷ []) in
    cc

-- the attributes of one more relation
pub attrs_more : (tables : List Numbered) (rel : ℕ) (t : Numbered) → rel < length tables → t ≡ get_or tables rel t
    → attrs_before tables (rel + 1) ≡ attrs_before tables rel + t.attrs
attrs_more tables rel t within is =
    sum_by_more (λ t. t.attrs) tables rel t within ∙ ap (λ (u : Numbered). attrs_before tables rel + u.attrs) (sym is)

-- the statements of one more block
pub statements_more : (n : Numbers) (blocks : List Block) (place : ℕ) (d : Block) → place < length blocks
    → statements_before n blocks (place + 1) ≡ statements_before n blocks place + length
    (block_statements n (get_or blocks place d))
statements_more n blocks place d within =
    let b = get_or blocks place d in
    let more = take_more blocks place d within in
    let joined = flat_map-append (block_statements n) (take place blocks) (b ∷ []) in
    let last : flat_map (block_statements n) (b ∷ []) ≡ block_statements n b ++ [] = refl in
    let alone = append-nil (block_statements n b) in
    let whole : flat_map (block_statements n) (take (place + 1) blocks)
    ≡ flat_map (block_statements n) (take place blocks) ++ block_statements n b = cc in
    ap length whole ∙ length-append (flat_map (block_statements n) (take place blocks)) (block_statements n b)

-- are not more than those of all
pub statements_within : (n : Numbers) (blocks : List Block) (place : ℕ) → statements_before n blocks place ≤ length
    (flat_map (block_statements n) blocks)
statements_within n blocks place =
    let split = flat_map-append (block_statements n) (take place blocks) (drop place blocks) in
    let whole = ap (λ bs. length (flat_map (block_statements n) bs)) (take-append-drop place blocks) in
    let parts = length-append (flat_map (block_statements n) (take place blocks))
    (flat_map (block_statements n) (drop place blocks)) in
    omega (arith, ap length split)

-- and are all where no block is left
pub statements_all : (n : Numbers) (blocks : List Block) → statements_before n blocks (length blocks) ≡ length
    (flat_map (block_statements n) blocks)
statements_all n blocks = ap (λ bs. length (flat_map (block_statements n) bs)) (take_all (length blocks) blocks (omega arith))

-- what all of them have where there is room for each
pub total_more : (n : Numbers) (blocks : List Block) (place total more next : ℕ) (d : Block) → place < length blocks
    → total ≡ statements_before n blocks place
    → more ≡ length (block_statements n (get_or blocks place d)) → next ≡ total + more
    → (next ≡ statements_before n blocks (place + 1)) × (next ≤ length (flat_map (block_statements n) blocks))
total_more n blocks place total more next d within before here is =
    let step = statements_more n blocks place d within in
    let some = statements_within n blocks (place + 1) in
    (omega arith, omega arith)
