-- What is read from the lists that are kept at hand.
use Rattle.std.proofs.Common.{◌≡◌, ◌∙◌, ◌+◌, ◌-◌, ◌*◌, ◌<◌, ◌≤◌, ℕ, List, Some, length, take, get_or, slice_get, ap, arith}
use Rattle.std.specs.List.{flat_map}
use Rattle.std.proofs.lemmas.List.{take_all, take-take}
use Rattle.std.proofs.lemmas.List.FromFn.{get_or-map-range_with_len, length-map-range_with_len}
use Rattle.std.proofs.lemmas.Option.{get_or_from_slice_get, slice_get_within}
use Rattle.currency_base.specs.declared.ids.AttrId.{AttrId}
use Rattle.currency_base.specs.declared.ids.RelId.{RelId}
use Rattle.order_literals.specs.Layout.{block_of, attrs_before, firsts_of_tables, statements_before, starts_of, HasPlace, AreAround}
use Rattle.order_literals.specs.Numbers.{Numbered, Numbers}
use Rattle.order_literals.specs.Statements.{blocks_of, block_statements, statements_of}
use Rattle.order_literals.specs.declared.block.Block.{Block}
use Rattle.order_literals.specs.declared.block.BlockKind.TheVariants as kind
use Rattle.order_literals.proofs.AllBlocks.{places, pairs_block, tops_block, lasts_block}
use Rattle.order_literals.proofs.Lengths.{statements_more, statements_within, statements_all}
use Rattle.order_literals.proofs.Placed.{at_piece}

-- ---- where blocks stand

-- how many are kept
pub count_of_firsts : (tables : List Numbered) → length (firsts_of_tables tables) ≡ length tables + 1
count_of_firsts tables = length-map-range_with_len (attrs_before tables) 0 (length tables + 1)

-- how many attributes the relations before one have
pub first_read : (tables : List Numbered) (rel : ℕ) → rel ≤ length tables → get_or (firsts_of_tables tables) rel 0 ≡
    attrs_before tables rel
first_read tables rel within = get_or-map-range_with_len (attrs_before tables) 0 (length tables + 1) rel rel 0
    (omega arith) (omega arith)

-- and all of them
pub last_read : (tables : List Numbered) → get_or (firsts_of_tables tables) (length tables) 0 ≡ places tables
last_read tables = first_read tables (length tables) (omega arith) ∙ ap places (take_all (length tables) tables (omega arith))

-- the place of a block, by what is kept
module _ (n : Numbers) (firsts : List ℕ) (rel : RelId) (attr : AttrId)
    (firsts_are : firsts ≡ firsts_of_tables n.tables) (here : HasPlace n.tables rel.0 attr.0) where
  first_is : get_or firsts rel.0 0 ≡ attrs_before n.tables rel.0
  first_is =
      let within = slice_get_within n.tables rel.0 here.table here.is_table in
      rw firsts_are (first_read n.tables rel.0 (omega arith))

  places_are : get_or firsts (length n.tables) 0 ≡ places n.tables
  places_are = rw firsts_are (last_read n.tables)

  pub pairs_place : slice_get (blocks_of n) (get_or firsts rel.0 0 + attr.0) ≡ Some (block_of kind.Pairs rel attr)
  pairs_place = rw first_is (pairs_block n rel.0 attr.0 here)

  pub tops_place : slice_get (blocks_of n) (get_or firsts (length n.tables) 0 + (get_or firsts rel.0 0 + attr.0)) ≡
      Some (block_of kind.Tops rel attr)
  tops_place = rw (first_is, places_are) (tops_block n rel.0 attr.0 here)

  pub lasts_place : slice_get (blocks_of n) (2 * get_or firsts (length n.tables) 0 +
      (get_or firsts rel.0 0 + attr.0)) ≡ Some (block_of kind.Lasts rel attr)
  lasts_place = rw (first_is, places_are) (lasts_block n rel.0 attr.0 here)

-- ---- where statements stand

-- how many are kept
pub count_of_starts : (n : Numbers) (blocks : List Block) → length (starts_of n blocks) ≡ length blocks + 1
count_of_starts n blocks = length-map-range_with_len (statements_before n blocks) 0 (length blocks + 1)

-- how many statements the blocks before one have
pub start_read : (n : Numbers) (blocks : List Block) (place : ℕ) → place ≤ length blocks
    → get_or (starts_of n blocks) place 0 ≡ statements_before n blocks place
start_read n blocks place within = get_or-map-range_with_len (statements_before n blocks) 0 (length blocks + 1) place
    place 0 (omega arith) (omega arith)

-- all of them
pub end_read : (n : Numbers) → get_or (starts_of n (blocks_of n)) (length (blocks_of n)) 0 ≡ length (statements_of n)
end_read n = start_read n (blocks_of n) (length (blocks_of n)) (omega arith) ∙ statements_all n (blocks_of n)

-- a statement of a block stands behind those of the blocks before it
pub statement_at : (n : Numbers) (starts : List ℕ) (place number : ℕ) (block : Block) → starts ≡ starts_of n (blocks_of n)
    → slice_get (blocks_of n) place ≡ Some block → number < length (block_statements n block)
    → slice_get (statements_of n) (get_or starts place 0 + number) ≡ slice_get (block_statements n block) number
statement_at n starts place number block are at within =
    let inside = slice_get_within (blocks_of n) place block at in
    let start : get_or starts place 0 ≡ statements_before n (blocks_of n) place =
    rw are (start_read n (blocks_of n) place (omega arith)) in
    rw start (at_piece (block_statements n) (blocks_of n) place number block at within)

-- and is one of all
pub statement_below : (n : Numbers) (starts : List ℕ) (place number : ℕ) (block : Block) → starts ≡ starts_of n (blocks_of n)
    → slice_get (blocks_of n) place ≡ Some block → number < length (block_statements n block) → get_or starts place 0
    + number < length (statements_of n)
statement_below n starts place number block are at within =
    let inside = slice_get_within (blocks_of n) place block at in
    let start : get_or starts place 0 ≡ statements_before n (blocks_of n) place =
    rw are (start_read n (blocks_of n) place (omega arith)) in
    let more = statements_more n (blocks_of n) place block inside in
    let is = ap (λ b. length (block_statements n b)) (get_or_from_slice_get (blocks_of n) place block block at) in
    omega (arith, statements_within n (blocks_of n) (place + 1))

-- a block has no more statements than all
pub block_fits : (n : Numbers) (place : ℕ) (block : Block) → slice_get (blocks_of n) place ≡ Some block
    → length (block_statements n block) ≤ length (statements_of n)
block_fits n place block at =
    let inside = slice_get_within (blocks_of n) place block at in
    let more = statements_more n (blocks_of n) place block inside in
    let is = ap (λ b. length (block_statements n b)) (get_or_from_slice_get (blocks_of n) place block block at) in
    omega (arith, statements_within n (blocks_of n) (place + 1))

-- where a variable lies
module _ (n : Numbers) (starts : List ℕ) (var : ℕ) (starts_are : starts ≡ starts_of n (blocks_of n))
    (within : var < length (statements_of n)) where
  many : length starts ≡ length (blocks_of n) + 1
  many = rw starts_are (count_of_starts n (blocks_of n))

  read : (place : ℕ) → place ≤ length (blocks_of n) → get_or starts place 0 ≡ statements_before n (blocks_of n) place
  read place inside = rw starts_are (start_read n (blocks_of n) place inside)

  -- starts rise, from 0 to beyond the variable
  pub around : AreAround starts var
  around =
      let count = many in
      record {
        some = omega arith;
        first = read 0 (omega arith);
        rise = λ i j order inside. omega (arith, read i (omega arith), read j (omega arith), before_rises i j order);
        last =
            let end : length starts - 1 ≡ length (blocks_of n) = omega arith in
            rw end (omega (arith, read (length (blocks_of n)) (omega arith), statements_all n (blocks_of n)));
      }
    where
      before_rises : (i j : ℕ) → i ≤ j → statements_before n (blocks_of n) i ≤ statements_before n (blocks_of n) j
      before_rises i j order =
          let front = take-take i j (blocks_of n) order in
          let some = statements_within n (take j (blocks_of n)) i in
          omega (arith, ap (λ bs. length (flat_map (block_statements n) bs)) front)

  -- the statement of the variable stands in the block behind whose start, and before the next, the variable lies
  pub lies_in : (place : ℕ) (block : Block) → place + 1 < length starts → get_or starts place 0 ≤ var
      → var < get_or starts (place + 1) 0
      → slice_get (blocks_of n) place ≡ Some block → var - get_or starts place 0 < length (block_statements n block)
  lies_in place block inside from to at =
      let count = many in
      let here = read place (omega arith) in
      let next = read (place + 1) (omega arith) in
      let more = statements_more n (blocks_of n) place block (omega arith) in
      let is = get_or_from_slice_get (blocks_of n) place block block at in
      let length_is = ap (λ b. length (block_statements n b)) is in
      omega arith

  -- and is that of its number there
  pub stands_in : (place number : ℕ) (block : Block) → slice_get (blocks_of n) place ≡ Some block
      → number ≡ var - get_or starts place 0
      → get_or starts place 0 ≤ var → number < length (block_statements n block)
      → slice_get (statements_of n) var ≡ slice_get (block_statements n block) number
  stands_in place number block at is from inside =
      let whole : var ≡ get_or starts place 0 + number = omega arith in
      rw whole (statement_at n starts place number block starts_are at inside)
