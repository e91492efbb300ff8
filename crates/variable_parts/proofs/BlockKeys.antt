-- The parts of statements, block by block: what each step of a loop puts, and what is left.
use Rattle.std.proofs.Common.{◌≡◌, ◌≢◌, ◌⊎◌, ◌==◌, ◌∙◌, ◌+◌, ◌-◌, ◌<◌, ◌≤◌, ℕ, zero, suc, Bool, true, false, List, [], ◌∷◌, ◌++◌, None, Some, if◌then◌else◌, length, map, drop, replicate, slice_get, slice_index, slice_index_or, refl, sym, ap, inl, inr, arith, append_assoc}
use Rattle.std.specs.List.{flat_map, range_with_len}
use Rattle.std.proofs.lemmas.List.{append-nil, drop_more, map-append}
use Rattle.std.proofs.lemmas.List.Concat.{flat_map-append}
use Rattle.std.proofs.lemmas.List.FromFn.{get_or-map-range_with_len, length-range_with_len}
use Rattle.std.proofs.lemmas.Simd.{map-map, splat_is_map}
use Rattle.std.proofs.lemmas.Bool.Decides.{eqb_tells}
use Rattle.std.proofs.lemmas.Option.{slice_get_within, get_or_from_slice_get}
use Rattle.currency_base.specs.declared.ids.AttrId.{AttrId}
use Rattle.currency_base.specs.declared.ids.RelId.{RelId}
use Rattle.currency_base.specs.declared.ids.RowId.{RowId}
use Rattle.currency_base.specs.declared.row.Row.{Row}
use Rattle.entity_lists.specs.Lists.{entities_of, rows_from}
use Rattle.entity_lists.proofs.Facts.{length-entities_of}
use Rattle.pair_numbers.specs.Pairs.{pairs_from, pairs_of, with_each}
use Rattle.pair_numbers.specs.declared.pair.RowPair.{RowPair}
use Rattle.spec_model.specs.declared.relation.Relation.{Relation}
use Rattle.value_names.specs.Names.{firsts_from, firsts_of, names_of, row_ids}
use Rattle.refutation_log.specs.declared.statement.Statement.TheVariants as says
use Rattle.order_literals.specs.Numbers.{Numbered, is_wanted, numbered, tables_from, value_names_of}
use Rattle.order_literals.specs.Statements.{block_statements, blocks_from, blocks_of, last_statements, pair_statements, top_statements, wanted_rows, wanted_values}
use Rattle.order_literals.specs.declared.block.Block.{Block}
use Rattle.order_literals.specs.declared.block.Block.TheVariants as block
use Rattle.order_literals.proofs.Callers.{table_at}
use Rattle.variable_parts.specs.declared.keys.Kind.{Kind}
use Rattle.variable_parts.specs.declared.keys.Kind.TheVariants.{Pairs, Tops, Lasts}
use Rattle.variable_parts.specs.Told.{Divided, HasAttr, IsBlockIn, block_keys, block_of, key_of, keys_of, laters, numbers_in, pair_keys, row_key, rows_at, rows_in}
use Rattle.variable_parts.proofs.KeyPlaces.{as_many}

-- ---- what a loop has put and what is left

pub rest_more : (keys mine rest left whole new : List ℕ) → keys ++ left ≡ whole → left ≡ mine ++ rest → new ≡ keys ++ mine
    → new ++ rest ≡ whole
rest_more keys mine rest left whole new so_far is pushed =
    ap (λ ks. ks ++ rest) pushed ∙ (append_assoc keys mine rest ∙ (ap (λ ks. keys ++ ks) (sym is) ∙ so_far))

pub rest_none : (keys left whole : List ℕ) → keys ++ left ≡ whole → left ≡ [] → keys ≡ whole
rest_none keys left whole so_far none = sym (append-nil keys) ∙ (ap (λ ks. keys ++ ks) (sym none) ∙ so_far)

drop_none : {A : Type 0} (xs : List A) (n : ℕ) → length xs ≤ n → drop n xs ≡ []
drop_none [] zero h = refl
drop_none [] (suc n) h = refl
drop_none (x ∷ xs) zero h = absurd (omega (arith, h))
drop_none (x ∷ xs) (suc n) h = drop_none xs n (omega (arith, h))

range_next : (at end : ℕ) → at < end → range_with_len at (end - at) ≡ at ∷ range_with_len (at + 1) (end - (at + 1))
range_next at end below =
    let count : end - at ≡ suc (end - (at + 1)) = omega arith in
    ap (range_with_len at) count

less_none : (n : ℕ) → n - 0 ≡ n
less_none n = omega arith

range_none : (at end : ℕ) → end ≤ at → range_with_len at (end - at) ≡ []
range_none at end above =
    let count : end - at ≡ 0 = omega arith in
    ap (range_with_len at) count

-- ---- rows

module _ (d : Divided) (rel : RelId) where
  abbrev pub earlier_key : RowPair → ℕ
  earlier_key p = row_key d rel p.earlier

  each_key : (row : RowId) (later : List RowId) → map earlier_key (with_each row later)
      ≡ replicate (length later) (row_key d rel row)
  each_key row [] = refl
  each_key row (x ∷ later) = ap (λ ks. row_key d rel row ∷ ks) (each_key row later)

  -- those of the pairs from a row on
  abbrev pub pairs_left : List ℕ → ℕ → List ℕ
  pairs_left es row = map earlier_key (pairs_from row (drop row es))

  pub pairs_next : (es : List ℕ) (row : ℕ) → row < length es
      → pairs_left es row ≡ replicate (laters es row) (row_key d rel (record { 0 = row })) ++ pairs_left es (row + 1)
  pairs_next es row within =
      let rest = drop (row + 1) es in
      let e = slice_index es row in
      let mine = rows_from (row + 1) rest e in
      ap (λ ds. map earlier_key (pairs_from row ds)) (drop_more es row 0 within)
      ∙ (map-append earlier_key (with_each (record { 0 = row }) mine) (pairs_from (row + 1) rest)
      ∙ (ap (λ ks. ks ++ map earlier_key (pairs_from (row + 1) rest)) (each_key (record { 0 = row }) mine)
      ∙ ap (λ n. replicate n (row_key d rel (record { 0 = row })) ++ map earlier_key (pairs_from (row + 1) rest))
      (sym (as_many (row + 1) rest e))))

  pub pairs_end : (es : List ℕ) (row : ℕ) → length es ≤ row → pairs_left es row ≡ []
  pairs_end es row above = ap (λ ds. map earlier_key (pairs_from row ds)) (drop_none es row above)

  -- those of the rows from one on
  abbrev pub rows_left : ℕ → ℕ → List ℕ
  rows_left count row = map (λ at. row_key d rel (record { 0 = at })) (range_with_len row (count - row))

  pub rows_next : (count row : ℕ) → row < count → rows_left count row
      ≡ row_key d rel (record { 0 = row }) ∷ rows_left count (row + 1)
  rows_next count row below = ap (map (λ at. row_key d rel (record { 0 = at }))) (range_next row count below)

  pub rows_end : (count row : ℕ) → count ≤ row → rows_left count row ≡ []
  rows_end count row above = ap (map (λ at. row_key d rel (record { 0 = at }))) (range_none row count above)

  pub rows_all : (count : ℕ) → rows_left count 0 ≡ map (row_key d rel) (row_ids count)
  rows_all count = ap (λ n. map (λ at. row_key d rel (record { 0 = at })) (range_with_len 0 n)) (less_none count)
      ∙ sym (map-map (row_key d rel) (λ at. let row : RowId = record { 0 = at } in row) (range_with_len 0 count))

  -- those of the rows from one on that name values
  abbrev pub names_left : List RowId → ℕ → List ℕ
  names_left names row = map (row_key d rel) (firsts_from row (drop row names))

  pub names_next : (names : List RowId) (row : ℕ) (name : RowId) → slice_get names row ≡ Some name
      → names_left names row ≡ (if name.0 == row then row_key d rel (record { 0 = row }) ∷ [] else [])
      ++ names_left names (row + 1)
  names_next names row name at =
      let rest = drop (row + 1) names in
      let here : drop row names ≡ name ∷ rest =
      drop_more names row name (slice_get_within names row name at)
      ∙ ap (λ n. n ∷ rest) (get_or_from_slice_get names row name name at) in
      ap (λ ns. map (row_key d rel) (firsts_from row ns)) here ∙ by (eqb_tells name.0 row)
    where
      by : (((name.0 == row) ≡ true) × (name.0 ≡ row)) ⊎ (((name.0 == row) ≡ false) × (name.0 ≢ row))
          → map (row_key d rel) (firsts_from row (name ∷ drop (row + 1) names))
          ≡ (if name.0 == row then row_key d rel (record { 0 = row }) ∷ [] else []) ++ names_left names (row + 1)
      by (inl h) =
          rw h.0 (ap (λ (n : ℕ). row_key d rel (record { 0 = n }) ∷ names_left names (row + 1)) h.1)
      by (inr h) = rw h.0 refl

  pub names_end : (names : List RowId) (row : ℕ) → length names ≤ row → names_left names row ≡ []
  names_end names row above = ap (λ ns. map (row_key d rel) (firsts_from row ns)) (drop_none names row above)

-- ---- blocks

module _ (d : Divided) (kind : Kind) where
  abbrev pub of_attr : RelId → ℕ → Block
  of_attr rel attr = block_of kind rel (record { 0 = attr })

  abbrev pub attrs_left : RelId → ℕ → ℕ → List ℕ
  attrs_left rel count attr = flat_map (block_keys d) (map (of_attr rel) (range_with_len attr (count - attr)))

  pub attrs_next : (rel : RelId) (count attr : ℕ) → attr < count
      → attrs_left rel count attr ≡ block_keys d (of_attr rel attr) ++ attrs_left rel count (attr + 1)
  attrs_next rel count attr below = ap (λ attrs. flat_map (block_keys d) (map (of_attr rel) attrs)) (range_next attr count below)

  pub attrs_end : (rel : RelId) (count attr : ℕ) → count ≤ attr → attrs_left rel count attr ≡ []
  attrs_end rel count attr above = ap (λ attrs. flat_map (block_keys d) (map (of_attr rel) attrs)) (range_none attr count above)

  pub attrs_all : (rel : RelId) (count : ℕ) → attrs_left rel count 0
      ≡ flat_map (block_keys d) (map (of_attr rel) (range_with_len 0 count))
  attrs_all rel count = ap (λ n. flat_map (block_keys d) (map (of_attr rel) (range_with_len 0 n))) (less_none count)

  abbrev pub rels_left : List Numbered → ℕ → List ℕ
  rels_left tables rel = flat_map (block_keys d) (blocks_from (block_of kind) rel (drop rel tables))

  pub rels_next : (tables : List Numbered) (rel : ℕ) (t : Numbered) → slice_get tables rel ≡ Some t
      → rels_left tables rel ≡ attrs_left (record { 0 = rel }) t.attrs 0 ++ rels_left tables (rel + 1)
  rels_next tables rel t at =
      let rest = drop (rel + 1) tables in
      let here : drop rel tables ≡ t ∷ rest =
      drop_more tables rel t (slice_get_within tables rel t at) ∙ ap (λ n. n ∷ rest) (get_or_from_slice_get tables rel t t at) in
      ap (λ ts. flat_map (block_keys d) (blocks_from (block_of kind) rel ts)) here
      ∙ (flat_map-append (block_keys d) (map (of_attr (record { 0 = rel })) (range_with_len 0 t.attrs))
      (blocks_from (block_of kind) (rel + 1) rest)
      ∙ ap (λ ks. ks ++ rels_left tables (rel + 1)) (sym (attrs_all (record { 0 = rel }) t.attrs)))

  pub rels_end : (tables : List Numbered) (rel : ℕ) → length tables ≤ rel → rels_left tables rel ≡ []
  rels_end tables rel above = ap (λ ts. flat_map (block_keys d) (blocks_from (block_of kind) rel ts)) (drop_none tables rel above)

-- ---- the statements of a block

module _ (d : Divided) (rel : RelId) (attr : AttrId) (r : Relation) (at : slice_get d.spec.relations rel.0 ≡ Some r) where
  table_is : slice_get (numbers_in d).tables rel.0 ≡ Some (numbered d.wanted.currents rel.0 r)
  table_is = table_at d.wanted.currents d.spec.relations rel.0 r at

  rows_are : rows_in d rel ≡ r.rows
  rows_are = ap rows_at at

  pub of_pairs : block_keys d (block.Pairs rel attr) ≡ pair_keys d rel
  unfolding block_keys pair_keys row_key
  of_pairs =
      ap (λ o. map (key_of d) (pair_statements rel attr o)) table_is
      ∙ (map-map (key_of d) (λ (p : RowPair). says.Before rel attr p.earlier p.later) (pairs_of (entities_of r.rows))
      ∙ ap (λ rows. map (λ (p : RowPair). row_key d rel p.earlier) (pairs_of (entities_of rows))) (sym rows_are))

  wanted_names : is_wanted d.wanted.currents rel.0 ≡ true → (numbered d.wanted.currents rel.0 r).names ≡ Some (value_names_of r)
  wanted_names wants = rw wants refl

  other_names : is_wanted d.wanted.currents rel.0 ≡ false → (numbered d.wanted.currents rel.0 r).names ≡ None
  other_names other = rw other refl

  pub of_tops : is_wanted d.wanted.currents rel.0 ≡ true
      → block_keys d (block.Tops rel attr) ≡ map (row_key d rel) (row_ids (length (rows_in d rel)))
  unfolding block_keys row_key
  of_tops wants =
      let count : length (entities_of r.rows) ≡ length (rows_in d rel) =
      length-entities_of r.rows ∙ ap (λ (rows : List Row). length rows) (sym rows_are) in
      ap (λ o. map (key_of d) (top_statements rel attr o)) table_is
      ∙ (ap (λ o. map (key_of d) (map (says.Top rel attr) (wanted_rows (numbered d.wanted.currents rel.0 r) o)))
      (wanted_names wants)
      ∙ (map-map (key_of d) (says.Top rel attr) (row_ids (length (entities_of r.rows)))
      ∙ ap (λ n. map (row_key d rel) (row_ids n)) count))

  pub no_tops : is_wanted d.wanted.currents rel.0 ≡ false → block_keys d (block.Tops rel attr) ≡ []
  unfolding block_keys
  no_tops other =
      ap (λ o. map (key_of d) (top_statements rel attr o)) table_is
      ∙ ap (λ o. map (key_of d) (map (says.Top rel attr) (wanted_rows (numbered d.wanted.currents rel.0 r) o)))
      (other_names other)

  pub of_lasts : attr.0 < length r.attrs → is_wanted d.wanted.currents rel.0 ≡ true
      → block_keys d (block.Lasts rel attr) ≡ map (row_key d rel) (firsts_of (names_of (rows_in d rel) attr.0))
  unfolding block_keys row_key
  of_lasts within wants =
      let these : slice_index_or (value_names_of r) attr.0 [] ≡ names_of r.rows attr.0 =
      get_or-map-range_with_len (names_of r.rows) 0 (length r.attrs) attr.0 attr.0 [] within (omega arith) in
      ap (λ o. map (key_of d) (last_statements rel attr o)) table_is
      ∙ (ap (λ o. map (key_of d) (map (says.Last rel attr) (wanted_values attr o))) (wanted_names wants)
      ∙ (map-map (key_of d) (says.Last rel attr) (firsts_of (slice_index_or (value_names_of r) attr.0 []))
      ∙ (ap (λ names. map (row_key d rel) (firsts_of names)) these
      ∙ ap (λ rows. map (row_key d rel) (firsts_of (names_of rows attr.0))) (sym rows_are))))

  pub no_lasts : is_wanted d.wanted.currents rel.0 ≡ false → block_keys d (block.Lasts rel attr) ≡ []
  unfolding block_keys
  no_lasts other =
      ap (λ o. map (key_of d) (last_statements rel attr o)) table_is
      ∙ ap (λ o. map (key_of d) (map (says.Last rel attr) (wanted_values attr o))) (other_names other)

pub of_answers : (d : Divided) → block_keys d block.Answers ≡ replicate d.wanted.answers d.ties.count
unfolding block_keys
of_answers d =
    map-map (key_of d) says.Answer (range_with_len 0 d.wanted.answers)
    ∙ sym (splat_is_map (range_with_len 0 d.wanted.answers) d.wanted.answers d.ties.count
    (length-range_with_len 0 d.wanted.answers))

-- ---- all statements

map_flat : {A B C : Type 0} (g : B → C) (f : A → List B) (xs : List A) → map g (flat_map f xs) ≡ flat_map (λ x. map g (f x)) xs
map_flat g f [] = refl
map_flat g f (x ∷ xs) = map-append g (f x) (flat_map f xs) ∙ ap (λ ys. map g (f x) ++ ys) (map_flat g f xs)

-- those of the blocks of a kind
abbrev pub kind_keys : Divided → Kind → List ℕ
kind_keys d kind = flat_map (block_keys d) (blocks_from (block_of kind) 0 (numbers_in d).tables)

pub all_keys : (d : Divided) → keys_of d ≡ kind_keys d Pairs ++ kind_keys d Tops ++ kind_keys d Lasts
    ++ block_keys d block.Answers
unfolding block_keys
all_keys d =
    let n = numbers_in d in
    let pairs = blocks_from block.Pairs 0 n.tables in
    let tops = blocks_from block.Tops 0 n.tables in
    let lasts = blocks_from block.Lasts 0 n.tables in
    let flat : List Block → List ℕ = flat_map (block_keys d) in
    map_flat (key_of d) (block_statements n) (blocks_of n)
    ∙ (flat_map-append (block_keys d) (pairs ++ tops ++ lasts) (block.Answers ∷ [])
    ∙ (ap (λ ks. ks ++ flat (block.Answers ∷ [])) (flat_map-append (block_keys d) (pairs ++ tops) lasts)
    ∙ (ap (λ ks. ks ++ flat lasts ++ flat (block.Answers ∷ [])) (flat_map-append (block_keys d) pairs tops)
    ∙ ap (λ ks. flat pairs ++ flat tops ++ flat lasts ++ ks) (append-nil (block_keys d block.Answers)))))

-- one row more, where it may name a value
pub names_more : (d : Divided) (rel : RelId) (names : List RowId) (row : ℕ) (name : RowId) (named : Bool)
    (keys whole new : List ℕ) → slice_get names row ≡ Some name → named ≡ (name.0 == row)
    → keys ++ names_left d rel names row ≡ whole
    → new ≡ keys ++ (if named then row_key d rel (record { 0 = row }) ∷ [] else [])
    → new ++ names_left d rel names (row + 1) ≡ whole
names_more d rel names row name named keys whole new at test so_far pushed =
    rest_more keys (if named then row_key d rel (record { 0 = row }) ∷ [] else []) (names_left d rel names (row + 1))
    (names_left d rel names row) whole new so_far
    (names_next d rel names row name at
    ∙ ap (λ (b : Bool). (if b then row_key d rel (record { 0 = row }) ∷ [] else []) ++ names_left d rel names (row + 1))
    (sym test))
    pushed

-- ---- blocks of the specification

pub tables_many : (currents : List RelId) (first : ℕ) (relations : List Relation)
    → length (tables_from currents first relations) ≡ length relations
tables_many currents first [] = refl
tables_many currents first (r ∷ relations) = ap suc (tables_many currents (first + 1) relations)

pub block_in : (d : Divided) (kind : Kind) (rel : RelId) (attr : AttrId) (r : Relation)
    → slice_get d.spec.relations rel.0 ≡ Some r
    → attr.0 < length r.attrs → IsBlockIn d (block_of kind rel attr)
block_in d Pairs rel attr r at within = record { relation = r; is_relation = at; attr_within = within }
block_in d Tops rel attr r at within = record { relation = r; is_relation = at; attr_within = within }
block_in d Lasts rel attr r at within = record { relation = r; is_relation = at; attr_within = within }

-- ---- blocks of wanted relations

module _ (d : Divided) (rel : RelId) (attr : AttrId) (has : HasAttr d rel attr) (keys new : List ℕ) where
  -- the rows that stand last were put, if they are wanted
  pub put_tops : (is_wanted d.wanted.currents rel.0 ≡ true → new ≡ keys ++ map (row_key d rel) (row_ids (length (rows_in d rel))))
      → (is_wanted d.wanted.currents rel.0 ≡ false → new ≡ keys) → new ≡ keys ++ block_keys d (block.Tops rel attr)
  put_tops wants other = by (is_wanted d.wanted.currents rel.0) refl
    where
      by : (b : Bool) → is_wanted d.wanted.currents rel.0 ≡ b → new ≡ keys ++ block_keys d (block.Tops rel attr)
      by true e = wants e ∙ ap (λ ks. keys ++ ks) (sym (of_tops d rel attr has.relation has.is_relation e))
      by false e = other e ∙ (sym (append-nil keys) ∙ ap (λ ks. keys ++ ks)
          (sym (no_tops d rel attr has.relation has.is_relation e)))

  -- the current values were put, if they are wanted
  pub put_lasts : (is_wanted d.wanted.currents rel.0 ≡ true
      → new ≡ keys ++ map (row_key d rel) (firsts_of (names_of (rows_in d rel) attr.0)))
      → (is_wanted d.wanted.currents rel.0 ≡ false → new ≡ keys) → new ≡ keys ++ block_keys d (block.Lasts rel attr)
  put_lasts wants other = by (is_wanted d.wanted.currents rel.0) refl
    where
      by : (b : Bool) → is_wanted d.wanted.currents rel.0 ≡ b → new ≡ keys ++ block_keys d (block.Lasts rel attr)
      by true e = wants e ∙ ap (λ ks. keys ++ ks) (sym (of_lasts d rel attr has.relation has.is_relation has.attr_within e))
      by false e = other e ∙ (sym (append-nil keys) ∙ ap (λ ks. keys ++ ks)
          (sym (no_lasts d rel attr has.relation has.is_relation e)))

-- ---- one kind after another

pub put_all : (d : Divided) (none pairs tops lasts all : List ℕ) → none ≡ [] → pairs ≡ none ++ kind_keys d Pairs
    → tops ≡ pairs ++ kind_keys d Tops → lasts ≡ tops ++ kind_keys d Lasts → all ≡ lasts ++ block_keys d block.Answers
    → all ≡ keys_of d
put_all d none pairs tops lasts all none_is pairs_are tops_are lasts_are all_are =
    all_are
    ∙ ap (λ ks. ks ++ block_keys d block.Answers) (lasts_are
    ∙ ap (λ ks. ks ++ kind_keys d Lasts) (tops_are
    ∙ ap (λ ks. ks ++ kind_keys d Tops) (pairs_are ∙ ap (λ ks. ks ++ kind_keys d Pairs) none_is)))
    ∙ sym (all_keys d)
