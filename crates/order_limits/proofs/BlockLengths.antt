-- How many statements the blocks of one kind have, where each block of a relation has at most so many.
use Rattle.std.proofs.Common.{◌≡◌, ◌≤◌, ◌+◌, ◌*◌, ◌∙◌, ℕ, suc, Bool, true, false, if◌then◌else◌, List, [], ◌∷◌, ◌++◌, Option, Some, None, length, map, flat_map, slice_get, slice_index_or, sym, ap, arith}
use Rattle.std.specs.List.{range_with_len, sum_by}
use Rattle.std.proofs.lemmas.List.{length-append, length-map}
use Rattle.std.proofs.lemmas.List.Concat.{flat_map-append}
use Rattle.std.proofs.lemmas.List.FromFn.{length-range_with_len}
use Rattle.std.proofs.lemmas.List.Sums.{sum_by-cons}
use Rattle.std.proofs.Math.Nat.{suc-mul}
use Rattle.currency_base.specs.declared.ids.AttrId.{AttrId}
use Rattle.currency_base.specs.declared.ids.RelId.{RelId}
use Rattle.currency_base.specs.declared.ids.RowId.{RowId}
use Rattle.currency_base.specs.declared.row.Row.{Row}
use Rattle.pair_numbers.specs.Pairs.{pairs_of}
use Rattle.pair_numbers.specs.declared.pair.RowPair.{RowPair}
use Rattle.refutation_log.specs.declared.statement.Statement.TheVariants as says
use Rattle.spec_limits.specs.Limits.{entity_pairs}
use Rattle.spec_model.specs.declared.relation.Relation.{Relation}
use Rattle.value_names.specs.Names.{names_of}
use Rattle.order_literals.specs.declared.block.Block.{Block}
use Rattle.order_literals.specs.declared.block.Block.TheVariants.{Pairs, Tops, Lasts, Answers}
use Rattle.order_literals.specs.Numbers.{Numbered, Numbers, is_wanted, numbered, tables_from, value_names_of}
use Rattle.order_literals.specs.Statements.{blocks_from, block_statements, pair_statements, top_statements, last_statements, wanted_rows, wanted_values}
use Rattle.order_limits.proofs.Lengths.{pairs_counted, firsts_few, row_ids_counted, names_counted, read_few}

-- what is joined of two lists
pub joined_append : {X Y : Type 0} (g : X → List Y) (xs ys : List X)
    → length (flat_map g (xs ++ ys)) ≡ length (flat_map g xs) + length (flat_map g ys)
joined_append g xs ys = ap length (flat_map-append g xs ys) ∙ length-append (flat_map g xs) (flat_map g ys)

-- lists of at most so many items each, joined
joined_few : {X Y : Type 0} (g : X → List Y) (f : ℕ → X) (m : ℕ) → ((n : ℕ) → length (g (f n)) ≤ m) → (ns : List ℕ)
    → length (flat_map g (map f ns)) ≤ length ns * m
joined_few g f m each [] = omega arith
joined_few g f m each (n ∷ ns) =
    omega (
      arith,
      length-append (g (f n)) (flat_map g (map f ns)),
      each n,
      joined_few g f m each ns,
      suc-mul (length ns) m,
    )

-- the relations from one place on are numbered there
abbrev pub AreNumberedFrom : Numbers → List Numbered → ℕ → Type 0
AreNumberedFrom n tables first = (i : ℕ) → slice_get n.tables (first + i) ≡ slice_get tables i

module _ (n : Numbers) (currents : List RelId) (make : RelId → AttrId → Block) (size : Relation → ℕ) where
  -- each block of a relation that stands at its number has at most so many statements
  abbrev pub AreFew : Type 0
  AreFew = (r : Relation) (rel : RelId) (attr : AttrId) → slice_get n.tables rel.0 ≡ Some (numbered currents rel.0 r)
      → length (block_statements n (make rel attr)) ≤ size r

  pub kind_few : AreFew → (first : ℕ) (relations : List Relation) → AreNumberedFrom n (tables_from currents first relations) first
      → length (flat_map (block_statements n) (blocks_from make first (tables_from currents first relations)))
      ≤ sum_by (λ (r : Relation). length r.attrs * size r) relations
  kind_few few first [] at = omega arith
  kind_few few first (r ∷ relations) at =
      let rel : RelId = record { 0 = first } in
      let of_attr = λ (attr : ℕ). make rel (record { 0 = attr }) in
      let attrs = range_with_len 0 (length r.attrs) in
      let later = blocks_from make (first + 1) (tables_from currents (first + 1) relations) in
      let here : first + 0 ≡ first = omega arith in
      let is : slice_get n.tables first ≡ Some (numbered currents first r) = ap (slice_get n.tables) (sym here) ∙ at 0 in
      omega (
        arith,
        joined_append (block_statements n) (map of_attr attrs) later,
        joined_few (block_statements n) of_attr (size r) (λ attr. few r rel (record { 0 = attr }) is) attrs,
        ap (λ (k : ℕ). k * size r) (length-range_with_len 0 (length r.attrs)),
        kind_few few (first + 1) relations
            (λ i. let moved : first + 1 + i ≡ first + suc i = omega arith in ap (slice_get n.tables) moved ∙ at (suc i)),
        sum_by-cons (λ (q : Relation). length q.attrs * size q) r relations,
      )

-- ---- the blocks of a relation

pairs_of_table : (rel : RelId) (attr : AttrId) (currents : List RelId) (r : Relation)
    → length (pair_statements rel attr (Some (numbered currents rel.0 r))) ≡ entity_pairs r.rows
pairs_of_table rel attr currents r =
    length-map (pairs_of (numbered currents rel.0 r).rows.entities) (λ (p : RowPair). says.Before rel attr p.earlier p.later)
    ∙ pairs_counted 0 r.rows

pub pairs_few : (n : Numbers) (currents : List RelId) → AreFew n currents Pairs (λ r. entity_pairs r.rows)
pairs_few n currents r rel attr is = rw is (omega (arith, pairs_of_table rel attr currents r))

-- at most as many rows stand last as there are rows
rows_wanted : (t : Numbered) (names : Option (List (List RowId))) → length (wanted_rows t names) ≤ length t.rows.entities
rows_wanted t None = omega arith
rows_wanted t (Some names) = omega (arith, row_ids_counted (length t.rows.entities))

tops_of_table : (rel : RelId) (attr : AttrId) (currents : List RelId) (r : Relation)
    → length (top_statements rel attr (Some (numbered currents rel.0 r))) ≤ length r.rows
tops_of_table rel attr currents r =
    let t = numbered currents rel.0 r in
    omega (
      arith,
      length-map (wanted_rows t t.names) (says.Top rel attr),
      rows_wanted t t.names,
      length-map r.rows (λ (row : Row). row.entity.0),
    )

pub tops_few : (n : Numbers) (currents : List RelId) → AreFew n currents Tops (λ r. length r.rows)
tops_few n currents r rel attr is = rw is (tops_of_table rel attr currents r)

-- at most as many values as rows
values_wanted : (r : Relation) (attr : AttrId) (wanted : Bool)
    → length (wanted_values attr (if wanted then Some (value_names_of r) else None)) ≤ length r.rows
values_wanted r attr false = omega arith
values_wanted r attr true =
    omega (
      arith,
      firsts_few 0 (slice_index_or (value_names_of r) attr.0 []),
      read_few (names_of r.rows) (length r.rows) (names_counted r.rows) (range_with_len 0 (length r.attrs)) attr.0,
    )

lasts_of_table : (rel : RelId) (attr : AttrId) (currents : List RelId) (r : Relation)
    → length (last_statements rel attr (Some (numbered currents rel.0 r))) ≤ length r.rows
lasts_of_table rel attr currents r =
    omega (
      arith,
      length-map (wanted_values attr (numbered currents rel.0 r).names) (says.Last rel attr),
      values_wanted r attr (is_wanted currents rel.0),
    )

pub lasts_few : (n : Numbers) (currents : List RelId) → AreFew n currents Lasts (λ r. length r.rows)
lasts_few n currents r rel attr is = rw is (lasts_of_table rel attr currents r)

pub answers_counted : (n : Numbers) → length (flat_map (block_statements n) (Answers ∷ [])) ≡ n.answers
answers_counted n =
    omega (
      arith,
      length-append (block_statements n Answers) [],
      length-map (range_with_len 0 n.answers) says.Answer,
      length-range_with_len 0 n.answers,
    )
