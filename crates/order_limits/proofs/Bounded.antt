-- The statements of a specification within its limits, all kinds together.
use Rattle.std.proofs.Common.{◌≡◌, ◌≤◌, ◌<◌, ◌+◌, ◌*◌, ◌^◌, ◌||◌, ltb, ℕ, Bool, true, false, List, [], ◌∷◌, ◌++◌, Option, Some, None, length, flat_map, slice_get, refl, ap, arith}
use Rattle.std.specs.Prelude.{if◌then◌else◌}
use Rattle.std.specs.List.{list_any, sum_by}
use Rattle.std.proofs.lemmas.Bool.{ltb-false}
use Rattle.std.proofs.lemmas.List.Sums.{sum_by-cons}
use Rattle.std.proofs.Math.Nat.{mul-le-mul_right}
use Rattle.spec_model.specs.Spec.{Spec}
use Rattle.spec_model.specs.Facts.{IsSpecification}
use Rattle.spec_model.specs.declared.relation.Relation.{Relation}
use Rattle.spec_limits.specs.Limits.{entity_pairs, exceeded, order_variables, rows_together, too_many_variables}
use Rattle.spec_limits.proofs.Chain.{none_of}
use Rattle.order_literals.specs.declared.block.Block.{Block}
use Rattle.order_literals.specs.declared.block.Block.TheVariants.{Pairs, Tops, Lasts, Answers}
use Rattle.order_literals.specs.declared.wanted.Wanted.{Wanted}
use Rattle.order_literals.specs.Numbers.{Numbers, numbers_of}
use Rattle.order_literals.specs.Statements.{blocks_from, block_statements, statements_of}
use Rattle.order_limits.proofs.BlockLengths.{AreNumberedFrom, joined_append, kind_few, pairs_few, tops_few, lasts_few, answers_counted}

-- one variable for each attribute and row
abbrev row_variables : List Relation → ℕ
row_variables relations = sum_by (λ (r : Relation). length r.attrs * length r.rows) relations

either_none : (a b : Bool) → (a || b) ≡ false → (a ≡ false) × (b ≡ false)
either_none true b is = cc
either_none false b is = (refl, is)

-- where no relation has more attributes than the limit
rows_bounded : (limit : ℕ) (relations : List Relation) → list_any (λ (r : Relation). ltb limit (length r.attrs)) relations ≡ false
    → row_variables relations ≤ limit * rows_together relations
rows_bounded limit [] none = omega arith
rows_bounded limit (r ∷ relations) none =
    let both = either_none (ltb limit (length r.attrs)) (list_any (λ (q : Relation). ltb limit (length q.attrs))
    relations) none in
    omega (
      arith,
      mul-le-mul_right (length r.rows) (ltb-false limit (length r.attrs) both.0),
      rows_bounded limit relations both.1,
      sum_by-cons (λ (q : Relation). length q.attrs * length q.rows) r relations,
      ap (λ (k : ℕ). limit * k) (sum_by-cons (λ (q : Relation). length q.rows) r relations),
    )

-- ---- all statements

-- as many statements as the four kinds have
kinds_together : (n : Numbers) (pairs tops lasts : List Block)
    → length (flat_map (block_statements n) (pairs ++ tops ++ lasts ++ Answers ∷ []))
    ≡ length (flat_map (block_statements n) pairs) + length (flat_map (block_statements n) tops) + length
    (flat_map (block_statements n) lasts) + n.answers
kinds_together n pairs tops lasts =
    omega (
      arith,
      joined_append (block_statements n) (pairs ++ tops ++ lasts) (Answers ∷ []),
      joined_append (block_statements n) (pairs ++ tops) lasts,
      joined_append (block_statements n) pairs tops,
      answers_counted n,
    )

statements_bounded : (relations : List Relation) (wanted : Wanted)
    → length (statements_of (numbers_of relations wanted)) ≤ order_variables relations + 2 * row_variables relations
    + wanted.answers
unfolding order_variables
statements_bounded relations wanted =
    let n = numbers_of relations wanted in
    let at : AreNumberedFrom n n.tables 0 = λ i. (let same : 0 + i ≡ i = omega arith in ap (slice_get n.tables) same) in
    omega (
      arith,
      kinds_together n (blocks_from Pairs 0 n.tables) (blocks_from Tops 0 n.tables) (blocks_from Lasts 0 n.tables),
      kind_few n wanted.currents Pairs (λ r. entity_pairs r.rows) (pairs_few n wanted.currents) 0 relations at,
      kind_few n wanted.currents Tops (λ r. length r.rows) (tops_few n wanted.currents) 0 relations at,
      kind_few n wanted.currents Lasts (λ r. length r.rows) (lasts_few n wanted.currents) 0 relations at,
    )

-- ---- within the limits

variables_within : (s : Spec) → too_many_variables s ≡ None → order_variables s.relations ≤ 4000000
unfolding too_many_variables
variables_within s none = by (ltb 4000000 (order_variables s.relations)) refl none
  where
    by : (b : Bool) → ltb 4000000 (order_variables s.relations) ≡ b → ◌≡◌ {A = Option ℕ} (if b then Some 10 else None) None
        → order_variables s.relations ≤ 4000000
    by true is found = cc
    by false is found = ltb-false 4000000 (order_variables s.relations) is

-- at most 32 attributes of each relation, and at most 100000 rows together
row_variables_within : (s : Spec) → exceeded s ≡ None → row_variables s.relations ≤ 32 * 100000
unfolding exceeded
row_variables_within s none =
    let each = none_of _ _ _ _ _ _ none in
    let rows = ltb-false 100000 (rows_together s.relations) each.rows in
    omega (arith, rows_bounded 32 s.relations each.attrs, rows)

pub statements_few : (s : Spec) (wanted : Wanted) → IsSpecification s → exceeded s ≡ None → too_many_variables s ≡ None
    → wanted.answers ≤ 1000000 → length (statements_of (numbers_of s.relations wanted)) < 2 ^ 31
statements_few s wanted are within few answers =
    omega (arith, statements_bounded s.relations wanted, variables_within s few, row_variables_within s within, answers)
