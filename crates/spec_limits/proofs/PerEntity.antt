-- Counts over the numbers of rows and of entities, as counts over the lists of each entity's rows.
use Rattle.std.proofs.Common.{◌≡◌, ◌≢◌, ◌⊎◌, ◌==◌, ◌<◌, ◌+◌, ◌*◌, ◌∙◌, ℕ, suc, Bool, true, false, cond, List, [], ◌∷◌, length, slice_get, Some, refl, sym, ap, arith, inl, inr}
use Rattle.std.specs.List.{count_by, range_with_len, sum_by}
use Rattle.std.proofs.lemmas.Bool.Decides.{eqb_tells}
use Rattle.std.proofs.lemmas.List.Sums.{sum_by-cons}
use Rattle.std.proofs.lemmas.Option.{get_or_from_slice_get, same_Some, slice_get_within}
use Rattle.currency_base.specs.declared.ids.RowId.{RowId}
use Rattle.currency_base.specs.declared.row.Row.{Row}
use Rattle.entity_rows.specs.Members.{members_from, members, AreEntityRows}
use Rattle.spec_model.specs.Pairs.{entity_of}
use Rattle.spec_model.specs.declared.relation.Relation.{Relation}
use Rattle.spec_limits.specs.Instances.{sum_by_entity}
use Rattle.spec_limits.specs.Limits.{rows_of}

-- a sum over the places of a list
pub sum_by-places : {X : Type 0} (f : ℕ → ℕ) (g : X → ℕ) (first : ℕ) (xs : List X) →
    ((i : ℕ) (x : X) → slice_get xs i ≡ Some x → f (first + i) ≡ g x)
    → sum_by f (range_with_len first (length xs)) ≡ sum_by g xs
sum_by-places f g first [] each = refl
sum_by-places f g first (x ∷ xs) each =
    let at : first + 0 ≡ first = omega arith in
    let here : f first ≡ g x = ap f (sym at) ∙ each 0 x refl in
    let rest = sum_by-places f g (first + 1) xs (λ i y is. let moved : first + 1 + i ≡ first + suc i =
    omega arith in ap f moved ∙ each (suc i) y is) in
    sum_by-cons f first (range_with_len (first + 1) (length xs))
    ∙ ap (λ n. n + sum_by f (range_with_len (first + 1) (length xs))) here
    ∙ ap (λ n. g x + n) rest ∙ sym (sum_by-cons g x xs)

-- as many rows of an entity as its list has
pub length-members_from : (first : ℕ) (rows : List Row) (ent : ℕ) → length (members_from first rows ent) ≡ rows_of ent rows
length-members_from first [] ent = refl
length-members_from first (row ∷ rows) ent =
    go (row.entity.0 == ent) (length-members_from (first + 1) rows ent)
    ∙ sym (sum_by-cons (λ (q : Row). cond (q.entity.0 == ent) 1 0) row rows)
  where
    go : (b : Bool) → length (members_from (first + 1) rows ent) ≡ rows_of ent rows
        → length (cond b (record { 0 = first } ∷ members_from (first + 1) rows ent)
        (members_from (first + 1) rows ent)) ≡ cond b 1 0 + rows_of ent rows
    go true rest = omega (arith, rest)
    go false rest = omega (arith, rest)

-- a sum over the entities of a relation
pub entity_sum : (term : ℕ → ℕ) (r : Relation) (lists : List (List RowId)) → AreEntityRows r.rows (length r.entities) lists
    → sum_by_entity term r ≡ sum_by (λ (rows : List RowId). term (length rows)) lists
entity_sum term r lists are =
    let at = λ (ent : ℕ). term (rows_of ent r.rows) in
    ap (λ n. sum_by at (range_with_len 0 n)) (sym are.per_entity)
    ∙ sum_by-places at (λ (rows : List RowId). term (length rows)) 0 lists
    (λ i rows is.
    let number : 0 + i ≡ i = omega arith in
    let below : i < length r.entities = omega (arith, slice_get_within lists i rows is, are.per_entity) in
    let mine : rows ≡ members r.rows i = sym (get_or_from_slice_get lists i rows [] is) ∙ are.each i below in
    ap at number ∙ ap term (sym (length-members_from 0 r.rows i)) ∙ ap (λ (l : List RowId). term (length l)) (sym mine))

-- a test that only rows of an entity pass: as many rows of its list pass it as rows of the table
pub count_by-members : (p : RowId → Bool) (first : ℕ) (rows : List Row) (ent : ℕ)
    → ((place : ℕ) → p (record { 0 = first + place }) ≡ true → entity_of rows place ≡ Some ent)
    → count_by (λ (n : ℕ). p (record { 0 = n })) (range_with_len first (length rows)) ≡ count_by p (members_from first rows ent)
count_by-members p first [] ent only = refl
count_by-members p first (row ∷ rows) ent only =
    let rest = count_by-members p (first + 1) rows ent
    (λ place passes. let moved : first + suc place ≡ first + 1 + place = omega arith in
    only (suc place) (ap (λ (n : ℕ). p (record { 0 = n })) moved ∙ passes)) in
    sum_by-cons (λ (n : ℕ). cond (p (record { 0 = n })) 1 0) first (range_with_len (first + 1) (length rows))
    ∙ ap (λ k. cond (p (record { 0 = first })) 1 0 + k) rest ∙ go (eqb_tells row.entity.0 ent)
  where
    none : (b : Bool) → (b ≡ true → ⊥) → ◌≡◌ {A = ℕ} (cond b 1 0) 0
    none true not = absurd (not refl)
    none false not = refl

    go : (((row.entity.0 == ent) ≡ true) × (row.entity.0 ≡ ent)) ⊎ (((row.entity.0 == ent) ≡ false) × (row.entity.0 ≢ ent))
        → cond (p (record { 0 = first })) 1 0 + count_by p (members_from (first + 1) rows ent)
        ≡ count_by p (cond (row.entity.0 == ent) (record { 0 = first } ∷ members_from (first + 1) rows ent)
        (members_from (first + 1) rows ent))
    go (inl h) = rw h.0 (sym (sum_by-cons (λ (m : RowId). cond (p m) 1 0) (record { 0 = first })
        (members_from (first + 1) rows ent)))
    go (inr h) =
        let at : first + 0 ≡ first = omega arith in
        let here : ◌≡◌ {A = ℕ} (cond (p (record { 0 = first })) 1 0) 0 =
        none (p (record { 0 = first }))
        (λ passes. h.1 (same_Some row.entity.0 ent (only 0 (ap (λ (n : ℕ). p (record { 0 = n })) at ∙ passes)))) in
        rw h.0 (ap (λ k. k + count_by p (members_from (first + 1) rows ent)) here ∙ omega arith)

-- a multiple of a sum
pub mul-sum_by : {X : Type 0} (k : ℕ) (f : X → ℕ) (xs : List X) → k * sum_by f xs ≡ sum_by (λ x. k * f x) xs
mul-sum_by k f [] = omega arith
mul-sum_by k f (x ∷ xs) =
    omega (arith, ap (λ n. k * n) (sum_by-cons f x xs), sum_by-cons (λ x. k * f x) x xs, mul-sum_by k f xs)
