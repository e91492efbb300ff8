-- Limits do not ask for given pairs: with others at one relation they are as they were.
use Rattle.std.proofs.Common.{◌≡◌, ◌*◌, ◌∙◌, ◌∷◌, [], ℕ, Bool, ltb, List, length, length-set, zero, suc, Some, None, slice_get, slice_set, refl, sym, ap, arith}
use Rattle.std.specs.Prelude.{◌||◌, if◌then◌else◌}
use Rattle.std.specs.List.{list_any, sum_by}
use Rattle.std.proofs.lemmas.List.Sums.{sum_by-set}
use Rattle.std.proofs.lemmas.Option.{get_or_from_slice_get, slice_get_within}
use Rattle.currency_base.specs.declared.pair.Pair.{Pair}
use Rattle.spec_model.specs.Spec.{Spec}
use Rattle.spec_model.specs.declared.relation.Relation.{Relation}
use Rattle.spec_limits.specs.Limits.{entity_pairs, exceeded, is_crowded, order_variables, rows_together, too_many_variables}
use Rattle.spec_limits.proofs.Chain.{same_least}

-- a test of an item that stands where one with the same answer stood
any_set : {A : Type 0} (p : A → Bool) (xs : List A) (i : ℕ) (x y : A) → slice_get xs i ≡ Some x → p y ≡ p x
    → list_any p (slice_set xs i y) ≡ list_any p xs
any_set p [] i x y at is = refl
any_set p (a ∷ xs) zero x y at is = let same : a ≡ x = cc in ap (λ b. b || list_any p xs) (is ∙ ap p (sym same))
any_set p (a ∷ xs) (suc i) x y at is = ap (λ b. p a || b) (any_set p xs i x y at is)

-- a sum with an item that stands where one of the same number stood
sum_set : {A : Type 0} (f : A → ℕ) (xs : List A) (i : ℕ) (x y : A) → slice_get xs i ≡ Some x → f y ≡ f x
    → sum_by f (slice_set xs i y) ≡ sum_by f xs
sum_set f xs i x y at is =
    omega (arith, sum_by-set f xs i y x (slice_get_within xs i x at), ap f (get_or_from_slice_get xs i x x at), is)

-- the relations with other given pairs at one of them
abbrev pub giving : List Relation → ℕ → Relation → List Pair → List Relation
giving relations rel r given = slice_set relations rel (record r { given = given })

pub rows_together_given : (relations : List Relation) (rel : ℕ) (r : Relation) (given : List Pair)
    → slice_get relations rel ≡ Some r
    → rows_together (giving relations rel r given) ≡ rows_together relations
rows_together_given relations rel r given at =
    sum_set (λ (q : Relation). length q.rows) relations rel r (record r { given = given }) at refl

pub exceeded_given : (s : Spec) (rel : ℕ) (r : Relation) (given : List Pair) → slice_get s.relations rel ≡ Some r
    → exceeded (record s { relations = giving s.relations rel r given }) ≡ exceeded s
unfolding exceeded
exceeded_given s rel r given at =
    same_least _ _ _ _ _ _ _ _ _ _ _ _
    (ap (ltb 64) (length-set s.relations rel (record r { given = given })))
    (any_set (λ (q : Relation). ltb 32 (length q.attrs)) s.relations rel r (record r { given = given }) at refl)
    (ap (ltb 100000) (rows_together_given s.relations rel r given at))
    (any_set (λ (q : Relation). is_crowded q.rows) s.relations rel r (record r { given = given }) at refl)
    refl refl

pub order_variables_given : (relations : List Relation) (rel : ℕ) (r : Relation) (given : List Pair)
    → slice_get relations rel ≡ Some r
    → order_variables (giving relations rel r given) ≡ order_variables relations
unfolding order_variables
order_variables_given relations rel r given at =
    sum_set (λ (q : Relation). length q.attrs * entity_pairs q.rows) relations rel r (record r { given = given }) at refl

pub too_many_variables_given : (s : Spec) (rel : ℕ) (r : Relation) (given : List Pair) → slice_get s.relations rel ≡ Some r
    → too_many_variables (record s { relations = giving s.relations rel r given }) ≡ too_many_variables s
unfolding too_many_variables
too_many_variables_given s rel r given at =
    ap (λ n. if ltb 4000000 n then Some 10 else None) (order_variables_given s.relations rel r given at)
