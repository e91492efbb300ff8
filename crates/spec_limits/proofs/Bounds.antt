-- The variables of orders, relation by relation.
use Rattle.std.proofs.Common.{◌≡◌, ◌<◌, ◌≤◌, ◌+◌, ◌*◌, ◌∙◌, ℕ, true, false, ltb, List, length, get_or, take, Some, None, refl, sym, ap}
use Rattle.std.proofs.lemmas.List.Sums.{sum_by_more, sum_by-take-le}
use Rattle.std.proofs.Math.Nat.{mul_comm}
use Rattle.currency_base.specs.declared.row.Row.{Row}
use Rattle.spec_model.specs.Spec.{Spec}
use Rattle.spec_model.specs.declared.relation.Relation.{Relation}
use Rattle.spec_limits.specs.Limits.{entity_pairs, order_variables, too_many_variables}

abbrev pub of_relation : Relation → ℕ
of_relation r = length r.attrs * entity_pairs r.rows

-- the variables of a relation
pub product : (r : Relation) (pairs attrs : ℕ) (rows : List Row) → rows ≡ r.rows → pairs ≡ entity_pairs rows
    → attrs ≡ length r.attrs
    → pairs * attrs ≡ length r.attrs * entity_pairs r.rows
product r pairs attrs rows are is many =
    ap (λ p. p * attrs) (is ∙ ap entity_pairs are) ∙ ap (λ n. entity_pairs r.rows * n) many
    ∙ mul_comm (entity_pairs r.rows) (length r.attrs)

-- no relation
pub none_yet : (relations : List Relation) → 4000000 + order_variables (take 0 relations) ≡ 4000000
unfolding order_variables
none_yet relations = refl

-- one relation more
pub relation_more : (relations : List Relation) (i : ℕ) (r : Relation) → i < length relations → r ≡ get_or relations i r
    → order_variables (take (i + 1) relations) ≡ order_variables (take i relations) + length r.attrs * entity_pairs r.rows
unfolding order_variables
relation_more relations i r lt is =
    sum_by_more of_relation relations i r lt ∙ ap (λ q. order_variables (take i relations) + of_relation q) (sym is)

-- some relations have at most the variables of all
pub some_of_all : (relations : List Relation) (i : ℕ) → order_variables (take i relations) ≤ order_variables relations
unfolding order_variables
some_of_all relations i = sum_by-take-le of_relation relations i

pub many : (s : Spec) → ltb 4000000 (order_variables s.relations) ≡ true → too_many_variables s ≡ Some 10
unfolding too_many_variables
many s is = rw is refl

pub not_many : (s : Spec) → ltb 4000000 (order_variables s.relations) ≡ false → too_many_variables s ≡ None
unfolding too_many_variables
not_many s is = rw is refl
