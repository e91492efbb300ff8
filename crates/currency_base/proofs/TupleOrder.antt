-- The order of values is total, and equal for equal values alone.
use Rattle.std.proofs.Common.{◌≡◌, refl, ap, List, [], ◌∷◌}
use Rattle.std.specs.Cmp.Lexicographic.{slice_cmp}
use Rattle.std.specs.Cmp.{IsTotalOrder}
use Rattle.std.specs.Ordering.{ordering_then, ordering_reverse}
use Rattle.std.specs.declared.cmp.Ordering.{Ordering}
use Rattle.std.specs.declared.cmp.Ordering.TheVariants.{Less, Equal, Greater}
use Rattle.std.proofs.lemmas.Cmp.{lists_total, int_cmp_total, nat_list_cmp_total}
use Rattle.std.proofs.lemmas.Map.Lookups.{CmpEqualImpliesEq, exact_bytes, exact_signed}
use Rattle.currency_base.specs.Values.{value_cmp}
use Rattle.currency_base.specs.declared.value.Value.{Value}
use Rattle.currency_base.specs.declared.value.Value.TheVariants.{Int, Text}

pub exact_values : CmpEqualImpliesEq value_cmp
exact_values (Int a) (Int b) e = ap Int (exact_signed a b e)
exact_values (Int a) (Text b) e = cc
exact_values (Text a) (Int b) e = cc
exact_values (Text a) (Text b) e = ap Text (exact_bytes a b e)

both_equal : (o p : Ordering) → ordering_then o p ≡ Equal → (o ≡ Equal) × (p ≡ Equal)
both_equal Less p e = cc
both_equal Equal p e = (refl, e)
both_equal Greater p e = cc

pub exact_tuples : (a b : List Value) → slice_cmp value_cmp a b ≡ Equal → a ≡ b
exact_tuples [] [] e = refl
exact_tuples [] (y ∷ ys) e = cc
exact_tuples (x ∷ xs) [] e = cc
exact_tuples (x ∷ xs) (y ∷ ys) e =
    let both = both_equal (value_cmp x y) (slice_cmp value_cmp xs ys) e in let first : x ≡ y = exact_values x y
    both.0 in let rest : xs ≡ ys = exact_tuples xs ys both.1 in cc

value_antisymm : (x y : Value) → value_cmp x y ≡ ordering_reverse (value_cmp y x)
value_antisymm (Int a) (Int b) = int_cmp_total.antisymm a b
value_antisymm (Int a) (Text b) = refl
value_antisymm (Text a) (Int b) = refl
value_antisymm (Text a) (Text b) = nat_list_cmp_total.antisymm a b

value_trans : (x y z : Value) → value_cmp x y ≡ Less → value_cmp y z ≡ Less → value_cmp x z ≡ Less
value_trans (Int a) (Int b) (Int c) p q = int_cmp_total.trans a b c p q
value_trans (Int a) (Int b) (Text c) p q = refl
value_trans (Int a) (Text b) (Int c) p q = cc
value_trans (Int a) (Text b) (Text c) p q = refl
value_trans (Text a) (Int b) z p q = cc
value_trans (Text a) (Text b) (Int c) p q = cc
value_trans (Text a) (Text b) (Text c) p q = nat_list_cmp_total.trans a b c p q

value_congr : (x y z : Value) → value_cmp x y ≡ Equal → value_cmp x z ≡ value_cmp y z
value_congr x y z e = ap (λ v. value_cmp v z) (exact_values x y e)

pub tuple_total : IsTotalOrder (slice_cmp value_cmp)
tuple_total = lists_total record { antisymm = value_antisymm; trans = value_trans; congr = value_congr }
