-- The order of values is total, and equal for equal values alone.
use Rattle.std.specs.Prelude.{◌≡◌, refl}
use Rattle.std.proofs.Common.{ap, subst}
use Rattle.std.specs.Cmp.{IsTotalOrder}
use Rattle.std.specs.Ordering.{ordering_reverse}
use Rattle.std.specs.declared.cmp.Ordering.{Ordering}
use Rattle.std.specs.declared.cmp.Ordering.TheVariants.{Less, Equal, Greater}
use Rattle.std.proofs.lemmas.Cmp.{int_cmp_total, nat_list_cmp_total}
use Rattle.std.proofs.lemmas.Map.Lookups.{CmpEqualImpliesEq, exact_bytes, exact_signed}
use Rattle.currency_base.specs.Values.{value_cmp}
use Rattle.currency_base.specs.declared.value.Value.{Value}
use Rattle.currency_base.specs.declared.value.Value.TheVariants.{Int, Text}

abbrev IsLess : Ordering → Type 0
IsLess Less = Unit {0}
IsLess Equal = ⊥
IsLess Greater = ⊥

abbrev IsGreater : Ordering → Type 0
IsGreater Less = ⊥
IsGreater Equal = ⊥
IsGreater Greater = Unit {0}

pub exact_values : CmpEqualImpliesEq value_cmp
exact_values (Int a) (Int b) e = ap Int (exact_signed a b e)
exact_values (Int a) (Text b) e = absurd (subst IsLess e tt)
exact_values (Text a) (Int b) e = absurd (subst IsGreater e tt)
exact_values (Text a) (Text b) e = ap Text (exact_bytes a b e)

pub value_antisymm : (x y : Value) → value_cmp x y ≡ ordering_reverse (value_cmp y x)
value_antisymm (Int a) (Int b) = int_cmp_total.antisymm a b
value_antisymm (Int a) (Text b) = refl
value_antisymm (Text a) (Int b) = refl
value_antisymm (Text a) (Text b) = nat_list_cmp_total.antisymm a b

pub value_trans : (x y z : Value) → value_cmp x y ≡ Less → value_cmp y z ≡ Less → value_cmp x z ≡ Less
value_trans (Int a) (Int b) (Int c) p q = int_cmp_total.trans a b c p q
value_trans (Int a) (Int b) (Text c) p q = refl
value_trans (Int a) (Text b) (Int c) p q = absurd (subst IsGreater q tt)
value_trans (Int a) (Text b) (Text c) p q = refl
value_trans (Text a) (Int b) z p q = absurd (subst IsGreater p tt)
value_trans (Text a) (Text b) (Int c) p q = absurd (subst IsGreater q tt)
value_trans (Text a) (Text b) (Text c) p q = nat_list_cmp_total.trans a b c p q

pub value_total : IsTotalOrder value_cmp
value_total = record {
  antisymm = value_antisymm;
  trans = value_trans;
  congr = λ x y z e. ap (λ v. value_cmp v z)
      (exact_values x y e);
}
