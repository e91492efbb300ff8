-- What the test for equal values tells.
use Rattle.std.proofs.Common.{◌≡◌, true, Option, Some, None, ℕ, refl, ap}
use Rattle.std.proofs.lemmas.Bool.{false≢true, eqb-true}
use Rattle.std.proofs.lemmas.Cmp.{int_cmp_total, nat_list_cmp_total}
use Rattle.std.proofs.lemmas.Map.Lookups.{exact_bytes, exact_signed}
use Rattle.std.specs.Ordering.{ordering_reverse}
use Rattle.std.specs.declared.cmp.Ordering.{Ordering}
use Rattle.std.specs.declared.cmp.Ordering.TheVariants.{Less, Equal, Greater}
use Rattle.currency_base.specs.Values.{value_cmp, holds_at}
use Rattle.currency_base.specs.declared.value.Cmp.TheVariants.{Eq}
use Rattle.currency_base.specs.declared.value.Value.{Value}
use Rattle.currency_base.specs.declared.value.Value.TheVariants.{Int, Text}
use Rattle.denial_rules.specs.Instances.{is_compared}
use Rattle.value_names.specs.Names.{is_one_entity}

equal_order : (o : Ordering) → holds_at Eq o ≡ true → o ≡ Equal
equal_order Less e = absurd (false≢true e)
equal_order Equal e = refl
equal_order Greater e = absurd (false≢true e)

one_value : (a b : Value) → value_cmp a b ≡ Equal → a ≡ b
one_value (Int a) (Int b) e = ap Int (exact_signed a b e)
one_value (Int a) (Text b) e = cc
one_value (Text a) (Int b) e = cc
one_value (Text a) (Text b) e = ap Text (exact_bytes a b e)

turned_to_itself : (o : Ordering) → o ≡ ordering_reverse o → o ≡ Equal
turned_to_itself Less e = cc
turned_to_itself Equal e = refl
turned_to_itself Greater e = cc

to_itself : (v : Value) → value_cmp v v ≡ Equal
to_itself (Int a) = turned_to_itself _ (int_cmp_total.antisymm a a)
to_itself (Text a) = turned_to_itself _ (nat_list_cmp_total.antisymm a a)

-- two values that are there and compare as equal are one
pub equal_is : (a b : Option Value) → is_compared a Eq b ≡ true → (v : Value) × (a ≡ Some v) × (b ≡ Some v)
equal_is (Some a) (Some b) e = (b, ap Some (one_value a b (equal_order (value_cmp a b) e)), refl)
equal_is (Some a) None e = absurd (false≢true e)
equal_is None b e = absurd (false≢true e)

-- a value compares as equal to itself
pub is_equal : (v : Value) → is_compared (Some v) Eq (Some v) ≡ true
is_equal v = ap (holds_at Eq) (to_itself v)

-- two entities that are there and are one
pub entity_is_one : (a b : Option ℕ) → is_one_entity a b ≡ true → (ent : ℕ) × (a ≡ Some ent) × (b ≡ Some ent)
entity_is_one (Some a) (Some b) e = (b, ap Some (eqb-true a b e), refl)
entity_is_one (Some a) None e = absurd (false≢true e)
entity_is_one None b e = absurd (false≢true e)
