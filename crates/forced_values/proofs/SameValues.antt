-- Values that test as equal are equal.
use Rattle.std.proofs.Common.{◌≡◌, ◌∙◌, true, refl, sym, ap}
use Rattle.std.specs.declared.cmp.Ordering.{Ordering}
use Rattle.std.specs.declared.cmp.Ordering.TheVariants.{Less, Equal, Greater}
use Rattle.std.proofs.lemmas.Bool.{false≢true}
use Rattle.std.proofs.lemmas.Map.Lookups.{exact_signed, exact_bytes}
use Rattle.currency_base.specs.Values.{holds_at, value_cmp, value_test}
use Rattle.currency_base.specs.declared.value.Cmp.TheVariants as cmp
use Rattle.currency_base.specs.declared.value.Value.{Value}
use Rattle.currency_base.specs.declared.value.Value.TheVariants.{Int, Text}

-- values that compare equal are equal
exact_value : (a b : Value) → value_cmp a b ≡ Equal → a ≡ b
exact_value (Int a) (Int b) e = ap Int (exact_signed a b e)
exact_value (Int a) (Text b) e = cc
exact_value (Text a) (Int b) e = cc
exact_value (Text a) (Text b) e = ap Text (exact_bytes a b e)

-- where the test says so they are equal
pub equal_same : (a b : Value) → value_test cmp.Eq a b ≡ true → a ≡ b
equal_same a b told = go (value_cmp a b) refl
  where
    go : (order : Ordering) → value_cmp a b ≡ order → a ≡ b
    go Less is = absurd (false≢true (sym (ap (holds_at cmp.Eq) is) ∙ told))
    go Equal is = exact_value a b is
    go Greater is = absurd (false≢true (sym (ap (holds_at cmp.Eq) is) ∙ told))
