-- Values are equal exactly where they compare equal.
use Rattle.std.proofs.Common.{◌≡◌, ◌∙◌, ◌⊎◌, true, false, refl, sym, ap, inl, inr}
use Rattle.std.specs.Ordering.{int_cmp, nat_cmp, ordering_reverse}
use Rattle.std.specs.Cmp.Lexicographic.{slice_cmp}
use Rattle.std.specs.declared.cmp.Ordering.{Ordering}
use Rattle.std.specs.declared.cmp.Ordering.TheVariants.{Less, Equal, Greater}
use Rattle.std.proofs.lemmas.Bool.{false≢true}
use Rattle.std.proofs.lemmas.Cmp.{int_cmp_total, nat_list_cmp_total}
use Rattle.std.proofs.lemmas.Map.Lookups.{exact_signed, exact_bytes}
use Rattle.currency_base.specs.Values.{holds_at, value_cmp, value_test}
use Rattle.currency_base.specs.declared.value.Cmp.TheVariants as cmp
use Rattle.currency_base.specs.declared.value.Value.{Value}
use Rattle.currency_base.specs.declared.value.Value.TheVariants.{Int, Text}

-- an order that is its own reverse
own : (order : Ordering) → order ≡ ordering_reverse order → order ≡ Equal
own Less e = cc
own Equal e = refl
own Greater e = cc

-- values that compare equal are equal
exact_value : (a b : Value) → value_cmp a b ≡ Equal → a ≡ b
exact_value (Int a) (Int b) e = ap Int (exact_signed a b e)
exact_value (Int a) (Text b) e = cc
exact_value (Text a) (Int b) e = cc
exact_value (Text a) (Text b) e = ap Text (exact_bytes a b e)

-- a value compares equal to itself
value_itself : (a : Value) → value_cmp a a ≡ Equal
value_itself (Int a) = own (int_cmp a a) (int_cmp_total.antisymm a a)
value_itself (Text a) = own (slice_cmp nat_cmp a a) (nat_list_cmp_total.antisymm a a)

-- one value, or two that are told apart
pub same_or_other : (a b : Value) → (a ≡ b) ⊎ (value_test cmp.Ne a b ≡ true)
same_or_other a b = go (value_cmp a b) refl
  where
    go : (order : Ordering) → value_cmp a b ≡ order → (a ≡ b) ⊎ (value_test cmp.Ne a b ≡ true)
    go Less is = inr (ap (holds_at cmp.Ne) is)
    go Equal is = inl (exact_value a b is)
    go Greater is = inr (ap (holds_at cmp.Ne) is)

-- a value is not another than itself
pub not_other : (a b : Value) → a ≡ b → value_test cmp.Ne a b ≡ true → ⊥
not_other a b same other =
    false≢true (sym (ap (holds_at cmp.Ne) (ap (λ v. value_cmp v b) same ∙ value_itself b)) ∙ other)

-- ---- the test that they are equal

-- where the test says so they are equal
pub equal_same : (a b : Value) → value_test cmp.Eq a b ≡ true → a ≡ b
equal_same a b told = go (value_cmp a b) refl
  where
    go : (order : Ordering) → value_cmp a b ≡ order → a ≡ b
    go Less is = absurd (false≢true (sym (ap (holds_at cmp.Eq) is) ∙ told))
    go Equal is = exact_value a b is
    go Greater is = absurd (false≢true (sym (ap (holds_at cmp.Eq) is) ∙ told))

-- where it says no they are not
pub same_equal : (a b : Value) → value_test cmp.Eq a b ≡ false → a ≡ b → ⊥
same_equal a b told same =
    false≢true (sym told ∙ ap (holds_at cmp.Eq) (ap (λ v. value_cmp v b) same ∙ value_itself b))
