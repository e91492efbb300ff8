-- Where no place has a difference, two rows have equal values at each place.
use Rattle.std.proofs.Common.{◌≡◌, ◌+◌, ◌<◌, ℕ, suc, Bool, true, false, cond, pos, List, [], ◌∷◌, Option, Some, None, All, length, get_or, slice_get, refl, sym, ap, ap₂, ◌∙◌, arith}
use Rattle.std.specs.Ordering.{nat_cmp, int_cmp}
use Rattle.std.specs.Cmp.Lexicographic.{slice_cmp}
use Rattle.std.specs.declared.cmp.Ordering.{Ordering}
use Rattle.std.specs.declared.cmp.Ordering.TheVariants.{Less, Equal, Greater}
use Rattle.std.proofs.lemmas.Bool.{false≢true}
use Rattle.std.proofs.lemmas.List.Elements.{All-cons}
use Rattle.std.proofs.lemmas.Map.Lookups.{exact_signed, exact_bytes}
use Rattle.std.proofs.lemmas.Option.{none-some, slice_get-get_or}
use Rattle.currency_base.specs.Values.{holds_at, value_test}
use Rattle.currency_base.specs.declared.value.Cmp.TheVariants.{Eq}
use Rattle.currency_base.specs.declared.value.Value.{Value}
use Rattle.currency_base.specs.declared.value.Value.TheVariants.{Int, Text}
use Rattle.copy_functions.specs.Copies.{AreEqualAt}
use Rattle.copy_functions.specs.Faults.{differing, found_or, first_difference}
use Rattle.copy_functions.specs.declared.place.Place.{Place}

are_equal : (order : Ordering) → holds_at Eq order ≡ true → order ≡ Equal
are_equal Less e = absurd (false≢true e)
are_equal Equal e = refl
are_equal Greater e = absurd (false≢true e)

-- two values of which the test says that they are equal are one
same_value : (a b : Value) → value_test Eq a b ≡ true → a ≡ b
same_value (Int a) (Int b) e = ap Int (exact_signed a b (are_equal (int_cmp a b) e))
same_value (Int a) (Text b) e = absurd (false≢true e)
same_value (Text a) (Int b) e = absurd (false≢true e)
same_value (Text a) (Text b) e = ap Text (exact_bytes a b (are_equal (slice_cmp nat_cmp a b) e))

-- two values that do not differ are one
no_difference : (a b : Value) → differing (Some a) (Some b) ≡ None → a ≡ b
no_difference a b none = go (value_test Eq a b) refl none
  where
    go : (t : Bool) → value_test Eq a b ≡ t → cond {A = Option (Value × Value)} t None (Some (a, b)) ≡ None → a ≡ b
    go true e none = same_value a b e
    go false e none = absurd (none-some (a, b) (sym none))

equal_at : (place : Place) (target source : List Value) → place.target.0 < length target → place.source.0 < length source
    → differing (slice_get target place.target.0) (slice_get source place.source.0) ≡ None → AreEqualAt target source place
equal_at place target source in_target in_source none =
    let a : Value = get_or target place.target.0 (Int (pos 0)) in
    let b : Value = get_or source place.source.0 (Int (pos 0)) in
    let at_a : slice_get target place.target.0 ≡ Some a = slice_get-get_or target place.target.0 (Int (pos 0)) in_target in
    let at_b : slice_get source place.source.0 ≡ Some b = slice_get-get_or source place.source.0 (Int (pos 0)) in_source in
    let both : differing (Some a) (Some b) ≡ None = sym (ap₂ differing at_a at_b) ∙ none in
    record { value = a; in_target = at_a; in_source = at_b ∙ ap Some (sym (no_difference a b both)) }

none_found : (at : ℕ) (here : Option (Value × Value)) (later : Option (ℕ × Value × Value)) → found_or at here later ≡
    None → (here ≡ None) × (later ≡ None)
none_found at None later none = (refl, none)
none_found at (Some (a, b)) later none = absurd (none-some (at, a, b) (sym none))

-- where the first difference is none, the values are equal at each place
pub equal_at_each : (at : ℕ) (places : List Place) (target source : List Value) → All (λ p. p.target.0 < length target) places
    → All (λ p. p.source.0 < length source) places → first_difference at places target source ≡ None
    → All (AreEqualAt target source) places
equal_at_each at [] target source in_target in_source none = λ k d below. absurd (omega arith)
equal_at_each at (place ∷ places) target source in_target in_source none =
    let split = none_found at (differing (slice_get target place.target.0) (slice_get source place.source.0))
    (first_difference (at + 1) places target source) none in
    let first = equal_at place target source (in_target 0 place (omega arith)) (in_source 0 place (omega arith)) split.0 in
    let rest = equal_at_each (at + 1) places target source (λ k d below. in_target (suc k) d (omega arith))
    (λ k d below. in_source (suc k) d (omega arith)) split.1 in
    All-cons (AreEqualAt target source) place places first rest
