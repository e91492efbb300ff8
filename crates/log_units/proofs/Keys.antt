-- Keys that compare as equal are equal.
use Rattle.std.proofs.Common.{◌≡◌, ℕ, true, List, refl, ◌∙◌}
use Rattle.std.proofs.lemmas.Bool.{and_parts, false≢true}
use Rattle.std.proofs.lemmas.Cmp.{nat_cmp_total}
use Rattle.std.proofs.lemmas.Map.Lookups.{exact_unsigned}
use Rattle.std.specs.Cmp.{IsTotalOrder, tied_then}
use Rattle.std.specs.Cmp.Lexicographic.{slice_cmp}
use Rattle.std.specs.Ordering.{is_eq, nat_cmp, on, ordering_reverse, ordering_then, then_cmp}
use Rattle.std.specs.declared.cmp.Ordering.{Ordering}
use Rattle.std.specs.declared.cmp.Ordering.TheVariants.{Less, Equal, Greater}
use Rattle.currency_base.specs.Values.{value_cmp}
use Rattle.currency_base.specs.declared.value.Value.{Value}
use Rattle.log_units.specs.Said.{place_cmp}
use Rattle.log_units.specs.declared.said.Place.{Place}
use Rattle.log_units.specs.declared.said.SaidPair.{SaidPair}

-- ---- numbers

equal_order : (o : Ordering) → is_eq o ≡ true → o ≡ Equal
equal_order Less e = absurd (false≢true e)
equal_order Equal e = refl
equal_order Greater e = absurd (false≢true e)

own : (o : Ordering) → o ≡ ordering_reverse o → is_eq o ≡ true
own Less e = cc
own Equal e = refl
own Greater e = cc

number_is : (a b : ℕ) → is_eq (nat_cmp a b) ≡ true → a ≡ b
number_is a b e = exact_unsigned a b (equal_order (nat_cmp a b) e)

number_itself : (a : ℕ) → is_eq (nat_cmp a a) ≡ true
number_itself a = own (nat_cmp a a) (nat_cmp_total.antisymm a a)

parts : (o p : Ordering) → is_eq (ordering_then o p) ≡ true → (is_eq o ≡ true) × (is_eq p ≡ true)
parts o p e = and_parts (is_eq o) (is_eq p) (tied_then o p ∙ e)

both : (o p : Ordering) → is_eq o ≡ true → is_eq p ≡ true → is_eq (ordering_then o p) ≡ true
both o p e f = rw (equal_order o e) f

-- ---- keys

-- the order of pairs
abbrev pub pair_cmp : SaidPair → SaidPair → Ordering
pair_cmp =
    then_cmp (on (λ p. p.rel.0) nat_cmp)
    (then_cmp (on (λ p. p.attr.0) nat_cmp) (then_cmp (on (λ p. p.earlier.0) nat_cmp) (on (λ p. p.later.0) nat_cmp)))

abbrev pair : ℕ → ℕ → ℕ → ℕ → SaidPair
pair rel attr earlier later =
    record {
      rel = record { 0 = rel };
      attr = record { 0 = attr };
      earlier = record { 0 = earlier };
      later =
          record { 0 = later };
    }

pub pair_is : (x y : SaidPair) → is_eq (pair_cmp x y) ≡ true → x ≡ y
pair_is x y e =
    let rel = parts (nat_cmp x.rel.0 y.rel.0) _ e in
    let attr = parts (nat_cmp x.attr.0 y.attr.0) _ rel.1 in
    let rows = parts (nat_cmp x.earlier.0 y.earlier.0) (nat_cmp x.later.0 y.later.0) attr.1 in
    of x.rel.0 y.rel.0 x.attr.0 y.attr.0 x.earlier.0 y.earlier.0 x.later.0 y.later.0
    (number_is x.rel.0 y.rel.0 rel.0) (number_is x.attr.0 y.attr.0 attr.0)
    (number_is x.earlier.0 y.earlier.0 rows.0) (number_is x.later.0 y.later.0 rows.1)
  where
    of : (r r' t t' a a' b b' : ℕ) → r ≡ r' → t ≡ t' → a ≡ a' → b ≡ b' → pair r t a b ≡ pair r' t' a' b'
    of r r' t t' a a' b b' e f g h = rw (e, f, g, h) refl

pub pair_itself : (x : SaidPair) → is_eq (pair_cmp x x) ≡ true
pair_itself x =
    both (nat_cmp x.rel.0 x.rel.0) _ (number_itself x.rel.0)
    (both (nat_cmp x.attr.0 x.attr.0) _ (number_itself x.attr.0)
    (both (nat_cmp x.earlier.0 x.earlier.0) (nat_cmp x.later.0 x.later.0) (number_itself x.earlier.0) (number_itself x.later.0)))

abbrev place : ℕ → ℕ → ℕ → Place
place rel attr ent = record { rel = record { 0 = rel }; attr = record { 0 = attr }; ent = record { 0 = ent } }

pub place_is : (x y : Place) → is_eq (place_cmp x y) ≡ true → x ≡ y
place_is x y e =
    let rel = parts (nat_cmp x.rel.0 y.rel.0) _ e in
    let rest = parts (nat_cmp x.attr.0 y.attr.0) (nat_cmp x.ent.0 y.ent.0) rel.1 in
    of x.rel.0 y.rel.0 x.attr.0 y.attr.0 x.ent.0 y.ent.0
    (number_is x.rel.0 y.rel.0 rel.0) (number_is x.attr.0 y.attr.0 rest.0) (number_is x.ent.0 y.ent.0 rest.1)
  where
    of : (r r' t t' n n' : ℕ) → r ≡ r' → t ≡ t' → n ≡ n' → place r t n ≡ place r' t' n'
    of r r' t t' n n' e f g = rw (e, f, g) refl

pub place_itself : (x : Place) → is_eq (place_cmp x x) ≡ true
place_itself x =
    both (nat_cmp x.rel.0 x.rel.0) _ (number_itself x.rel.0)
    (both (nat_cmp x.attr.0 x.attr.0) (nat_cmp x.ent.0 x.ent.0) (number_itself x.attr.0) (number_itself x.ent.0))

-- ---- tuples

abbrev pub tuple_cmp : List Value → List Value → Ordering
tuple_cmp = slice_cmp value_cmp

-- by the laws of the order of tuples
pub tuple_is : ((a b : List Value) → tuple_cmp a b ≡ Equal → a ≡ b) → (x y : List Value) → is_eq (tuple_cmp x y) ≡ true → x ≡ y
tuple_is exact x y e = exact x y (equal_order (tuple_cmp x y) e)

pub tuple_itself : IsTotalOrder tuple_cmp → (x : List Value) → is_eq (tuple_cmp x x) ≡ true
tuple_itself total x = own (tuple_cmp x x) (total.antisymm x x)
