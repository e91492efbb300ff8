-- The values that a head and its tuple give variables.
use Rattle.std.proofs.Common.{◌≡◌, ◌∙◌, ◌<◌, ℕ, zero, suc, Bool, true, false, List, [], ◌∷◌, Option, Some, None, if◌then◌else◌, ◌==◌, drop, length, map, slice_get, refl, sym, ap, ap₂, ⊎_elim, arith}
use Rattle.std.specs.Ordering.{nat_cmp, int_cmp, ordering_reverse}
use Rattle.std.specs.Cmp.Lexicographic.{slice_cmp}
use Rattle.std.specs.declared.cmp.Ordering.{Ordering}
use Rattle.std.specs.declared.cmp.Ordering.TheVariants.{Less, Equal, Greater}
use Rattle.std.proofs.lemmas.Bool.{false≢true, cases_eq, eq-eqb, ne_eqb, eqb-true, and_from, and_parts}
use Rattle.std.proofs.lemmas.Cmp.{int_cmp_total, nat_list_cmp_total}
use Rattle.std.proofs.lemmas.List.{length-map}
use Rattle.std.proofs.lemmas.Map.Lookups.{exact_signed, exact_bytes}
use Rattle.std.proofs.lemmas.Option.{same_Some, none-some}
use Rattle.currency_base.specs.Values.{holds_at, value_test}
use Rattle.currency_base.specs.declared.value.Cmp.TheVariants.{Eq}
use Rattle.currency_base.specs.declared.value.Value.{Value}
use Rattle.currency_base.specs.declared.value.Value.TheVariants.{Int, Text}
use Rattle.query_model.specs.Answers.{IsHead}
use Rattle.unit_questions.specs.Substituted.{fits_head, given_value, is_value}

-- ---- equal values

are_equal : (order : Ordering) → holds_at Eq order ≡ true → order ≡ Equal
are_equal Less e = absurd (false≢true e)
are_equal Equal e = refl
are_equal Greater e = absurd (false≢true e)

-- two values of which the test says that they are equal are one
one_value : (a b : Value) → value_test Eq a b ≡ true → a ≡ b
one_value (Int a) (Int b) e = ap Int (exact_signed a b (are_equal (int_cmp a b) e))
one_value (Int a) (Text b) e = absurd (false≢true e)
one_value (Text a) (Int b) e = absurd (false≢true e)
one_value (Text a) (Text b) e = ap Text (exact_bytes a b (are_equal (slice_cmp nat_cmp a b) e))

own : (order : Ordering) → order ≡ ordering_reverse order → holds_at Eq order ≡ true
own Less e = cc
own Equal e = refl
own Greater e = cc

-- and it says so of a value and itself
value_itself : (a : Value) → value_test Eq a a ≡ true
value_itself (Int a) = own (int_cmp a a) (int_cmp_total.antisymm a a)
value_itself (Text a) = own (slice_cmp nat_cmp a a) (nat_list_cmp_total.antisymm a a)

-- ---- equal lists

pub first_same : {A : Type 0} (x y : A) (xs ys : List A) → x ∷ xs ≡ y ∷ ys → x ≡ y
first_same x y xs ys e = same_Some x y (ap (λ l. slice_get l 0) e)

pub rest_same : {A : Type 0} (x y : A) (xs ys : List A) → x ∷ xs ≡ y ∷ ys → xs ≡ ys
rest_same x y xs ys e = ap (λ l. drop 1 l) e

pub none_more : {A : Type 0} (y : A) (ys : List A) → [] ≡ y ∷ ys → ⊥
none_more y ys e = none-some y (ap (λ l. slice_get l 0) e)

-- ---- the value of a variable

-- what a head says of its places, it says of the values that it gives
pub head_given : {A : Type 0} (f : Value → A) (xs : List A) (head : List ℕ) (tuple : List Value)
    → map (λ v. slice_get xs v) head ≡ map (λ x. Some (f x)) tuple → (v : ℕ) (x : Value) → given_value head tuple v ≡ Some x
    → slice_get xs v ≡ Some (f x)
head_given f xs [] tuple same v x is = absurd (none-some x is)
head_given f xs (w ∷ head) [] same v x is = absurd (none-some x is)
head_given f xs (w ∷ head) (y ∷ tuple) same v x is =
    go (w == v) refl is
    (head_given f xs head tuple (rest_same _ _ (map (λ u. slice_get xs u) head) (map (λ z. Some (f z)) tuple) same) v x)
  where
    go : (test : Bool) → (w == v) ≡ test → (if test then Some y else given_value head tuple v) ≡ Some x
        → (given_value head tuple v ≡ Some x → slice_get xs v ≡ Some (f x)) → slice_get xs v ≡ Some (f x)
    go true equal is rest =
        ap (slice_get xs) (sym (eqb-true w v equal))
        ∙ first_same _ _ (map (λ u. slice_get xs u) head) (map (λ z. Some (f z)) tuple) same
        ∙ ap (λ z. Some (f z)) (same_Some y x is)
    go false differs is rest = rest is

-- each variable of the head has one
pub head_has : (head : List ℕ) (tuple : List Value) → length head ≡ length tuple → (k v : ℕ) → slice_get head k ≡ Some v
    → (x : Value) × (given_value head tuple v ≡ Some x)
head_has [] tuple many k v at = absurd (none-some v at)
head_has (w ∷ head) [] many k v at = absurd (omega (arith, many))
head_has (w ∷ head) (y ∷ tuple) many k v at = ⊎_elim
    (λ (same : w ≡ v). (y, ap (λ test. if test then Some y else given_value head tuple v) (eq-eqb w v same)))
    (λ (apart : w ≡ v → ⊥).
    let r = behind k at apart (head_has head tuple (omega (arith, many))) in
    (r.0, ap (λ test. if test then Some y else given_value head tuple v) (ne_eqb w v apart) ∙ r.1))
    (cases_eq w v)
  where
    behind : (k : ℕ) → slice_get (w ∷ head) k ≡ Some v → (w ≡ v → ⊥)
        → ((k v : ℕ) → slice_get head k ≡ Some v → (x : Value) × (given_value head tuple v ≡ Some x))
        → (x : Value) × (given_value head tuple v ≡ Some x)
    behind zero at apart rest = absurd (apart (same_Some w v at))
    behind (suc k) at apart rest = rest k v at

-- ---- heads that a tuple fits

pub head_length : (values : List Value) (head : List ℕ) (tuple : List Value) → IsHead values head tuple
    → length head ≡ length tuple
head_length values head tuple is =
    sym (length-map head (λ v. slice_get values v)) ∙ ap (λ l. length l) is ∙ length-map tuple (λ x. Some x)

pub fits_from : (g : ℕ → Option Value) (values : List Value) → ((v : ℕ) (x : Value) → g v ≡ Some x → slice_get values v ≡ Some x)
    → (head : List ℕ) (tuple : List Value) → ((k v : ℕ) → slice_get head k ≡ Some v → (x : Value) × (g v ≡ Some x))
    → IsHead values head tuple → fits_head g head tuple ≡ true
fits_from g values given [] [] has is = refl
fits_from g values given [] (x ∷ tuple) has is = absurd (none_more (Some x) (map (λ z. Some z) tuple) is)
fits_from g values given (v ∷ head) [] has is =
    absurd (none_more (slice_get values v) (map (λ u. slice_get values u) head) (sym is))
fits_from g values given (v ∷ head) (x ∷ tuple) has is =
    let y = has 0 v refl in
    let same : y.0 ≡ x =
    same_Some y.0 x
    (sym (given v y.0 y.1) ∙ first_same _ _ (map (λ u. slice_get values u) head) (map (λ z. Some z) tuple) is) in
    and_from (is_value x (g v)) (fits_head g head tuple)
    (ap (is_value x) y.1 ∙ ap (λ z. value_test Eq z x) same ∙ value_itself x)
    (fits_from g values given head tuple (λ k. has (suc k))
    (rest_same _ _ (map (λ u. slice_get values u) head) (map (λ z. Some z) tuple) is))

valued : (o : Option Value) (x : Value) → is_value x o ≡ true → o ≡ Some x
valued None x e = absurd (false≢true e)
valued (Some y) x e = ap (λ z. Some z) (one_value y x e)

pub fits_to : (g : ℕ → Option Value) (n : ℕ) (values : List Value)
    → ((v : ℕ) (x : Value) → v < n → g v ≡ Some x → slice_get values v ≡ Some x) → (head : List ℕ) (tuple : List Value)
    → ((k v : ℕ) → slice_get head k ≡ Some v → v < n) → fits_head g head tuple ≡ true → IsHead values head tuple
fits_to g n values given [] [] within fits = refl
fits_to g n values given [] (x ∷ tuple) within fits = absurd (false≢true fits)
fits_to g n values given (v ∷ head) [] within fits = absurd (false≢true fits)
fits_to g n values given (v ∷ head) (x ∷ tuple) within fits =
    let both = and_parts (is_value x (g v)) (fits_head g head tuple) fits in
    ap₂ (λ o os. o ∷ os) (given v x (within 0 v refl) (valued (g v) x both.0))
    (fits_to g n values given head tuple (λ k. within (suc k)) both.1)

-- a tuple that fits has as many values as the head has places
pub fits_length : (g : ℕ → Option Value) (head : List ℕ) (tuple : List Value) → fits_head g head tuple ≡ true
    → length head ≡ length tuple
fits_length g [] [] fits = refl
fits_length g [] (x ∷ tuple) fits = absurd (false≢true fits)
fits_length g (v ∷ head) [] fits = absurd (false≢true fits)
fits_length g (v ∷ head) (x ∷ tuple) fits =
    ap (λ m. suc m) (fits_length g head tuple (and_parts (is_value x (g v)) (fits_head g head tuple) fits).1)
