-- The variables that have no value, numbered anew.
use Rattle.std.proofs.Common.{◌≡◌, ◌∙◌, ◌+◌, ◌<◌, ◌≤◌, ℕ, zero, suc, true, false, List, [], ◌∷◌, Option, Some, None, cond, is_none, is_some, option_map, count_by, length, slice_get, refl, sym, ap, ap₂, arith}
use Rattle.std.specs.List.{range_with_len}
use Rattle.std.proofs.lemmas.Bool.{false≢true}
use Rattle.std.proofs.lemmas.List.Sums.{sum_by-cons}
use Rattle.std.proofs.lemmas.Option.{none-some}
use Rattle.currency_base.specs.declared.value.Value.{Value}
use Rattle.unit_questions.specs.Substituted.{left_number}

-- one more, where there is no value
abbrev pub one_more : Option Value → ℕ → ℕ
one_more None n = suc n
one_more (Some x) n = n

-- how many of the first variables have no value
abbrev pub lacking : (ℕ → Option Value) → ℕ → ℕ
lacking given zero = zero
lacking given (suc v) = one_more (given 0) (lacking (λ w. given (suc w)) v)

-- ---- it is the number of a variable

lacking_same : (g h : ℕ → Option Value) → ((w : ℕ) → g w ≡ h w) → (v : ℕ) → lacking g v ≡ lacking h v
lacking_same g h same zero = refl
lacking_same g h same (suc v) =
    ap₂ one_more (same 0) (lacking_same (λ w. g (suc w)) (λ w. h (suc w)) (λ w. same (suc w)) v)

one_is : (o : Option Value) (n : ℕ) → cond (is_none o) 1 0 + n ≡ one_more o n
one_is None n = omega arith
one_is (Some x) n = omega arith

counted : (g : ℕ → Option Value) (a v : ℕ) → count_by (λ w. is_none (g w)) (range_with_len a v) ≡ lacking (λ w. g (a + w)) v
counted g a zero = refl
counted g a (suc v) =
    let first : a ≡ a + 0 = omega arith in
    sum_by-cons (λ w. cond (is_none (g w)) 1 0) a (range_with_len (a + 1) v)
    ∙ one_is (g a) (count_by (λ w. is_none (g w)) (range_with_len (a + 1) v))
    ∙ ap₂ one_more (ap g first)
    (counted g (a + 1) v
    ∙ lacking_same (λ w. g (a + 1 + w)) (λ w. g (a + suc w))
    (λ w. let next : a + 1 + w ≡ a + suc w = omega arith in ap g next) v)

pub number_is : (g : ℕ → Option Value) (v : ℕ) → left_number g v ≡ lacking g v
number_is g v = counted g 0 v ∙ lacking_same (λ w. g (0 + w)) g (λ w. let same : 0 + w ≡ w = omega arith in ap g same) v

-- ---- one variable more

turned : (o p : Option Value) (n : ℕ) → one_more o (one_more p n) ≡ one_more p (one_more o n)
turned None None n = refl
turned None (Some y) n = refl
turned (Some x) None n = refl
turned (Some x) (Some y) n = refl

lacking_last : (g : ℕ → Option Value) (v : ℕ) → lacking g (suc v) ≡ one_more (g v) (lacking g v)
lacking_last g zero = refl
lacking_last g (suc v) =
    ap (one_more (g 0)) (lacking_last (λ w. g (suc w)) v) ∙ turned (g 0) (g (suc v)) (lacking (λ w. g (suc w)) v)

pub number_more : (g : ℕ → Option Value) (v : ℕ) → left_number g (v + 1) ≡ one_more (g v) (left_number g v)
number_more g v =
    let next : v + 1 ≡ suc v = omega arith in
    ap (left_number g) next ∙ number_is g (suc v) ∙ lacking_last g v ∙ ap (one_more (g v)) (sym (number_is g v))

-- ---- how the numbers stand to each other

few_more : (o : Option Value) (n v : ℕ) → n ≤ v → one_more o n ≤ suc v
few_more None n v few = omega (arith, few)
few_more (Some x) n v few = omega (arith, few)

pub lacking_few : (g : ℕ → Option Value) (v : ℕ) → lacking g v ≤ v
lacking_few g zero = omega arith
lacking_few g (suc v) = few_more (g 0) (lacking (λ w. g (suc w)) v) v (lacking_few (λ w. g (suc w)) v)

less_more : (o : Option Value) (a b : ℕ) → a < b → one_more o a < one_more o b
less_more None a b less = omega (arith, less)
less_more (Some x) a b less = less

-- the number of a variable that has no value is below those of the later ones
pub lacking_below : (g : ℕ → Option Value) (v n : ℕ) → v < n → g v ≡ None → lacking g v < lacking g n
lacking_below g v zero below none = absurd (omega (arith, below))
lacking_below g zero (suc n) below none =
    let one : one_more (g 0) (lacking (λ w. g (suc w)) n) ≡ suc (lacking (λ w. g (suc w)) n) =
    ap (λ o. one_more o (lacking (λ w. g (suc w)) n)) none in
    omega (arith, one)
lacking_below g (suc v) (suc n) below none =
    less_more (g 0) (lacking (λ w. g (suc w)) v) (lacking (λ w. g (suc w)) n)
    (lacking_below (λ w. g (suc w)) v n (omega (arith, below)) none)

-- and each number is that of one of them
pub numbered : (g : ℕ → Option Value) (n w : ℕ) → w < lacking g n
    → (v : ℕ) × (v < n) × (g v ≡ None) × (lacking g v ≡ w)
numbered g zero w below = absurd (omega (arith, below))
numbered g (suc n) w below = go (g 0) refl w below (numbered (λ v. g (suc v)) n)
  where
    rest_of : ℕ → Type 0
    rest_of w = (v : ℕ) × (v < n) × (g (suc v) ≡ None) × (lacking (λ u. g (suc u)) v ≡ w)

    go : (o : Option Value) → g 0 ≡ o → (w : ℕ) → w < one_more o (lacking (λ v. g (suc v)) n)
        → ((w : ℕ) → w < lacking (λ v. g (suc v)) n → rest_of w)
        → (v : ℕ) × (v < suc n) × (g v ≡ None) × (lacking g v ≡ w)
    go None none zero below rest = (0, omega arith, none, refl)
    go None none (suc w) below rest =
        let r = rest w (omega (arith, below)) in (
          suc r.0,
          omega (arith, r.1),
          r.2,
          ap (λ o. one_more o (lacking (λ v. g (suc v)) r.0)) none ∙ ap (λ m. suc m) r.3,
        )
    go (Some x) some w below rest =
        let r = rest w below in
        (suc r.0, omega (arith, r.1), r.2, ap (λ o. one_more o (lacking (λ v. g (suc v)) r.0)) some ∙ r.3)

-- ---- what the variables that have no value keep of a list

abbrev pub keep_if : {A : Type 0} → Option Value → A → List A → List A
keep_if None x xs = x ∷ xs
keep_if (Some y) x xs = xs

abbrev pub kept : {A : Type 0} → (ℕ → Option Value) → List A → List A
kept g [] = []
kept g (x ∷ xs) = keep_if (g 0) x (kept (λ w. g (suc w)) xs)

keep_length : {A : Type 0} (o : Option Value) (x : A) (xs : List A) (n : ℕ) → length xs ≡ n
    → length (keep_if o x xs) ≡ one_more o n
keep_length None x xs n many = ap (λ m. suc m) many
keep_length (Some y) x xs n many = many

pub kept_length : {A : Type 0} (g : ℕ → Option Value) (xs : List A) → length (kept g xs) ≡ lacking g (length xs)
kept_length g [] = refl
kept_length g (x ∷ xs) =
    keep_length (g 0) x (kept (λ w. g (suc w)) xs) (lacking (λ w. g (suc w)) (length xs)) (kept_length (λ w. g (suc w)) xs)

keep_get : {A : Type 0} (o : Option Value) (x : A) (xs : List A) (n : ℕ)
    → slice_get (keep_if o x xs) (one_more o n) ≡ slice_get xs n
keep_get None x xs n = refl
keep_get (Some y) x xs n = refl

pub get_kept : {A : Type 0} (g : ℕ → Option Value) (xs : List A) (v : ℕ) → g v ≡ None
    → slice_get (kept g xs) (lacking g v) ≡ slice_get xs v
get_kept g [] v none = refl
get_kept g (x ∷ xs) zero none = ap (λ o. slice_get (keep_if o x (kept (λ w. g (suc w)) xs)) 0) none
get_kept g (x ∷ xs) (suc v) none =
    keep_get (g 0) x (kept (λ w. g (suc w)) xs) (lacking (λ w. g (suc w)) v) ∙ get_kept (λ w. g (suc w)) xs v none

-- ---- the list that has given values, and in the other places those of a list

pub record IsSpread (g : ℕ → Option Value) (n : ℕ) (own : List Value) : Type 0 where
  pub values : List Value
  pub as_many : length values ≡ n
  pub given : (v : ℕ) (x : Value) → v < n → g v ≡ Some x → slice_get values v ≡ Some x
  pub left : (v : ℕ) → v < n → g v ≡ None → slice_get values v ≡ slice_get own (lacking g v)

spread_given : (g : ℕ → Option Value) (n : ℕ) (own : List Value) (x : Value) → g 0 ≡ Some x
    → IsSpread (λ w. g (suc w)) n own → IsSpread g (suc n) own
spread_given g n own x some rest =
    record {
      values = x ∷ rest.values;
      as_many = ap (λ m. suc m) rest.as_many;
      given = given;
      left = left;
    }
  where
    given : (v : ℕ) (y : Value) → v < suc n → g v ≡ Some y → slice_get (x ∷ rest.values) v ≡ Some y
    given zero y below is = sym some ∙ is
    given (suc v) y below is = rest.given v y (omega (arith, below)) is

    left : (v : ℕ) → v < suc n → g v ≡ None → slice_get (x ∷ rest.values) v ≡ slice_get own (lacking g v)
    left zero below is = absurd (none-some x (sym is ∙ some))
    left (suc v) below is =
        rest.left v (omega (arith, below)) is
        ∙ ap (slice_get own) (ap (λ o. one_more o (lacking (λ w. g (suc w)) v)) (sym some))

spread_left : (g : ℕ → Option Value) (n : ℕ) (x : Value) (own : List Value) → g 0 ≡ None
    → IsSpread (λ w. g (suc w)) n own → IsSpread g (suc n) (x ∷ own)
spread_left g n x own none rest =
    record {
      values = x ∷ rest.values;
      as_many = ap (λ m. suc m) rest.as_many;
      given = given;
      left = left;
    }
  where
    given : (v : ℕ) (y : Value) → v < suc n → g v ≡ Some y → slice_get (x ∷ rest.values) v ≡ Some y
    given zero y below is = absurd (none-some y (sym none ∙ is))
    given (suc v) y below is = rest.given v y (omega (arith, below)) is

    left : (v : ℕ) → v < suc n → g v ≡ None → slice_get (x ∷ rest.values) v ≡ slice_get (x ∷ own) (lacking g v)
    left zero below is = refl
    left (suc v) below is =
        rest.left v (omega (arith, below)) is
        ∙ ap (slice_get (x ∷ own)) (ap (λ o. one_more o (lacking (λ w. g (suc w)) v)) (sym none))

pub spread_of : (g : ℕ → Option Value) (n : ℕ) (own : List Value) → length own ≡ lacking g n → IsSpread g n own
spread_of g zero own many =
    record {
      values = [];
      as_many = refl;
      given = λ v x below is. absurd (omega (arith, below));
      left = λ v below is. absurd (omega (arith, below));
    }
spread_of g (suc n) own many = go (g 0) refl own many (spread_of (λ v. g (suc v)) n)
  where
    go : (o : Option Value) → g 0 ≡ o → (own : List Value) → length own ≡ one_more o (lacking (λ v. g (suc v)) n)
        → ((own : List Value) → length own ≡ lacking (λ v. g (suc v)) n → IsSpread (λ v. g (suc v)) n own)
        → IsSpread g (suc n) own
    go (Some x) some own many rest = spread_given g n own x some (rest own many)
    go None none [] many rest = absurd (omega (arith, many))
    go None none (y ∷ own) many rest = spread_left g n y own none (rest own (omega (arith, many)))

-- ---- a count that goes on

pub counts_none : {A : Type 0} (f : A → Value) (o : Option A) (p : Option Value) (n : ℕ) → is_some o ≡ false → option_map f o ≡ p
    → n + 1 ≡ one_more p n
counts_none f None p n none is = let more : n + 1 ≡ suc n = omega arith in more ∙ ap (λ q. one_more q n) is
counts_none f (Some x) p n none is = absurd (false≢true (sym none))

pub counts_some : {A : Type 0} (f : A → Value) (o : Option A) (p : Option Value) (n : ℕ) → is_some o ≡ true → option_map f o ≡ p
    → n ≡ one_more p n
counts_some f None p n some is = absurd (false≢true some)
counts_some f (Some x) p n some is = ap (λ q. one_more q n) is
