-- A list where one item is changed, or two items change places.
use Rattle.std.proofs.Common.{◌≡◌, ◌≢◌, ◌⊎◌, ◌<◌, ◌∙◌, ℕ, zero, suc, List, [], ◌∷◌, Option, Some, IfSome, All, length, slice_get, slice_set, refl, sym, ap, subst, inl, inr, arith}
use Rattle.std.proofs.lemmas.Bool.{cases_eq}
use Rattle.std.proofs.lemmas.List.{length-set, set-set}
use Rattle.std.proofs.lemmas.List.Elements.{All-set}
use Rattle.std.proofs.lemmas.Option.{slice_get_within, get_or_from_slice_get}
use Rattle.currency_base.specs.Lists.{OnlyOnce}

pub get_same : {A : Type 0} (xs : List A) (i : ℕ) (y : A) → i < length xs → slice_get (slice_set xs i y) i ≡ Some y
get_same [] i y h = absurd (omega arith)
get_same (x ∷ xs) zero y h = refl
get_same (x ∷ xs) (suc i) y h = get_same xs i y (omega arith)

pub get_other : {A : Type 0} (xs : List A) (i j : ℕ) (y : A) → j ≢ i → slice_get (slice_set xs i y) j ≡ slice_get xs j
get_other [] i j y d = refl
get_other (x ∷ xs) zero zero y d = absurd (d refl)
get_other (x ∷ xs) zero (suc j) y d = refl
get_other (x ∷ xs) (suc i) zero y d = refl
get_other (x ∷ xs) (suc i) (suc j) y d = get_other xs i j y (λ e. d (ap suc e))

-- what holds of all items holds of one
pub all_at : {A : Type 0} (P : A → Type 0) (xs : List A) (i : ℕ) (x : A) → All P xs → slice_get xs i ≡ Some x → P x
all_at P xs i x all is = subst P (get_or_from_slice_get xs i x x is) (all i x (slice_get_within xs i x is))

-- one item is put at a place of one of the lists
module _ {A : Type 0} (lists lists' : List (List A)) (at place : ℕ) (now : List A) (x : A) (is : slice_get lists at ≡ Some now)
    (put : lists' ≡ slice_set lists at (slice_set now place x)) where
  pub put_length : length lists' ≡ length lists
  put_length = ap length put ∙ length-set lists at (slice_set now place x)

  pub put_there : slice_get lists' at ≡ Some (slice_set now place x)
  put_there = ap (λ (ls : List (List A)). slice_get ls at) put ∙ get_same lists at (slice_set now place x)
      (slice_get_within lists at now is)

  -- then it is as long as it was
  pub put_room : (other : ℕ) → IfSome (slice_get lists at) (λ (ls : List A). other < length ls)
      → IfSome (slice_get lists' at) (λ (ls : List A). other < length ls)
  put_room other some =
      let before : other < length now = subst (λ (o : Option (List A)). IfSome o (λ (ls : List A). other < length ls)) is some in
      let after : other < length (slice_set now place x) = omega (arith, before, length-set now place x) in
      rw put_there after

-- two items are put, one after the other
pub put_twice : {A : Type 0} (lists lists' lists'' : List (List A)) (at from to : ℕ) (now : List A) (x y : A)
    → slice_get lists at ≡ Some now
    → lists' ≡ slice_set lists at (slice_set now from x)
    → ((ls : List A) → slice_get lists' at ≡ Some ls → lists'' ≡ slice_set lists' at (slice_set ls to y))
    → lists'' ≡ slice_set lists at (slice_set (slice_set now from x) to y)
put_twice {A} lists lists' lists'' at from to now x y is first second =
    let there = put_there lists lists' at from now x is first in
    second (slice_set now from x) there
    ∙ ap (λ (ls : List (List A)). slice_set ls at (slice_set (slice_set now from x) to y)) first
    ∙ set-set lists at (slice_set now from x) (slice_set (slice_set now from x) to y)

-- where an item stood before two changed places
abbrev pub IsMoved : (from to i k : ℕ) → Type 0
IsMoved from to i k = ((i ≡ from) × (k ≡ to)) ⊎ (((i ≡ to) × (k ≡ from)) ⊎ ((i ≢ from) × (i ≢ to) × (k ≡ i)))

moved_same : (from to i j k l : ℕ) → from ≢ to → IsMoved from to i k → IsMoved from to j l → k ≡ l → i ≡ j
moved_same from to i j k l differ (inl a) (inl b) e = omega (arith, a.0, b.0)
moved_same from to i j k l differ (inl a) (inr (inl b)) e = absurd (differ (sym b.1 ∙ sym e ∙ a.1))
moved_same from to i j k l differ (inl a) (inr (inr b)) e = absurd (b.1 (sym b.2 ∙ sym e ∙ a.1))
moved_same from to i j k l differ (inr (inl a)) (inl b) e = absurd (differ (sym a.1 ∙ e ∙ b.1))
moved_same from to i j k l differ (inr (inl a)) (inr (inl b)) e = omega (arith, a.0, b.0)
moved_same from to i j k l differ (inr (inl a)) (inr (inr b)) e = absurd (b.0 (sym b.2 ∙ sym e ∙ a.1))
moved_same from to i j k l differ (inr (inr a)) (inl b) e = absurd (a.1 (sym a.2 ∙ e ∙ b.1))
moved_same from to i j k l differ (inr (inr a)) (inr (inl b)) e = absurd (a.0 (sym a.2 ∙ e ∙ b.1))
moved_same from to i j k l differ (inr (inr a)) (inr (inr b)) e = sym a.2 ∙ e ∙ b.2

-- two items change places
module _ {A : Type 0} (xs : List A) (from to : ℕ) (left taken : A) (is_left : slice_get xs from ≡ Some left)
    (is_taken : slice_get xs to ≡ Some taken)
    (differ : from ≢ to) where
  pub exchanged_length : length (slice_set (slice_set xs from taken) to left) ≡ length xs
  exchanged_length = length-set (slice_set xs from taken) to left ∙ length-set xs from taken

  pub exchanged_from : slice_get (slice_set (slice_set xs from taken) to left) from ≡ Some taken
  exchanged_from = get_other (slice_set xs from taken) to from left differ ∙ get_same xs from taken
      (slice_get_within xs from left is_left)

  pub exchanged_to : slice_get (slice_set (slice_set xs from taken) to left) to ≡ Some left
  exchanged_to =
      let within : to < length (slice_set xs from taken) = omega (
        arith,
        slice_get_within xs to taken is_taken,
        length-set xs from taken,
      ) in
      get_same (slice_set xs from taken) to left within

  pub exchanged_other : (i : ℕ) → i ≢ from → i ≢ to → slice_get (slice_set (slice_set xs from taken) to left) i ≡ slice_get xs i
  exchanged_other i a b = get_other (slice_set xs from taken) to i left b ∙ get_other xs from i taken a

  moved : (i : ℕ) (x : A) → slice_get (slice_set (slice_set xs from taken) to left) i ≡ Some x
      → (k : ℕ) × (slice_get xs k ≡ Some x) × IsMoved from to i k
  moved i x is = go (cases_eq i from) (cases_eq i to)
    where
      go : (i ≡ from) ⊎ (i ≢ from) → (i ≡ to) ⊎ (i ≢ to) → (k : ℕ) × (slice_get xs k ≡ Some x) × IsMoved from to i k
      go (inl e) other =
          let there : slice_get (slice_set (slice_set xs from taken) to left) i ≡ Some taken =
          ap (slice_get (slice_set (slice_set xs from taken) to left)) e ∙ exchanged_from in
          (to, is_taken ∙ sym there ∙ is, inl (e, refl))
      go (inr a) (inl e) =
          let there : slice_get (slice_set (slice_set xs from taken) to left) i ≡ Some left =
          ap (slice_get (slice_set (slice_set xs from taken) to left)) e ∙ exchanged_to in
          (from, is_left ∙ sym there ∙ is, inr (inl (e, refl)))
      go (inr a) (inr b) = (i, sym (exchanged_other i a b) ∙ is, inr (inr (a, b, refl)))

  -- no item stands at two places still
  pub exchanged_once : OnlyOnce xs → OnlyOnce (slice_set (slice_set xs from taken) to left)
  exchanged_once once i j x a b =
      let k = moved i x a in
      let l = moved j x b in
      moved_same from to i j k.0 l.0 differ k.2 l.2 (once k.0 l.0 x k.1 l.1)

  -- and what holds of all items does so still
  pub exchanged_all : (P : A → Type 0) → All P xs → All P (slice_set (slice_set xs from taken) to left)
  exchanged_all P all =
      All-set P (slice_set xs from taken) to left (all_at P xs from left all is_left)
      (All-set P xs from taken (all_at P xs to taken all is_taken) all)
