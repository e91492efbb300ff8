-- What is decided of rows, lists of rows and values.
use Rattle.std.proofs.Common.{◌≡◌, ◌⊎◌, ◌<◌, ℕ, zero, suc, Bool, true, false, List, [], ◌∷◌, Option, Some, None, slice_get, slice_index_or, refl, sym, ap, ◌∙◌, inl, inr, ⊎_elim, arith}
use Rattle.std.specs.Ordering.{nat_cmp, int_cmp, ordering_reverse}
use Rattle.std.specs.Cmp.Lexicographic.{slice_cmp}
use Rattle.std.specs.declared.cmp.Ordering.{Ordering}
use Rattle.std.specs.declared.cmp.Ordering.TheVariants.{Less, Equal, Greater}
use Rattle.std.proofs.lemmas.Bool.{false≢true}
use Rattle.std.proofs.lemmas.Bool.Decides.{eqb_tells}
use Rattle.std.proofs.lemmas.Cmp.{int_cmp_total, nat_list_cmp_total}
use Rattle.std.proofs.lemmas.Map.Lookups.{exact_signed, exact_bytes}
use Rattle.std.proofs.lemmas.Option.{same_Some, none-some}
use Rattle.currency_base.specs.Values.{holds_at, value_test}
use Rattle.currency_base.specs.declared.ids.RowId.{RowId}
use Rattle.currency_base.specs.declared.value.Cmp.TheVariants.{Eq}
use Rattle.currency_base.specs.declared.value.Value.{Value}
use Rattle.currency_base.specs.declared.value.Value.TheVariants.{Int, Text}
use Rattle.spec_model.specs.Completion.{Before}

-- it holds, or it does not
abbrev pub Decided : Type 0 → Type 0
Decided P = P ⊎ (P → ⊥)

-- ---- rows

-- a row is its number
pub row_is : (a b : RowId) → a.0 ≡ b.0 → a ≡ b
row_is a b e = ap (λ (n : ℕ). let x : RowId = record { 0 = n } in x) e

pub same_or : (a b : RowId) → Decided (a ≡ b)
same_or a b = ⊎_elim (λ p. inl (row_is a b p.1)) (λ p. inr (λ e. p.1 (ap (λ (r : RowId). r.0) e))) (eqb_tells a.0 b.0)

pub some_row_or : (o : Option RowId) (row : RowId) → Decided (o ≡ Some row)
some_row_or None row = inr (λ e. none-some row e)
some_row_or (Some a) row = ⊎_elim (λ e. inl (ap Some e)) (λ n. inr (λ e. n (same_Some a row e))) (same_or a row)

-- ---- a row in a list

abbrev IsAt : List RowId → RowId → Type 0
IsAt list row = (i : ℕ) × (slice_get list i ≡ Some row)

not_at : (x row : RowId) (list : List RowId) → (x ≡ row → ⊥) → (IsAt list row → ⊥) → (i : ℕ) → slice_get (x ∷ list) i ≡ Some row
    → ⊥
not_at x row list differs none zero at = differs (same_Some x row at)
not_at x row list differs none (suc i) at = none (i, at)

find_or : (list : List RowId) (row : RowId) → Decided (IsAt list row)
find_or [] row = inr (λ at. none-some row at.1)
find_or (x ∷ list) row = go (same_or x row) (find_or list row)
  where
    go : Decided (x ≡ row) → Decided (IsAt list row) → Decided (IsAt (x ∷ list) row)
    go (inl e) more = inl (0, ap Some e)
    go (inr differs) (inl at) = inl (suc at.0, at.1)
    go (inr differs) (inr none) = inr (λ at. not_at x row list differs none at.0 at.1)

-- ---- two rows in a list

-- the first stands at a smaller place than the second
record StandIn (list : List RowId) (earlier later : RowId) : Type 0 where
  low : ℕ
  high : ℕ
  below : low < high
  first : slice_get list low ≡ Some earlier
  second : slice_get list high ≡ Some later

not_in : (x : RowId) (list : List RowId) (a b : RowId) → (x ≡ a → IsAt list b → ⊥) → (StandIn list a b → ⊥)
    → (low high : ℕ) → low < high → slice_get (x ∷ list) low ≡ Some a → slice_get (x ∷ list) high ≡ Some b → ⊥
not_in x list a b front none low zero below first second = absurd (omega arith)
not_in x list a b front none zero (suc j) below first second = front (same_Some x a first) (j, second)
not_in x list a b front none (suc i) (suc j) below first second =
    none record { low = i; high = j; below = omega arith; first = first; second = second }

in_order_or : (list : List RowId) (a b : RowId) → Decided (StandIn list a b)
in_order_or [] a b = inr (λ s. none-some a s.first)
in_order_or (x ∷ list) a b = go (same_or x a) (find_or list b) (in_order_or list a b)
  where
    go : Decided (x ≡ a) → Decided (IsAt list b) → Decided (StandIn list a b) → Decided (StandIn (x ∷ list) a b)
    go front behind (inl s) =
        inl record { low = suc s.low; high = suc s.high; below = omega (arith, s.below); first = s.first; second = s.second }
    go (inl e) (inl at) (inr none) =
        inl record { low = 0; high = suc at.0; below = omega arith; first = ap Some e; second = at.1 }
    go (inl e) (inr not_behind) (inr none) =
        inr (λ s. not_in x list a b (λ e' at. not_behind at) none s.low s.high s.below s.first s.second)
    go (inr differs) behind (inr none) =
        inr (λ s. not_in x list a b (λ e at. differs e) none s.low s.high s.below s.first s.second)

-- ---- two rows in one of the lists

not_before : (list : List RowId) (lists : List (List RowId)) (a b : RowId) → (StandIn list a b → ⊥) → (Before lists a b → ⊥)
    → (ent low high : ℕ) → low < high → slice_get (slice_index_or (list ∷ lists) ent []) low ≡ Some a
    → slice_get (slice_index_or (list ∷ lists) ent []) high ≡ Some b → ⊥
not_before list lists a b here more zero low high below first second =
    here record { low = low; high = high; below = below; first = first; second = second }
not_before list lists a b here more (suc ent) low high below first second =
    more record { ent = ent; low = low; high = high; below = below; first = first; second = second }

pub before_or : (lists : List (List RowId)) (a b : RowId) → Decided (Before lists a b)
before_or [] a b = inr (λ s. none-some a s.first)
before_or (list ∷ lists) a b = go (in_order_or list a b) (before_or lists a b)
  where
    go : Decided (StandIn list a b) → Decided (Before lists a b) → Decided (Before (list ∷ lists) a b)
    go (inl s) more = inl record { ent = 0; low = s.low; high = s.high; below = s.below; first = s.first; second = s.second }
    go (inr none) (inl m) =
        inl record { ent = suc m.ent; low = m.low; high = m.high; below = m.below; first = m.first; second = m.second }
    go (inr none) (inr never) = inr (λ s. not_before list lists a b none never s.ent s.low s.high s.below s.first s.second)

-- ---- values

are_equal : (order : Ordering) → holds_at Eq order ≡ true → order ≡ Equal
are_equal Less e = absurd (false≢true e)
are_equal Equal e = refl
are_equal Greater e = absurd (false≢true e)

-- two values of which the test says that they are equal are one
pub one_value : (a b : Value) → value_test Eq a b ≡ true → a ≡ b
one_value (Int a) (Int b) e = ap Int (exact_signed a b (are_equal (int_cmp a b) e))
one_value (Int a) (Text b) e = absurd (false≢true e)
one_value (Text a) (Int b) e = absurd (false≢true e)
one_value (Text a) (Text b) e = ap Text (exact_bytes a b (are_equal (slice_cmp nat_cmp a b) e))

own : (order : Ordering) → order ≡ ordering_reverse order → holds_at Eq order ≡ true
own Less e = cc
own Equal e = refl
own Greater e = cc

-- and it says so of a value and itself
pub value_itself : (a : Value) → value_test Eq a a ≡ true
value_itself (Int a) = own (int_cmp a a) (int_cmp_total.antisymm a a)
value_itself (Text a) = own (slice_cmp nat_cmp a a) (nat_list_cmp_total.antisymm a a)

pub value_or : (a b : Value) → Decided (a ≡ b)
value_or a b = go (value_test Eq a b) refl
  where
    go : (t : Bool) → value_test Eq a b ≡ t → Decided (a ≡ b)
    go true e = inl (one_value a b e)
    go false e = inr (λ same. false≢true (sym e ∙ (ap (λ v. value_test Eq v b) same ∙ value_itself b)))

pub some_value_or : (o : Option Value) (v : Value) → Decided (o ≡ Some v)
some_value_or None v = inr (λ e. none-some v e)
some_value_or (Some a) v = ⊎_elim (λ e. inl (ap Some e)) (λ n. inr (λ e. n (same_Some a v e))) (value_or a v)
