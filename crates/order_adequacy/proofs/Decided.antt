-- What is decided of places in lists, of rows and of values.
use Rattle.std.proofs.Common.{◌≡◌, ◌⊎◌, ◌∙◌, ◌<◌, ◌≤◌, ℕ, zero, suc, Bool, true, false, List, [], Option, Some, None, length, slice_get, slice_index_or, refl, sym, ap, subst, inl, inr, ⊎_elim, arith}
use Rattle.std.specs.Ordering.{nat_cmp, int_cmp, ordering_reverse}
use Rattle.std.specs.Cmp.Lexicographic.{slice_cmp}
use Rattle.std.specs.declared.cmp.Ordering.{Ordering}
use Rattle.std.specs.declared.cmp.Ordering.TheVariants.{Less, Equal, Greater}
use Rattle.std.proofs.lemmas.Bool.{false≢true, cases_eq, cases_lt}
use Rattle.std.proofs.lemmas.Cmp.{int_cmp_total, nat_list_cmp_total}
use Rattle.std.proofs.lemmas.List.{get_or_past}
use Rattle.std.proofs.lemmas.Map.Lookups.{exact_signed, exact_bytes}
use Rattle.std.proofs.lemmas.Option.{same_Some, none-some, slice_get_within}
use Rattle.currency_base.specs.Values.{holds_at, value_test}
use Rattle.currency_base.specs.declared.ids.RowId.{RowId}
use Rattle.currency_base.specs.declared.value.Cmp.TheVariants.{Eq}
use Rattle.currency_base.specs.declared.value.Value.{Value}
use Rattle.currency_base.specs.declared.value.Value.TheVariants.{Int, Text}
use Rattle.order_literals.proofs.RowLaws.{row_is}
use Rattle.spec_model.specs.Completion.{Before}
use Rattle.order_adequacy.proofs.Rows.{one_number}

-- it holds, or it does not
abbrev pub Decided : Type 0 → Type 0
Decided P = P ⊎ (P → ⊥)

pub both_or : {P Q : Type 0} → Decided P → Decided Q → Decided (P × Q)
both_or (inl p) (inl q) = inl (p, q)
both_or (inr n) q = inr (λ b. n b.0)
both_or (inl p) (inr n) = inr (λ b. n b.1)

-- what is decided of each number is decided of the numbers below a bound
pub below_or : (P : ℕ → Type 0) (bound : ℕ) → ((k : ℕ) → Decided (P k)) → Decided ((k : ℕ) × (k < bound) × P k)
below_or P zero each = inr (λ found. absurd (omega (arith, found.1)))
below_or P (suc bound) each = by (each bound) (below_or P bound each)
  where
    by : Decided (P bound) → Decided ((k : ℕ) × (k < bound) × P k) → Decided ((k : ℕ) × (k < suc bound) × P k)
    by top (inl found) = inl (found.0, omega (arith, found.1), found.2)
    by (inl holds) (inr none) = inl (bound, omega arith, holds)
    by (inr never) (inr none) =
        inr (λ found.
        ⊎_elim
        (λ (same : found.0 ≡ bound). never (subst P same found.2))
        (λ (apart : found.0 ≡ bound → ⊥). none (found.0, omega (arith, found.1, apart), found.2))
        (cases_eq found.0 bound))

-- ---- rows

pub same_or : (a b : RowId) → Decided (a ≡ b)
same_or a b = ⊎_elim (λ (e : a.0 ≡ b.0). inl (row_is a b e)) (λ (n : a.0 ≡ b.0 → ⊥). inr (λ e. n (one_number a b e)))
    (cases_eq a.0 b.0)

pub some_row_or : (o : Option RowId) (row : RowId) → Decided (o ≡ Some row)
some_row_or None row = inr (λ e. none-some row e)
some_row_or (Some a) row = ⊎_elim (λ e. inl (ap Some e)) (λ n. inr (λ e. n (same_Some a row e))) (same_or a row)

-- ---- the order of two rows in lists

-- the rows stand at these places of the list of an entity, the first at the smaller
abbrev AtPlaces : List (List RowId) → RowId → RowId → ℕ → ℕ → ℕ → Type 0
AtPlaces lists a b ent low high =
    (low < high) × ((slice_get (slice_index_or lists ent []) low ≡ Some a) ×
    (slice_get (slice_index_or lists ent []) high ≡ Some b))

abbrev InList : List (List RowId) → RowId → RowId → ℕ → ℕ → Type 0
InList lists a b ent low = (high : ℕ) × (high < length (slice_index_or lists ent [])) × AtPlaces lists a b ent low high

abbrev InEntity : List (List RowId) → RowId → RowId → ℕ → Type 0
InEntity lists a b ent = (low : ℕ) × (low < length (slice_index_or lists ent [])) × InList lists a b ent low

below_or_above : (low high : ℕ) → Decided (low < high)
below_or_above low high = ⊎_elim (λ (h : low < high). inl h)
    (λ (n : high ≤ low). inr (λ h. absurd (omega (arith, n, h)))) (cases_lt low high)

places_or : (lists : List (List RowId)) (a b : RowId) (ent low high : ℕ) → Decided (AtPlaces lists a b ent low high)
places_or lists a b ent low high =
    both_or (below_or_above low high)
    (both_or (some_row_or (slice_get (slice_index_or lists ent []) low) a)
    (some_row_or (slice_get (slice_index_or lists ent []) high) b))

list_or : (lists : List (List RowId)) (a b : RowId) (ent low : ℕ) → Decided (InList lists a b ent low)
list_or lists a b ent low = below_or (AtPlaces lists a b ent low) (length (slice_index_or lists ent []))
    (places_or lists a b ent low)

entity_or : (lists : List (List RowId)) (a b : RowId) (ent : ℕ) → Decided (InEntity lists a b ent)
entity_or lists a b ent = below_or (InList lists a b ent) (length (slice_index_or lists ent [])) (list_or lists a b ent)

-- a list with a row is one of the lists
pub list_there : {A : Type 0} (lists : List (List A)) (ent place : ℕ) (x : A)
    → slice_get (slice_index_or lists ent []) place ≡ Some x
    → ent < length lists
list_there {A} lists ent place x at =
    ⊎_elim
    (λ (below : ent < length lists). below)
    (λ (past : length lists ≤ ent).
    let none : slice_index_or lists ent [] ≡ [] = get_or_past lists ent [] past in
    absurd (none-some x (sym (ap (λ (list : List A). slice_get list place) none) ∙ at)))
    (cases_lt ent (length lists))

-- whether a row stands before another is decided
pub before_or : (lists : List (List RowId)) (a b : RowId) → Decided (Before lists a b)
before_or lists a b =
    ⊎_elim
    (λ (is : (ent : ℕ) × (ent < length lists) × InEntity lists a b ent).
    inl record {
      ent = is.0;
      low = is.2.0;
      high = is.2.2.0;
      below = is.2.2.2.0;
      first = is.2.2.2.1.0;
      second = is.2.2.2.1.1;
    })
    (λ (none : (ent : ℕ) × (ent < length lists) × InEntity lists a b ent → ⊥).
    inr (λ (s : Before lists a b).
    none (
      s.ent,
      list_there lists s.ent s.low a s.first,
      (
        s.low,
        slice_get_within (slice_index_or lists s.ent []) s.low a s.first,
        (
          s.high,
          slice_get_within (slice_index_or lists s.ent []) s.high b s.second,
          (s.below, (s.first, s.second)),
        ),
      ),
    )))
    (below_or (InEntity lists a b) (length lists) (entity_or lists a b))

-- ---- values

are_equal : (order : Ordering) → holds_at Eq order ≡ true → order ≡ Equal
are_equal Less e = absurd (false≢true e)
are_equal Equal e = refl
are_equal Greater e = absurd (false≢true e)

-- two values that the test calls equal are one
pub one_value : (a b : Value) → value_test Eq a b ≡ true → a ≡ b
one_value (Int a) (Int b) e = ap Int (exact_signed a b (are_equal (int_cmp a b) e))
one_value (Int a) (Text b) e = absurd (false≢true e)
one_value (Text a) (Int b) e = absurd (false≢true e)
one_value (Text a) (Text b) e = ap Text (exact_bytes a b (are_equal (slice_cmp nat_cmp a b) e))

own_order : (order : Ordering) → order ≡ ordering_reverse order → holds_at Eq order ≡ true
own_order Less e = cc
own_order Equal e = refl
own_order Greater e = cc

-- and it calls a value equal to itself
pub value_itself : (a : Value) → value_test Eq a a ≡ true
value_itself (Int a) = own_order (int_cmp a a) (int_cmp_total.antisymm a a)
value_itself (Text a) = own_order (slice_cmp nat_cmp a a) (nat_list_cmp_total.antisymm a a)

pub value_or : (a b : Value) → Decided (a ≡ b)
value_or a b = by (value_test Eq a b) refl
  where
    by : (t : Bool) → value_test Eq a b ≡ t → Decided (a ≡ b)
    by true e = inl (one_value a b e)
    by false e = inr (λ same. false≢true (sym e ∙ (ap (λ v. value_test Eq v b) same ∙ value_itself b)))

pub some_value_or : (o : Option Value) (v : Value) → Decided (o ≡ Some v)
some_value_or None v = inr (λ e. none-some v e)
some_value_or (Some a) v = ⊎_elim (λ e. inl (ap Some e)) (λ n. inr (λ e. n (same_Some a v e))) (value_or a v)
