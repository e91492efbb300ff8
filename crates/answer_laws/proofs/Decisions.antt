-- What is decided of values, lists and members of lists.
use Rattle.std.proofs.Common.{◌≡◌, ◌⊎◌, ◌<◌, ℕ, zero, suc, Bool, true, false, List, [], ◌∷◌, All, Contains, Option, Some, None, drop, length, slice_get, slice_index_or, refl, sym, ap, ap₂, subst, ◌∙◌, inl, inr, arith}
use Rattle.std.specs.Ordering.{int_cmp, nat_cmp, ordering_reverse}
use Rattle.std.specs.Cmp.Lexicographic.{slice_cmp}
use Rattle.std.specs.declared.cmp.Ordering.{Ordering}
use Rattle.std.specs.declared.cmp.Ordering.TheVariants.{Less, Equal, Greater}
use Rattle.std.proofs.lemmas.Bool.{false≢true}
use Rattle.std.proofs.lemmas.Cmp.{int_cmp_total, nat_list_cmp_total}
use Rattle.std.proofs.lemmas.List.Elements.{All-nil, All-cons, All-head, All-tail}
use Rattle.std.proofs.lemmas.Map.Lookups.{exact_signed, exact_bytes}
use Rattle.std.proofs.lemmas.Option.{same_Some, none-some}
use Rattle.currency_base.specs.Values.{value_cmp}
use Rattle.currency_base.specs.declared.value.Value.{Value}
use Rattle.currency_base.specs.declared.value.Value.TheVariants.{Int, Text}

-- it holds, or it does not
abbrev pub Decided : Type 0 → Type 0
Decided P = P ⊎ (P → ⊥)

-- what says the same as something that is decided
pub decided_as : {P Q : Type 0} → (P → Q) → (Q → P) → Decided P → Decided Q
decided_as there back (inl p) = inl (there p)
decided_as there back (inr never) = inr (λ q. never (back q))

pub both_or : {P Q : Type 0} → Decided P → Decided Q → Decided (P × Q)
both_or (inl p) (inl q) = inl (p, q)
both_or (inl p) (inr never) = inr (λ both. never both.1)
both_or (inr never) q = inr (λ both. never both.0)

pub true_or : (b : Bool) → Decided (b ≡ true)
true_or true = inl refl
true_or false = inr (λ e. false≢true e)

-- ---- values

are_equal_or : (order : Ordering) → Decided (order ≡ Equal)
are_equal_or Less = inr (λ e. cc)
are_equal_or Equal = inl refl
are_equal_or Greater = inr (λ e. cc)

own : (order : Ordering) → order ≡ ordering_reverse order → order ≡ Equal
own Less e = cc
own Equal e = refl
own Greater e = cc

-- the order of values tells equal values
exact_value : (a b : Value) → value_cmp a b ≡ Equal → a ≡ b
exact_value (Int a) (Int b) e = ap Int (exact_signed a b e)
exact_value (Int a) (Text b) e = cc
exact_value (Text a) (Int b) e = cc
exact_value (Text a) (Text b) e = ap Text (exact_bytes a b e)

value_itself : (a : Value) → value_cmp a a ≡ Equal
value_itself (Int a) = own (int_cmp a a) (int_cmp_total.antisymm a a)
value_itself (Text a) = own (slice_cmp nat_cmp a a) (nat_list_cmp_total.antisymm a a)

pub value_or : (a b : Value) → Decided (a ≡ b)
value_or a b =
    decided_as (exact_value a b) (λ same. ap (λ v. value_cmp v b) same ∙ value_itself b) (are_equal_or (value_cmp a b))

-- ---- options and lists

pub option_or : {A : Type 0} → ((a b : A) → Decided (a ≡ b)) → (o p : Option A) → Decided (o ≡ p)
option_or same None None = inl refl
option_or same None (Some b) = inr (λ e. none-some b e)
option_or same (Some a) None = inr (λ e. none-some a (sym e))
option_or same (Some a) (Some b) = decided_as (λ e. ap Some e) (λ e. same_Some a b e) (same a b)

pub list_or : {A : Type 0} → ((a b : A) → Decided (a ≡ b)) → (xs ys : List A) → Decided (xs ≡ ys)
list_or same [] [] = inl refl
list_or same [] (y ∷ ys) = inr (λ e. none-some y (ap (λ l. slice_get l 0) e))
list_or same (x ∷ xs) [] = inr (λ e. none-some x (sym (ap (λ l. slice_get l 0) e)))
list_or same (x ∷ xs) (y ∷ ys) =
    decided_as (λ p. ap₂ (λ z zs. z ∷ zs) p.0 p.1) (λ e. (same_Some x y (ap (λ l. slice_get l 0) e), ap (λ l. drop 1 l) e))
    (both_or (same x y) (list_or same xs ys))

-- ---- members of a list

pub all_or : {A : Type 0} (P : A → Type 0) → ((x : A) → Decided (P x)) → (xs : List A) → Decided (All P xs)
all_or P each [] = inl (All-nil P)
all_or P each (x ∷ xs) =
    decided_as (λ both. All-cons P x xs both.0 both.1) (λ all. (All-head P x xs all, All-tail P x xs all))
    (both_or (each x) (all_or P each xs))

-- it holds of a member
pub record HasOne {A : Type 0} (P : A → Type 0) (xs : List A) : Type 0 where
  pub one : A
  pub is_there : Contains xs one
  pub holds : P one

later : {A : Type 0} (y : A) (xs : List A) (x : A) → Contains xs x → Contains (y ∷ xs) x
later y xs x is = (suc is.0, omega (arith, is.1), is.2)

-- it holds of one of a list with one more
none_of : {A : Type 0} (P : A → Type 0) (x : A) (xs : List A) → (P x → ⊥) → (HasOne P xs → ⊥)
    → (one : A) (k : ℕ) → k < length (x ∷ xs) → slice_index_or (x ∷ xs) k one ≡ one → P one → ⊥
none_of P x xs first rest one zero below is holds = first (subst P (sym is) holds)
none_of P x xs first rest one (suc k) below is holds =
    rest record { one = one; is_there = (k, omega (arith, below), is); holds = holds }

pub one_or : {A : Type 0} (P : A → Type 0) (xs : List A) → ((x : A) → Contains xs x → Decided (P x)) → Decided (HasOne P xs)
one_or P [] each = inr (λ has. absurd (omega (arith, has.is_there.1)))
one_or P (x ∷ xs) each = go (each x (0, omega arith, refl)) (one_or P xs (λ y is. each y (later x xs y is)))
  where
    go : Decided (P x) → Decided (HasOne P xs) → Decided (HasOne P (x ∷ xs))
    go (inl holds) rest = inl record { one = x; is_there = (0, omega arith, refl); holds = holds }
    go (inr first) (inl has) = inl record { one = has.one; is_there = later x xs has.one has.is_there; holds = has.holds }
    go (inr first) (inr rest) =
        inr (λ has. none_of P x xs first rest has.one has.is_there.0 has.is_there.1 has.is_there.2 has.holds)
