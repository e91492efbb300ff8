-- Values that fit, comparisons that hold and heads that are read, as code tells them.
use Rattle.std.proofs.Common.{◌≡◌, ◌∙◌, ℕ, zero, suc, Bool, true, false, cond, List, [], ◌∷◌, ◌++◌, All, Option, Some, None, ap, append_assoc}
use Rattle.std.proofs.Common.{refl, slice_get, sym}
use Rattle.std.specs.List.{find}
use Rattle.std.specs.Ordering.{ordering_reverse}
use Rattle.std.specs.declared.cmp.Ordering.{Ordering}
use Rattle.std.specs.declared.cmp.Ordering.TheVariants.{Less, Equal, Greater}
use Rattle.std.proofs.lemmas.Bool.{false≢true}
use Rattle.std.proofs.lemmas.List.{append-nil}
use Rattle.std.proofs.lemmas.List.Sums.{list_all-from_AllPass}
use Rattle.std.proofs.lemmas.Option.{none-some, same_Some}
use Rattle.currency_base.specs.Values.{holds_at, value_cmp}
use Rattle.currency_base.specs.declared.value.Cmp.TheVariants.{Eq}
use Rattle.currency_base.specs.declared.value.Value.{Value}
use Rattle.match_premises.specs.Premises.{comparisons_are, fits, tuple_from, with_value}
use Rattle.query_model.specs.Answers.{Fits, IsHead, TestHolds, is_compared, value_of}
use Rattle.query_model.specs.declared.query.Term.{Term}
use Rattle.query_model.specs.declared.query.Term.TheVariants as term
use Rattle.query_model.specs.declared.query.Test.{Test}
use Rattle.ucq_answers.specs.TupleOrder.{exact_values, value_antisymm}

-- ---- values

turned_to_itself : (o : Ordering) → o ≡ ordering_reverse o → o ≡ Equal
turned_to_itself Less e = cc
turned_to_itself Equal e = cc
turned_to_itself Greater e = cc

-- a value that is there passes as equal to itself
pub equal_passes : (o : Option Value) (v : Value) → o ≡ Some v → is_compared o Eq (Some v) ≡ true
equal_passes o v e = rw e (ap (holds_at Eq) (turned_to_itself (value_cmp v v) (value_antisymm v v)))

equal_order : (o : Ordering) → holds_at Eq o ≡ true → o ≡ Equal
equal_order Less e = absurd (false≢true e)
equal_order Equal e = cc
equal_order Greater e = absurd (false≢true e)

-- what passes as equal to a value is this
pub passed_equal : (o : Option Value) (v : Value) → is_compared o Eq (Some v) ≡ true → o ≡ Some v
passed_equal None v e = absurd (false≢true e)
passed_equal (Some a) v e = ap Some (exact_values a v (equal_order (value_cmp a v) e))

pub fits_passes : (values : List Value) (t : Term) (x : Value) → Fits values t x → fits values t x ≡ true
fits_passes values (term.Var v) x fit = equal_passes (slice_get values v) x fit
fits_passes values term.Any x fit = cc
fits_passes values (term.Constant c) x fit = equal_passes (Some c) x (ap Some fit)

pub tests_pass : (values : List Value) (tests : List Test) → All (TestHolds values) tests → comparisons_are values tests ≡ true
tests_pass values tests all =
    list_all-from_AllPass (λ (t : Test). is_compared (value_of values t.left) t.cmp (value_of values t.right)) tests all

-- ---- heads

pub head_read : (values so_far : List Value) (head : List ℕ) (tuple : List Value) → IsHead values head tuple
    → tuple_from values (Some so_far) head ≡ Some (so_far ++ tuple)
head_read values so_far [] [] is = ap Some (sym (append-nil so_far))
head_read values so_far [] (x ∷ tuple) is = cc
head_read values so_far (v ∷ head) [] is = cc
head_read values so_far (v ∷ head) (x ∷ tuple) is =
    let first : slice_get values v ≡ Some x = cc in
    let rest : IsHead values head tuple = cc in
    ap (λ (o : Option Value). tuple_from values (with_value (Some so_far) o) head) first
    ∙ head_read values (so_far ++ x ∷ []) head tuple rest
    ∙ ap Some (append_assoc so_far (x ∷ []) tuple)

-- ---- the first that passes

-- it is found, passes, and stands somewhere
pub record IsFound {A : Type 0} (p : A → Bool) (xs : List A) : Type 0 where
  pub found : A
  pub is_found : find p xs ≡ Some found
  pub passes : p found ≡ true
  pub place : ℕ
  pub is_there : slice_get xs place ≡ Some found

-- where some item passes
pub found_one : {A : Type 0} (p : A → Bool) (xs : List A) (k : ℕ) (x : A) → slice_get xs k ≡ Some x → p x ≡ true → IsFound p xs
found_one p [] k x at passes = absurd (none-some x at)
found_one {A} p (y ∷ ys) k x at passes = by (p y) refl k at (λ j there. found_one p ys j x there passes)
  where
    later : p y ≡ false → IsFound p ys → IsFound p (y ∷ ys)
    later fails f = record {
      found = f.found;
      is_found = ap (λ (b : Bool). cond b (Some y) (find p ys)) fails ∙ f.is_found;
      passes = f.passes;
      place = suc f.place;
      is_there = f.is_there;
    }

    by : (b : Bool) → p y ≡ b → (k : ℕ) → slice_get (y ∷ ys) k ≡ Some x
        → ((j : ℕ) → slice_get ys j ≡ Some x → IsFound p ys) → IsFound p (y ∷ ys)
    by true is k at rest = record {
      found = y;
      is_found = ap (λ (b : Bool). cond b (Some y) (find p ys)) is;
      passes = is;
      place = 0;
      is_there = refl;
    }
    by false is zero at rest = absurd (false≢true (sym is ∙ ap p (same_Some y x at) ∙ passes))
    by false is (suc k) at rest = later is (rest k at)
