-- Values, tuples and lists that are looked through.
use Rattle.std.proofs.Common.{◌≡◌, ◌∙◌, ◌<◌, ℕ, zero, suc, Bool, true, false, if◌then◌else◌, cond, List, [], ◌∷◌, ◌++◌, Option, Some, None, All, option_map, slice_get, inl, inr, append_assoc, refl, sym, ap, arith}
use Rattle.std.specs.List.{find}
use Rattle.std.specs.Cmp.{IsTotalOrder}
use Rattle.std.specs.Cmp.Lexicographic.{slice_cmp}
use Rattle.std.specs.Ordering.{is_eq, ordering_reverse}
use Rattle.std.specs.declared.cmp.Ordering.{Ordering}
use Rattle.std.specs.declared.cmp.Ordering.TheVariants.{Less, Equal, Greater}
use Rattle.std.proofs.lemmas.Bool.{false≢true}
use Rattle.std.proofs.lemmas.Cmp.{int_cmp_total, nat_list_cmp_total}
use Rattle.std.proofs.lemmas.List.{append-nil}
use Rattle.std.proofs.lemmas.List.Elements.{All-contains}
use Rattle.std.proofs.lemmas.Map.Lookups.{exact_bytes, exact_signed}
use Rattle.std.proofs.lemmas.Option.{same_Some, none-some}
use Rattle.currency_base.specs.Values.{holds_at, value_cmp}
use Rattle.currency_base.specs.declared.value.Cmp.TheVariants.{Eq}
use Rattle.currency_base.specs.declared.value.Value.{Value}
use Rattle.currency_base.specs.declared.value.Value.TheVariants.{Int, Text}
use Rattle.query_model.specs.Answers.{Fits, IsHead, TestHolds, is_compared, value_of}
use Rattle.query_model.specs.declared.query.Term.{Term}
use Rattle.query_model.specs.declared.query.Term.TheVariants as term
use Rattle.query_model.specs.declared.query.Test.{Test}
use Rattle.match_premises.specs.Premises.{comparisons_are, fits, tuple_from, with_value}
use Rattle.log_axioms.specs.Matches.{first_place, is_tuple}
use Rattle.order_literals.proofs.Items.{IsIn, contained}
use Rattle.axiom_agreement.proofs.Agreeing.{all_pass}

-- ---- values

equal_order : (o : Ordering) → holds_at Eq o ≡ true → o ≡ Equal
equal_order Less e = absurd (false≢true e)
equal_order Equal e = refl
equal_order Greater e = absurd (false≢true e)

one_value : (a b : Value) → value_cmp a b ≡ Equal → a ≡ b
one_value (Int a) (Int b) e = ap Int (exact_signed a b e)
one_value (Int a) (Text b) e = cc
one_value (Text a) (Int b) e = cc
one_value (Text a) (Text b) e = ap Text (exact_bytes a b e)

turned_to_itself : (o : Ordering) → o ≡ ordering_reverse o → o ≡ Equal
turned_to_itself Less e = cc
turned_to_itself Equal e = refl
turned_to_itself Greater e = cc

to_itself : (v : Value) → value_cmp v v ≡ Equal
to_itself (Int a) = turned_to_itself _ (int_cmp_total.antisymm a a)
to_itself (Text a) = turned_to_itself _ (nat_list_cmp_total.antisymm a a)

-- a value that is there passes as equal to itself
pub equal_passes : (o : Option Value) (v : Value) → o ≡ Some v → is_compared o Eq (Some v) ≡ true
equal_passes o v e = rw e (ap (holds_at Eq) (to_itself v))

-- what passes as equal to a value is this
pub passed_equal : (o : Option Value) (v : Value) → is_compared o Eq (Some v) ≡ true → o ≡ Some v
passed_equal None v e = absurd (false≢true e)
passed_equal (Some a) v e = ap Some (one_value a v (equal_order (value_cmp a v) e))

pub fits_passes : (values : List Value) (t : Term) (x : Value) → Fits values t x → fits values t x ≡ true
fits_passes values (term.Var v) x fit = equal_passes (slice_get values v) x fit
fits_passes values term.Any x fit = refl
fits_passes values (term.Constant c) x fit = equal_passes (Some c) x (ap Some fit)

pub tests_pass : (values : List Value) (tests : List Test) → All (TestHolds values) tests → comparisons_are values tests ≡ true
tests_pass values tests all =
    all_pass (λ (t : Test). is_compared (value_of values t.left) t.cmp (value_of values t.right)) tests
    (λ t at. All-contains (TestHolds values) tests t all (contained tests t at))

-- ---- the first that passes

pub record IsFound {A : Type 0} (p : A → Bool) (xs : List A) : Type 0 where
  pub found : A
  pub is_found : find p xs ≡ Some found
  pub is_in : IsIn xs found
  pub passes : p found ≡ true

pub found_one : {A : Type 0} (p : A → Bool) (xs : List A) (x : A) → IsIn xs x → p x ≡ true → IsFound p xs
found_one p [] x at passes = absurd at
found_one {A} p (y ∷ ys) x at passes = go (p y) refl at (λ there. found_one p ys x there passes)
  where
    later : p y ≡ false → IsFound p ys → IsFound p (y ∷ ys)
    later fails f = record {
      found = f.found;
      is_found = ap (λ (b : Bool). cond b (Some y) (find p ys)) fails
          ∙ f.is_found;
      is_in = inr f.is_in;
      passes = f.passes;
    }

    go : (b : Bool) → p y ≡ b → IsIn (y ∷ ys) x → (IsIn ys x → IsFound p ys) → IsFound p (y ∷ ys)
    go true is at on = record {
      found = y;
      is_found = ap (λ (b : Bool). cond b (Some y) (find p ys)) is;
      is_in =
          inl refl;
      passes = is;
    }
    go false is (inl same) on = absurd (false≢true (sym is ∙ (ap p same ∙ passes)))
    go false is (inr there) on = later is (on there)

-- ---- tuples

pub head_read : (values so_far : List Value) (head : List ℕ) (tuple : List Value) → IsHead values head tuple
    → tuple_from values (Some so_far) head ≡ Some (so_far ++ tuple)
head_read values so_far [] [] is = ap Some (sym (append-nil so_far))
head_read values so_far [] (x ∷ tuple) is = cc
head_read values so_far (v ∷ head) [] is = cc
head_read values so_far (v ∷ head) (x ∷ tuple) is =
    let first : slice_get values v ≡ Some x = cc in
    let rest : IsHead values head tuple = cc in
    ap (λ (o : Option Value). tuple_from values (with_value (Some so_far) o) head) first
    ∙ head_read values (so_far ++ x ∷ []) head tuple rest
    ∙ ap Some (append_assoc so_far (x ∷ []) tuple)

module _ (total : IsTotalOrder (slice_cmp value_cmp)) (equal : (a b : List Value) → slice_cmp value_cmp a b ≡ Equal → a ≡ b) where
  tuple_itself : (t : List Value) → is_tuple t t ≡ true
  tuple_itself t = ap is_eq (turned_to_itself (slice_cmp value_cmp t t) (total.antisymm t t))

  equal_tuples : (o : Ordering) → is_eq o ≡ true → o ≡ Equal
  equal_tuples Less e = absurd (false≢true e)
  equal_tuples Equal e = refl
  equal_tuples Greater e = absurd (false≢true e)

  pub first_at : (answers : List (List Value)) (tuple : List Value) (place : ℕ) → slice_get answers place ≡ Some tuple
      → ((earlier : ℕ) → earlier < place → slice_get answers earlier ≡ Some tuple → ⊥) → first_place answers tuple ≡ Some place
  first_at [] tuple place at none = absurd (none-some tuple at)
  first_at (first ∷ more) tuple zero at none =
      let here : is_tuple first tuple ≡ true = ap (λ (t : List Value). is_tuple t tuple) (same_Some first tuple at)
      ∙ tuple_itself tuple in
      ap (λ (b : Bool). if b then Some 0 else option_map suc (first_place more tuple)) here
  first_at (first ∷ more) tuple (suc place) at none =
      go (is_tuple first tuple) refl
      (first_at more tuple place at (λ earlier below there. none (suc earlier) (omega (arith, below)) there))
    where
      go : (b : Bool) → is_tuple first tuple ≡ b → first_place more tuple ≡ Some place
          → (if b then Some 0 else option_map suc (first_place more tuple)) ≡ Some (suc place)
      go true is later = absurd (none 0 (omega arith)
          (ap Some (equal first tuple (equal_tuples (slice_cmp value_cmp first tuple) is))))
      go false is later = ap (option_map suc) later
