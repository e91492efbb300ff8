-- What terms that fit a row, and comparisons that hold, tell of its values.
use Rattle.std.proofs.Common.{◌≡◌, ◌<◌, ℕ, Bool, true, false, not, List, length, Bor, Option, None, Some, IfSome, is_some, nat_lt, slice_get, slice_index_or, refl, sym, ap, subst, ◌∙◌, arith}
use Rattle.std.specs.Bool.{OnTrue}
use Rattle.std.specs.Ordering.{ordering_reverse}
use Rattle.std.specs.declared.cmp.Ordering.{Ordering}
use Rattle.std.specs.declared.cmp.Ordering.TheVariants.{Less, Equal, Greater}
use Rattle.std.proofs.lemmas.Bool.{false≢true}
use Rattle.std.proofs.lemmas.Option.{same_Some, slice_get_read, slice_get_within}
use Rattle.currency_base.specs.Values.{holds_at, value_cmp, value_test}
use Rattle.currency_base.specs.declared.value.Cmp.TheVariants.{Eq}
use Rattle.currency_base.specs.declared.value.Value.{Value}
use Rattle.query_model.specs.Answers.{FitsTuple, TestHolds, is_compared, value_of}
use Rattle.query_model.specs.declared.query.Term.{Term}
use Rattle.query_model.specs.declared.query.Term.TheVariants as term
use Rattle.query_model.specs.declared.query.Test.{Test}
use Rattle.query_model.specs.declared.query.TestTerm.{TestTerm}
use Rattle.query_plan.specs.Implied.{Equated, IsImplied}
use Rattle.query_plan.specs.ValueOrder.{value_antisymm}
use Rattle.semi_joins.specs.Kept.{CanFit, IsTold}
use Rattle.semi_joins.proofs.Marking.{get_none, got}

reversed_equal : (o : Ordering) → o ≡ ordering_reverse o → o ≡ Equal
reversed_equal Less is = cc
reversed_equal Equal is = refl
reversed_equal Greater is = cc

eq_itself : (x : Value) → value_test Eq x x ≡ true
eq_itself x = ap (holds_at Eq) (reversed_equal (value_cmp x x) (value_antisymm x x))

pub not_true : (b : Bool) → not b ≡ true → b ≡ false
not_true true is = sym is
not_true false is = refl

pub marked_not : (b : Bool) (P : Type 0) → OnTrue b (P → ⊥) → P → not b ≡ true
marked_not true P never is = absurd (never is)
marked_not false P never is = refl

-- values that are not equal are two
pub unequal_two : (a b : Value) → value_test Eq a b ≡ false → a ≡ b → ⊥
unequal_two a b fails same = false≢true (sym fails ∙ ap (value_test Eq a) (sym same) ∙ eq_itself a)

-- the value of a place is another than the one it is to have
pub unfit_at : (terms : List Term) (row : List Value) (place : ℕ) (told own : Value)
    → IsTold terms row (λ values. slice_get row place) told → Some own ≡ slice_get row place → value_test Eq told own ≡ false
    → (values : List Value) → FitsTuple values terms row → ⊥
unfit_at terms row place told own tells is fails values fits =
    unequal_two told own fails (same_Some told own (sym (tells values fits) ∙ sym is))

-- a comparison whose sides are told
pub failing : (terms : List Term) (row : List Value) (t : Test) (left right : Value)
    → IsTold terms row (λ values. value_of values t.left) left → IsTold terms row (λ values. value_of values t.right) right
    → value_test t.cmp left right ≡ false → (values : List Value) → FitsTuple values terms row → TestHolds values t → ⊥
failing terms row t left right one other fails values fits holds =
    false≢true (sym fails ∙ ap (λ o. is_compared (Some left) t.cmp o) (sym (other values fits))
    ∙ ap (λ o. is_compared o t.cmp (value_of values t.right)) (sym (one values fits)) ∙ holds)

-- a variable whose value is told, and that of a side that it has
pub unequal : (terms : List Term) (row : List Value) (e : Equated) (s : TestTerm) (v : ℕ) (side own : Value)
    → s ≡ e.side → v ≡ e.var → IsTold terms row (λ values. value_of values s) side
    → IsTold terms row (λ values. slice_get values v) own
    → value_test Eq side own ≡ false → (tests : List Test) → IsImplied tests e → CanFit tests terms row → ⊥
unequal terms row e s v side own is_side is_var one other fails tests implied can =
    let one_side = subst (λ t. IsTold terms row (λ values. value_of values t) side) is_side one in
    let one_var = subst (λ k. IsTold terms row (λ values. slice_get values k) own) is_var other in
    let is : slice_get can.values e.var ≡ Some side = implied can.values side can.pass (one_side can.values can.fits) in
    unequal_two side own fails (same_Some side own (sym is ∙ one_var can.values can.fits))

-- a variable at a place has its value
pub told_var : (terms : List Term) (row : List Value) (place v : ℕ) (t : Term) (x : Value) → slice_get terms place ≡ Some t
    → t ≡ term.Var v → slice_get row place ≡ Some x → IsTold terms row (λ values. slice_get values v) x
told_var terms row place v t x at is own = λ values fits.
    fits.each place (term.Var v) x (at ∙ ap (λ u. Some u) is) own

-- what is read at a place of a variable
pub told_read : (terms : List Term) (row : List Value) (place v : ℕ) (t : Term) (o : Option (Bor Value)) → place < length terms
    → t ≡ slice_index_or terms place t → t ≡ term.Var v → is_some o ≡ nat_lt place (length row)
    → IfSome o (λ x. x.now ≡ slice_index_or row place x.now)
    → IfSome o (λ x. IsTold terms row (λ values. slice_get values v) x.now)
told_read terms row place v t None below at is inside read = tt
told_read terms row place v t (Some x) below at is inside read =
    told_var terms row place v t x.now (slice_get_read terms (length terms) place t refl below at) is
    (got row place x.now inside read)

-- a place of a variable whose value is told has it too
pub told_place : (terms : List Term) (row : List Value) (place v : ℕ) (x : Value) → Some (term.Var v) ≡ slice_get terms place
    → IsTold terms row (λ values. slice_get values v) x → IsTold terms row (λ values. slice_get row place) x
told_place terms row place v x at tells = λ values fits. by values fits (slice_get row place) refl
  where
    by : (values : List Value) → FitsTuple values terms row → (o : Option Value) → slice_get row place ≡ o → o ≡ Some x
    by values fits None is =
        let below = slice_get_within terms place (term.Var v) (sym at) in
        let same = fits.as_many in
        absurd (get_none row place (omega (arith, below, same)) (sym is))
    by values fits (Some y) is = sym (fits.each place (term.Var v) y (sym at) is) ∙ tells values fits

-- where a variable's value is told, if it is, a place of it has it
pub told_places : (terms : List Term) (row : List Value) (place v : ℕ) (o : Option (Bor Value))
    → Some (term.Var v) ≡ slice_get terms place → IfSome o (λ x. IsTold terms row (λ values. slice_get values v) x.now)
    → IfSome o (λ x. IsTold terms row (λ values. slice_get row place) x.now)
told_places terms row place v None at tells = tt
told_places terms row place v (Some x) at tells = told_place terms row place v x.now at tells

-- a place of a constant has it
pub told_constant : (terms : List Term) (row : List Value) (place : ℕ) (c : Value)
    → Some (term.Constant c) ≡ slice_get terms place → IsTold terms row (λ values. slice_get row place) c
told_constant terms row place c at = λ values fits. by values fits (slice_get row place) refl
  where
    by : (values : List Value) → FitsTuple values terms row → (o : Option Value) → slice_get row place ≡ o → o ≡ Some c
    by values fits None is =
        let below = slice_get_within terms place (term.Constant c) (sym at) in
        let same = fits.as_many in
        absurd (get_none row place (omega (arith, below, same)) (sym is))
    by values fits (Some y) is = ap (λ u. Some u) (sym (fits.each place (term.Constant c) y (sym at) is))
