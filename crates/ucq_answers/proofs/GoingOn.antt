-- Values of some variables that go on to values of more, and what terms that fit say of them.
use Rattle.std.proofs.Common.{◌≡◌, ◌≢◌, ◌<◌, ◌⊎◌, inl, inr, ℕ, zero, suc, true, false, cond, eqb, List, [], ◌∷◌, length, set, Option, None, Some, option_and_then, unwrap_or, slice_get, refl, sym, ap, subst, ◌∙◌, arith}
use Rattle.std.proofs.Math.ListN.{length-set}
use Rattle.std.proofs.lemmas.Bool.Decides.{eqb_tells}
use Rattle.std.proofs.lemmas.Option.{cond_some, none-some, option_and_then_some, same_Some, slice_get_within}
use Rattle.currency_base.specs.Values.{value_test}
use Rattle.currency_base.specs.declared.value.Cmp.TheVariants.{Eq}
use Rattle.currency_base.specs.declared.value.Value.{Value}
use Rattle.query_model.specs.declared.query.Term.{Term}
use Rattle.query_model.specs.declared.query.Term.TheVariants as term
use Rattle.ucq_answers.specs.Partly.{AreFitted, IsFitted, asked_at, asked_by, bind, fit, fit_term, given, value_at}
use Rattle.ucq_answers.proofs.Values.{same_test, tested_same}

-- ---- lists with a place written

get_set_same : {A : Type 0} (xs : List A) (i : ℕ) (a : A) → i < length xs → slice_get (set xs i a) i ≡ Some a
get_set_same [] i a below = absurd (omega arith)
get_set_same (x ∷ xs) zero a below = refl
get_set_same (x ∷ xs) (suc i) a below = get_set_same xs i a (omega arith)

get_set_other : {A : Type 0} (xs : List A) (i j : ℕ) (a : A) → j ≢ i → slice_get (set xs i a) j ≡ slice_get xs j
get_set_other [] i j a other = refl
get_set_other (x ∷ xs) zero zero a other = absurd (other refl)
get_set_other (x ∷ xs) zero (suc j) a other = refl
get_set_other (x ∷ xs) (suc i) zero a other = refl
get_set_other (x ∷ xs) (suc i) (suc j) a other = get_set_other xs i j a (λ same. other (ap (λ n. suc n) same))

pub get_none : {A : Type 0} (xs : List A) (i : ℕ) → i < length xs → slice_get xs i ≡ None → ⊥
get_none [] i below none = omega arith
get_none (x ∷ xs) zero below none = none-some x (sym none)
get_none (x ∷ xs) (suc i) below none = get_none xs i (omega arith) none

-- ---- going on

-- a variable that has a value keeps it
pub record Extends (b c : List (Option Value)) : Type 0 where
  pub as_many : length b ≡ length c
  pub kept : (v : ℕ) (x : Value) → slice_get b v ≡ Some (Some x) → slice_get c v ≡ Some (Some x)

pub extends_same : (b : List (Option Value)) → Extends b b
extends_same b = record { as_many = refl; kept = λ v x is. is }

pub extends_on : (b c d : List (Option Value)) → Extends b c → Extends c d → Extends b d
extends_on b c d first rest = record {
  as_many = first.as_many ∙ rest.as_many;
  kept = λ v x is. rest.kept v x
      (first.kept v x is);
}

pub fitted_on : (b c : List (Option Value)) (t : Term) (x : Value) → Extends b c → IsFitted b t x → IsFitted c t x
fitted_on b c (term.Var v) x on is = on.kept v x is
fitted_on b c term.Any x on is = tt
fitted_on b c (term.Constant k) x on is = is

pub all_on : (b c : List (Option Value)) (terms : List Term) (tuple : List Value) → Extends b c
    → AreFitted b terms tuple → AreFitted c terms tuple
all_on b c terms tuple on are = record {
  as_many = are.as_many;
  each = λ k t x at is. fitted_on b c t x on
      (are.each k t x at is);
}

-- ---- one variable

pub record IsBound (b c : List (Option Value)) (v : ℕ) (x : Value) : Type 0 where
  pub extends : Extends b c
  pub has : slice_get c v ≡ Some (Some x)

pub bound_one : (b : List (Option Value)) (v : ℕ) (x : Value) (c : List (Option Value)) → bind b v x ≡ Some c → IsBound b c v x
bound_one b v x c is = by (slice_get b v) refl is
  where
    keeps : (w : ℕ) (y : Value) → slice_get b w ≡ Some (Some y) → ((eqb w v ≡ true) × (w ≡ v)) ⊎
        ((eqb w v ≡ false) × (w ≢ v)) → slice_get b v ≡ Some None → set b v (Some x) ≡ c
        → slice_get c w ≡ Some (Some y)
    keeps w y own (inl at) free same = let there : slice_get b w ≡ Some None = ap (λ n. slice_get b n) at.1 ∙ free in cc
    keeps w y own (inr other) free same = ap (λ l. slice_get l w) (sym same) ∙ get_set_other b v w (Some x) other.1 ∙ own

    placed : slice_get b v ≡ Some None → set b v (Some x) ≡ c → IsBound b c v x
    placed free same =
        let below = slice_get_within b v None free in
        let has : slice_get c v ≡ Some (Some x) = ap (λ l. slice_get l v) (sym same) ∙ get_set_same b v (Some x) below in
        record {
          extends = record {
            as_many = sym (length-set b v (Some x)) ∙ ap (λ l. length l) same;
            kept =
                λ w y own. keeps w y own (eqb_tells w v) free same;
          };
          has = has;
        }

    by : (o : Option (Option Value)) → slice_get b v ≡ o → given o b v x ≡ Some c → IsBound b c v x
    by None at fits = absurd (none-some c fits)
    by (Some None) at fits = placed at (same_Some (set b v (Some x)) c fits)
    by (Some (Some y)) at fits =
        let both = cond_some (value_test Eq y x) b c fits in
        let same : y ≡ x = tested_same y x both.0 in
        subst (λ d. IsBound b d v x) both.1 record { extends = extends_same b; has = at ∙ ap (λ u. Some (Some u)) same }

-- values that go on to some where the variable has this value can be given it
pub record CanBind (o : Option (List (Option Value))) (d : List (Option Value)) : Type 0 where
  pub next : List (Option Value)
  pub is : o ≡ Some next
  pub extends : Extends next d

pub can_bind : (b d : List (Option Value)) (v : ℕ) (x : Value) → Extends b d → slice_get d v ≡ Some (Some x)
    → CanBind (bind b v x) d
can_bind b d v x on has = by (slice_get b v) refl
  where
    below : v < length b
    below = let inside = slice_get_within d v (Some x) has in let same = on.as_many in omega arith

    keeps : (w : ℕ) (y : Value) → slice_get (set b v (Some x)) w ≡ Some (Some y) → ((eqb w v ≡ true) × (w ≡ v)) ⊎
        ((eqb w v ≡ false) × (w ≢ v)) → slice_get d w ≡ Some (Some y)
    keeps w y own (inl at) = ap (λ n. slice_get d n) at.1 ∙ has ∙ sym (get_set_same b v (Some x) below)
        ∙ ap (λ n. slice_get (set b v (Some x)) n) (sym at.1) ∙ own
    keeps w y own (inr other) = on.kept w y (sym (get_set_other b v w (Some x) other.1) ∙ own)

    by : (o : Option (Option Value)) → slice_get b v ≡ o → CanBind (given o b v x) d
    by None at = let none = get_none b v below at in absurd none
    by (Some None) at =
        record {
          next = set b v (Some x);
          is = refl;
          extends = record { as_many = length-set b v (Some x) ∙ on.as_many; kept = λ w y own. keeps w y own (eqb_tells w v) };
        }
    by (Some (Some y)) at =
        let other : Some (Some y) ≡ Some (Some x) = sym (on.kept v y at) ∙ has in
        let same : y ≡ x = cc in
        let tested : value_test Eq y x ≡ true = ap (λ u. value_test Eq u x) same ∙ same_test x in
        record { next = b; is = ap (λ t. cond t (Some b) None) tested; extends = on }

-- ---- one term

pub record TermFits (b c : List (Option Value)) (t : Term) (x : Value) : Type 0 where
  pub extends : Extends b c
  pub fitted : IsFitted c t x

term_fits : (b : List (Option Value)) (t : Term) (x : Value) (c : List (Option Value)) → fit_term b t x ≡ Some c
    → TermFits b c t x
term_fits b (term.Var v) x c is = let bound = bound_one b v x c is in record { extends = bound.extends; fitted = bound.has }
term_fits b term.Any x c is = subst (λ d. TermFits b d term.Any x) (same_Some b c is)
    record { extends = extends_same b; fitted = tt }
term_fits b (term.Constant k) x c is =
    let both = cond_some (value_test Eq k x) b c is in
    subst (λ d. TermFits b d (term.Constant k) x) both.1 record { extends = extends_same b; fitted = tested_same k x both.0 }

can_fit_term : (b d : List (Option Value)) (t : Term) (x : Value) → Extends b d → IsFitted d t x → CanBind (fit_term b t x) d
can_fit_term b d (term.Var v) x on has = can_bind b d v x on has
can_fit_term b d term.Any x on has = record { next = b; is = refl; extends = on }
can_fit_term b d (term.Constant k) x on has =
    let tested : value_test Eq k x ≡ true = ap (λ u. value_test Eq u x) has ∙ same_test x in
    record { next = b; is = ap (λ t. cond t (Some b) None) tested; extends = on }

-- ---- all terms

pub record Fitted (b c : List (Option Value)) (terms : List Term) (tuple : List Value) : Type 0 where
  pub extends : Extends b c
  pub fitted : AreFitted c terms tuple

fitted_more : (b d c : List (Option Value)) (t : Term) (ts : List Term) (x : Value) (xs : List Value)
    → TermFits b d t x → Fitted d c ts xs → Fitted b c (t ∷ ts) (x ∷ xs)
fitted_more b d c t ts x xs first rest =
    record {
      extends = extends_on b d c first.extends rest.extends;
      fitted = record { as_many = ap (λ n. suc n) rest.fitted.as_many; each = at };
    }
  where
    at : (k : ℕ) (u : Term) (y : Value) → slice_get (t ∷ ts) k ≡ Some u → slice_get (x ∷ xs) k ≡ Some y → IsFitted c u y
    at zero u y is own =
        let here : IsFitted c t x = fitted_on d c t x rest.extends first.fitted in
        subst (λ w. IsFitted c w y) (same_Some t u is) (subst (λ w. IsFitted c t w) (same_Some x y own) here)
    at (suc k) u y is own = rest.fitted.each k u y is own

pub all_fitted : (b : List (Option Value)) (terms : List Term) (tuple : List Value) (c : List (Option Value))
    → fit b terms tuple ≡ Some c → Fitted b c terms tuple
all_fitted b [] [] c is =
    subst (λ d. Fitted b d [] []) (same_Some b c is)
    record { extends = extends_same b; fitted = record { as_many = refl; each = λ k t x at own. absurd (none-some t at) } }
all_fitted b [] (x ∷ xs) c is = absurd (none-some c is)
all_fitted b (t ∷ ts) [] c is = absurd (none-some c is)
all_fitted b (t ∷ ts) (x ∷ xs) c is =
    option_and_then_some (λ d. fit d ts xs) (fit_term b t x) c is (λ d first rest. fitted_more b d c t ts x xs
    (term_fits b t x d first) (all_fitted d ts xs c rest))

-- terms that fit in values to which these go on can be fitted
pub can_fit : (b d : List (Option Value)) (terms : List Term) (tuple : List Value) → Extends b d
    → AreFitted d terms tuple → CanBind (fit b terms tuple) d
can_fit b d [] [] on are = record { next = b; is = refl; extends = on }
can_fit b d [] (x ∷ xs) on are = absurd (omega (arith, are.as_many))
can_fit b d (t ∷ ts) [] on are = absurd (omega (arith, are.as_many))
can_fit b d (t ∷ ts) (x ∷ xs) on are =
    let first = can_fit_term b d t x on (are.each 0 t x refl refl) in
    let same : length ts ≡ length xs = omega (arith, are.as_many) in
    let others : AreFitted d ts xs = record { as_many = same; each = λ k u y at own. are.each (suc k) u y at own } in
    let rest = can_fit first.next d ts xs first.extends others in
    record { next = rest.next; is = ap (option_and_then (λ e. fit e ts xs)) first.is ∙ rest.is; extends = rest.extends }

-- ---- what terms ask for

pub value_is : (b : List (Option Value)) (v : ℕ) (x : Value) → value_at b v ≡ Some x → slice_get b v ≡ Some (Some x)
value_is b v x is = by (slice_get b v) is
  where
    by : (o : Option (Option Value)) → unwrap_or o None ≡ Some x → o ≡ Some (Some x)
    by None at = absurd (none-some x at)
    by (Some own) at = ap (λ u. Some u) at

asked_same : (b c : List (Option Value)) (t : Term) (x value : Value) → Extends b c → asked_by b t ≡ Some value
    → IsFitted c t x → x ≡ value
asked_same b c (term.Var v) x value on asked fits = let own = on.kept v value (value_is b v value asked) in cc
asked_same b c term.Any x value on asked fits = absurd (none-some value asked)
asked_same b c (term.Constant k) x value on asked fits = sym fits ∙ same_Some k value asked

-- a tuple that terms fit has the values that they ask for
pub asked_has : (b c : List (Option Value)) (terms : List Term) (tuple : List Value) (place : ℕ) (value : Value)
    → asked_at b terms place ≡ Some value → fit b terms tuple ≡ Some c
    → slice_get tuple place ≡ Some value
asked_has b c terms tuple place value asked fits = option_and_then_some (asked_by b) (slice_get terms place) value
    asked (λ t at own. has t at own)
  where
    are : Fitted b c terms tuple
    are = all_fitted b terms tuple c fits

    from : (t : Term) → slice_get terms place ≡ Some t → asked_by b t ≡ Some value → (o : Option Value)
        → slice_get tuple place ≡ o → o ≡ Some value
    from t at own None none =
        let inside = slice_get_within terms place t at in
        let same = are.fitted.as_many in
        let below : place < length tuple = omega arith in
        absurd (get_none tuple place below none)
    from t at own (Some x) is = ap (λ u. Some u) (asked_same b c t x value are.extends own (are.fitted.each place t x at is))

    has : (t : Term) → slice_get terms place ≡ Some t → asked_by b t ≡ Some value → slice_get tuple place ≡ Some value
    has t at own = from t at own (slice_get tuple place) refl
