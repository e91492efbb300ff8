-- What follows from comparisons, step by step.
use Rattle.std.proofs.Common.{◌≡◌, ◌≢◌, ◌⊎◌, inl, inr, ◌/◌, ◌%◌, ◌||◌, ℕ, Bool, true, false, List, Option, None, Some, option_and_then, slice_get, refl, sym, ap, subst, ◌∙◌, IfSome}
use Rattle.std.specs.Bool.{OnTrue}
use Rattle.std.specs.Ordering.{ordering_reverse}
use Rattle.std.specs.declared.cmp.Ordering.{Ordering}
use Rattle.std.specs.declared.cmp.Ordering.TheVariants.{Less, Equal, Greater}
use Rattle.std.proofs.lemmas.Bool.{false≢true}
use Rattle.currency_base.specs.Values.{holds_at, value_cmp, value_test}
use Rattle.currency_base.specs.declared.value.Cmp.{Cmp}
use Rattle.currency_base.specs.declared.value.Cmp.TheVariants.{Eq, Ge, Gt, Le, Lt, Ne}
use Rattle.currency_base.specs.declared.value.Value.{Value}
use Rattle.query_model.specs.Answers.{is_compared, value_of}
use Rattle.query_model.specs.declared.query.Test.{Test}
use Rattle.query_model.specs.declared.query.TestTerm.{TestTerm}
use Rattle.query_model.specs.declared.query.TestTerm.TheVariants as test
use Rattle.query_plan.specs.Implied.{AreContrary, AreEqual, Follows, IsImplied, IsUnlike, cmp_of, side_at, side_value}
use Rattle.query_plan.specs.ValueOrder.{exact_values, value_antisymm, value_trans}
use Rattle.query_plan.specs.declared.standing.Standing.{Standing}
use Rattle.query_plan.proofs.Sided.{held, side_has, side_left, side_right}

-- ---- answers of yes and no

pub on_true : (b : Bool) (P : Type 0) → (b ≡ true → P) → OnTrue b P
on_true true P from = from refl
on_true false P from = tt

pub of_true : (b : Bool) (P : Type 0) → OnTrue b P → b ≡ true → P
of_true true P is holds = is
of_true false P is holds = absurd (false≢true holds)

pub if_some : {A : Type 0} (o : Option A) (P Q : A → Type 0) → ((a : A) → P a → Q a) → IfSome o P → IfSome o Q
if_some None P Q to is = tt
if_some (Some a) P Q to is = to a is

-- ---- values

reversed_equal : (o : Ordering) → o ≡ ordering_reverse o → o ≡ Equal
reversed_equal Less is = cc
reversed_equal Equal is = refl
reversed_equal Greater is = cc

value_same : (v : Value) → value_cmp v v ≡ Equal
value_same v = reversed_equal (value_cmp v v) (value_antisymm v v)

pub tested_same : (a b : Value) → value_test Eq a b ≡ true → a ≡ b
tested_same a b is = exact_values a b (by (value_cmp a b) is)
  where
    by : (o : Ordering) → holds_at Eq o ≡ true → o ≡ Equal
    by Less holds = absurd (false≢true holds)
    by Equal holds = refl
    by Greater holds = absurd (false≢true holds)

-- at most is below or equal
stands : (f : Bool) (o : Ordering) → holds_at (cmp_of f) o ≡ true → (o ≡ Less) ⊎ ((f ≡ false) × (o ≡ Equal))
stands true Less holds = inl refl
stands true Equal holds = absurd (false≢true holds)
stands true Greater holds = absurd (false≢true holds)
stands false Less holds = inl refl
stands false Equal holds = inr (refl, refl)
stands false Greater holds = absurd (false≢true holds)

below_holds : (f : Bool) → holds_at (cmp_of f) Less ≡ true
below_holds true = refl
below_holds false = refl

same_holds : (x : Value) → value_test (cmp_of false) x x ≡ true
same_holds x = ap (holds_at Le) (value_same x)

chain : (f g : Bool) (x y z : Value) → value_test (cmp_of f) x y ≡ true → value_test (cmp_of g) y z ≡ true
    → value_test (cmp_of (f || g)) x z ≡ true
chain f g x y z one other = by (stands f (value_cmp x y) one) (stands g (value_cmp y z) other)
  where
    first : value_cmp x y ≡ Equal → value_cmp x z ≡ value_cmp y z
    first is = ap (λ w. value_cmp w z) (exact_values x y is)

    by : (value_cmp x y ≡ Less) ⊎ ((f ≡ false) × (value_cmp x y ≡ Equal)) → (value_cmp y z ≡ Less) ⊎
        ((g ≡ false) × (value_cmp y z ≡ Equal)) → holds_at (cmp_of (f || g)) (value_cmp x z) ≡ true
    by (inl a) (inl b) = ap (holds_at (cmp_of (f || g))) (value_trans x y z a b) ∙ below_holds (f || g)
    by (inl a) (inr b) =
        ap (holds_at (cmp_of (f || g))) (ap (λ w. value_cmp x w) (sym (exact_values y z b.1)) ∙ a) ∙ below_holds (f || g)
    by (inr a) (inl b) = ap (holds_at (cmp_of (f || g))) (first a.1 ∙ b) ∙ below_holds (f || g)
    by (inr a) (inr b) =
        ap (holds_at (cmp_of (f || g))) (first a.1 ∙ b.1) ∙ ap (λ u. holds_at (cmp_of (u || g)) Equal) a.0
        ∙ ap (λ u. holds_at (cmp_of u) Equal) b.0

-- ---- values that may lack

chain_some : (f g : Bool) (o p q : Option Value) → is_compared o (cmp_of f) p ≡ true → is_compared p (cmp_of g) q ≡ true
    → is_compared o (cmp_of (f || g)) q ≡ true
chain_some f g None p q one other = absurd (false≢true one)
chain_some f g (Some x) None q one other = absurd (false≢true one)
chain_some f g (Some x) (Some y) None one other = absurd (false≢true other)
chain_some f g (Some x) (Some y) (Some z) one other = chain f g x y z one other

below_never : (o : Option Value) → is_compared o Lt o ≡ true → ⊥
below_never None holds = false≢true holds
below_never (Some x) holds = false≢true (sym (ap (holds_at Lt) (value_same x)) ∙ holds)

unlike_never : (o : Option Value) → is_compared o Ne o ≡ true → ⊥
unlike_never None holds = false≢true holds
unlike_never (Some x) holds = false≢true (sym (ap (holds_at Ne) (value_same x)) ∙ holds)

equal_some : (f g : Bool) (o p : Option Value) → is_compared o (cmp_of f) p ≡ true → is_compared p (cmp_of g) o ≡ true → o ≡ p
equal_some f g None p one other = absurd (false≢true one)
equal_some f g (Some x) None one other = absurd (false≢true one)
equal_some f g (Some x) (Some y) one other = by (stands f (value_cmp x y) one) (stands g (value_cmp y x) other)
  where
    crossed : (o : Ordering) → o ≡ Less → o ≡ ordering_reverse Less → ⊥
    crossed o is_less is_greater = let both : Less ≡ Greater = sym is_less ∙ is_greater in absurd (apart both)
      where
        apart : Less ≡ Greater → ⊥
        apart e = cc

    by : (value_cmp x y ≡ Less) ⊎ ((f ≡ false) × (value_cmp x y ≡ Equal)) → (value_cmp y x ≡ Less) ⊎
        ((g ≡ false) × (value_cmp y x ≡ Equal)) → Some x ≡ Some y
    by (inr a) b = ap (λ u. Some u) (exact_values x y a.1)
    by (inl a) (inr b) = ap (λ u. Some u) (sym (exact_values y x b.1))
    by (inl a) (inl b) = absurd (crossed (value_cmp x y) a (value_antisymm x y ∙ ap ordering_reverse b))

-- ---- standings

pub follows_on : (tests : List Test) (first second : Standing) (f : Bool) → first.high ≡ second.low → f ≡ first.is_below || second.is_below
    → Follows tests first → Follows tests second
    → Follows tests record { low = first.low; high = second.high; is_below = f }
follows_on tests first second f same is one other = λ values all.
    let low = side_value tests values first.low in
    let mid = side_value tests values first.high in
    let high = side_value tests values second.high in
    subst (λ u. is_compared low (cmp_of u) high ≡ true) (sym is)
    (chain_some first.is_below second.is_below low mid high (one values all)
    (subst (λ n. is_compared (side_value tests values n) (cmp_of second.is_below) high ≡ true) (sym same) (other values all)))

pub below_itself : (tests : List Test) (s : Standing) → s.is_below ≡ true → s.low ≡ s.high → Follows tests s → AreContrary tests
below_itself tests s below same follows = λ values all.
    below_never (side_value tests values s.low)
    (subst (λ n. is_compared (side_value tests values s.low) Lt (side_value tests values n) ≡ true) (sym same)
    (subst (λ u. is_compared (side_value tests values s.low) (cmp_of u) (side_value tests values s.high) ≡ true) below
    (follows values all)))

pub opposite_equal : (tests : List Test) (up down : Standing) (a b : ℕ)
    → (up.low ≡ a) × (up.high ≡ b) × (down.low ≡ b) × (down.high ≡ a) → Follows tests up → Follows tests down → AreEqual tests a b
opposite_equal tests up down a b are one other = λ values all.
    let at = side_value tests values in
    equal_some up.is_below down.is_below (at a) (at b)
    (subst (λ n. is_compared (at n) (cmp_of up.is_below) (at b) ≡ true) are.0
    (subst (λ n. is_compared (at up.low) (cmp_of up.is_below) (at n) ≡ true) are.1 (one values all)))
    (subst (λ n. is_compared (at n) (cmp_of down.is_below) (at a) ≡ true) are.2
    (subst (λ n. is_compared (at down.low) (cmp_of down.is_below) (at n) ≡ true) are.3 (other values all)))

pub unlike_equal : (tests : List Test) (a b : ℕ) → IsUnlike tests a b → AreEqual tests a b → AreContrary tests
unlike_equal tests a b unlike equal = λ values all.
    unlike_never (side_value tests values a)
    (subst (λ o. is_compared (side_value tests values a) Ne o ≡ true) (sym (equal values all)) (unlike values all))

-- ---- the comparison whose sides they are

pub upward_follows : (tests : List Test) (t : Test) (low high : ℕ) (f : Bool) → slice_get tests (low / 2) ≡ Some t
    → (low % 2 ≡ 0) × (high % 2 ≢ 0) × (low / 2 ≡ high / 2)
    → ((a b : Value) → value_test t.cmp a b ≡ true → value_test (cmp_of f) a b ≡ true)
    → Follows tests record { low = low; high = high; is_below = f }
upward_follows tests t low high f is are tells = λ values all.
    let left : side_value tests values low ≡ value_of values t.left = ap (option_and_then (value_of values))
    (side_left tests low t is are.0) in
    let right : side_value tests values high ≡ value_of values t.right = ap (option_and_then (value_of values))
    (side_right tests high t (subst (λ k. slice_get tests k ≡ Some t) are.2 is) are.1) in
    ap (λ o. is_compared o (cmp_of f) (side_value tests values high)) left
    ∙ ap (λ o. is_compared (value_of values t.left) (cmp_of f) o) right
    ∙ told (value_of values t.left) (value_of values t.right) (held tests values (low / 2) t all is)
  where
    told : (o p : Option Value) → is_compared o t.cmp p ≡ true → is_compared o (cmp_of f) p ≡ true
    told None p holds = absurd (false≢true holds)
    told (Some x) None holds = absurd (false≢true holds)
    told (Some x) (Some y) holds = tells x y holds

pub downward_follows : (tests : List Test) (t : Test) (low high : ℕ) (f : Bool) → slice_get tests (low / 2) ≡ Some t
    → (high % 2 ≡ 0) × (low % 2 ≢ 0) × (high / 2 ≡ low / 2)
    → ((a b : Value) → value_test t.cmp a b ≡ true → value_test (cmp_of f) b a ≡ true)
    → Follows tests record { low = low; high = high; is_below = f }
downward_follows tests t low high f is are tells = λ values all.
    let right : side_value tests values low ≡ value_of values t.right = ap (option_and_then (value_of values))
    (side_right tests low t is are.1) in
    let left : side_value tests values high ≡ value_of values t.left = ap (option_and_then (value_of values))
    (side_left tests high t (subst (λ k. slice_get tests k ≡ Some t) (sym are.2) is) are.0) in
    ap (λ o. is_compared o (cmp_of f) (side_value tests values high)) right
    ∙ ap (λ o. is_compared (value_of values t.right) (cmp_of f) o) left
    ∙ told (value_of values t.left) (value_of values t.right) (held tests values (low / 2) t all is)
  where
    told : (o p : Option Value) → is_compared o t.cmp p ≡ true → is_compared p (cmp_of f) o ≡ true
    told None p holds = absurd (false≢true holds)
    told (Some x) None holds = absurd (false≢true holds)
    told (Some x) (Some y) holds = tells x y holds

-- a comparison the other way round
pub turned : (c d : Cmp) → ((o : Ordering) → holds_at c o ≡ true → holds_at d (ordering_reverse o) ≡ true) → (a b : Value)
    → value_test c a b ≡ true → value_test d b a ≡ true
turned c d by a b holds = ap (holds_at d) (value_antisymm b a) ∙ by (value_cmp a b) holds

pub eq_le : (o : Ordering) → holds_at Eq o ≡ true → holds_at Le (ordering_reverse o) ≡ true
eq_le Less holds = absurd (false≢true holds)
eq_le Equal holds = refl
eq_le Greater holds = absurd (false≢true holds)

pub gt_lt : (o : Ordering) → holds_at Gt o ≡ true → holds_at Lt (ordering_reverse o) ≡ true
gt_lt Less holds = absurd (false≢true holds)
gt_lt Equal holds = absurd (false≢true holds)
gt_lt Greater holds = refl

pub ge_le : (o : Ordering) → holds_at Ge o ≡ true → holds_at Le (ordering_reverse o) ≡ true
ge_le Less holds = absurd (false≢true holds)
ge_le Equal holds = refl
ge_le Greater holds = refl

-- ---- sides alone

pub alone_follows : (tests : List Test) (low high : ℕ) (one other : TestTerm) (f : Bool) → side_at tests low ≡ Some one
    → side_at tests high ≡ Some other → ((values : List Value) (x y : Value) → value_of values one ≡ Some x
    → value_of values other ≡ Some y → value_test (cmp_of f) x y ≡ true)
    → Follows tests record { low = low; high = high; is_below = f }
alone_follows tests low high one other f is_one is_other tells = λ values all.
    let first = side_has tests values low one all is_one in
    let second = side_has tests values high other all is_other in
    let low_is : side_value tests values low ≡ Some first.0 = ap (option_and_then (value_of values)) is_one ∙ first.1 in
    let high_is : side_value tests values high ≡ Some second.0 = ap (option_and_then (value_of values)) is_other ∙ second.1 in
    ap (λ o. is_compared o (cmp_of f) (side_value tests values high)) low_is
    ∙ ap (λ o. is_compared (Some first.0) (cmp_of f) o) high_is ∙ tells values first.0 second.0 first.1 second.1

pub one_side : (low high : TestTerm) (v w : ℕ) (o : Option Bool) → low ≡ test.Var v → high ≡ test.Var w
    → IfSome o (λ f. (f ≡ false) × (v ≡ w)) → IfSome o (λ f. (values : List Value) (x y : Value)
    → value_of values low ≡ Some x → value_of values high ≡ Some y → value_test (cmp_of f) x y ≡ true)
one_side low high v w o is_low is_high =
    if_some o (λ f. (f ≡ false) × (v ≡ w)) (λ f. (values : List Value) (x y : Value) → value_of values low ≡ Some x
    → value_of values high ≡ Some y → value_test (cmp_of f) x y ≡ true)
    (λ f are values x y has_x has_y. tell f are values x y has_x has_y)
  where
    tell : (f : Bool) → (f ≡ false) × (v ≡ w) → (values : List Value) (x y : Value) → value_of values low ≡ Some x
        → value_of values high ≡ Some y → value_test (cmp_of f) x y ≡ true
    tell f are values x y has_x has_y =
        let same : low ≡ high = is_low ∙ ap (λ n. test.Var n) are.1 ∙ sym is_high in
        let both : Some x ≡ Some y = sym has_x ∙ ap (value_of values) same ∙ has_y in
        let one : x ≡ y = cc in
        ap (λ u. value_test (cmp_of u) x y) are.0 ∙ ap (λ u. value_test (cmp_of false) x u) (sym one) ∙ same_holds x

-- ---- equalities

pub implied : (tests : List Test) (a b var : ℕ) (one other : TestTerm) → AreEqual tests a b → side_at tests a ≡ Some one
    → side_at tests b ≡ Some other → other ≡ test.Var var → IsImplied tests record { side = one; var = var }
implied tests a b var one other equal is_one is_other is_var = λ values x all has.
    let left : side_value tests values a ≡ value_of values one = ap (option_and_then (value_of values)) is_one in
    let right : side_value tests values b ≡ value_of values (test.Var var) = ap (option_and_then (value_of values))
    (is_other ∙ ap (λ s. Some s) is_var) in
    sym right ∙ sym (equal values all) ∙ left ∙ has
