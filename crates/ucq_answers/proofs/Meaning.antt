-- What a search finds is what meets a disjunct.
use Rattle.std.proofs.Common.{◌≡◌, ◌<◌, inl, inr, ℕ, zero, suc, Bool, true, false, ◌&&◌, List, [], ◌∷◌, map, length, replicate, get_or, Option, None, Some, option_map, unwrap_or, slice_get, refl, sym, ap, subst, ◌∙◌, arith}
use Rattle.std.specs.List.{All, Contains}
use Rattle.std.proofs.lemmas.List.{length-map}
use Rattle.std.proofs.lemmas.Bool.{false≢true}
use Rattle.std.proofs.lemmas.List.Elements.{All-cons, All-contains, All-head, All-nil, All-tail, Contains-get_or}
use Rattle.std.proofs.lemmas.Option.{get_or_from_slice_get, none-some, same_Some, slice_get-get_or, slice_get-map, slice_get_within}
use Rattle.currency_base.specs.declared.value.Cmp.{Cmp}
use Rattle.currency_base.specs.declared.value.Value.{Value}
use Rattle.query_model.specs.Answers.{AtomHolds, Fits, FitsTuple, IsHead, Meets, TestHolds, is_compared, value_of}
use Rattle.query_model.specs.Fitting.{IsDisjunct, IsTestTermOf}
use Rattle.query_model.specs.declared.query.Atom.{Atom}
use Rattle.query_model.specs.declared.query.Disjunct.{Disjunct}
use Rattle.query_model.specs.declared.query.Term.{Term}
use Rattle.query_model.specs.declared.query.Term.TheVariants as term
use Rattle.query_model.specs.declared.query.Test.{Test}
use Rattle.query_model.specs.declared.query.TestTerm.{TestTerm}
use Rattle.query_model.specs.declared.query.TestTerm.TheVariants as test
use Rattle.query_plan.specs.Implied.{Equated, IsImplied}
use Rattle.query_plan.specs.Plans.{AreSameAtoms, Conditioned}
use Rattle.ucq_answers.specs.Partly.{AreFitted, IsFitted, IsSolution, Reached, head_at, may_hold, passes, put_before, side_of, tuples_of, value_at, values_of}
use Rattle.ucq_answers.proofs.Among.{Among, from_contains}
use Rattle.ucq_answers.proofs.GoingOn.{Extends, all_on, get_none}
use Rattle.ucq_answers.proofs.Searching.{put_some, reached_extends}
use Rattle.ucq_answers.proofs.Spreading.{Agrees, all_joined, can_join}

-- each variable has its value
abbrev pub full : List Value → List (Option Value)
full values = map (λ x. Some x) values

-- ---- all values are known

pub get_full : (values : List Value) (v : ℕ) (x : Value) → slice_get values v ≡ Some x → slice_get (full values) v ≡ Some (Some x)
get_full values v x is = slice_get-map (λ y. Some y) values v ∙ ap (option_map (λ y. Some y)) is

pub full_get : (values : List Value) (v : ℕ) (x : Value) → slice_get (full values) v ≡ Some (Some x) → slice_get values v ≡ Some x
full_get values v x is = by (slice_get values v) (sym (slice_get-map (λ y. Some y) values v) ∙ is)
  where
    by : (o : Option Value) → option_map (λ y. Some y) o ≡ Some (Some x) → o ≡ Some x
    by None at = absurd (none-some (Some x) at)
    by (Some y) at = same_Some (Some y) (Some x) at

value_full : (values : List Value) (v : ℕ) → value_at (full values) v ≡ slice_get values v
value_full values v = ap (λ o. unwrap_or o None) (slice_get-map (λ y. Some y) values v) ∙ by (slice_get values v)
  where
    by : (o : Option Value) → unwrap_or (option_map (λ y. Some y) o) None ≡ o
    by None = refl
    by (Some y) = refl

side_full : (values : List Value) (s : TestTerm) → side_of (full values) s ≡ value_of values s
side_full values (test.Var v) = value_full values v
side_full values (test.Constant c) = refl

-- where the comparisons hold the values agree with what follows of them
pub agrees : (values : List Value) (tests : List Test) (equalities : List Equated) → All (TestHolds values) tests
    → All (IsImplied tests) equalities → All (Agrees (full values)) equalities
agrees values tests equalities all implied = λ k e below. one (get_or equalities k e) (implied k e below)
  where
    one : (e : Equated) → IsImplied tests e → Agrees (full values) e
    one e is x has = get_full values e.var x (is values x all (sym (side_full values e.side) ∙ has))

-- no variable has one
abbrev pub nothing : ℕ → List (Option Value)
nothing n = replicate n None

pub many_none : (n : ℕ) → length (nothing n) ≡ n
many_none zero = refl
many_none (suc n) = ap (λ k. suc k) (many_none n)

pub nothing_extends : (vars : ℕ) (c : List (Option Value)) → length c ≡ vars → Extends (replicate vars None) c
nothing_extends vars c same = record { as_many = many_none vars ∙ sym same; kept = λ v x is. absurd (never vars v x is) }
  where
    never : (n v : ℕ) (x : Value) → slice_get (replicate n None) v ≡ Some (Some x) → ⊥
    never zero v x is = none-some (Some x) is
    never (suc n) zero x is = none-some x (same_Some None (Some x) is)
    never (suc n) (suc v) x is = never n v x is

-- ---- atoms

fits_full : (values : List Value) (t : Term) (x : Value) → Fits values t x → IsFitted (full values) t x
fits_full values (term.Var v) x is = get_full values v x is
fits_full values term.Any x is = tt
fits_full values (term.Constant c) x is = is

pub full_fits : (values : List Value) (t : Term) (x : Value) → IsFitted (full values) t x → Fits values t x
full_fits values (term.Var v) x is = full_get values v x is
full_fits values term.Any x is = tt
full_fits values (term.Constant c) x is = is

pub tuple_fitted : (values : List Value) (terms : List Term) (tuple : List Value) → FitsTuple values terms tuple
    → AreFitted (full values) terms tuple
tuple_fitted values terms tuple fits = record {
  as_many = fits.as_many;
  each = λ k t x at is. fits_full values t x
      (fits.each k t x at is);
}

pub fitted_tuple : (values : List Value) (terms : List Term) (tuple : List Value) → AreFitted (full values) terms
    tuple → FitsTuple values terms tuple
fitted_tuple values terms tuple are = record {
  as_many = are.as_many;
  each = λ k t x at is. full_fits values t x
      (are.each k t x at is);
}

-- some values that are reached, of those that meet all atoms
pub record IsReached (equalities : List Equated) (instance : List (List (List Value))) (atoms : List Atom)
    (b d : List (Option Value)) : Type 0 where
  pub values : List (Option Value)
  pub reached : Reached equalities instance atoms b values
  pub extends : Extends values d

reach : (equalities : List Equated) (instance : List (List (List Value))) (values : List Value) (atoms : List Atom)
    (b : List (Option Value)) → All (Agrees (full values)) equalities
    → Extends b (full values) → All (AtomHolds instance values) atoms
    → IsReached equalities instance atoms b (full values)
reach equalities instance values [] b agree on all = record { values = b; reached = refl; extends = on }
reach equalities instance values (atom ∷ atoms) b agree on all =
    let own = All-head (AtomHolds instance values) atom atoms all in
    let are : AreFitted (full values) atom.terms own.tuple = tuple_fitted values atom.terms own.tuple own.fits in
    let next = can_join equalities b (full values) atom.terms own.tuple on are agree in
    let rest = reach equalities instance values atoms next.next agree next.extends
    (All-tail (AtomHolds instance values) atom atoms all) in
    let tuples = tuples_of instance atom in
    let at : slice_get tuples own.is_there.0 ≡ Some own.tuple =
    slice_get-get_or tuples own.is_there.0 own.tuple own.is_there.1 ∙ ap (λ u. Some u) own.is_there.2 in
    record {
      values = rest.values;
      reached = (next.next, record { place = own.is_there.0; tuple = own.tuple; is_tuple = at; joins = next.is }, rest.reached);
      extends = rest.extends;
    }

-- an atom fits a tuple of its relation
pub record Held (instance : List (List (List Value))) (c : List (Option Value)) (atom : Atom) : Type 0 where
  pub place : ℕ
  pub tuple : List Value
  pub is_tuple : slice_get (tuples_of instance atom) place ≡ Some tuple
  pub fitted : AreFitted c atom.terms tuple

-- each atom holds in what is reached
pub each_held : (equalities : List Equated) (instance : List (List (List Value))) (atoms : List Atom)
    (b c : List (Option Value)) (atom : Atom)
    → Reached equalities instance atoms b c → Among atoms atom → Held instance c atom
each_held equalities instance [] b c atom reached is = absurd is
each_held equalities instance (first ∷ atoms) b c atom reached (inl same) =
    let next = reached.0 in
    let own = reached.1 in
    let fitted = all_joined equalities b first.terms own.tuple next own.joins in
    let on = reached_extends equalities instance atoms next c reached.2 in
    subst (Held instance c) same record {
      place = own.place;
      tuple = own.tuple;
      is_tuple = own.is_tuple;
      fitted =
          all_on next c first.terms own.tuple on fitted.fitted;
    }
each_held equalities instance (first ∷ atoms) b c atom reached (inr rest) =
    each_held equalities instance atoms reached.0 c atom reached.2 rest

-- a variable that stands in an atom has a value
pub record HasValue (c : List (Option Value)) (v : ℕ) : Type 0 where
  pub value : Value
  pub has : slice_get c v ≡ Some (Some value)

held_value : (instance : List (List (List Value))) (c : List (Option Value)) (atom : Atom) (v : ℕ)
    → Held instance c atom → Contains atom.terms (term.Var v) → HasValue c v
held_value instance c atom v held stands =
    let own : slice_get atom.terms stands.0 ≡ Some (term.Var v) =
    slice_get-get_or atom.terms stands.0 (term.Var v) stands.1 ∙ ap (λ u. Some u) stands.2 in
    let below = stands.1 in
    let same = held.fitted.as_many in
    let inside : stands.0 < length held.tuple = omega arith in
    by own (slice_get held.tuple stands.0) refl inside
  where
    by : slice_get atom.terms stands.0 ≡ Some (term.Var v) → (o : Option Value) → slice_get held.tuple stands.0 ≡ o
        → stands.0 < length held.tuple → HasValue c v
    by own None at inside = absurd (get_none held.tuple stands.0 inside at)
    by own (Some x) at inside = record { value = x; has = held.fitted.each stands.0 (term.Var v) x own at }

pub all_have : (equalities : List Equated) (instance : List (List (List Value))) (d : Disjunct) (atoms : List Atom)
    (b c : List (Option Value)) → IsDisjunct d → AreSameAtoms d.atoms atoms → Reached equalities instance atoms b c
    → (v : ℕ) → v < d.vars → HasValue c v
all_have equalities instance d atoms b c fits same reached v below =
    let stands = fits.each_stands v below in
    let there = same.all stands.atom stands.is_atom in
    held_value instance c stands.atom v (each_held equalities instance atoms b c stands.atom reached
    (from_contains atoms stands.atom there)) stands.stands

-- ---- values of all variables

pub is_full : (c : List (Option Value)) → ((v : ℕ) → v < length c → HasValue c v) → c ≡ full (values_of c)
is_full [] all = refl
is_full (None ∷ c) all = let here = all 0 (omega arith) in absurd
    (none-some here.value (same_Some None (Some here.value) here.has))
is_full (Some x ∷ c) all = ap (λ l. Some x ∷ l)
    (is_full c (λ v below. let own = all (suc v) (omega arith) in record { value = own.value; has = own.has }))

same_lists : {A : Type 0} (xs ys : List A) → length xs ≡ length ys →
    ((k : ℕ) (a : A) → slice_get xs k ≡ Some a → slice_get ys k ≡ Some a) → xs ≡ ys
same_lists [] [] same each = refl
same_lists [] (y ∷ ys) same each = absurd (omega (arith, same))
same_lists (x ∷ xs) [] same each = absurd (omega (arith, same))
same_lists (x ∷ xs) (y ∷ ys) same each =
    let first : y ≡ x = same_Some y x (each 0 x refl) in
    let rest : xs ≡ ys = same_lists xs ys (omega (arith, same)) (λ k a is. each (suc k) a is) in
    cc

pub extends_full : (c d : List (Option Value)) → ((v : ℕ) → v < length c → HasValue c v) → Extends c d → c ≡ d
extends_full c d all on = same_lists c d on.as_many each
  where
    each : (k : ℕ) (a : Option Value) → slice_get c k ≡ Some a → slice_get d k ≡ Some a
    each k a is =
        let own = all k (slice_get_within c k a is) in
        let same : Some own.value ≡ a = same_Some (Some own.value) a (sym own.has ∙ is) in
        on.kept k own.value own.has ∙ ap (λ o. Some o) same

-- values of all variables go on to no others
pub full_extends : (values : List Value) (c : List (Option Value)) → Extends (full values) c → full values ≡ c
full_extends values c on = extends_full (full values) c has on
  where
    has : (v : ℕ) → v < length (full values) → HasValue (full values) v
    has v below = by (slice_get values v) refl
      where
        by : (o : Option Value) → slice_get values v ≡ o → HasValue (full values) v
        by None at =
            let inside : v < length values = omega (arith, below, length-map values (λ x. Some x)) in
            absurd (get_none values v inside at)
        by (Some x) at = record { value = x; has = get_full values v x at }

-- ---- comparisons

holds_may : (o p : Option Value) (cmp : Cmp) → is_compared o cmp p ≡ true → may_hold o cmp p ≡ true
holds_may None p cmp holds = refl
holds_may (Some x) None cmp holds = refl
holds_may (Some x) (Some y) cmp holds = holds

may_holds : (o p : Option Value) (cmp : Cmp) (x y : Value) → o ≡ Some x → p ≡ Some y → may_hold o cmp p ≡ true
    → is_compared o cmp p ≡ true
may_holds o p cmp x y is_x is_y holds =
    ap (λ u. is_compared u cmp p) is_x ∙ ap (λ u. is_compared (Some x) cmp u) is_y
    ∙ ap (λ u. may_hold (Some x) cmp u) (sym is_y) ∙ ap (λ u. may_hold u cmp p) (sym is_x) ∙ holds

pass_all : (values : List Value) (tests : List Test) → All (TestHolds values) tests → passes (full values) tests ≡ true
pass_all values [] all = refl
pass_all values (t ∷ tests) all =
    let here : may_hold (side_of (full values) t.left) t.cmp (side_of (full values) t.right) ≡ true =
    ap (λ o. may_hold o t.cmp (side_of (full values) t.right)) (side_full values t.left)
    ∙ ap (λ o. may_hold (value_of values t.left) t.cmp o) (side_full values t.right)
    ∙ holds_may (value_of values t.left) (value_of values t.right) t.cmp (All-head (TestHolds values) t tests all) in
    ap (λ u. u && passes (full values) tests) here ∙ pass_all values tests (All-tail (TestHolds values) t tests all)

known_side : (values : List Value) (s : TestTerm) → IsTestTermOf (length values) s → (x : Value) × (value_of values s ≡ Some x)
known_side values (test.Var v) below = by (slice_get values v) refl
  where
    by : (o : Option Value) → slice_get values v ≡ o → (x : Value) × (slice_get values v ≡ Some x)
    by None at = absurd (get_none values v below at)
    by (Some x) at = (x, at)
known_side values (test.Constant c) below = (c, refl)

all_pass : (values : List Value) (tests : List Test) → All (λ t. IsTestTermOf (length values) t.left) tests
    → All (λ t. IsTestTermOf (length values) t.right) tests
    → passes (full values) tests ≡ true → All (TestHolds values) tests
all_pass values [] left right passed = All-nil (TestHolds values)
all_pass values (t ∷ tests) left right passed =
    All-cons (TestHolds values) t tests
    (here (both (may_hold (side_of (full values) t.left) t.cmp (side_of (full values) t.right))
    (passes (full values) tests) passed).0)
    (all_pass values tests (All-tail (λ u. IsTestTermOf (length values) u.left) t tests left)
    (All-tail (λ u. IsTestTermOf (length values) u.right) t tests right)
    (both (may_hold (side_of (full values) t.left) t.cmp (side_of (full values) t.right)) (passes (full values) tests) passed).1)
  where
    both : (a b : Bool) → a && b ≡ true → (a ≡ true) × (b ≡ true)
    both true b is = (refl, is)
    both false b is = absurd (false≢true is)

    here : may_hold (side_of (full values) t.left) t.cmp (side_of (full values) t.right) ≡ true → TestHolds values t
    here holds =
        let one = known_side values t.left (All-head (λ u. IsTestTermOf (length values) u.left) t tests left) in
        let other = known_side values t.right (All-head (λ u. IsTestTermOf (length values) u.right) t tests right) in
        may_holds (value_of values t.left) (value_of values t.right) t.cmp one.0 other.0 one.1 other.1
        (ap (λ o. may_hold (value_of values t.left) t.cmp o) (sym (side_full values t.right))
        ∙ ap (λ o. may_hold o t.cmp (side_of (full values) t.right)) (sym (side_full values t.left)) ∙ holds)

-- ---- the head

pub head_full : (values : List Value) (head : List ℕ) (tuple : List Value) → IsHead values head tuple
    → head_at (full values) head ≡ Some tuple
head_full values [] [] is = refl
head_full values [] (x ∷ tuple) is = cc
head_full values (v ∷ head) [] is = cc
head_full values (v ∷ head) (x ∷ tuple) is =
    let first : slice_get values v ≡ Some x = cc in
    let rest : IsHead values head tuple = cc in
    ap (λ o. put_before o (head_at (full values) head)) (value_full values v ∙ first) ∙ ap (put_before (Some x))
    (head_full values head tuple rest)

pub full_head : (values : List Value) (head : List ℕ) (tuple : List Value) → head_at (full values) head ≡ Some tuple
    → IsHead values head tuple
full_head values [] tuple is = ap (λ t. map (λ x. Some x) t) (same_Some [] tuple is)
full_head values (v ∷ head) tuple is =
    let parts = put_some (value_at (full values) v) (head_at (full values) head) tuple is in
    let first : slice_get values v ≡ Some parts.0 = sym (value_full values v) ∙ parts.2 in
    let rest : IsHead values head parts.1 = full_head values head parts.1 parts.3 in
    let after : map (λ x. Some x) tuple ≡ map (λ x. Some x) (parts.0 ∷ parts.1) = ap (λ t. map (λ x. Some x) t) parts.4 in
    ap (λ o. o ∷ map (λ w. slice_get values w) head) first ∙ ap (λ l. Some parts.0 ∷ l) rest ∙ sym after

-- ---- solutions

-- a disjunct that fits, what its comparisons say, and its atoms in some order
pub record IsSearched (d : Disjunct) (conditions : Conditioned) (atoms : List Atom) : Type 0 where
  pub fits : IsDisjunct d
  pub tests : conditions.tests ≡ d.tests
  pub implied : All (IsImplied conditions.tests) conditions.equalities
  pub same : AreSameAtoms d.atoms atoms

-- where a disjunct is met the values agree with what follows
pub met_agrees : (instance : List (List (List Value))) (d : Disjunct) (conditions : Conditioned) (atoms : List Atom)
    (values : List Value) → IsSearched d conditions atoms → Meets instance d values
    → All (Agrees (full values)) conditions.equalities
met_agrees instance d conditions atoms values searched meets =
    agrees values conditions.tests conditions.equalities
    (subst (All (TestHolds values)) (sym searched.tests) meets.tests) searched.implied

-- values that meet a disjunct are a solution from each part of them
pub met_solution : (instance : List (List (List Value))) (d : Disjunct) (conditions : Conditioned) (atoms : List Atom)
    (b : List (Option Value)) (values : List Value) → IsSearched d conditions atoms
    → Extends b (full values) → Meets instance d values → IsSolution instance conditions atoms b (full values)
met_solution instance d conditions atoms b values searched on meets =
    let holds : All (AtomHolds instance values) atoms =
    λ k e below. All-contains (AtomHolds instance values) d.atoms (get_or atoms k e) meets.atoms
    (searched.same.each (get_or atoms k e) (Contains-get_or atoms k e below)) in
    let found = reach conditions.equalities instance values atoms b
    (met_agrees instance d conditions atoms values searched meets) on holds in
    let many : length found.values ≡ d.vars = found.extends.as_many ∙ length-map values (λ x. Some x) ∙ meets.per_var in
    let same : found.values ≡ full values =
    extends_full found.values (full values) (λ v below. all_have conditions.equalities instance d atoms b found.values
    searched.fits searched.same found.reached v (omega (arith, many, below))) found.extends in
    record {
      reached = subst (Reached conditions.equalities instance atoms b) same found.reached;
      passed = ap (λ l. passes (full values) l) searched.tests ∙ pass_all values d.tests meets.tests;
    }

-- a solution, as values that meet a disjunct
pub record IsMet (instance : List (List (List Value))) (d : Disjunct) (c : List (Option Value)) : Type 0 where
  pub same : c ≡ full (values_of c)
  pub meets : Meets instance d (values_of c)

pub solution_met : (instance : List (List (List Value))) (d : Disjunct) (conditions : Conditioned) (atoms : List Atom)
    (b c : List (Option Value)) → IsSearched d conditions atoms → length b ≡ d.vars
    → IsSolution instance conditions atoms b c → IsMet instance d c
solution_met instance d conditions atoms b c searched vars solution =
    record { same = same; meets = record { per_var = many; atoms = atoms_hold; tests = tests } }
  where
    count : length c ≡ d.vars
    count = sym (reached_extends conditions.equalities instance atoms b c solution.reached).as_many ∙ vars

    same : c ≡ full (values_of c)
    same = is_full c (λ v below. all_have conditions.equalities instance d atoms b c searched.fits searched.same
        solution.reached v (omega (arith, count, below)))

    many : length (values_of c) ≡ d.vars
    many = sym (length-map (values_of c) (λ x. Some x)) ∙ ap (λ l. length l) (sym same) ∙ count

    holds : (atom : Atom) → Contains d.atoms atom → AtomHolds instance (values_of c) atom
    holds atom is =
        let there = searched.same.all atom is in
        let held = each_held conditions.equalities instance atoms b c atom solution.reached (from_contains atoms atom there) in
        let fitted : AreFitted (full (values_of c)) atom.terms held.tuple =
        subst (λ e. AreFitted e atom.terms held.tuple) same held.fitted in
        let inside = slice_get_within (tuples_of instance atom) held.place held.tuple held.is_tuple in
        record {
          tuple = held.tuple;
          is_there = (
            held.place,
            inside,
            get_or_from_slice_get (tuples_of instance atom) held.place held.tuple
                held.tuple held.is_tuple,
          );
          fits = fitted_tuple (values_of c) atom.terms held.tuple fitted;
        }

    atoms_hold : All (AtomHolds instance (values_of c)) d.atoms
    atoms_hold k e below = holds (get_or d.atoms k e) (Contains-get_or d.atoms k e below)

    passed : passes c d.tests ≡ true
    passed = ap (λ l. passes c l) (sym searched.tests) ∙ solution.passed

    tests : All (TestHolds (values_of c)) d.tests
    tests =
        all_pass (values_of c) d.tests (subst (λ n. All (λ t. IsTestTermOf n t.left) d.tests) (sym many) searched.fits.left)
        (subst (λ n. All (λ t. IsTestTermOf n t.right) d.tests) (sym many) searched.fits.right)
        (subst (λ e. passes e d.tests ≡ true) same passed)
