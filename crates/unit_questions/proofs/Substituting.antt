-- A tuple is an answer of a query exactly where the query with its values for the heads has an answer.
use Rattle.std.proofs.Common.{◌≡◌, ◌↔◌, ◌∙◌, ◌<◌, ℕ, zero, suc, Bool, true, false, List, [], ◌∷◌, All, Option, Some, None, if◌then◌else◌, length, map, slice_get, refl, sym, ap, ap₂, subst}
use Rattle.std.proofs.lemmas.List.{length-map}
use Rattle.std.proofs.lemmas.Option.{same_Some, none-some}
use Rattle.currency_base.specs.declared.value.Value.{Value}
use Rattle.query_model.specs.Answers.{AtomHolds, Fits, FitsTuple, IsAnswer, Meets, TestHolds, is_compared, value_of}
use Rattle.query_model.specs.Fitting.{IsDisjunct, IsQuery, IsTermOf, IsTestTermOf}
use Rattle.query_model.specs.declared.query.Atom.{Atom}
use Rattle.query_model.specs.declared.query.Disjunct.{Disjunct}
use Rattle.query_model.specs.declared.query.Query.{Query}
use Rattle.query_model.specs.declared.query.Term.{Term}
use Rattle.query_model.specs.declared.query.Term.TheVariants as term
use Rattle.query_model.specs.declared.query.Test.{Test}
use Rattle.query_model.specs.declared.query.TestTerm.{TestTerm}
use Rattle.query_model.specs.declared.query.TestTerm.TheVariants as test
use Rattle.unit_questions.specs.Substituted.{fits_head, given_atom, given_disjunct, given_disjuncts, given_query, given_side, given_term, given_test, given_value, left_number, value_or_var}
use Rattle.unit_questions.proofs.Lists.{each_has, item_has, is_in, stands_at, mapped, unmapped}
use Rattle.unit_questions.proofs.Numbers.{get_kept, kept, kept_length, number_is, spread_of}
use Rattle.unit_questions.proofs.Heads.{fits_from, fits_to, head_given, head_has, head_length}

-- ---- the disjuncts that are left

-- it stands for one of the disjuncts, whose head the tuple fits
pub record IsFrom (tuple : List Value) (ds : List Disjunct) (new : Disjunct) : Type 0 where
  pub disjunct : Disjunct
  pub at : ℕ
  pub is_there : slice_get ds at ≡ Some disjunct
  pub fits : fits_head (given_value disjunct.head tuple) disjunct.head tuple ≡ true
  pub same : given_disjunct tuple disjunct ≡ new

from_later : (tuple : List Value) (d : Disjunct) (ds : List Disjunct) (new : Disjunct) → IsFrom tuple ds new
    → IsFrom tuple (d ∷ ds) new
from_later tuple d ds new from =
    record { disjunct = from.disjunct; at = suc from.at; is_there = from.is_there; fits = from.fits; same = from.same }

pub is_from : (tuple : List Value) (ds : List Disjunct) (k : ℕ) (new : Disjunct)
    → slice_get (given_disjuncts tuple ds) k ≡ Some new → IsFrom tuple ds new
is_from tuple [] k new at = absurd (none-some new at)
is_from tuple (d ∷ ds) k new at =
    go (fits_head (given_value d.head tuple) d.head tuple) refl k at
    (λ j here. from_later tuple d ds new (is_from tuple ds j new here))
  where
    go : (b : Bool) → fits_head (given_value d.head tuple) d.head tuple ≡ b → (k : ℕ)
        → slice_get (if b then given_disjunct tuple d ∷ given_disjuncts tuple ds else given_disjuncts tuple ds) k ≡ Some new
        → ((j : ℕ) → slice_get (given_disjuncts tuple ds) j ≡ Some new → IsFrom tuple (d ∷ ds) new) → IsFrom tuple (d ∷ ds) new
    go true fits zero at rest =
        record { disjunct = d; at = 0; is_there = refl; fits = fits; same = same_Some (given_disjunct tuple d) new at }
    go true fits (suc j) at rest = rest j at
    go false fails k at rest = rest k at

is_left : (tuple : List Value) (ds : List Disjunct) (k : ℕ) (d : Disjunct) → slice_get ds k ≡ Some d
    → fits_head (given_value d.head tuple) d.head tuple ≡ true
    → (j : ℕ) × (slice_get (given_disjuncts tuple ds) j ≡ Some (given_disjunct tuple d))
is_left tuple [] k d at fits = absurd (none-some d at)
is_left tuple (e ∷ ds) zero d at fits =
    let same : e ≡ d = same_Some e d at in (
      0,
      ap (λ l. slice_get l 0)
          (ap (λ b. if b then given_disjunct tuple e ∷ given_disjuncts tuple ds else given_disjuncts tuple ds)
          (ap (λ (x : Disjunct). fits_head (given_value x.head tuple) x.head tuple) same ∙ fits))
          ∙ ap (λ x. Some (given_disjunct tuple x)) same,
    )
is_left tuple (e ∷ ds) (suc k) d at fits =
    go (fits_head (given_value e.head tuple) e.head tuple) (is_left tuple ds k d at fits)
  where
    go : (b : Bool) → (j : ℕ) × (slice_get (given_disjuncts tuple ds) j ≡ Some (given_disjunct tuple d))
        → (j : ℕ)
        × (slice_get (if b then given_disjunct tuple e ∷ given_disjuncts tuple ds else given_disjuncts tuple ds) j
        ≡ Some (given_disjunct tuple d))
    go true r = (suc r.0, r.1)
    go false r = r

-- ---- values of the variables, and of those that are left

-- so many values are the given ones where there are such, and else those of the variables that are left
record Agree (g : ℕ → Option Value) (n : ℕ) (values own : List Value) : Type 0 where
  given : (v : ℕ) (x : Value) → v < n → g v ≡ Some x → slice_get values v ≡ Some x
  left : (v : ℕ) → v < n → g v ≡ None → slice_get values v ≡ slice_get own (left_number g v)

agree_fits : (g : ℕ → Option Value) (n : ℕ) (values own : List Value) → Agree g n values own → (t : Term) → IsTermOf n t
    → (x : Value) → Fits values t x ↔ Fits own (given_term g t) x
agree_fits g n values own agree (term.Var v) below x = go (g v) refl
  where
    go : (o : Option Value) → g v ≡ o
        → (slice_get values v ≡ Some x)
        ↔ Fits own (value_or_var (λ y. term.Constant y) (term.Var (left_number g v)) o) x
    go (Some y) is =
        let given = agree.given v y below is in
        (λ at. same_Some y x (sym given ∙ at), λ same. given ∙ ap (λ z. Some z) same)
    go None is = let left = agree.left v below is in (λ at. sym left ∙ at, λ at. left ∙ at)
agree_fits g n values own agree term.Any below x = (λ at. at, λ at. at)
agree_fits g n values own agree (term.Constant c) below x = (λ at. at, λ at. at)

agree_tuple : (g : ℕ → Option Value) (n : ℕ) (values own : List Value) → Agree g n values own → (terms : List Term)
    → All (IsTermOf n) terms → (tuple : List Value)
    → FitsTuple values terms tuple ↔ FitsTuple own (map (given_term g) terms) tuple
agree_tuple g n values own agree terms are tuple = (
  λ (fits : FitsTuple values terms tuple).
      record {
        as_many = length-map terms (given_term g) ∙ fits.as_many;
        each = λ k t x at at'.
            let u = unmapped (given_term g) terms k t at in
            subst (λ s. Fits own s x) u.2
            ((agree_fits g n values own agree u.0 (item_has (IsTermOf n) terms are k u.0 u.1) x).0 (fits.each k u.0 x u.1 at'));
      },
  λ (fits : FitsTuple own (map (given_term g) terms) tuple).
      record {
        as_many = sym (length-map terms (given_term g)) ∙ fits.as_many;
        each = λ k t x at at'.
            (agree_fits g n values own agree t (item_has (IsTermOf n) terms are k t at) x).1
            (fits.each k (given_term g t) x (mapped (given_term g) terms k t at) at');
      },
)

agree_atom : (g : ℕ → Option Value) (n : ℕ) (values own : List Value) → Agree g n values own
    → (instance : List (List (List Value))) (atom : Atom) → All (IsTermOf n) atom.terms
    → AtomHolds instance values atom ↔ AtomHolds instance own (given_atom g atom)
agree_atom g n values own agree instance atom are = (
  λ (holds : AtomHolds instance values atom).
      record {
        tuple = holds.tuple;
        is_there = holds.is_there;
        fits = (agree_tuple g n values own agree atom.terms are holds.tuple).0 holds.fits;
      },
  λ (holds : AtomHolds instance own (given_atom g atom)).
      record {
        tuple = holds.tuple;
        is_there = holds.is_there;
        fits = (agree_tuple g n values own agree atom.terms are holds.tuple).1 holds.fits;
      },
)

agree_side : (g : ℕ → Option Value) (n : ℕ) (values own : List Value) → Agree g n values own → (s : TestTerm) → IsTestTermOf n s
    → value_of values s ≡ value_of own (given_side g s)
agree_side g n values own agree (test.Var v) below = go (g v) refl
  where
    go : (o : Option Value) → g v ≡ o
        → slice_get values v ≡ value_of own (value_or_var (λ y. test.Constant y) (test.Var (left_number g v)) o)
    go (Some y) is = agree.given v y below is
    go None is = agree.left v below is
agree_side g n values own agree (test.Constant c) below = refl

agree_test : (g : ℕ → Option Value) (n : ℕ) (values own : List Value) → Agree g n values own → (t : Test)
    → IsTestTermOf n t.left → IsTestTermOf n t.right
    → is_compared (value_of values t.left) t.cmp (value_of values t.right)
    ≡ is_compared (value_of own (given_side g t.left)) t.cmp (value_of own (given_side g t.right))
agree_test g n values own agree t left right =
    ap₂ (λ a b. is_compared a t.cmp b) (agree_side g n values own agree t.left left)
    (agree_side g n values own agree t.right right)

-- what holds of each item of a list holds of each of the items that these are mapped to
all_mapped : {A B : Type 0} (f : A → B) (P : A → Type 0) (Q : B → Type 0) (xs : List A)
    → ((k : ℕ) (x : A) → slice_get xs k ≡ Some x → P x → Q (f x)) → All P xs → All Q (map f xs)
all_mapped f P Q xs each all =
    each_has Q (map f xs) (λ k y at.
    let u = unmapped f xs k y at in
    subst Q u.2 (each k u.0 u.1 (item_has P xs all k u.0 u.1)))

-- and back
all_unmapped : {A B : Type 0} (f : A → B) (P : A → Type 0) (Q : B → Type 0) (xs : List A)
    → ((k : ℕ) (x : A) → slice_get xs k ≡ Some x → Q (f x) → P x) → All Q (map f xs) → All P xs
all_unmapped f P Q xs each all =
    each_has P xs (λ k x at. each k x at (item_has Q (map f xs) all k (f x) (mapped f xs k x at)))

-- values meet a disjunct where those of the variables that are left meet it with the given values
agree_meets : (tuple : List Value) (d : Disjunct) → IsDisjunct d → (values own : List Value)
    → Agree (given_value d.head tuple) d.vars values own → length values ≡ d.vars → length own ≡ (given_disjunct tuple d).vars
    → (instance : List (List (List Value))) → Meets instance d values ↔ Meets instance (given_disjunct tuple d) own
agree_meets tuple d is values own agree many many_own instance = (
  λ (meets : Meets instance d values).
      record {
        per_var = many_own;
        atoms = all_mapped (given_atom g) (AtomHolds instance values) (AtomHolds instance own) d.atoms
            (λ k atom at. (atoms k atom at).0) meets.atoms;
        tests = all_mapped (given_test g) (TestHolds values) (TestHolds own) d.tests
            (λ k t at holds. sym (tests k t at) ∙ holds) meets.tests;
      },
  λ (meets : Meets instance (given_disjunct tuple d) own).
      record {
        per_var = many;
        atoms = all_unmapped (given_atom g) (AtomHolds instance values) (AtomHolds instance own) d.atoms
            (λ k atom at. (atoms k atom at).1) meets.atoms;
        tests = all_unmapped (given_test g) (TestHolds values) (TestHolds own) d.tests
            (λ k t at holds. tests k t at ∙ holds) meets.tests;
      },
)
  where
    g : ℕ → Option Value
    g = given_value d.head tuple

    atoms : (k : ℕ) (atom : Atom) → slice_get d.atoms k ≡ Some atom
        → AtomHolds instance values atom ↔ AtomHolds instance own (given_atom (given_value d.head tuple) atom)
    atoms k atom at =
        agree_atom (given_value d.head tuple) d.vars values own agree instance atom
        (item_has (λ (a : Atom). All (IsTermOf d.vars) a.terms) d.atoms is.atoms k atom at)

    tests : (k : ℕ) (t : Test) → slice_get d.tests k ≡ Some t
        → is_compared (value_of values t.left) t.cmp (value_of values t.right)
        ≡ is_compared (value_of own (given_side (given_value d.head tuple) t.left)) t.cmp
        (value_of own (given_side (given_value d.head tuple) t.right))
    tests k t at =
        agree_test (given_value d.head tuple) d.vars values own agree t
        (item_has (λ (u : Test). IsTestTermOf d.vars u.left) d.tests is.left k t at)
        (item_has (λ (u : Test). IsTestTermOf d.vars u.right) d.tests is.right k t at)

-- ---- answers

pub to_given : (query : Query) → IsQuery query → (instance : List (List (List Value))) (tuple : List Value)
    → IsAnswer query instance tuple → IsAnswer (given_query tuple query) instance []
to_given query are instance tuple answer =
    let d = answer.disjunct in
    let g = given_value d.head tuple in
    let at = stands_at query.disjuncts d answer.is_disjunct in
    let is = item_has IsDisjunct query.disjuncts are at.0 d at.1 in
    let given = head_given (λ x. x) answer.values d.head tuple answer.is_head in
    let fits = fits_from g answer.values given d.head tuple
    (head_has d.head tuple (head_length answer.values d.head tuple answer.is_head)) answer.is_head in
    let left = is_left tuple query.disjuncts at.0 d at.1 fits in
    let own = kept g answer.values in
    let agree : Agree g d.vars answer.values own =
    record {
      given = λ v x below. given v x;
      left = λ v below none. sym (ap (slice_get own) (number_is g v) ∙ get_kept g answer.values v none);
    } in
    let many = kept_length g answer.values ∙ sym (number_is g (length answer.values)) ∙ ap (left_number g) answer.meets.per_var in
    record {
      disjunct = given_disjunct tuple d;
      is_disjunct = is_in (given_disjuncts tuple query.disjuncts) left.0 (given_disjunct tuple d) left.1;
      values = own;
      meets = (agree_meets tuple d is answer.values own agree answer.meets.per_var many instance).0 answer.meets;
      is_head = refl;
    }

-- an answer by the disjunct that is made of one
whole_by : (query : Query) → IsQuery query → (instance : List (List (List Value))) (tuple : List Value) (at : ℕ) (d : Disjunct)
    → slice_get query.disjuncts at ≡ Some d → fits_head (given_value d.head tuple) d.head tuple ≡ true → (own : List Value)
    → Meets instance (given_disjunct tuple d) own → IsAnswer query instance tuple
whole_by query are instance tuple at d here fits own meets =
    let g = given_value d.head tuple in
    let is = item_has IsDisjunct query.disjuncts are at d here in
    let spread = spread_of g d.vars own (meets.per_var ∙ number_is g d.vars) in
    let agree : Agree g d.vars spread.values own =
    record {
      given = spread.given;
      left = λ v below none. spread.left v below none ∙ ap (slice_get own) (sym (number_is g v));
    } in
    record {
      disjunct = d;
      is_disjunct = is_in query.disjuncts at d here;
      values = spread.values;
      meets = (agree_meets tuple d is spread.values own agree spread.as_many meets.per_var instance).1 meets;
      is_head = fits_to g d.vars spread.values spread.given d.head tuple
          (λ k v. item_has (λ (u : ℕ). u < d.vars) d.head is.head k v) fits;
    }

pub to_whole : (query : Query) → IsQuery query → (instance : List (List (List Value))) (tuple : List Value)
    → IsAnswer (given_query tuple query) instance [] → IsAnswer query instance tuple
to_whole query are instance tuple answer =
    let at = stands_at (given_disjuncts tuple query.disjuncts) answer.disjunct answer.is_disjunct in
    let from = is_from tuple query.disjuncts at.0 answer.disjunct at.1 in
    whole_by query are instance tuple from.at from.disjunct from.is_there from.fits answer.values
    (subst (λ (e : Disjunct). Meets instance e answer.values) (sym from.same) answer.meets)
