-- The questions for claims can be asked of the relations.
use Rattle.std.proofs.Common.{◌≡◌, ◌∙◌, ◌<◌, ◌≤◌, ℕ, zero, suc, Bool, true, false, List, [], ◌∷◌, All, Option, Some, None, if◌then◌else◌, length, map, slice_get, refl, sym, ap, subst, ⊎_elim, arith}
use Rattle.std.proofs.lemmas.Bool.{cases_eq}
use Rattle.std.proofs.lemmas.List.{length-map}
use Rattle.std.proofs.lemmas.List.Elements.{All-nil, All-cons}
use Rattle.std.proofs.lemmas.Option.{same_Some, slice_get_within}
use Rattle.currency_base.specs.Values.{kind_of}
use Rattle.currency_base.specs.declared.ids.AttrId.{AttrId}
use Rattle.currency_base.specs.declared.ids.RelId.{RelId}
use Rattle.currency_base.specs.declared.value.ValueKind.{ValueKind}
use Rattle.currency_base.specs.declared.value.Value.{Value}
use Rattle.currency_base.specs.declared.value.Value.TheVariants.{Text}
use Rattle.query_model.specs.Fitting.{IsDisjunct, IsTermOf, IsTestTermOf, StandsIn}
use Rattle.query_model.specs.declared.query.Atom.{Atom}
use Rattle.query_model.specs.declared.query.Disjunct.{Disjunct}
use Rattle.query_model.specs.declared.query.Query.{Query}
use Rattle.query_model.specs.declared.query.Term.{Term}
use Rattle.query_model.specs.declared.query.Term.TheVariants as term
use Rattle.query_model.specs.declared.query.Test.{Test}
use Rattle.query_model.specs.declared.query.TestTerm.{TestTerm}
use Rattle.query_model.specs.declared.query.TestTerm.TheVariants as test
use Rattle.spec_model.specs.Facts.{kinds_of}
use Rattle.spec_model.specs.Queries.{IsAtomOn, IsDisjunctOn, IsQueryOn, IsTermOn, IsTestOn, place_kinds, side_kind}
use Rattle.spec_model.specs.declared.relation.Relation.{Relation}
use Rattle.unit_questions.specs.Steps.{value_term}
use Rattle.unit_questions.specs.Substituted.{fits_head, given_atom, given_disjunct, given_disjuncts, given_query, given_side, given_term, given_test, given_value, left_number, value_or_var}
use Rattle.unit_questions.specs.Units.{value_places, value_query}
use Rattle.unit_questions.proofs.Lists.{each_has, item_has, is_in, stands_at, mapped, unmapped}
use Rattle.unit_questions.proofs.Numbers.{get_kept, kept, kept_length, lacking, lacking_below, lacking_few, number_is, numbered}
use Rattle.unit_questions.proofs.Heads.{head_given}
use Rattle.unit_questions.proofs.Substituting.{is_from}
use Rattle.unit_questions.proofs.Walks.{place_is, places_length, term_here, term_other}

-- ---- current values

all_one : {A : Type 0} (P : A → Type 0) (x : A) → P x → All P (x ∷ [])
all_one P x one = All-cons P x [] one (All-nil P)

value_term_of : (k attr : ℕ) (value : Value) → IsTermOf 0 (value_term k attr value)
value_term_of k attr value = ⊎_elim
    (λ (same : k ≡ attr). subst (IsTermOf 0) (sym (term_here k attr value same)) tt)
    (λ (apart : k ≡ attr → ⊥). subst (IsTermOf 0) (sym (term_other k attr value apart)) tt)
    (cases_eq k attr)

value_term_on : (o : Option ValueKind) (k attr : ℕ) (value : Value) → (k ≡ attr → o ≡ Some (kind_of value))
    → IsTermOn [] o (value_term k attr value)
value_term_on o k attr value is = ⊎_elim
    (λ (same : k ≡ attr). subst (IsTermOn [] o) (sym (term_here k attr value same)) (sym (is same)))
    (λ (apart : k ≡ attr → ⊥). subst (IsTermOn [] o) (sym (term_other k attr value apart)) tt)
    (cases_eq k attr)

-- what stands at a place is what should
the_place : (n attr k : ℕ) (value : Value) (t : Term) → slice_get (value_places n attr value) k ≡ Some t
    → value_term k attr value ≡ t
the_place n attr k value t at =
    same_Some (value_term k attr value) t
    (sym (place_is n attr k value
    (omega (arith, slice_get_within (value_places n attr value) k t at, places_length n attr value)))
    ∙ at)

pub value_posed : (relations : List Relation) (rel : RelId) (r : Relation) → slice_get relations rel.0 ≡ Some r → (name : List ℕ)
    → (attr : AttrId) (value : Value) → slice_get (kinds_of r) attr.0 ≡ Some (kind_of value)
    → IsQueryOn relations (value_query rel name (length r.attrs) attr value)
value_posed relations rel r at name attr value kind =
    record {
      is_query = all_one IsDisjunct d is;
      few = omega arith;
      heads = [];
      disjuncts = all_one (IsDisjunctOn relations []) d
          record {
            few_atoms = omega arith;
            few_tests = omega arith;
            few_vars = omega arith;
            kinds = [];
            per_var = refl;
            atoms = all_one (IsAtomOn relations []) atom on;
            tests = All-nil (IsTestOn []);
            head = refl;
          };
    }
  where
    places : List Term
    places = value_places (length r.attrs) attr.0 value

    atom : Atom
    atom = record { relation = rel; terms = term.Constant (Text name) ∷ value_places (length r.attrs) attr.0 value }

    d : Disjunct
    d = record {
      head = [];
      atoms =
          record { relation = rel; terms = term.Constant (Text name) ∷ value_places (length r.attrs) attr.0 value } ∷ [];
      tests = [];
      vars = 0;
    }

    of : (k : ℕ) (t : Term) → slice_get (value_places (length r.attrs) attr.0 value) k ≡ Some t → IsTermOf 0 t
    of k t here = subst (IsTermOf 0) (the_place (length r.attrs) attr.0 k value t here) (value_term_of k attr.0 value)

    is : IsDisjunct d
    is =
        record {
          atoms = all_one (λ (a : Atom). All (IsTermOf 0) a.terms) atom
              (All-cons (IsTermOf 0) (term.Constant (Text name)) places tt (each_has (IsTermOf 0) places of));
          left = All-nil (λ (t : Test). IsTestTermOf 0 t.left);
          right = All-nil (λ (t : Test). IsTestTermOf 0 t.right);
          head = All-nil (λ (v : ℕ). v < 0);
          each_stands = λ v below. absurd (omega (arith, below));
        }

    terms : (k : ℕ) (t : Term)
        → slice_get (term.Constant (Text name) ∷ value_places (length r.attrs) attr.0 value) k ≡ Some t
        → IsTermOn [] (slice_get (place_kinds r) k) t
    terms zero t here = subst (IsTermOn [] (slice_get (place_kinds r) 0)) (same_Some (term.Constant (Text name)) t here) refl
    terms (suc k) t here =
        subst (IsTermOn [] (slice_get (kinds_of r) k)) (the_place (length r.attrs) attr.0 k value t here)
        (value_term_on (slice_get (kinds_of r) k) k attr.0 value (λ same. ap (slice_get (kinds_of r)) same ∙ kind))

    on : IsAtomOn relations [] atom
    on =
        record {
          relation = r;
          is_relation = at;
          as_many = omega (arith, places_length (length r.attrs) attr.0 value);
          terms = terms;
        }

-- ---- answers

map_all : {A B : Type 0} (f : A → B) (P : A → Type 0) (Q : B → Type 0) (xs : List A) → ((x : A) → P x → Q (f x)) → All P xs
    → All Q (map f xs)
map_all f P Q xs each all =
    each_has Q (map f xs) (λ k y at. let u = unmapped f xs k y at in subst Q u.2 (each u.0 (item_has P xs all k u.0 u.1)))

number_below : (g : ℕ → Option Value) (v n : ℕ) → v < n → g v ≡ None → left_number g v < left_number g n
number_below g v n below none = omega (arith, lacking_below g v n below none, number_is g v, number_is g n)

given_term_of : (g : ℕ → Option Value) (n : ℕ) (t : Term) → IsTermOf n t → IsTermOf (left_number g n) (given_term g t)
given_term_of g n (term.Var v) below = go (g v) refl
  where
    go : (o : Option Value) → g v ≡ o
        → IsTermOf (left_number g n) (value_or_var (λ y. term.Constant y) (term.Var (left_number g v)) o)
    go (Some y) is = tt
    go None is = number_below g v n below is
given_term_of g n term.Any is = tt
given_term_of g n (term.Constant c) is = tt

given_side_of : (g : ℕ → Option Value) (n : ℕ) (s : TestTerm) → IsTestTermOf n s → IsTestTermOf (left_number g n) (given_side g s)
given_side_of g n (test.Var v) below = go (g v) refl
  where
    go : (o : Option Value) → g v ≡ o
        → IsTestTermOf (left_number g n) (value_or_var (λ y. test.Constant y) (test.Var (left_number g v)) o)
    go (Some y) is = tt
    go None is = number_below g v n below is
given_side_of g n (test.Constant c) is = tt

-- a variable that is left stands where it stood
left_stands : (g : ℕ → Option Value) (atoms : List Atom) (v w : ℕ) → g v ≡ None → left_number g v ≡ w → StandsIn atoms v
    → StandsIn (map (given_atom g) atoms) w
left_stands g atoms v w none is stands =
    let at = stands_at atoms stands.atom stands.is_atom in
    let here = stands_at stands.atom.terms (term.Var v) stands.stands in
    let new : given_term g (term.Var v) ≡ term.Var w =
    ap (λ o. value_or_var (λ y. term.Constant y) (term.Var (left_number g v)) o) none ∙ ap (λ n. term.Var n) is in
    record {
      atom = given_atom g stands.atom;
      is_atom = is_in (map (given_atom g) atoms) at.0 (given_atom g stands.atom)
          (mapped (given_atom g) atoms at.0 stands.atom at.1);
      stands = is_in (map (given_term g) stands.atom.terms) here.0 (term.Var w)
          (mapped (given_term g) stands.atom.terms here.0 (term.Var v) here.1 ∙ ap (λ t. Some t) new);
    }

given_is : (tuple : List Value) (d : Disjunct) → IsDisjunct d → IsDisjunct (given_disjunct tuple d)
given_is tuple d is =
    let g = given_value d.head tuple in
    let n = left_number g d.vars in
    record {
      atoms = map_all (given_atom g) (λ (a : Atom). All (IsTermOf d.vars) a.terms) (λ (a : Atom). All (IsTermOf n) a.terms)
          d.atoms
          (λ a terms. map_all (given_term g) (IsTermOf d.vars) (IsTermOf n) a.terms (given_term_of g d.vars) terms) is.atoms;
      left = map_all (given_test g) (λ (t : Test). IsTestTermOf d.vars t.left) (λ (t : Test). IsTestTermOf n t.left) d.tests
          (λ t. given_side_of g d.vars t.left) is.left;
      right = map_all (given_test g) (λ (t : Test). IsTestTermOf d.vars t.right) (λ (t : Test). IsTestTermOf n t.right) d.tests
          (λ t. given_side_of g d.vars t.right) is.right;
      head = All-nil (λ (v : ℕ). v < n);
      each_stands = λ w below.
          let v = numbered g d.vars w (omega (arith, below, number_is g d.vars)) in
          left_stands g d.atoms v.0 w v.2 (number_is g v.0 ∙ v.3) (is.each_stands v.0 v.1);
    }

-- the given values have the kinds of the variables
abbrev HaveKinds : (ℕ → Option Value) → List ValueKind → Type 0
HaveKinds g kinds = (v : ℕ) (x : Value) → g v ≡ Some x → slice_get kinds v ≡ Some (kind_of x)

kept_kind : (g : ℕ → Option Value) (kinds : List ValueKind) (v : ℕ) → g v ≡ None
    → slice_get (kept g kinds) (left_number g v) ≡ slice_get kinds v
kept_kind g kinds v none = ap (slice_get (kept g kinds)) (number_is g v) ∙ get_kept g kinds v none

given_term_on : (g : ℕ → Option Value) (kinds : List ValueKind) → HaveKinds g kinds → (o : Option ValueKind) (t : Term)
    → IsTermOn kinds o t
    → IsTermOn (kept g kinds) o (given_term g t)
given_term_on g kinds have o (term.Var v) is = go (g v) refl
  where
    go : (p : Option Value) → g v ≡ p
        → IsTermOn (kept g kinds) o (value_or_var (λ y. term.Constant y) (term.Var (left_number g v)) p)
    go (Some y) given = sym (have v y given) ∙ is
    go None none = kept_kind g kinds v none ∙ is
given_term_on g kinds have o term.Any is = tt
given_term_on g kinds have o (term.Constant c) is = is

given_side_on : (g : ℕ → Option Value) (kinds : List ValueKind) → HaveKinds g kinds → (s : TestTerm)
    → side_kind (kept g kinds) (given_side g s) ≡ side_kind kinds s
given_side_on g kinds have (test.Var v) = go (g v) refl
  where
    go : (p : Option Value) → g v ≡ p
        → side_kind (kept g kinds) (value_or_var (λ y. test.Constant y) (test.Var (left_number g v)) p) ≡ slice_get kinds v
    go (Some y) given = sym (have v y given)
    go None none = kept_kind g kinds v none
given_side_on g kinds have (test.Constant c) = refl

given_atom_on : (relations : List Relation) (g : ℕ → Option Value) (kinds : List ValueKind) → HaveKinds g kinds → (atom : Atom)
    → IsAtomOn relations kinds atom → IsAtomOn relations (kept g kinds) (given_atom g atom)
given_atom_on relations g kinds have atom on =
    record {
      relation = on.relation;
      is_relation = on.is_relation;
      as_many = length-map atom.terms (given_term g) ∙ on.as_many;
      terms = λ k t at.
          let u = unmapped (given_term g) atom.terms k t at in
          let o = slice_get (place_kinds on.relation) k in
          subst (IsTermOn (kept g kinds) o) u.2 (given_term_on g kinds have o u.0 (on.terms k u.0 u.1));
    }

map_twice : {A B : Type 0} (f : A → B) (xs : List A) → map (λ y. Some y) (map f xs) ≡ map (λ x. Some (f x)) xs
map_twice f [] = refl
map_twice f (x ∷ xs) = ap (λ l. Some (f x) ∷ l) (map_twice f xs)

given_on : (relations : List Relation) (heads : List ValueKind) (tuple : List Value) → heads ≡ map kind_of tuple → (d : Disjunct)
    → IsDisjunctOn relations heads d → IsDisjunctOn relations [] (given_disjunct tuple d)
given_on relations heads tuple are d on =
    let g = given_value d.head tuple in
    let have : HaveKinds g on.kinds =
    head_given kind_of on.kinds d.head tuple (on.head ∙ ap (map (λ kind. Some kind)) are ∙ map_twice kind_of tuple) in
    record {
      few_atoms = omega (arith, length-map d.atoms (given_atom g), on.few_atoms);
      few_tests = omega (arith, length-map d.tests (given_test g), on.few_tests);
      few_vars = omega (arith, number_is g d.vars, lacking_few g d.vars, on.few_vars);
      kinds = kept g on.kinds;
      per_var = kept_length g on.kinds ∙ ap (lacking g) on.per_var ∙ sym (number_is g d.vars);
      atoms = map_all (given_atom g) (IsAtomOn relations on.kinds) (IsAtomOn relations (kept g on.kinds)) d.atoms
          (given_atom_on relations g on.kinds have) on.atoms;
      tests = map_all (given_test g) (IsTestOn on.kinds) (IsTestOn (kept g on.kinds)) d.tests
          (λ t own.
          record {
            kind = own.kind;
            left = given_side_on g on.kinds have t.left ∙ own.left;
            right = given_side_on g on.kinds have t.right ∙ own.right;
          }) on.tests;
      head = refl;
    }

-- what holds of what is made of each disjunct
pub all_given : (P Q : Disjunct → Type 0) (tuple : List Value) (ds : List Disjunct)
    → ((d : Disjunct) → P d → Q (given_disjunct tuple d))
    → All P ds → All Q (given_disjuncts tuple ds)
all_given P Q tuple ds each all =
    each_has Q (given_disjuncts tuple ds) (λ k e at.
    let from = is_from tuple ds k e at in
    subst Q from.same (each from.disjunct (item_has P ds all from.at from.disjunct from.is_there)))

given_few : (tuple : List Value) (ds : List Disjunct) → length (given_disjuncts tuple ds) ≤ length ds
given_few tuple [] = omega arith
given_few tuple (d ∷ ds) = go (fits_head (given_value d.head tuple) d.head tuple) (given_few tuple ds)
  where
    go : (b : Bool) → length (given_disjuncts tuple ds) ≤ length ds
        → length (if b then given_disjunct tuple d ∷ given_disjuncts tuple ds else given_disjuncts tuple ds) ≤ suc (length ds)
    go true few = omega (arith, few)
    go false few = omega (arith, few)

pub answer_posed : (relations : List Relation) (query : Query) → (on : IsQueryOn relations query) → (tuple : List Value)
    → on.heads ≡ map kind_of tuple → IsQueryOn relations (given_query tuple query)
answer_posed relations query on tuple are =
    record {
      is_query = all_given IsDisjunct IsDisjunct tuple query.disjuncts (given_is tuple) on.is_query;
      few = omega (arith, given_few tuple query.disjuncts, on.few);
      heads = [];
      disjuncts = all_given (IsDisjunctOn relations on.heads) (IsDisjunctOn relations []) tuple query.disjuncts
          (given_on relations on.heads tuple are) on.disjuncts;
    }
