-- A disjunct that is made of one that is agreed fits the relations.
use Rattle.std.proofs.Common.{◌≡◌, ◌∙◌, ◌+◌, ◌<◌, ◌∷◌, [], ℕ, suc, List, length, map, All, Contains, Option, Some, None, Ok, slice_get, inl, inr, refl, sym, ap, subst, arith}
use Rattle.std.specs.Prelude.{if◌then◌else◌, option_map}
use Rattle.std.specs.List.{count_by}
use Rattle.std.proofs.lemmas.List.{length-map}
use Rattle.std.proofs.lemmas.List.Elements.{All-nil, All-cons}
use Rattle.std.proofs.lemmas.List.Sums.{sum_by-cons}
use Rattle.std.proofs.lemmas.Option.{get_or_from_slice_get, slice_get-map, slice_get_cases, slice_get_within}
use Rattle.currency_base.specs.Values.{kind_of}
use Rattle.currency_base.specs.declared.error_code.ErrorCode.TheVariants.{UnknownName}
use Rattle.currency_base.specs.declared.value.ValueKind.{ValueKind}
use Rattle.currency_base.specs.declared.value.ValueKind.TheVariants.{Text}
use Rattle.text_grammar.specs.declared.named.Named.{Named}
use Rattle.query_syntax.specs.declared.trees.DisjunctTree.{DisjunctTree}
use Rattle.query_syntax.specs.declared.trees.AtomTree.{AtomTree}
use Rattle.query_syntax.specs.declared.trees.TestTree.{TestTree}
use Rattle.query_syntax.specs.declared.trees.PartTree.{PartTree}
use Rattle.query_syntax.specs.declared.trees.PartTree.TheVariants as part
use Rattle.query_syntax.specs.declared.trees.PlaceTree.{PlaceTree}
use Rattle.query_syntax.specs.declared.trees.PlaceTree.TheVariants as place
use Rattle.query_syntax.specs.declared.trees.TestTermTree.{TestTermTree}
use Rattle.query_syntax.specs.declared.trees.TestTermTree.TheVariants as side
use Rattle.query_model.specs.Fitting.{IsDisjunct, IsTermOf, IsTestTermOf, StandsIn}
use Rattle.query_model.specs.declared.query.Atom.{Atom}
use Rattle.query_model.specs.declared.query.Disjunct.{Disjunct}
use Rattle.query_model.specs.declared.query.Term.{Term}
use Rattle.query_model.specs.declared.query.Term.TheVariants as term
use Rattle.query_model.specs.declared.query.Test.{Test}
use Rattle.query_model.specs.declared.query.TestTerm.{TestTerm}
use Rattle.query_model.specs.declared.query.TestTerm.TheVariants as compared
use Rattle.bind_faults.specs.Faults.{all_of, and_then, found_or, refused_at}
use Rattle.bind_faults.specs.declared.fault.BindFault.{BindFault}
use Rattle.spec_model.specs.declared.relation.Relation.{Relation}
use Rattle.spec_names.specs.Names.{place_of}
use Rattle.spec_model.specs.Queries.{IsAtomOn, IsTermOn, IsTestOn, place_kinds}
use Rattle.spec_model.specs.Queries as fit
use Rattle.query_bind.specs.Queried.{all_parts, atom_of, atoms_of, disjunct_of, is_atom, is_test, kind_in, part_mismatch, relation_at, relation_of, side_kind, side_line, side_of, term_of, test_of, tests_of, unsafe_code, var_named, vars_of}
use Rattle.query_bind.proofs.Lists.{IsIn, and_then_ok, as_many, each_is, gives, made_of, none_of}
use Rattle.query_bind.proofs.Names.{its_place, place_within, stands_at, var_stands, vars_once}
use Rattle.query_bind.proofs.OneKind.{IsAgreed, agreed_atom, no_clash, place_kind, var_kind}

-- ---- names that have become numbers

found_ok : (place : Option ℕ) (fault : BindFault) (k : ℕ) → found_or place fault Ok ≡ Ok k → place ≡ Some k
found_ok None fault k is = absurd (cc)
found_ok (Some place) fault k is = cc

pub number_of : (vars : List (List ℕ)) (named : Named) (v : ℕ) → var_named vars named ≡ Ok v → place_of vars named.name ≡ Some v
number_of vars named v is = found_ok (place_of vars named.name) (refused_at unsafe_code named) v is

pub number_within : (vars : List (List ℕ)) (named : Named) (v : ℕ) → var_named vars named ≡ Ok v → v < length vars
number_within vars named v is = place_within vars named.name v (number_of vars named v is)

-- what parts give
pub parts_atom : (names vars : List (List ℕ)) (parts : List PartTree) (atoms : List Atom) (atom : AtomTree)
    → atoms_of names vars parts ≡ Ok atoms
    → IsIn (part.Atom atom) parts → (k : ℕ) × (a : Atom) × (slice_get atoms k ≡ Some a) × (atom_of names vars atom ≡ Ok a)
parts_atom names vars [] atoms atom is there = elim there [ ]
parts_atom names vars (part.Atom tree ∷ parts) atoms atom is there =
    let a = and_then_ok (atom_of names vars tree) (λ x. and_then (atoms_of names vars parts) (λ more. Ok (x ∷ more))) atoms is in
    let b = and_then_ok (atoms_of names vars parts) (λ more. Ok (a.0 ∷ more)) atoms a.2 in
    let made : a.0 ∷ b.0 ≡ atoms = cc in
    elim there [
      | inl here ↦ (
          let same : atom ≡ tree = cc in
          (0, a.0, ap (λ l. slice_get l 0) (sym made), ap (atom_of names vars) same ∙ a.1)
          )
      | inr later ↦ (
          let rest = parts_atom names vars parts b.0 atom b.1 later in
          (suc rest.0, rest.1, ap (λ l. slice_get l (suc rest.0)) (sym made) ∙ rest.2, rest.3)
          )
    ]
parts_atom names vars (part.Test test ∷ parts) atoms atom is (inl here) = absurd (cc)
parts_atom names vars (part.Test test ∷ parts) atoms atom is (inr later) = parts_atom names vars parts atoms atom is later

atoms_each : (P : Atom → Type 0) (names vars : List (List ℕ)) (parts : List PartTree) (atoms : List Atom)
    → atoms_of names vars parts ≡ Ok atoms
    → ((atom : AtomTree) (a : Atom) → IsIn (part.Atom atom) parts → atom_of names vars atom ≡ Ok a → P a) → All P atoms
atoms_each P names vars [] atoms is each = let made : [] ≡ atoms = cc in subst (All P) made (All-nil P)
atoms_each P names vars (part.Atom tree ∷ parts) atoms is each =
    let a = and_then_ok (atom_of names vars tree) (λ x. and_then (atoms_of names vars parts) (λ more. Ok (x ∷ more))) atoms is in
    let b = and_then_ok (atoms_of names vars parts) (λ more. Ok (a.0 ∷ more)) atoms a.2 in
    let made : a.0 ∷ b.0 ≡ atoms = cc in
    subst (All P) made (All-cons P a.0 b.0 (each tree a.0 (inl refl) a.1)
    (atoms_each P names vars parts b.0 b.1 (λ atom x there. each atom x (inr there))))
atoms_each P names vars (part.Test test ∷ parts) atoms is each = atoms_each P names vars parts atoms is
    (λ atom x there. each atom x (inr there))

tests_each : (P : Test → Type 0) (vars : List (List ℕ)) (parts : List PartTree) (tests : List Test)
    → tests_of vars parts ≡ Ok tests
    → ((test : TestTree) (t : Test) → IsIn (part.Test test) parts → test_of vars test ≡ Ok t → P t) → All P tests
tests_each P vars [] tests is each = let made : [] ≡ tests = cc in subst (All P) made (All-nil P)
tests_each P vars (part.Atom atom ∷ parts) tests is each = tests_each P vars parts tests is
    (λ test x there. each test x (inr there))
tests_each P vars (part.Test tree ∷ parts) tests is each =
    let a = and_then_ok (test_of vars tree) (λ x. and_then (tests_of vars parts) (λ more. Ok (x ∷ more))) tests is in
    let b = and_then_ok (tests_of vars parts) (λ more. Ok (a.0 ∷ more)) tests a.2 in
    let made : a.0 ∷ b.0 ≡ tests = cc in
    subst (All P) made (All-cons P a.0 b.0 (each tree a.0 (inl refl) a.1)
    (tests_each P vars parts b.0 b.1 (λ test x there. each test x (inr there))))

-- there are as many
pub atoms_many : (names vars : List (List ℕ)) (parts : List PartTree) (atoms : List Atom) → atoms_of names vars
    parts ≡ Ok atoms → length atoms ≡ count_by is_atom parts
atoms_many names vars [] atoms is = let made : [] ≡ atoms = cc in ap length (sym made)
atoms_many names vars (part.Atom tree ∷ parts) atoms is =
    let a = and_then_ok (atom_of names vars tree) (λ x. and_then (atoms_of names vars parts) (λ more. Ok (x ∷ more))) atoms is in
    let b = and_then_ok (atoms_of names vars parts) (λ more. Ok (a.0 ∷ more)) atoms a.2 in
    let made : a.0 ∷ b.0 ≡ atoms = cc in
    let more : count_by is_atom (part.Atom tree ∷ parts) ≡ 1 + count_by is_atom parts = sum_by-cons
    (λ p. if is_atom p then 1 else 0) (part.Atom tree) parts in
    omega (arith, more, ap length made, atoms_many names vars parts b.0 b.1)
atoms_many names vars (part.Test test ∷ parts) atoms is =
    let more : count_by is_atom (part.Test test ∷ parts) ≡ 0 + count_by is_atom parts = sum_by-cons
    (λ p. if is_atom p then 1 else 0) (part.Test test) parts in
    omega (arith, more, atoms_many names vars parts atoms is)

pub tests_many : (vars : List (List ℕ)) (parts : List PartTree) (tests : List Test) → tests_of vars parts ≡ Ok tests
    → length tests ≡ count_by is_test parts
tests_many vars [] tests is = let made : [] ≡ tests = cc in ap length (sym made)
tests_many vars (part.Test tree ∷ parts) tests is =
    let a = and_then_ok (test_of vars tree) (λ x. and_then (tests_of vars parts) (λ more. Ok (x ∷ more))) tests is in
    let b = and_then_ok (tests_of vars parts) (λ more. Ok (a.0 ∷ more)) tests a.2 in
    let made : a.0 ∷ b.0 ≡ tests = cc in
    let more : count_by is_test (part.Test tree ∷ parts) ≡ 1 + count_by is_test parts = sum_by-cons
    (λ p. if is_test p then 1 else 0) (part.Test tree) parts in
    omega (arith, more, ap length made, tests_many vars parts b.0 b.1)
tests_many vars (part.Atom atom ∷ parts) tests is =
    let more : count_by is_test (part.Atom atom ∷ parts) ≡ 0 + count_by is_test parts = sum_by-cons
    (λ p. if is_test p then 1 else 0) (part.Atom atom) parts in
    omega (arith, more, tests_many vars parts tests is)

-- ---- a disjunct and what is made of it

pub record IsMade (names : List (List ℕ)) (relations : List Relation) (head : List Named) (d : DisjunctTree)
    (before : List ℕ → Option ValueKind) (made : Disjunct) : Type 0 where
  pub are : names ≡ map (λ r. r.name) relations
  pub agreed : IsAgreed names relations d before
  pub numbers : all_of (var_named (vars_of d)) head ≡ Ok made.head
  pub atoms : atoms_of names (vars_of d) (all_parts d) ≡ Ok made.atoms
  pub tests : tests_of (vars_of d) d.parts ≡ Ok made.tests
  pub vars : made.vars ≡ length (vars_of d)

pub is_made : (names : List (List ℕ)) (relations : List Relation) (head : List Named) (d : DisjunctTree)
    (before : List ℕ → Option ValueKind) (made : Disjunct)
    → names ≡ map (λ r. r.name) relations → IsAgreed names relations d before → disjunct_of names head d ≡ Ok made
    → IsMade names relations head d before made
is_made names relations head d before made are agreed is =
    let vars = vars_of d in
    let a = and_then_ok (all_of (var_named vars) head) (λ numbers. and_then (atoms_of names vars (all_parts d))
    (λ atoms. and_then (tests_of vars d.parts) (λ tests.
    Ok (made_with numbers atoms tests)))) made is in
    let b = and_then_ok (atoms_of names vars (all_parts d)) (λ atoms. and_then (tests_of vars d.parts)
    (λ tests. Ok (made_with a.0 atoms tests))) made a.2 in
    let c = and_then_ok (tests_of vars d.parts) (λ tests. Ok (made_with a.0 b.0 tests)) made b.2 in
    let same : made_with a.0 b.0 c.0 ≡ made = cc in
    subst (IsMade names relations head d before) same
    (record { are = are; agreed = agreed; numbers = a.1; atoms = b.1; tests = c.1; vars = refl })
  where
    made_with : List ℕ → List Atom → List Test → Disjunct
    made_with numbers atoms tests = record { head = numbers; atoms = atoms; tests = tests; vars = length (vars_of d) }

-- the relation of an atom is there
known : (names : List (List ℕ)) (relations : List Relation) (name : List ℕ) (rel : ℕ) → names ≡ map (λ r. r.name)
    relations → place_of names name ≡ Some rel
    → (r : Relation) × (slice_get relations rel ≡ Some r)
known names relations name rel are is = elim (slice_get_cases relations rel).1 [
  | inl there ↦ (there.0, there.2)
  | inr past ↦ absurd (omega (
    arith,
    past,
    place_within names name rel is,
    ap length are,
    length-map relations
        (λ (r : Relation). r.name),
  ))
]

-- the parts of an atom
record IsAtomMade (names : List (List ℕ)) (relations : List Relation) (vars : List (List ℕ)) (atom : AtomTree)
    (a : Atom) : Type 0 where
  pub relation : Relation
  pub is_relation : slice_get relations a.relation.0 ≡ Some relation
  pub is_of : relation_of names relations atom.relation ≡ Some relation
  pub terms : all_of (term_of vars) atom.places ≡ Ok a.terms

atom_made : (names : List (List ℕ)) (relations : List Relation) (vars : List (List ℕ)) (atom : AtomTree) (a : Atom)
    → names ≡ map (λ r. r.name) relations
    → atom_of names vars atom ≡ Ok a → IsAtomMade names relations vars atom a
atom_made names relations vars atom a are is =
    let rel = and_then_ok (found_or (place_of names atom.relation.name) (refused_at UnknownName atom.relation) Ok)
    (λ k. and_then (all_of (term_of vars) atom.places) (λ terms. Ok (made_with k terms))) a is in
    let terms = and_then_ok (all_of (term_of vars) atom.places) (λ terms. Ok (made_with rel.0 terms)) a rel.2 in
    let at = found_ok (place_of names atom.relation.name) (refused_at UnknownName atom.relation) rel.0 rel.1 in
    let r = known names relations atom.relation.name rel.0 are at in
    let same : made_with rel.0 terms.0 ≡ a = cc in
    subst (IsAtomMade names relations vars atom) same
    (record { relation = r.0; is_relation = r.1; is_of = ap (relation_at relations) at ∙ r.1; terms = terms.1 })
  where
    made_with : ℕ → List Term → Atom
    made_with rel terms = record { relation = record { 0 = rel }; terms = terms }

-- the kinds of a disjunct's variables
abbrev pub or_text : Option ValueKind → ValueKind
or_text None = Text
or_text (Some kind) = kind

abbrev pub kinds_in : List (List ℕ) → List Relation → DisjunctTree → List ValueKind
kinds_in names relations d = map (λ name. or_text (kind_in names relations d name)) (vars_of d)

pub kind_at : (names : List (List ℕ)) (relations : List Relation) (d : DisjunctTree) (name : List ℕ) (v : ℕ)
    (kind : ValueKind) → place_of (vars_of d) name ≡ Some v
    → kind_in names relations d name ≡ Some kind → slice_get (kinds_in names relations d) v ≡ Some kind
kind_at names relations d name v kind at is =
    slice_get-map (λ n. or_text (kind_in names relations d n)) (vars_of d) v
    ∙ ap (option_map (λ n. or_text (kind_in names relations d n))) (stands_at (vars_of d) name v at)
    ∙ ap (λ o. Some (or_text o)) is

-- a variable with a number has a kind
pub var_fits : (names : List (List ℕ)) (relations : List Relation) (head : List Named) (d : DisjunctTree)
    (before : List ℕ → Option ValueKind) (made : Disjunct) (name : List ℕ) (v : ℕ)
    → IsMade names relations head d before made → place_of (vars_of d) name ≡ Some v
    → (kind : ValueKind) × (kind_in names relations d name ≡ Some kind) × ((other : ValueKind) → before name ≡ Some other → other ≡ kind)
var_fits names relations head d before made name v m at =
    let s = var_stands d name v (stands_at (vars_of d) name v at) in
    let a = parts_atom names (vars_of d) (all_parts d) made.atoms s.atom m.atoms s.among in
    let whole = atom_made names relations (vars_of d) s.atom a.1 m.are a.3 in
    let h = var_kind names relations d before s.atom whole.relation s.stands.at s.stands.named m.agreed s.among
    whole.is_of s.stands.is_place in (
      h.kind,
      ap (kind_in names relations d) (sym s.stands.is_name) ∙ h.is_own,
      λ other is. h.is_before other
          (ap before s.stands.is_name ∙ is),
    )

-- ---- atoms

term_fits : (names : List (List ℕ)) (relations : List Relation) (head : List Named) (d : DisjunctTree)
    (before : List ℕ → Option ValueKind) (made : Disjunct)
    (atom : AtomTree) (r : Relation) (k : ℕ) (p : PlaceTree) (t : Term) → IsMade names relations head d before made
    → IsIn (part.Atom atom) (all_parts d)
    → relation_of names relations atom.relation ≡ Some r → slice_get atom.places k ≡ Some p → term_of (vars_of d) p ≡ Ok t
    → IsTermOn (kinds_in names relations d) (slice_get (place_kinds r) k) t
term_fits names relations head d before made atom r k (place.Var named) t m among is_of at is =
    let kinds = kinds_in names relations d in
    let v = and_then_ok (var_named (vars_of d) named) (λ v. Ok (term.Var v)) t is in
    let same : term.Var v.0 ≡ t = cc in
    let h = var_kind names relations d before atom r k named m.agreed among is_of at in
    subst (IsTermOn kinds (slice_get (place_kinds r) k)) same
    (kind_at names relations d named.name v.0 h.kind (number_of (vars_of d) named v.0 v.1) h.is_own ∙ sym h.has)
term_fits names relations head d before made atom r k (place.Any line) t m among is_of at is =
    let same : term.Any ≡ t = cc in
    subst (IsTermOn (kinds_in names relations d) (slice_get (place_kinds r) k)) same tt
term_fits names relations head d before made atom r k (place.Constant constant) t m among is_of at is =
    let same : term.Constant constant.value ≡ t = cc in
    let own = kind_in names relations d in
    let whole = agreed_atom names relations d before atom r m.agreed among is_of in
    let has = place_kind own before r atom k (place.Constant constant) whole at in
    let one : kind_of constant.value ≡ has.0 =
    no_clash constant.line (Some (kind_of constant.value)) (slice_get (place_kinds r) k) (kind_of constant.value)
    has.0 (whole.places k (place.Constant constant) at) refl has.1 in
    subst (IsTermOn (kinds_in names relations d) (slice_get (place_kinds r) k)) same (ap Some one ∙ sym has.1)

atom_fits : (names : List (List ℕ)) (relations : List Relation) (head : List Named) (d : DisjunctTree)
    (before : List ℕ → Option ValueKind) (made : Disjunct)
    (atom : AtomTree) (a : Atom) → IsMade names relations head d before made → IsIn (part.Atom atom) (all_parts d)
    → atom_of names (vars_of d) atom ≡ Ok a
    → IsAtomOn relations (kinds_in names relations d) a
atom_fits names relations head d before made atom a m among is =
    let whole = atom_made names relations (vars_of d) atom a m.are is in
    let agreed = agreed_atom names relations d before atom whole.relation m.agreed among whole.is_of in
    record {
      relation = whole.relation;
      is_relation = whole.is_relation;
      as_many = as_many (term_of (vars_of d)) atom.places a.terms whole.terms ∙ agreed.as_many;
      terms = λ k t at.
          let of = made_of (term_of (vars_of d)) atom.places a.terms k t whole.terms at in
          term_fits names relations head d before made atom whole.relation k of.0 t m among whole.is_of of.1 of.2;
    }

term_within : (vars : List (List ℕ)) (p : PlaceTree) (t : Term) → term_of vars p ≡ Ok t → IsTermOf (length vars) t
term_within vars (place.Var named) t is =
    let v = and_then_ok (var_named vars named) (λ v. Ok (term.Var v)) t is in
    let same : term.Var v.0 ≡ t = cc in
    subst (IsTermOf (length vars)) same (number_within vars named v.0 v.1)
term_within vars (place.Any line) t is = let same : term.Any ≡ t = cc in subst (IsTermOf (length vars)) same tt
term_within vars (place.Constant constant) t is = let same : term.Constant constant.value ≡ t = cc in subst
    (IsTermOf (length vars)) same tt

-- ---- comparisons

side_fits : (names : List (List ℕ)) (relations : List Relation) (head : List Named) (d : DisjunctTree)
    (before : List ℕ → Option ValueKind) (made : Disjunct)
    (tree : TestTermTree) (t : TestTerm) → IsMade names relations head d before made → side_of (vars_of d) tree ≡ Ok t
    → (kind : ValueKind) × (side_kind (kind_in names relations d) tree ≡ Some kind) ×
    (fit.side_kind (kinds_in names relations d) t ≡ Some kind)
side_fits names relations head d before made (side.Var named) t m is =
    let v = and_then_ok (var_named (vars_of d) named) (λ v. Ok (compared.Var v)) t is in
    let same : compared.Var v.0 ≡ t = cc in
    let at = number_of (vars_of d) named v.0 v.1 in
    let h = var_fits names relations head d before made named.name v.0 m at in
    (h.0, h.1, ap (fit.side_kind (kinds_in names relations d)) (sym same) ∙ kind_at names relations d named.name v.0 h.0 at h.1)
side_fits names relations head d before made (side.Constant constant) t m is =
    let same : compared.Constant constant.value ≡ t = cc in
    (kind_of constant.value, refl, ap (fit.side_kind (kinds_in names relations d)) (sym same))

side_within : (vars : List (List ℕ)) (tree : TestTermTree) (t : TestTerm) → side_of vars tree ≡ Ok t → IsTestTermOf
    (length vars) t
side_within vars (side.Var named) t is =
    let v = and_then_ok (var_named vars named) (λ v. Ok (compared.Var v)) t is in
    let same : compared.Var v.0 ≡ t = cc in
    subst (IsTestTermOf (length vars)) same (number_within vars named v.0 v.1)
side_within vars (side.Constant constant) t is = let same : compared.Constant constant.value ≡ t = cc in subst
    (IsTestTermOf (length vars)) same tt

-- the sides of a comparison
record IsTestMade (vars : List (List ℕ)) (tree : TestTree) (t : Test) : Type 0 where
  pub left : side_of vars tree.left ≡ Ok t.left
  pub right : side_of vars tree.right ≡ Ok t.right

test_made : (vars : List (List ℕ)) (tree : TestTree) (t : Test) → test_of vars tree ≡ Ok t → IsTestMade vars tree t
test_made vars tree t is =
    let left = and_then_ok (side_of vars tree.left) (λ l. and_then (side_of vars tree.right) (λ r. Ok (made_with l r))) t is in
    let right = and_then_ok (side_of vars tree.right) (λ r. Ok (made_with left.0 r)) t left.2 in
    let same : made_with left.0 right.0 ≡ t = cc in
    subst (IsTestMade vars tree) same (record { left = left.1; right = right.1 })
  where
    made_with : TestTerm → TestTerm → Test
    made_with l r = record { left = l; cmp = tree.cmp; right = r }

test_fits : (names : List (List ℕ)) (relations : List Relation) (head : List Named) (d : DisjunctTree)
    (before : List ℕ → Option ValueKind) (made : Disjunct)
    (tree : TestTree) (t : Test) → IsMade names relations head d before made → IsIn (part.Test tree) d.parts
    → test_of (vars_of d) tree ≡ Ok t
    → IsTestOn (kinds_in names relations d) t
test_fits names relations head d before made tree t m among is =
    let own = kind_in names relations d in
    let sides = test_made (vars_of d) tree t is in
    let left = side_fits names relations head d before made tree.left t.left m sides.left in
    let right = side_fits names relations head d before made tree.right t.right m sides.right in
    let none = none_of (part_mismatch names relations own before) (all_parts d) (part.Test tree) m.agreed.none (inr among) in
    let one : left.0 ≡ right.0 = no_clash (side_line tree.left) (side_kind own tree.left) (side_kind own tree.right)
    left.0 right.0 none left.1 right.1 in
    record { kind = left.0; left = left.2; right = right.2 ∙ ap Some (sym one) }

-- ---- the whole

pub atoms_fit : (names : List (List ℕ)) (relations : List Relation) (head : List Named) (d : DisjunctTree)
    (before : List ℕ → Option ValueKind) (made : Disjunct)
    → IsMade names relations head d before made → All (IsAtomOn relations (kinds_in names relations d)) made.atoms
atoms_fit names relations head d before made m =
    atoms_each (IsAtomOn relations (kinds_in names relations d)) names (vars_of d) (all_parts d) made.atoms m.atoms
    (λ atom a among is. atom_fits names relations head d before made atom a m among is)

pub tests_fit : (names : List (List ℕ)) (relations : List Relation) (head : List Named) (d : DisjunctTree)
    (before : List ℕ → Option ValueKind) (made : Disjunct)
    → IsMade names relations head d before made → All (IsTestOn (kinds_in names relations d)) made.tests
tests_fit names relations head d before made m =
    tests_each (IsTestOn (kinds_in names relations d)) (vars_of d) d.parts made.tests m.tests
    (λ tree t among is. test_fits names relations head d before made tree t m among is)

contains_at : {A : Type 0} (xs : List A) (i : ℕ) (x : A) → slice_get xs i ≡ Some x → Contains xs x
contains_at xs i x at = (i, slice_get_within xs i x at, get_or_from_slice_get xs i x x at)

-- each variable stands in an atom
each_stands : (names : List (List ℕ)) (relations : List Relation) (head : List Named) (d : DisjunctTree)
    (before : List ℕ → Option ValueKind) (made : Disjunct) (v : ℕ)
    → IsMade names relations head d before made → v < length (vars_of d) → StandsIn made.atoms v
each_stands names relations head d before made v m within = elim (slice_get_cases (vars_of d) v).1 [
  | inr past ↦ absurd (omega (arith, past, within))
  | inl there ↦ (
      let s = var_stands d there.0 v there.2 in
      let a = parts_atom names (vars_of d) (all_parts d) made.atoms s.atom m.atoms s.among in
      let whole = atom_made names relations (vars_of d) s.atom a.1 m.are a.3 in
      let t = gives (term_of (vars_of d)) s.atom.places a.1.terms s.stands.at (place.Var s.stands.named) whole.terms
      s.stands.is_place in
      let at : place_of (vars_of d) s.stands.named.name ≡ Some v =
      ap (place_of (vars_of d)) s.stands.is_name ∙ its_place (vars_of d) there.0 v (vars_once d) there.2 in
      let number : var_named (vars_of d) s.stands.named ≡ Ok v =
      ap (λ o. found_or o (refused_at unsafe_code s.stands.named) Ok) at in
      let gave : term_of (vars_of d) (place.Var s.stands.named) ≡ Ok (term.Var v) =
      ap (λ r. and_then r (λ n. Ok (term.Var n))) number in
      let same : t.0 ≡ term.Var v = cc in
      record {
        atom = a.1;
        is_atom = contains_at made.atoms a.0 a.1 a.2;
        stands = contains_at a.1.terms s.stands.at (term.Var v) (t.1 ∙ ap Some same);
      }
      )
]

pub is_disjunct : (names : List (List ℕ)) (relations : List Relation) (head : List Named) (d : DisjunctTree)
    (before : List ℕ → Option ValueKind) (made : Disjunct)
    → IsMade names relations head d before made → IsDisjunct made
is_disjunct names relations head d before made m =
    let vars = vars_of d in
    let few = sym m.vars in
    record {
      atoms = subst (λ n. All (λ a. All (IsTermOf n) a.terms) made.atoms) few
          (atoms_each (λ a. All (IsTermOf (length vars)) a.terms) names vars (all_parts d) made.atoms m.atoms
          (λ atom a among is. each_is (IsTermOf (length vars)) (term_of vars) atom.places a.terms
          (atom_made names relations vars atom a m.are is).terms
          (λ p t there at. term_within vars p t at)));
      left = subst (λ n. All (λ t. IsTestTermOf n t.left) made.tests) few
          (tests_each (λ t. IsTestTermOf (length vars) t.left) vars d.parts made.tests m.tests
          (λ tree t among is. side_within vars tree.left t.left (test_made vars tree t is).left));
      right = subst (λ n. All (λ t. IsTestTermOf n t.right) made.tests) few
          (tests_each (λ t. IsTestTermOf (length vars) t.right) vars d.parts made.tests m.tests
          (λ tree t among is. side_within vars tree.right t.right (test_made vars tree t is).right));
      head = subst (λ n. All (λ v. v < n) made.head) few
          (each_is (λ v. v < length vars) (var_named vars) head made.head m.numbers
          (λ named v there at. number_within vars named v at));
      each_stands = λ v within. each_stands names relations head d before made v m (omega (arith, within, m.vars));
    }
