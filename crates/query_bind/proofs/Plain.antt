-- Nothing that is due of a query is a read fault.
use Rattle.std.proofs.Common.{◌+◌, ℕ, Bool, true, false, List, [], ◌∷◌, ◌++◌, length, map, Option, Some, None, Result, Ok, Err, slice_get}
use Rattle.std.specs.Prelude.{if◌then◌else◌, is_some, ◌==◌}
use Rattle.currency_base.specs.declared.error_code.ErrorCode.TheVariants.{UnknownName, Mismatch}
use Rattle.currency_base.specs.declared.value.ValueKind.{ValueKind}
use Rattle.currency_base.specs.Values.{kind_of}
use Rattle.text_grammar.specs.declared.named.Named.{Named}
use Rattle.query_syntax.specs.declared.trees.QueryTree.{QueryTree}
use Rattle.query_syntax.specs.declared.trees.DisjunctTree.{DisjunctTree}
use Rattle.query_syntax.specs.declared.trees.AtomTree.{AtomTree}
use Rattle.query_syntax.specs.declared.trees.TestTree.{TestTree}
use Rattle.query_syntax.specs.declared.trees.PartTree.{PartTree}
use Rattle.query_syntax.specs.declared.trees.PartTree.TheVariants as part
use Rattle.query_syntax.specs.declared.trees.PlaceTree.{PlaceTree}
use Rattle.query_syntax.specs.declared.trees.PlaceTree.TheVariants as place
use Rattle.query_syntax.specs.declared.trees.TestTermTree.{TestTermTree}
use Rattle.query_syntax.specs.declared.trees.TestTermTree.TheVariants as side
use Rattle.query_model.specs.declared.query.Query.{Query}
use Rattle.bind_faults.specs.Faults.{all_of, first_of, found_or, or_else, refused_at, unless, IsDue, IsReadFault}
use Rattle.bind_faults.specs.declared.fault.BindFault.{BindFault}
use Rattle.bind_faults.specs.declared.fault.BindFault.TheVariants.{Refused, Limit}
use Rattle.bind_faults.proofs.Outcomes.{all_reads, due_reads, then_reads}
use Rattle.spec_model.specs.declared.relation.Relation.{Relation}
use Rattle.spec_names.specs.Names.{place_of}
use Rattle.spec_model.specs.Queries.{place_kinds}
use Rattle.query_bind.specs.Queried.{all_parts, side_kind, side_line, atom_mismatch, atom_of, atoms_of, clash, differ, disjunct_of, first_at, kind_before, kind_in, mismatch_after, mismatch_in, missing, or_first, part_mismatch, place_mismatch, queried_on, relation_of, resolved, side_of, term_of, test_of, tests_of, too_large, unknown_in, unknown_part, unsafe_code, var_named, vars_of}

-- a fault, if there is one, is no read fault
abbrev pub IsPlain : Option BindFault → Type 0
IsPlain None = Unit {0}
IsPlain (Some fault) = IsReadFault {A = Query} (Err fault) → ⊥

either_plain : (a b : Option BindFault) → IsPlain a → IsPlain b → IsPlain (or_else a b)
either_plain None b p q = q
either_plain (Some fault) b p q = p

first_plain : {A : Type 0} (f : A → Option BindFault) → ((x : A) → IsPlain (f x)) → (xs : List A) → IsPlain (first_of f xs)
first_plain f each [] = tt
first_plain f each (x ∷ xs) = either_plain (f x) (first_of f xs) (each x) (first_plain f each xs)

or_plain : (a b : Option BindFault) → IsPlain a → IsPlain b → IsPlain (or_first a b)
or_plain None b p q = q
or_plain (Some fault) b p q = p

at_plain : {A : Type 0} (f : ℕ → A → Option BindFault) → ((k : ℕ) (x : A) → IsPlain (f k x)) → (k : ℕ) (xs : List A)
    → IsPlain (first_at f k xs)
at_plain f each k [] = tt
at_plain f each k (x ∷ xs) = or_plain (f k x) (first_at f (k + 1) xs) (each k x) (at_plain f each (k + 1) xs)

if_plain : (b : Bool) (fault : BindFault) → (IsReadFault {A = Query} (Err fault) → ⊥) → IsPlain (if b then Some fault else None)
if_plain true fault p = p
if_plain false fault p = tt

unknown_plain : (names : List (List ℕ)) (named : Named) (b : Bool)
    → IsPlain (if b then None else Some (refused_at UnknownName named))
unknown_plain names named true = tt
unknown_plain names named false = λ h. h

part_plain : (names : List (List ℕ)) (p : PartTree) → IsPlain (unknown_part names p)
part_plain names (part.Atom atom) = unknown_plain names atom.relation (is_some (place_of names atom.relation.name))
part_plain names (part.Test test) = tt

clash_plain : (line : ℕ) (a b : Option ValueKind) → IsPlain (clash line a b)
clash_plain line a b = if_plain (differ a b) (Refused record { code = Mismatch; document = None; line = line }) (λ h. h)

place_plain : (own before : List ℕ → Option ValueKind) (r : Relation) (k : ℕ) (p : PlaceTree)
    → IsPlain (place_mismatch own before r k p)
place_plain own before r k (place.Var named) =
    either_plain (clash named.line (own named.name) (slice_get (place_kinds r) k))
    (clash named.line (before named.name) (slice_get (place_kinds r) k))
    (clash_plain named.line (own named.name) (slice_get (place_kinds r) k))
    (clash_plain named.line (before named.name) (slice_get (place_kinds r) k))
place_plain own before r k (place.Any line) = tt
place_plain own before r k (place.Constant constant) = clash_plain constant.line (Some (kind_of constant.value))
    (slice_get (place_kinds r) k)

places_plain : (b : Bool) (o : Option BindFault) (fault : BindFault) → IsPlain o →
    (IsReadFault {A = Query} (Err fault) → ⊥) → IsPlain (if b then o else Some fault)
places_plain true o fault p q = p
places_plain false o fault p q = q

atom_plain : (own before : List ℕ → Option ValueKind) (r : Option Relation) (atom : AtomTree)
    → IsPlain (atom_mismatch own before r atom)
atom_plain own before None atom = tt
atom_plain own before (Some r) atom =
    places_plain (length atom.places == length r.attrs + 1) (first_at (place_mismatch own before r) 0 atom.places)
    (refused_at Mismatch atom.relation)
    (at_plain (place_mismatch own before r) (place_plain own before r) 0 atom.places) (λ h. h)

mismatch_plain : (names : List (List ℕ)) (relations : List Relation) (own before : List ℕ → Option ValueKind)
    (p : PartTree) → IsPlain (part_mismatch names relations own before p)
mismatch_plain names relations own before (part.Atom atom) = atom_plain own before
    (relation_of names relations atom.relation) atom
mismatch_plain names relations own before (part.Test test) = clash_plain (side_line test.left)
    (side_kind own test.left) (side_kind own test.right)

after_plain : (names : List (List ℕ)) (relations : List Relation) (head : List Named) (before ds : List DisjunctTree)
    → IsPlain (mismatch_after names relations head before ds)
after_plain names relations head before [] = tt
after_plain names relations head before (d ∷ ds) =
    either_plain (mismatch_in names relations head before d) _
    (first_plain (part_mismatch names relations (kind_in names relations d) (kind_before names relations head before))
    (mismatch_plain names relations (kind_in names relations d) (kind_before names relations head before)) (all_parts d))
    (after_plain names relations head (before ++ d ∷ []) ds)

-- a step after a check
unless_plain : (o : Option BindFault) (r : Result Query BindFault) → IsPlain o → (IsReadFault r → ⊥) → IsReadFault
    (unless o r) → ⊥
unless_plain None r p q h = q h
unless_plain (Some fault) r p q h = p h

-- ---- names that become numbers

found_reads : (o : Option ℕ) (fault : BindFault) → (IsReadFault {A = ℕ} (Err fault) → ⊥) → IsReadFault {A = ℕ}
    (found_or o fault Ok) → ⊥
found_reads None fault p h = p h
found_reads (Some k) fault p h = h

var_reads : (vars : List (List ℕ)) (named : Named) → IsReadFault (var_named vars named) → ⊥
var_reads vars named h = found_reads (place_of vars named.name) (refused_at unsafe_code named) (λ none. none) h

term_reads : (vars : List (List ℕ)) (p : PlaceTree) → IsReadFault (term_of vars p) → ⊥
term_reads vars (place.Var named) h = then_reads (var_named vars named) _ (var_reads vars named) (λ v none. none) h
term_reads vars (place.Any line) h = h
term_reads vars (place.Constant constant) h = h

atom_reads : (names vars : List (List ℕ)) (atom : AtomTree) → IsReadFault (atom_of names vars atom) → ⊥
atom_reads names vars atom h =
    then_reads (found_or (place_of names atom.relation.name) (refused_at UnknownName atom.relation) Ok) _
    (found_reads (place_of names atom.relation.name) (refused_at UnknownName atom.relation) (λ none. none))
    (λ rel. then_reads (all_of (term_of vars) atom.places) _ (all_reads (term_of vars) (term_reads vars) atom.places)
    (λ terms none. none)) h

side_reads : (vars : List (List ℕ)) (t : TestTermTree) → IsReadFault (side_of vars t) → ⊥
side_reads vars (side.Var named) h = then_reads (var_named vars named) _ (var_reads vars named) (λ v none. none) h
side_reads vars (side.Constant constant) h = h

test_reads : (vars : List (List ℕ)) (t : TestTree) → IsReadFault (test_of vars t) → ⊥
test_reads vars t h =
    then_reads (side_of vars t.left) _ (side_reads vars t.left) (λ left. then_reads (side_of vars t.right) _
    (side_reads vars t.right) (λ right none. none)) h

atoms_reads : (names vars : List (List ℕ)) (parts : List PartTree) → IsReadFault (atoms_of names vars parts) → ⊥
atoms_reads names vars [] h = h
atoms_reads names vars (part.Atom atom ∷ parts) h =
    then_reads (atom_of names vars atom) _ (atom_reads names vars atom)
    (λ a. then_reads (atoms_of names vars parts) _ (atoms_reads names vars parts) (λ more none. none)) h
atoms_reads names vars (part.Test test ∷ parts) h = atoms_reads names vars parts h

tests_reads : (vars : List (List ℕ)) (parts : List PartTree) → IsReadFault (tests_of vars parts) → ⊥
tests_reads vars [] h = h
tests_reads vars (part.Atom atom ∷ parts) h = tests_reads vars parts h
tests_reads vars (part.Test test ∷ parts) h =
    then_reads (test_of vars test) _ (test_reads vars test) (λ t. then_reads (tests_of vars parts) _
    (tests_reads vars parts) (λ more none. none)) h

disjunct_reads : (names : List (List ℕ)) (head : List Named) (d : DisjunctTree) → IsReadFault (disjunct_of names head d) → ⊥
disjunct_reads names head d h =
    then_reads (all_of (var_named (vars_of d)) head) _ (all_reads (var_named (vars_of d)) (var_reads (vars_of d)) head)
    (λ numbers. then_reads (atoms_of names (vars_of d) (all_parts d)) _ (atoms_reads names (vars_of d) (all_parts d))
    (λ atoms. then_reads (tests_of (vars_of d) d.parts) _ (tests_reads (vars_of d) d.parts) (λ tests none. none))) h

resolved_reads : (names : List (List ℕ)) (tree : QueryTree) → IsReadFault (resolved names tree) → ⊥
resolved_reads names tree h =
    unless_plain (first_of (missing (map vars_of tree.disjuncts)) tree.head) _
    (first_plain (missing (map vars_of tree.disjuncts)) (λ named. if_plain _ (refused_at unsafe_code named)
    (λ none. none)) tree.head)
    (then_reads (all_of (disjunct_of names tree.head) tree.disjuncts) _ (all_reads (disjunct_of names tree.head)
    (disjunct_reads names tree.head) tree.disjuncts)
    (λ ds none. none)) h

queried_reads : (names : List (List ℕ)) (relations : List Relation) (tree : QueryTree) → IsReadFault
    (queried_on names relations tree) → ⊥
unfolding queried_on
queried_reads names relations tree h =
    unless_plain (first_of (unknown_in names) tree.disjuncts) _
    (first_plain (unknown_in names) (λ d. first_plain (unknown_part names) (part_plain names) (all_parts d)) tree.disjuncts)
    (unless_plain (mismatch_after names relations tree.head [] tree.disjuncts) _
    (after_plain names relations tree.head [] tree.disjuncts)
    (unless_plain (too_large tree.disjuncts) _ (if_plain _ (Limit 12) (λ none. none)) (resolved_reads names tree))) h

-- a fault that is due of a query
pub query_reads : (names : List (List ℕ)) (relations : List Relation) (tree : QueryTree) (fault : BindFault)
    → IsDue (queried_on names relations tree) (Err fault) → IsReadFault {A = Query} (Err fault) → ⊥
query_reads names relations tree fault due = due_reads Query (queried_on names relations tree) fault
    (queried_reads names relations tree) due
