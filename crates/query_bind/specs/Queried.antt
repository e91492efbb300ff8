-- The query that a tree says of a specification, or its first fault: first the relations that are unknown, then what is of two
-- kinds, then what is too large, then the variables that stand in no atom. Each of these goes over the whole query in the
-- order of the text. `names` are the names of the relations.
use Rattle.std.specs.Prelude.{ℕ, ◌+◌, Bool, true, false, not, ◌||◌, nat_lt, ◌==◌, List, [], ◌∷◌, ◌++◌, length, map, Option, Some, None, is_some, Result, Ok, if◌then◌else◌, slice_get}
use Rattle.std.specs.List.{count_by, fold, list_any}
use Rattle.std.specs.Str.{bytes_eq}
use Rattle.currency_base.specs.Values.{kind_of}
use Rattle.currency_base.specs.declared.error_code.ErrorCode.{ErrorCode}
use Rattle.currency_base.specs.declared.error_code.ErrorCode.TheVariants.{UnknownName, Mismatch, UnsafeVariable}
use Rattle.currency_base.specs.declared.value.ValueKind.{ValueKind}
use Rattle.currency_base.specs.declared.value.ValueKind.TheVariants.{Text, Int}
use Rattle.text_grammar.specs.declared.named.Named.{Named}
use Rattle.query_syntax.specs.declared.trees.QueryTree.{QueryTree}
use Rattle.query_syntax.specs.declared.trees.DisjunctTree.{DisjunctTree}
use Rattle.query_syntax.specs.declared.trees.AtomTree.{AtomTree}
use Rattle.query_syntax.specs.declared.trees.TestTree.{TestTree}
use Rattle.query_syntax.specs.declared.trees.PartTree.{PartTree}
use Rattle.query_syntax.specs.declared.trees.PartTree.TheVariants as part
use Rattle.query_syntax.specs.declared.trees.PlaceTree.{PlaceTree}
use Rattle.query_syntax.specs.declared.trees.PlaceTree.TheVariants as place
use Rattle.query_syntax.specs.declared.trees.TestTermTree.{TestTermTree}
use Rattle.query_syntax.specs.declared.trees.TestTermTree.TheVariants as side
use Rattle.query_model.specs.declared.query.Atom.{Atom}
use Rattle.query_model.specs.declared.query.Disjunct.{Disjunct}
use Rattle.query_model.specs.declared.query.Query.{Query}
use Rattle.query_model.specs.declared.query.Term.{Term}
use Rattle.query_model.specs.declared.query.Term.TheVariants as term
use Rattle.query_model.specs.declared.query.Test.{Test}
use Rattle.query_model.specs.declared.query.TestTerm.{TestTerm}
use Rattle.query_model.specs.declared.query.TestTerm.TheVariants as compared
use Rattle.bind_faults.specs.Faults.{refused_at, found_or, and_then, unless, or_else, all_of, first_of}
use Rattle.bind_faults.specs.declared.fault.BindFault.{BindFault}
use Rattle.bind_faults.specs.declared.fault.BindFault.TheVariants.{Refused, Limit}
use Rattle.spec_model.specs.Spec.{Spec}
use Rattle.spec_model.specs.Queries.{place_kinds}
use Rattle.spec_model.specs.declared.relation.Relation.{Relation}
use Rattle.spec_names.specs.Names.{place_of}

-- ---- parts

-- the parts of a disjunct, the first atom among them
abbrev pub all_parts : DisjunctTree → List PartTree
all_parts d = part.Atom d.first ∷ d.parts

abbrev pub is_atom : PartTree → Bool
is_atom (part.Atom atom) = true
is_atom (part.Test test) = false

abbrev pub is_test : PartTree → Bool
is_test (part.Atom atom) = false
is_test (part.Test test) = true

-- ---- relations

-- the refusal of a name that is none of these
abbrev pub unknown : List (List ℕ) → Named → Option BindFault
unknown names named = if is_some (place_of names named.name) then None else Some (refused_at UnknownName named)

abbrev pub unknown_part : List (List ℕ) → PartTree → Option BindFault
unknown_part names (part.Atom atom) = unknown names atom.relation
unknown_part names (part.Test test) = None

-- the refusal of the first relation of a disjunct that is unknown
abbrev pub unknown_in : List (List ℕ) → DisjunctTree → Option BindFault
unknown_in names d = first_of (unknown_part names) (all_parts d)

-- the relation at a place, if there is one
abbrev pub relation_at : List Relation → Option ℕ → Option Relation
relation_at relations None = None
relation_at relations (Some place) = slice_get relations place

-- the relation of a name
abbrev pub relation_of : List (List ℕ) → List Relation → Named → Option Relation
relation_of names relations named = relation_at relations (place_of names named.name)

-- ---- kinds

-- the first that there is
abbrev pub or_first : {A : Type 0} → Option A → Option A → Option A
or_first None later = later
or_first (Some a) later = Some a

-- the first that one of these gives
abbrev pub first_some : {A B : Type 0} → (A → Option B) → List A → Option B
first_some f [] = None
first_some f (x ∷ xs) = or_first (f x) (first_some f xs)

-- the first that one of these gives at its place, counted from here
abbrev pub first_at : {A B : Type 0} → (ℕ → A → Option B) → ℕ → List A → Option B
first_at f k [] = None
first_at f k (x ∷ xs) = or_first (f k x) (first_at f (k + 1) xs)

-- the kind that a place gives the variable of a name
abbrev pub kind_by : Relation → List ℕ → ℕ → PlaceTree → Option ValueKind
kind_by r name k (place.Var named) = if bytes_eq name named.name then slice_get (place_kinds r) k else None
kind_by r name k (place.Any line) = None
kind_by r name k (place.Constant constant) = None

-- the kind that an atom of a relation gives it, by the first place that gives one
abbrev pub kind_in_places : Option Relation → List ℕ → List PlaceTree → Option ValueKind
kind_in_places None name places = None
kind_in_places (Some r) name places = first_at (kind_by r name) 0 places

abbrev pub kind_in_part : List (List ℕ) → List Relation → List ℕ → PartTree → Option ValueKind
kind_in_part names relations name (part.Atom atom) = kind_in_places (relation_of names relations atom.relation) name atom.places
kind_in_part names relations name (part.Test test) = None

-- the kind that a disjunct gives the variable of a name, by the first place of an atom that gives one
abbrev pub kind_in : List (List ℕ) → List Relation → DisjunctTree → List ℕ → Option ValueKind
kind_in names relations d name = first_some (kind_in_part names relations name) (all_parts d)

-- the kind that earlier disjuncts give a variable of the head
abbrev pub kind_before : List (List ℕ) → List Relation → List Named → List DisjunctTree → List ℕ → Option ValueKind
kind_before names relations head before name =
    if list_any (λ h. bytes_eq name h.name) head then first_some (λ d. kind_in names relations d name) before else None

-- two kinds, and not one
abbrev pub differ : Option ValueKind → Option ValueKind → Bool
differ (Some Text) (Some Int) = true
differ (Some Int) (Some Text) = true
differ a b = false

-- the refusal of two kinds, at a line
abbrev pub clash : ℕ → Option ValueKind → Option ValueKind → Option BindFault
clash line a b = if differ a b then Some (Refused record { code = Mismatch; document = None; line = line }) else None

-- the refusal of what stands at a place of another kind than its own. `own` are the kinds of the disjunct's variables, and
-- `before` those of the head's by earlier disjuncts
abbrev pub place_mismatch : (List ℕ → Option ValueKind) → (List ℕ → Option ValueKind) → Relation → ℕ → PlaceTree → Option BindFault
place_mismatch own before r k (place.Var named) =
    or_else (clash named.line (own named.name) (slice_get (place_kinds r) k))
    (clash named.line (before named.name) (slice_get (place_kinds r) k))
place_mismatch own before r k (place.Any line) = None
place_mismatch own before r k (place.Constant constant) = clash constant.line (Some (kind_of constant.value))
    (slice_get (place_kinds r) k)

-- the refusal of an atom that has not one place more than its relation has attributes, or of the first of its places
abbrev pub atom_mismatch : (List ℕ → Option ValueKind) → (List ℕ → Option ValueKind) → Option Relation → AtomTree → Option BindFault
atom_mismatch own before None atom = None
atom_mismatch own before (Some r) atom =
    if length atom.places == length r.attrs + 1 then first_at (place_mismatch own before r) 0 atom.places else Some
    (refused_at Mismatch atom.relation)

-- the kind of a side of a comparison, and the line of its token
abbrev pub side_kind : (List ℕ → Option ValueKind) → TestTermTree → Option ValueKind
side_kind own (side.Var named) = own named.name
side_kind own (side.Constant constant) = Some (kind_of constant.value)

abbrev pub side_line : TestTermTree → ℕ
side_line (side.Var named) = named.line
side_line (side.Constant constant) = constant.line

abbrev pub part_mismatch : List (List ℕ) → List Relation → (List ℕ → Option ValueKind) → (List ℕ → Option ValueKind) → PartTree
    → Option BindFault
part_mismatch names relations own before (part.Atom atom) = atom_mismatch own before
    (relation_of names relations atom.relation) atom
part_mismatch names relations own before (part.Test test) = clash (side_line test.left) (side_kind own test.left)
    (side_kind own test.right)

-- the refusal of the first part of a disjunct that is of two kinds
abbrev pub mismatch_by : List (List ℕ) → List Relation → (List ℕ → Option ValueKind) → (List ℕ → Option ValueKind)
    → DisjunctTree → Option BindFault
mismatch_by names relations own before d = first_of (part_mismatch names relations own before) (all_parts d)

abbrev pub mismatch_in : List (List ℕ) → List Relation → List Named → List DisjunctTree → DisjunctTree → Option BindFault
mismatch_in names relations head before d =
    mismatch_by names relations (kind_in names relations d) (kind_before names relations head before) d

-- the same of disjuncts, each after those before it
abbrev pub mismatch_after : List (List ℕ) → List Relation → List Named → List DisjunctTree → List DisjunctTree → Option BindFault
mismatch_after names relations head before [] = None
mismatch_after names relations head before (d ∷ ds) =
    or_else (mismatch_in names relations head before d) (mismatch_after names relations head (before ++ d ∷ []) ds)

-- ---- variables

-- the names with one more, unless it is there already
abbrev pub with_name : List (List ℕ) → List ℕ → List (List ℕ)
with_name names name = if is_some (place_of names name) then names else names ++ name ∷ []

abbrev pub with_place : List (List ℕ) → PlaceTree → List (List ℕ)
with_place vars (place.Var named) = with_name vars named.name
with_place vars (place.Any line) = vars
with_place vars (place.Constant constant) = vars

abbrev pub with_part : List (List ℕ) → PartTree → List (List ℕ)
with_part vars (part.Atom atom) = fold with_place vars atom.places
with_part vars (part.Test test) = vars

-- the variables of a disjunct's atoms, by the places at which they stand first. A variable's number is its place in these
abbrev pub vars_of : DisjunctTree → List (List ℕ)
vars_of d = fold with_part [] (all_parts d)

-- ---- limits

-- a disjunct has more than 8 atoms, more than 16 comparisons, or more than 32 variables in its atoms
abbrev pub is_large : DisjunctTree → Bool
is_large d = nat_lt 7 (count_by is_atom d.parts) || (nat_lt 16 (count_by is_test d.parts) || nat_lt 32 (length (vars_of d)))

-- there are more than 16 disjuncts, or one is too large
abbrev pub too_large : List DisjunctTree → Option BindFault
too_large ds = if nat_lt 16 (length ds) || list_any is_large ds then Some (Limit 12) else None

-- ---- variables that stand in no atom

-- the code of a variable that stands in no atom of a disjunct
abbrev pub unsafe_code : ErrorCode
unsafe_code = UnsafeVariable

-- the refusal of a variable of the head that is not among those of each disjunct
abbrev pub missing : List (List (List ℕ)) → Named → Option BindFault
missing each h = if list_any (λ vars. not (is_some (place_of vars h.name))) each then Some (refused_at unsafe_code h) else None

-- the number of a variable, or its refusal
abbrev pub var_named : List (List ℕ) → Named → Result ℕ BindFault
var_named vars named = found_or (place_of vars named.name) (refused_at unsafe_code named) Ok

-- ---- the query

abbrev pub term_of : List (List ℕ) → PlaceTree → Result Term BindFault
term_of vars (place.Var named) = and_then (var_named vars named) (λ v. Ok (term.Var v))
term_of vars (place.Any line) = Ok term.Any
term_of vars (place.Constant constant) = Ok (term.Constant constant.value)

-- the atom that a tree says
abbrev pub atom_of : List (List ℕ) → List (List ℕ) → AtomTree → Result Atom BindFault
atom_of names vars atom =
    and_then (found_or (place_of names atom.relation.name) (refused_at UnknownName atom.relation) Ok) (λ rel.
    and_then (all_of (term_of vars) atom.places) (λ terms. Ok record { relation = record { 0 = rel }; terms = terms }))

abbrev pub side_of : List (List ℕ) → TestTermTree → Result TestTerm BindFault
side_of vars (side.Var named) = and_then (var_named vars named) (λ v. Ok (compared.Var v))
side_of vars (side.Constant constant) = Ok (compared.Constant constant.value)

-- the comparison that a tree says
abbrev pub test_of : List (List ℕ) → TestTree → Result Test BindFault
test_of vars test =
    and_then (side_of vars test.left) (λ left. and_then (side_of vars test.right)
    (λ right. Ok record { left = left; cmp = test.cmp; right = right }))

-- the atoms, and the comparisons, that parts say
abbrev pub atoms_of : List (List ℕ) → List (List ℕ) → List PartTree → Result (List Atom) BindFault
atoms_of names vars [] = Ok []
atoms_of names vars (part.Atom atom ∷ parts) = and_then (atom_of names vars atom)
    (λ a. and_then (atoms_of names vars parts) (λ more. Ok (a ∷ more)))
atoms_of names vars (part.Test test ∷ parts) = atoms_of names vars parts

abbrev pub tests_of : List (List ℕ) → List PartTree → Result (List Test) BindFault
tests_of vars [] = Ok []
tests_of vars (part.Atom atom ∷ parts) = tests_of vars parts
tests_of vars (part.Test test ∷ parts) = and_then (test_of vars test)
    (λ t. and_then (tests_of vars parts) (λ more. Ok (t ∷ more)))

-- the disjunct that a tree says, of these variables
abbrev pub disjunct_on : List (List ℕ) → List (List ℕ) → List Named → DisjunctTree → Result Disjunct BindFault
disjunct_on names vars head d =
    and_then (all_of (var_named vars) head) (λ numbers.
    and_then (atoms_of names vars (all_parts d)) (λ atoms.
    and_then (tests_of vars d.parts) (λ tests.
    Ok record { head = numbers; atoms = atoms; tests = tests; vars = length vars })))

abbrev pub disjunct_of : List (List ℕ) → List Named → DisjunctTree → Result Disjunct BindFault
disjunct_of names head d = disjunct_on names (vars_of d) head d

abbrev pub query_of : List Disjunct → Query
query_of ds = record { disjuncts = ds }

-- the query of what the disjuncts say
abbrev pub made : List (List ℕ) → QueryTree → Result Query BindFault
made names tree = and_then (all_of (disjunct_of names tree.head) tree.disjuncts) (λ ds. Ok (query_of ds))

-- the same, where its head is bound
abbrev pub resolved : List (List ℕ) → QueryTree → Result Query BindFault
resolved names tree = unless (first_of (missing (map vars_of tree.disjuncts)) tree.head) (made names tree)

unfoldable pub queried_on : List (List ℕ) → List Relation → QueryTree → Result Query BindFault
queried_on names relations tree =
    unless (first_of (unknown_in names) tree.disjuncts)
    (unless (mismatch_after names relations tree.head [] tree.disjuncts)
    (unless (too_large tree.disjuncts) (resolved names tree)))

-- the query that a tree says of a specification, or its first fault
abbrev pub queried : Spec → QueryTree → Result Query BindFault
queried s tree = queried_on (map (λ r. r.name) s.relations) s.relations tree
