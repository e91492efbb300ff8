-- What is bound fits the relations.
use Rattle.std.proofs.Common.{◌≡◌, ◌∙◌, ◌+◌, ◌≤◌, ◌++◌, ◌∷◌, [], ℕ, true, false, List, length, map, Option, Some, None, Result, Ok, slice_get, inl, inr, refl, sym, ap, ap₂, subst, arith, append_assoc}
use Rattle.std.specs.Prelude.{if◌then◌else◌, ◌||◌, nat_lt}
use Rattle.std.specs.List.{count_by, list_any}
use Rattle.std.specs.Str.{bytes_eq}
use Rattle.std.proofs.lemmas.Bool.{ltb-false, or_parts}
use Rattle.std.proofs.lemmas.List.{append-nil, length-map}
use Rattle.std.proofs.lemmas.List.Elements.{All-nil}
use Rattle.std.proofs.lemmas.List.Sums.{sum_by-cons}
use Rattle.currency_base.specs.declared.value.ValueKind.{ValueKind}
use Rattle.text_grammar.specs.declared.named.Named.{Named}
use Rattle.query_syntax.specs.declared.trees.DisjunctTree.{DisjunctTree}
use Rattle.query_syntax.specs.declared.trees.QueryTree.{QueryTree}
use Rattle.query_syntax.specs.declared.trees.PartTree.TheVariants as part
use Rattle.query_model.specs.Fitting.{IsDisjunct}
use Rattle.query_model.specs.declared.query.Disjunct.{Disjunct}
use Rattle.query_model.specs.declared.query.Query.{Query}
use Rattle.bind_faults.specs.Faults.{all_of, first_of}
use Rattle.bind_faults.specs.declared.fault.BindFault.{BindFault}
use Rattle.bind_faults.specs.declared.fault.BindFault.TheVariants.{Limit}
use Rattle.spec_model.specs.declared.relation.Relation.{Relation}
use Rattle.spec_model.specs.Queries.{IsDisjunctOn, IsQueryOn}
use Rattle.query_bind.specs.Queried.{all_parts, disjunct_of, first_some, is_atom, is_large, is_test, kind_before, kind_in, made, mismatch_after, mismatch_in, missing, or_first, queried_on, query_of, resolved, too_large, unknown_in, var_named, vars_of}
use Rattle.query_bind.proofs.Fits.{IsMade, atoms_fit, atoms_many, is_disjunct, is_made, kind_at, kinds_in, number_of, or_text, tests_fit, tests_many, var_fits}
use Rattle.query_bind.proofs.Lists.{IsIn, and_then_ok, any_in, as_many, each_is, first_ok, if_none, neither, not_any, one_ok, unless_ok}
use Rattle.query_bind.proofs.Names.{own_bytes}

-- ---- heads

-- the numbers of the head have these kinds
numbers_fit : (vars : List (List ℕ)) (kinds : List ValueKind) (f : Named → ValueKind) (hs : List Named) (numbers : List ℕ)
    → all_of (var_named vars) hs ≡ Ok numbers
    → ((h : Named) (v : ℕ) → IsIn h hs → var_named vars h ≡ Ok v → slice_get kinds v ≡ Some (f h))
    → map (slice_get kinds) numbers ≡ map (λ kind. Some kind) (map f hs)
numbers_fit vars kinds f [] numbers is each = let none : [] ≡ numbers = cc in ap (map (slice_get kinds)) (sym none)
numbers_fit vars kinds f (h ∷ hs) numbers is each =
    let a = first_ok (var_named vars) h hs numbers is in
    ap (map (slice_get kinds)) (sym a.4)
    ∙ ap₂ (λ x xs. x ∷ xs) (each h a.0 (inl refl) a.2) (numbers_fit vars kinds f hs a.1 a.3 (λ g v there. each g v (inr there)))

-- the kinds of the head by a disjunct
head_kind : List (List ℕ) → List Relation → DisjunctTree → Named → ValueKind
head_kind names relations d h = or_text (kind_in names relations d h.name)

-- a disjunct whose variables of the head have the kinds that another gives them
record AgreesWith (names : List (List ℕ)) (relations : List Relation) (head : List Named) (first d : DisjunctTree) : Type 0 where
  pub same : (h : Named) (v : ℕ) → IsIn h head → var_named (vars_of d) h ≡ Ok v
      → slice_get (kinds_in names relations d) v ≡ Some (head_kind names relations first h)

-- the first agrees with itself
agrees_first : (names : List (List ℕ)) (relations : List Relation) (head : List Named) (d : DisjunctTree)
    (before : List ℕ → Option ValueKind) (made : Disjunct)
    → IsMade names relations head d before made → AgreesWith names relations head d d
unfolding head_kind
agrees_first names relations head d before made m = record {
  same = λ h v there is.
      let at = number_of (vars_of d) h v is in
      let k = var_fits names relations head d before made h.name v m at in
      kind_at names relations d h.name v k.0 at k.1 ∙ ap (λ o. Some (or_text o)) (sym k.1);
}

-- a later one agrees with the first
agrees_later : (names : List (List ℕ)) (relations : List Relation) (head : List Named) (first d : DisjunctTree)
    (front : List DisjunctTree)
    (before : List ℕ → Option ValueKind) (made_first made : Disjunct) → IsMade names relations head first before made_first
    → IsMade names relations head d (kind_before names relations head (first ∷ front)) made
    → AgreesWith names relations head first d
unfolding head_kind
agrees_later names relations head first d front before made_first made one m = record {
  same = λ h v there is.
      let at = number_of (vars_of d) h v is in
      let k = var_fits names relations head d (kind_before names relations head (first ∷ front)) made h.name v m at in
      let number = one_ok (var_named (vars_of first)) head made_first.head h one.numbers there in
      let l = var_fits names relations head first before made_first h.name number.0 one
      (number_of (vars_of first) h number.0 number.1) in
      let in_head : list_any (λ g. bytes_eq h.name g.name) head ≡ true = any_in (λ g. bytes_eq h.name g.name) head h
      there (own_bytes h.name h.name refl) in
      let rest = first_some (λ e. kind_in names relations e h.name) front in
      let was : kind_before names relations head (first ∷ front) h.name ≡ Some l.0 =
      ap (λ b. if b then or_first (kind_in names relations first h.name) rest else None) in_head
      ∙ ap (λ o. or_first o rest) l.1 in
      let same : l.0 ≡ k.0 = k.2 l.0 was in
      kind_at names relations d h.name v k.0 at k.1 ∙ ap Some (sym same) ∙ ap (λ o. Some (or_text o)) (sym l.1);
}

-- ---- disjuncts

-- a disjunct that is small enough
fits_small : (names : List (List ℕ)) (relations : List Relation) (head : List Named) (first d : DisjunctTree)
    (before : List ℕ → Option ValueKind) (made : Disjunct)
    → IsMade names relations head d before made → AgreesWith names relations head first d → is_large d ≡ false
    → IsDisjunctOn relations (map (head_kind names relations first) head) made
fits_small names relations head first d before made m agrees small =
    let a = or_parts (nat_lt 7 (count_by is_atom d.parts)) (nat_lt 16 (count_by is_test d.parts) || nat_lt 32
    (length (vars_of d))) small in
    let b = or_parts (nat_lt 16 (count_by is_test d.parts)) (nat_lt 32 (length (vars_of d))) a.1 in
    let more : count_by is_atom (all_parts d) ≡ 1 + count_by is_atom d.parts = sum_by-cons
    (λ p. if is_atom p then 1 else 0) (part.Atom d.first) d.parts in
    let few_atoms = ltb-false 7 (count_by is_atom d.parts) a.0 in
    let few_tests = ltb-false 16 (count_by is_test d.parts) b.0 in
    let few_vars = ltb-false 32 (length (vars_of d)) b.1 in
    record {
      few_atoms = omega (arith, more, few_atoms, atoms_many names (vars_of d) (all_parts d) made.atoms m.atoms);
      few_tests = omega (arith, few_tests, tests_many (vars_of d) d.parts made.tests m.tests);
      few_vars = omega (arith, few_vars, m.vars);
      kinds = kinds_in names relations d;
      per_var = many ∙ sym m.vars;
      atoms = atoms_fit names relations head d before made m;
      tests = tests_fit names relations head d before made m;
      head = numbers_fit (vars_of d) (kinds_in names relations d) (head_kind names relations first) head made.head
          m.numbers agrees.same;
    }
  where
    many : length (kinds_in names relations d) ≡ length (vars_of d)
    many = length-map (vars_of d) (λ (name : List ℕ). or_text (kind_in names relations d name))

-- a disjunct is agreed after those before it
agreed_later : (names : List (List ℕ)) (relations : List Relation) (head : List Named)
    (before ds : List DisjunctTree) (d : DisjunctTree)
    → mismatch_after names relations head before ds ≡ None → IsIn d ds → (front : List DisjunctTree) ×
    (mismatch_in names relations head (before ++ front) d ≡ None)
agreed_later names relations head before [] d none there = elim there [ ]
agreed_later names relations head before (e ∷ ds) d none there =
    let both = neither (mismatch_in names relations head before e)
    (mismatch_after names relations head (before ++ e ∷ []) ds) none in
    elim there [
      | inl here ↦ ([], ap₂ (mismatch_in names relations head) (append-nil before) here ∙ both.0)
      | inr later ↦ (
          let rest = agreed_later names relations head (before ++ e ∷ []) ds d both.1 later in
          (e ∷ rest.0, ap (λ bs. mismatch_in names relations head bs d) (sym (append_assoc before (e ∷ []) rest.0)) ∙ rest.1)
          )
    ]

-- both facts of a disjunct
record IsFit (relations : List Relation) (heads : List ValueKind) (made : Disjunct) : Type 0 where
  pub is_disjunct : IsDisjunct made
  pub on : IsDisjunctOn relations heads made

first_fits : (names : List (List ℕ)) (relations : List Relation) (head : List Named) (d : DisjunctTree)
    (before : List ℕ → Option ValueKind) (made : Disjunct)
    → IsMade names relations head d before made → is_large d ≡ false → IsFit relations
    (map (head_kind names relations d) head) made
first_fits names relations head d before made m small = record {
  is_disjunct = is_disjunct names relations head d before made m;
  on = fits_small names relations head d d before made m (agrees_first names relations head d before made m) small;
}

later_fits : (names : List (List ℕ)) (relations : List Relation) (head : List Named) (first d : DisjunctTree)
    (ds : List DisjunctTree) (made_first made : Disjunct)
    → IsMade names relations head first (kind_before names relations head []) made_first → names ≡ map (λ r. r.name) relations
    → mismatch_after names relations head (first ∷ []) ds ≡ None → IsIn d ds → disjunct_of names head d ≡ Ok made
    → is_large d ≡ false
    → IsFit relations (map (head_kind names relations first) head) made
later_fits names relations head first d ds made_first made one are none there is small =
    let found = agreed_later names relations head (first ∷ []) ds d none there in
    let before = kind_before names relations head (first ∷ found.0) in
    let m = is_made names relations head d before made are (record { none = found.1 }) is in
    record {
      is_disjunct = is_disjunct names relations head d before made m;
      on = fits_small names relations head first d before made m
          (agrees_later names relations head first d found.0 (kind_before names relations head []) made_first made one m) small;
    }

-- ---- the query

on_all : (names : List (List ℕ)) (relations : List Relation) (head : List Named) (ds : List DisjunctTree)
    (disjuncts : List Disjunct)
    → names ≡ map (λ r. r.name) relations → mismatch_after names relations head [] ds ≡ None → list_any is_large ds ≡
    false → length ds ≤ 16
    → all_of (disjunct_of names head) ds ≡ Ok disjuncts → IsQueryOn relations (query_of disjuncts)
on_all names relations head [] disjuncts are none small few is =
    let same : [] ≡ disjuncts = cc in
    subst (λ l. IsQueryOn relations (query_of l)) same
    (record { is_query = All-nil IsDisjunct; few = omega arith; heads = []; disjuncts = All-nil (IsDisjunctOn relations []) })
on_all names relations head (d ∷ ds) disjuncts are none small few is =
    let both = neither (mismatch_in names relations head [] d) (mismatch_after names relations head (d ∷ []) ds) none in
    let one = first_ok (disjunct_of names head) d ds disjuncts is in
    let before = kind_before names relations head [] in
    let m = is_made names relations head d before one.0 are (record { none = both.0 }) one.2 in
    let heads = map (head_kind names relations d) head in
    let each : (e : DisjunctTree) (made : Disjunct) → IsIn e (d ∷ ds) → disjunct_of names head e ≡ Ok made
    → IsFit relations heads made =
    λ e made there at. elim there [
      | inl here ↦ (
          let same_made : one.0 ≡ made = ok_same one.0 made (sym one.2 ∙ ap (disjunct_of names head) (sym here) ∙ at) in
          subst (IsFit relations heads) same_made (first_fits names relations head d before one.0 m
          (not_any is_large (d ∷ ds) d small (inl refl)))
          )
      | inr later ↦ later_fits names relations head d e ds one.0 made m are both.1 later at
          (not_any is_large (d ∷ ds) e small (inr later))
    ] in
    record {
      is_query = each_is IsDisjunct (disjunct_of names head) (d ∷ ds) disjuncts is
          (λ e made there at. (each e made there at).is_disjunct);
      few = omega (arith, few, as_many (disjunct_of names head) (d ∷ ds) disjuncts is);
      heads = heads;
      disjuncts = each_is (IsDisjunctOn relations heads) (disjunct_of names head) (d ∷ ds) disjuncts is
          (λ e made there at. (each e made there at).on);
    }
  where
    ok_same : (a b : Disjunct) → ◌≡◌ {A = Result Disjunct BindFault} (Ok a) (Ok b) → a ≡ b
    ok_same a b is = cc

pub query_fits : (names : List (List ℕ)) (relations : List Relation) (tree : QueryTree) (q : Query) → names ≡ map
    (λ r. r.name) relations
    → queried_on names relations tree ≡ Ok q → IsQueryOn relations q
unfolding queried_on
query_fits names relations tree q are is =
    let a = unless_ok (first_of (unknown_in names) tree.disjuncts) _ q is in
    let b = unless_ok (mismatch_after names relations tree.head [] tree.disjuncts) _ q a.1 in
    let c = unless_ok (too_large tree.disjuncts) (resolved names tree) q b.1 in
    let d = unless_ok (first_of (missing (map vars_of tree.disjuncts)) tree.head) (made names tree) q c.1 in
    let e = and_then_ok (all_of (disjunct_of names tree.head) tree.disjuncts) (λ ds. Ok (query_of ds)) q d.1 in
    let same : query_of e.0 ≡ q = cc in
    let small = or_parts (nat_lt 16 (length tree.disjuncts)) (list_any is_large tree.disjuncts)
    (if_none (nat_lt 16 (length tree.disjuncts) || list_any is_large tree.disjuncts) (Limit 12) c.0) in
    subst (IsQueryOn relations) same
    (on_all names relations tree.head tree.disjuncts e.0 are b.0 small.1 (ltb-false 16 (length tree.disjuncts) small.0) e.1)
