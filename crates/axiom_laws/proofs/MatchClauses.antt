-- A match whose claims hold makes its tuple an answer.
use Rattle.std.proofs.Common.{◌≡◌, ◌⊎◌, ◌==◌, ◌&&◌, ℕ, suc, Bool, true, false, cond, List, [], ◌∷◌, ◌++◌, All, Contains, Option, Some, None, option_map, length, map, slice_get, slice_index_or, refl, sym, ap, ◌∙◌, subst, inl, inr}
use Rattle.std.specs.Cmp.Lexicographic.{slice_cmp}
use Rattle.std.specs.Ordering.{is_eq, ordering_then}
use Rattle.std.specs.declared.cmp.Ordering.{Ordering}
use Rattle.std.specs.declared.cmp.Ordering.TheVariants.{Less, Equal, Greater}
use Rattle.std.proofs.lemmas.Bool.{and_parts, eqb-true, false≢true}
use Rattle.std.proofs.lemmas.List.Elements.{All-cons, All-head, All-nil, All-tail}
use Rattle.std.proofs.lemmas.List.Sums.{AllPass-from_list_all}
use Rattle.std.proofs.lemmas.Map.Lookups.{exact_bytes, exact_signed}
use Rattle.std.proofs.lemmas.Option.{same_Some, none-some}
use Rattle.currency_base.specs.Values.{value_cmp}
use Rattle.currency_base.specs.declared.ids.EntId.{EntId}
use Rattle.currency_base.specs.declared.ids.RelId.{RelId}
use Rattle.currency_base.specs.declared.value.Value.{Value}
use Rattle.currency_base.specs.declared.value.Value.TheVariants.{Int, Text}
use Rattle.match_premises.specs.Borne.{HoldsOf}
use Rattle.match_premises.specs.Premises.{comparisons_are, entity_premises, tuple_from}
use Rattle.match_premises.specs.declared.premise.Premise.{Premise}
use Rattle.match_premises.proofs.Folds.{front_all, heads_are}
use Rattle.match_premises.proofs.Matching.{premises_make_matches}
use Rattle.query_model.specs.Answers.{AtomHolds, AtomMatches, IsAnswer, TestHolds, is_compared, value_of}
use Rattle.query_model.specs.declared.query.Atom.{Atom}
use Rattle.query_model.specs.declared.query.Disjunct.{Disjunct}
use Rattle.query_model.specs.declared.query.Query.{Query}
use Rattle.query_model.specs.declared.query.Test.{Test}
use Rattle.spec_model.specs.Completion.{Rankings}
use Rattle.spec_model.specs.Current.{current_value, IsCurrentInstance}
use Rattle.spec_model.specs.declared.relation.Relation.{Relation}
use Rattle.log_axioms.specs.Axioms.{answer, claimed_clause, match_clause, not_last, of_disjunct, of_query}
use Rattle.log_axioms.specs.Matches.{answer_place, atom_claims, both_claims, first_place, is_tuple, match_claims}
use Rattle.log_axioms.specs.Posed.{AreAnswersOver, Posed}
use Rattle.log_axioms.specs.Truth.{IsLast, rows_in}
use Rattle.log_axioms.specs.declared.signed.Signed.{Signed}
use Rattle.axiom_laws.proofs.Chosen.{HasTrue, given_if, rows_are, true_first, true_later, true_mapped}
use Rattle.axiom_laws.proofs.ClaimedRows.{IsOfEntity, entity_premises_are}
use Rattle.axiom_laws.proofs.RuleClauses.{all_or}
use Rattle.axiom_laws.proofs.Standing.{contains_at}
use Rattle.axiom_laws.proofs.Truths.{last_or}

-- ---- equal tuples are one

both_equal : (o p : Ordering) → ordering_then o p ≡ Equal → (o ≡ Equal) × (p ≡ Equal)
both_equal Less p e = cc
both_equal Equal p e = (refl, e)
both_equal Greater p e = cc

exact_values : (a b : Value) → value_cmp a b ≡ Equal → a ≡ b
exact_values (Int a) (Int b) e = ap Int (exact_signed a b e)
exact_values (Int a) (Text b) e = cc
exact_values (Text a) (Int b) e = cc
exact_values (Text a) (Text b) e = ap Text (exact_bytes a b e)

exact_tuples : (a b : List Value) → slice_cmp value_cmp a b ≡ Equal → a ≡ b
exact_tuples [] [] e = refl
exact_tuples [] (y ∷ ys) e = cc
exact_tuples (x ∷ xs) [] e = cc
exact_tuples (x ∷ xs) (y ∷ ys) e =
    let both = both_equal (value_cmp x y) (slice_cmp value_cmp xs ys) e in
    let first : x ≡ y = exact_values x y both.0 in
    let rest : xs ≡ ys = exact_tuples xs ys both.1 in
    cc

one_tuple : (a b : List Value) → is_tuple a b ≡ true → a ≡ b
one_tuple a b e = by (slice_cmp value_cmp a b) refl e
  where
    by : (o : Ordering) → slice_cmp value_cmp a b ≡ o → is_eq o ≡ true → a ≡ b
    by Less is e = absurd (false≢true e)
    by Equal is e = exact_tuples a b is
    by Greater is e = absurd (false≢true e)

-- at the first place of a tuple this tuple stands
pub first_at : (xs : List (List Value)) (tuple : List Value) (place : ℕ) → first_place xs tuple ≡ Some place
    → slice_get xs place ≡ Some tuple
first_at [] tuple place e = absurd (none-some place e)
first_at (x ∷ xs) tuple place e = by (is_tuple x tuple) refl e (first_place xs tuple) refl (first_at xs tuple)
  where
    later : (o : Option ℕ) → first_place xs tuple ≡ o → option_map suc o ≡ Some place
        → ((k : ℕ) → first_place xs tuple ≡ Some k → slice_get xs k ≡ Some tuple) → slice_get (x ∷ xs) place ≡ Some tuple
    later None is e on = absurd (none-some place e)
    later (Some k) is e on = subst (λ n. slice_get (x ∷ xs) n ≡ Some tuple) (same_Some (suc k) place e) (on k is)

    by : (t : Bool) → is_tuple x tuple ≡ t → cond t (Some 0) (option_map suc (first_place xs tuple)) ≡ Some place
        → (o : Option ℕ) → first_place xs tuple ≡ o → ((k : ℕ) → first_place xs tuple ≡ Some k → slice_get xs k ≡ Some tuple)
        → slice_get (x ∷ xs) place ≡ Some tuple
    by true is e o at on = subst (λ n. slice_get (x ∷ xs) n ≡ Some tuple) (same_Some 0 place e) (ap Some (one_tuple x tuple is))
    by false is e o at on = later (first_place xs tuple) refl e on

-- ---- atoms

-- the value of a claim's row is the current one
abbrev pub IsCurrentRow : List Relation → Rankings → Premise → Type 0
IsCurrentRow relations c p = IsLast c p.rel.0 p.attr.0 (rows_in (slice_get relations p.rel.0)) p.row

-- so it is the current one of the entity of which it is claimed
holds_of : (relations : List Relation) (c : Rankings) (rel : RelId) (r : Relation) (ent : EntId) (p : Premise)
    → slice_get relations rel.0 ≡ Some r
    → IsOfEntity rel r.rows ent.0 p → IsCurrentRow relations c p → HoldsOf c r ent p
holds_of relations c rel r ent p at of current =
    let same : rows_in (slice_get relations p.rel.0) ≡ r.rows =
    ap (λ (k : RelId). rows_in (slice_get relations k.0)) of.of_relation ∙ rows_are relations rel.0 r at in
    let last : IsLast c p.rel.0 p.attr.0 r.rows p.row = subst (λ rows. IsLast c p.rel.0 p.attr.0 rows p.row) same current in
    let here : ent.0 ≡ last.ent = same_Some ent.0 last.ent (sym of.of_entity ∙ last.of_entity) in
    ap (current_value c p.rel.0 r.rows p.attr.0) here ∙ (last.current ∙ sym last.of_row)

all_hold : (relations : List Relation) (c : Rankings) (rel : RelId) (r : Relation) (ent : EntId) (premises : List Premise)
    → slice_get relations rel.0 ≡ Some r → All (IsOfEntity rel r.rows ent.0) premises → All (IsCurrentRow relations c) premises
    → All (HoldsOf c r ent) premises
all_hold relations c rel r ent [] at of current = All-nil (HoldsOf c r ent)
all_hold relations c rel r ent (p ∷ premises) at of current =
    let of_all = IsOfEntity rel r.rows ent.0 in
    All-cons (HoldsOf c r ent) p premises
    (holds_of relations c rel r ent p at (All-head of_all p premises of) (All-head (IsCurrentRow relations c) p premises current))
    (all_hold relations c rel r ent premises at (All-tail of_all p premises of)
    (All-tail (IsCurrentRow relations c) p premises current))

module _ (relations : List Relation) (c : Rankings) (instance : List (List (List Value)))
    (is : IsCurrentInstance relations c instance)
    (values : List Value) where
  atom_holds : (atom : Atom) (ent : EntId) (premises : List Premise) → atom_claims relations values atom ent ≡ Some premises
      → All (IsCurrentRow relations c) premises → AtomHolds instance values atom
  atom_holds atom ent premises e current = by (slice_get relations atom.relation.0) refl e
    where
      by : (o : Option Relation) → slice_get relations atom.relation.0 ≡ o → atom_claims relations values atom ent ≡ Some premises
          → AtomHolds instance values atom
      by None at e = let none : None ≡ Some premises = rw at at e in absurd (none-some premises none)
      by (Some r) at e =
          let here : entity_premises atom.relation values atom.terms r ent ≡ Some premises = rw at at e in
          let of = entity_premises_are atom.relation values atom.terms r ent premises here in
          let all = all_hold relations c atom.relation r ent premises at of current in
          let matches : AtomMatches instance values atom ent.0 = premises_make_matches relations c instance is atom r
          ent values premises at here all in
          record {
            tuple = matches.tuple;
            is_there = contains_at (slice_index_or instance atom.relation.0 []) ent.0 matches.tuple matches.is_tuple;
            fits = matches.fits;
          }

  both_parts : (first more : Option (List Premise)) (premises : List Premise) → both_claims first more ≡ Some premises
      → (xs : List Premise) × (ys : List Premise) × (first ≡ Some xs) × (more ≡ Some ys) × (xs ++ ys ≡ premises)
  both_parts (Some xs) (Some ys) premises e = (xs, ys, refl, refl, same_Some (xs ++ ys) premises e)
  both_parts (Some xs) None premises e = absurd (none-some premises e)
  both_parts None more premises e = absurd (none-some premises e)

  back_all : {A : Type 0} (P : A → Type 0) (xs ys : List A) → All P (xs ++ ys) → All P ys
  back_all P [] ys all = all
  back_all P (x ∷ xs) ys all = back_all P xs ys (All-tail P x (xs ++ ys) all)

  pub atoms_hold : (atoms : List Atom) (entities : List EntId) (premises : List Premise) → match_claims relations
      values atoms entities ≡ Some premises
      → All (IsCurrentRow relations c) premises → All (AtomHolds instance values) atoms
  atoms_hold [] entities premises e current = All-nil (AtomHolds instance values)
  atoms_hold (atom ∷ atoms) [] premises e current = absurd (none-some premises e)
  atoms_hold (atom ∷ atoms) (ent ∷ entities) premises e current =
      let parts = both_parts (atom_claims relations values atom ent) (match_claims relations values atoms entities) premises e in
      let all : All (IsCurrentRow relations c) (parts.0 ++ parts.1) = subst (All (IsCurrentRow relations c))
      (sym parts.4) current in
      All-cons (AtomHolds instance values) atom atoms
      (atom_holds atom ent parts.0 parts.2 (front_all (IsCurrentRow relations c) parts.0 parts.1 all))
      (atoms_hold atoms entities parts.1 parts.3 (back_all (IsCurrentRow relations c) parts.0 parts.1 all))

-- ---- the clause of a match

tests_hold : (values : List Value) (tests : List Test) → comparisons_are values tests ≡ true → All (TestHolds values) tests
tests_hold values tests e = AllPass-from_list_all (λ t. is_compared (value_of values t.left) t.cmp
    (value_of values t.right)) tests e

-- the tuple of a head, and its place
placed : (answers : List (List Value)) (values : List Value) (head : List ℕ) (place : ℕ) → answer_place answers
    values head ≡ Some place
    → (tuple : List Value) × (tuple_from values (Some []) head ≡ Some tuple) × (slice_get answers place ≡ Some tuple)
placed answers values head place e = by (tuple_from values (Some []) head) refl e
  where
    by : (o : Option (List Value)) → tuple_from values (Some []) head ≡ o → answer_place answers values head ≡ Some place
        → (tuple : List Value) × (tuple_from values (Some []) head ≡ Some tuple) × (slice_get answers place ≡ Some tuple)
    by None is e = let none : None ≡ Some place = rw is at e in absurd (none-some place none)
    by (Some tuple) is e =
        let here : first_place answers tuple ≡ Some place = rw is at e in
        (tuple, is, first_at answers tuple place here)

-- a clause of a place and claims
abbrev pub claimed : ℕ → List Premise → List Signed
claimed place premises = answer place ∷ map (λ p. not_last p.rel p.attr p.row) premises

pub claimed_parts : (o : Option ℕ) (claims : Option (List Premise)) (clause : List Signed) → claimed_clause o claims ≡ Some clause
    → (place : ℕ) × (premises : List Premise) × (o ≡ Some place) × (claims ≡ Some premises) × (claimed place premises ≡ clause)
claimed_parts (Some place) (Some premises) clause e = (place, premises, refl, refl, same_Some (claimed place premises) clause e)
claimed_parts (Some place) None clause e = absurd (none-some clause e)
claimed_parts None claims clause e = absurd (none-some clause e)

module _ (relations : List Relation) (c : Rankings) (answers : ℕ → Type 0) (posed : Posed)
    (over : AreAnswersOver relations posed c answers) where
  match_true : (q : Query) (entities : List EntId) (values : List Value) (disjunct : ℕ) (d : Disjunct)
      (clause : List Signed) → posed.query ≡ Some q
      → slice_get q.disjuncts disjunct ≡ Some d → match_clause relations posed.answers entities values d ≡ Some clause
      → HasTrue relations c answers clause
  match_true q entities values disjunct d clause asked at e =
      let counted = (length values == d.vars) && (length entities == length d.atoms) in
      let chosen = given_if (counted && comparisons_are values d.tests)
      (claimed_clause (answer_place posed.answers values d.head) (match_claims relations values d.atoms entities)) clause e in
      let tested = and_parts counted (comparisons_are values d.tests) chosen.0 in
      let many = and_parts (length values == d.vars) (length entities == length d.atoms) tested.0 in
      let parts = claimed_parts (answer_place posed.answers values d.head)
      (match_claims relations values d.atoms entities) clause chosen.1 in
      let tuple = placed posed.answers values d.head parts.0 parts.2 in
      subst (HasTrue relations c answers) parts.4
      (by parts.0 parts.1 tuple.0 tuple.1 tuple.2 (eqb-true (length values) d.vars many.0) tested.1 parts.3
      (all_or (IsCurrentRow relations c) parts.1 (λ p. last_or c p.rel.0 p.attr.0 (rows_in (slice_get relations p.rel.0)) p.row)))
    where
      by : (place : ℕ) (premises : List Premise) (tuple : List Value) → tuple_from values (Some []) d.head ≡ Some tuple
          → slice_get posed.answers place ≡ Some tuple → length values ≡ d.vars → comparisons_are values d.tests ≡ true
          → match_claims relations values d.atoms entities ≡ Some premises
          → All (IsCurrentRow relations c) premises ⊎ ((p : Premise) × Contains premises p × (IsCurrentRow relations c p → ⊥))
          → HasTrue relations c answers (claimed place premises)
      by place premises tuple head there long tests claims (inl all) =
          let is_answer : IsAnswer q over.instance tuple = record {
            disjunct = d;
            is_disjunct = contains_at q.disjuncts disjunct d at;
            values = values;
            meets = record {
              per_var = long;
              atoms = atoms_hold relations c over.instance over.is_current values d.atoms entities premises claims all;
              tests = tests_hold values d.tests tests;
            };
            is_head = heads_are values tuple d.head head;
          } in
          true_first tt (over.complete q place tuple asked there is_answer)
      by place premises tuple head there long tests claims (inr (p, is_in, n)) =
          true_later (true_mapped relations c answers (λ q. not_last q.rel q.attr q.row) premises p is_in tt n)

  by_disjunct : (q : Query) (entities : List EntId) (values : List Value) (disjunct : ℕ) (clause : List Signed)
      → posed.query ≡ Some q
      → (o : Option Disjunct) → slice_get q.disjuncts disjunct ≡ o → of_disjunct relations posed.answers entities
      values o ≡ Some clause
      → HasTrue relations c answers clause
  by_disjunct q entities values disjunct clause asked None at e = absurd (none-some clause e)
  by_disjunct q entities values disjunct clause asked (Some d) at e = match_true q entities values disjunct d clause asked at e

  pub query_true : (disjunct : ℕ) (entities : List EntId) (values : List Value) (clause : List Signed) →
      (o : Option Query) → posed.query ≡ o
      → of_query relations posed.answers disjunct entities values o ≡ Some clause → HasTrue relations c answers clause
  query_true disjunct entities values clause None asked e = absurd (none-some clause e)
  query_true disjunct entities values clause (Some q) asked e =
      by_disjunct q entities values disjunct clause asked (slice_get q.disjuncts disjunct) refl e
