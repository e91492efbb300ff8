-- The questions for facts can be asked of the relations.
use Rattle.std.proofs.Common.{◌≡◌, ◌∙◌, ◌<◌, ◌≤◌, ℕ, zero, suc, List, [], ◌∷◌, All, Some, length, map, slice_get, refl, sym, ap, subst, arith}
use Rattle.std.proofs.lemmas.List.{length-map}
use Rattle.std.proofs.lemmas.List.Elements.{All-nil, All-cons}
use Rattle.std.proofs.lemmas.Option.{same_Some}
use Rattle.currency_base.specs.Values.{kind_of}
use Rattle.currency_base.specs.declared.value.Cmp.TheVariants as cmp
use Rattle.currency_base.specs.declared.value.ValueKind.{ValueKind}
use Rattle.currency_base.specs.declared.value.Value.{Value}
use Rattle.currency_base.specs.declared.value.Value.TheVariants.{Text}
use Rattle.match_premises.specs.declared.premise.Premise.{Premise}
use Rattle.query_model.specs.Fitting.{IsDisjunct, IsTermOf, IsTestTermOf, StandsIn}
use Rattle.query_model.specs.declared.query.Atom.{Atom}
use Rattle.query_model.specs.declared.query.Term.{Term}
use Rattle.query_model.specs.declared.query.Term.TheVariants as term
use Rattle.query_model.specs.declared.query.Test.{Test}
use Rattle.query_model.specs.declared.query.TestTerm.TheVariants as test
use Rattle.spec_model.specs.Facts.{kinds_of}
use Rattle.spec_model.specs.Queries.{IsAtomOn, IsDisjunctOn, IsQueryOn, IsTermOn, IsTestOn, place_kinds}
use Rattle.spec_model.specs.declared.relation.Relation.{Relation}
use Rattle.posed_facts.specs.Questions.{claim_atom, claim_value, claimed_disjunct, other_disjunct, other_tests, term_places, value_term}
use Rattle.posed_facts.proofs.Atoms.{read_terms, terms_are}
use Rattle.posed_facts.proofs.Lists.{all_made, all_one, each_has, is_in}
use Rattle.posed_facts.proofs.Places.{each_place, own_place, places_length}
use Rattle.posed_facts.proofs.Reading.{IsRead}

-- ---- the atom

-- each of its terms is one of so many variables, if the one at the attribute's place is
terms_of : (relations : List Relation) (p : Premise) → (read : IsRead relations p) → (vars : ℕ) (t : Term) → IsTermOf vars t
    → All (IsTermOf vars) (claim_atom relations p t).terms
terms_of relations p read vars t own =
    subst (All (IsTermOf vars)) (sym (terms_are relations p read t))
    (All-cons (IsTermOf vars) (term.Constant (Text read.name)) (term_places n p.attr.0 t) tt
    (each_has (IsTermOf vars) (term_places n p.attr.0 t) (each_place n p.attr.0 t (λ k u. IsTermOf vars u) (λ k. tt) own)))
  where
    n : ℕ
    n = length read.relation.attrs

-- each of its terms has the kind of its place, if the one at the attribute's has the kind of the value
atom_on : (relations : List Relation) (p : Premise) → (read : IsRead relations p) → (kinds : List ValueKind) (t : Term)
    → IsTermOn kinds (Some (kind_of read.value)) t → IsAtomOn relations kinds (claim_atom relations p t)
atom_on relations p read kinds t own =
    let n = length read.relation.attrs in
    let are = terms_are relations p read t in
    record {
      relation = read.relation;
      is_relation = read.is_relation;
      as_many = omega (arith, ap (λ l. length l) are, places_length n p.attr.0 t);
      terms = λ k u at. each k u (ap (λ l. slice_get l k) (sym are) ∙ at);
    }
  where
    each : (k : ℕ) (u : Term) → slice_get (read_terms relations p read t) k ≡ Some u
        → IsTermOn kinds (slice_get (place_kinds read.relation) k) u
    each zero u at =
        subst (IsTermOn kinds (slice_get (place_kinds read.relation) 0)) (same_Some (term.Constant (Text read.name)) u at) refl
    each (suc k) u at =
        each_place (length read.relation.attrs) p.attr.0 t (λ j v. IsTermOn kinds (slice_get (kinds_of read.relation) j) v)
        (λ j. tt)
        (subst (λ o. IsTermOn kinds o t) (sym read.kind) own) k u at

-- ---- a claimed value

-- its disjunct has no variable
claimed_is : (relations : List Relation) (p : Premise) → IsRead relations p → IsDisjunct (claimed_disjunct relations p)
claimed_is relations p read =
    let t = value_term (claim_value relations p) in
    record {
      atoms = all_one (λ (a : Atom). All (IsTermOf 0) a.terms) (claim_atom relations p t)
          (terms_of relations p read 0 t (subst (IsTermOf 0) (sym (ap value_term read.reads_value)) tt));
      left = All-nil (λ (s : Test). IsTestTermOf 0 s.left);
      right = All-nil (λ (s : Test). IsTestTermOf 0 s.right);
      head = All-nil (λ (v : ℕ). v < 0);
      each_stands = λ v below. absurd (omega (arith, below));
    }

-- its disjunct fits the relations
claimed_on : (relations : List Relation) (p : Premise) → IsRead relations p
    → IsDisjunctOn relations [] (claimed_disjunct relations p)
claimed_on relations p read =
    let t = value_term (claim_value relations p) in
    record {
      few_atoms = omega arith;
      few_tests = omega arith;
      few_vars = omega arith;
      kinds = [];
      per_var = refl;
      atoms = all_one (IsAtomOn relations []) (claim_atom relations p t)
          (atom_on relations p read [] t
          (subst (IsTermOn [] (Some (kind_of read.value))) (sym (ap value_term read.reads_value)) refl));
      tests = All-nil (IsTestOn []);
      head = refl;
    }

-- its question can be asked
pub claimed_posed : (relations : List Relation) (p : Premise) → IsRead relations p
    → IsQueryOn relations (record { disjuncts = claimed_disjunct relations p ∷ [] })
claimed_posed relations p read =
    record {
      is_query = all_one IsDisjunct (claimed_disjunct relations p) (claimed_is relations p read);
      few = omega arith;
      heads = [];
      disjuncts = all_one (IsDisjunctOn relations []) (claimed_disjunct relations p) (claimed_on relations p read);
    }

-- ---- another value

-- the comparison
abbrev pub other_test : Value → Test
other_test value = record { left = test.Var 0; cmp = cmp.Ne; right = test.Constant value }

-- it is the only one
pub tests_are : (relations : List Relation) (p : Premise) → (read : IsRead relations p)
    → other_tests (claim_value relations p) ≡ other_test read.value ∷ []
tests_are relations p read = ap other_tests read.reads_value

-- what holds of it holds of all
tests_of : (relations : List Relation) (p : Premise) → (read : IsRead relations p) → (P : Test → Type 0)
    → P (other_test read.value) → All P (other_tests (claim_value relations p))
tests_of relations p read P own =
    subst (All P) (sym (tests_are relations p read)) (all_one P (other_test read.value) own)

-- the variable stands in the atom
variable_stands : (relations : List Relation) (p : Premise) → IsRead relations p
    → StandsIn (claim_atom relations p (term.Var 0) ∷ []) 0
variable_stands relations p read =
    let atom = claim_atom relations p (term.Var 0) in
    let n = length read.relation.attrs in
    record {
      atom = atom;
      is_atom = is_in (atom ∷ []) 0 atom refl;
      stands = is_in atom.terms (suc p.attr.0) (term.Var 0)
          (ap (λ l. slice_get l (suc p.attr.0)) (terms_are relations p read (term.Var 0))
          ∙ own_place n p.attr.0 (term.Var 0) read.below);
    }

-- the disjunct's variable stands in its atom
other_is : (relations : List Relation) (p : Premise) → IsRead relations p → IsDisjunct (other_disjunct relations p)
other_is relations p read =
    record {
      atoms = all_one (λ (a : Atom). All (IsTermOf 1) a.terms) (claim_atom relations p (term.Var 0))
          (terms_of relations p read 1 (term.Var 0) (omega arith));
      left = tests_of relations p read (λ (s : Test). IsTestTermOf 1 s.left) (omega arith);
      right = tests_of relations p read (λ (s : Test). IsTestTermOf 1 s.right) tt;
      head = All-nil (λ (v : ℕ). v < 1);
      each_stands = stands;
    }
  where
    stands : (v : ℕ) → v < 1 → StandsIn (claim_atom relations p (term.Var 0) ∷ []) v
    stands zero below = variable_stands relations p read
    stands (suc v) below = absurd (omega (arith, below))

-- the disjunct fits the relations
other_on : (relations : List Relation) (p : Premise) → IsRead relations p → IsDisjunctOn relations [] (other_disjunct relations p)
other_on relations p read =
    let kinds : List ValueKind = kind_of read.value ∷ [] in
    record {
      few_atoms = omega arith;
      few_tests = omega (arith, ap (λ l. length l) (tests_are relations p read));
      few_vars = omega arith;
      kinds = kinds;
      per_var = refl;
      atoms = all_one (IsAtomOn relations kinds) (claim_atom relations p (term.Var 0))
          (atom_on relations p read kinds (term.Var 0) refl);
      tests = tests_of relations p read (IsTestOn kinds) record { kind = kind_of read.value; left = refl; right = refl };
      head = refl;
    }

-- the question of such disjuncts can be asked
pub others_posed : (relations : List Relation) (list : List Premise) → length list ≤ 256 → All (IsRead relations) list
    → IsQueryOn relations (record { disjuncts = map (other_disjunct relations) list })
others_posed relations list few reads =
    record {
      is_query = all_made (other_disjunct relations) (IsRead relations) IsDisjunct list (other_is relations) reads;
      few = omega (arith, few, length-map list (other_disjunct relations));
      heads = [];
      disjuncts = all_made (other_disjunct relations) (IsRead relations) (IsDisjunctOn relations []) list (other_on relations)
          reads;
    }
