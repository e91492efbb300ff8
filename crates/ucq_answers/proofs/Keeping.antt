-- Tuples that are not kept take part in no solution.
use Rattle.std.proofs.Common.{◌≡◌, ◌<◌, ◌≤◌, ◌+◌, ◌*◌, ◌⊎◌, inl, inr, ℕ, zero, suc, Bool, true, false, List, [], ◌∷◌, ◌++◌, length, get_or, Option, None, Some, IfSome, slice_get, take, refl, sym, ap, subst, ◌∙◌, arith}
use Rattle.std.specs.Bool.{OnTrue}
use Rattle.std.specs.List.{All, AllZip, Contains}
use Rattle.std.proofs.lemmas.Bool.{false≢true}
use Rattle.std.proofs.lemmas.List.{length-map, map-append, take_more}
use Rattle.std.proofs.lemmas.List.Elements.{All-contains, All-push, Contains-get_or}
use Rattle.std.proofs.lemmas.Option.{option_and_then_some}
use Rattle.currency_base.specs.declared.ids.EntId.{EntId}
use Rattle.currency_base.specs.declared.value.Value.{Value}
use Rattle.query_model.specs.Answers.{AtomHolds, FitsTuple, Meets}
use Rattle.query_model.specs.declared.query.Atom.{Atom}
use Rattle.query_model.specs.declared.query.Disjunct.{Disjunct}
use Rattle.query_model.specs.declared.query.Test.{Test}
use Rattle.query_plan.specs.Plans.{AreSameAtoms, Conditioned}
use Rattle.semi_joins.specs.Kept.{AreKept, IsMatched, KeepsAll}
use Rattle.ucq_answers.specs.Found.{Adds, Bounded, IsAnswerBy, IsHeadAt, NoneAt}
use Rattle.ucq_answers.specs.Kept.{FitKept, IsPreparedFor, KeptAtom, Prepared, atoms_of, disjuncts_of, keeps, zip_kept}
use Rattle.ucq_answers.specs.Partly.{AreFitted, IsSolution, join, joined_at, tuples_of, values_of}
use Rattle.ucq_answers.specs.Seen.{IsSeen}
use Rattle.ucq_answers.proofs.Among.{from_contains}
use Rattle.ucq_answers.proofs.Collecting.{adds_none}
use Rattle.ucq_answers.proofs.GoingOn.{Extends, Fitted, all_on}
use Rattle.ucq_answers.proofs.Meaning.{IsSearched, fitted_tuple, solution_met}
use Rattle.ucq_answers.proofs.Searching.{reached_extends, solved_more}
use Rattle.ucq_answers.proofs.Spreading.{all_joined}
use Rattle.ucq_answers.proofs.Union.{NoAnswerBy}

-- ---- elements

first_in : {A : Type 0} (x : A) (xs : List A) → Contains (x ∷ xs) x
first_in x xs = (0, omega arith, refl)

later_in : {A : Type 0} (x y : A) (xs : List A) → Contains xs y → Contains (x ∷ xs) y
later_in x y xs is =
    let below = is.1 in
    (suc is.0, omega (arith, below), is.2)

-- fewer atoms are left
pub fewer : (steps rest : List KeptAtom) (s : KeptAtom) → steps ≡ s ∷ rest → 2 * length rest + 1 < 2 * length steps
fewer steps rest s is =
    let many : length steps ≡ suc (length rest) = ap (λ l. length l) is in
    omega (arith, many)

-- ---- step by step

-- where a tuple is not kept no solution begins with it
pub unkept_none : (instance : List (List (List Value))) (conditions : Conditioned) (s : KeptAtom) (rest : List KeptAtom)
    (b : List (Option Value)) (ent : EntId) → FitKept instance conditions (s ∷ rest) b → keeps s.kept ent.0 ≡ false
    → NoneAt instance conditions s.atom (atoms_of rest) b ent
unkept_none instance conditions s rest b ent promise unkept next c fits solution =
    let whole : IsSolution instance conditions (s.atom ∷ atoms_of rest) b c =
    solved_more instance conditions s.atom (atoms_of rest) b next c ent (sym fits) solution in
    false≢true (sym unkept ∙ option_and_then_some (λ tuple. join conditions.equalities b s.atom.terms tuple)
    (slice_get (tuples_of instance s.atom) ent.0) next fits (λ tuple at joins. there whole tuple at
    (all_joined conditions.equalities b s.atom.terms tuple next joins)))
  where
    there : IsSolution instance conditions (s.atom ∷ atoms_of rest) b c → (tuple : List Value)
        → slice_get (tuples_of instance s.atom) ent.0 ≡ Some tuple → Fitted b next s.atom.terms tuple → keeps s.kept ent.0 ≡ true
    there whole tuple at own =
        let on : Extends next c = reached_extends conditions.equalities instance (atoms_of rest) next c solution.reached in
        promise c whole s (first_in s rest) ent.0 tuple at (all_on next c s.atom.terms tuple on own.fitted)

-- nor is its head added
pub adds_unkept : (instance : List (List (List Value))) (conditions : Conditioned) (head : List ℕ) (s : KeptAtom)
    (rest : List KeptAtom) (b : List (Option Value)) (ent : EntId) (old : Bounded)
    → FitKept instance conditions (s ∷ rest) b → keeps s.kept ent.0 ≡ false
    → Adds (IsHeadAt instance conditions head s.atom (atoms_of rest) b ent) old old false
adds_unkept instance conditions head s rest b ent old promise unkept =
    adds_none (IsHeadAt instance conditions head s.atom (atoms_of rest) b ent) old
    (λ tuple is. unkept_none instance conditions s rest b ent promise unkept is.next is.head_below.values (sym is.fits)
    is.head_below.solution)

-- after a tuple
pub kept_on : (instance : List (List (List Value))) (conditions : Conditioned) (s : KeptAtom) (rest : List KeptAtom)
    (b next : List (Option Value)) (ent : EntId) → FitKept instance conditions (s ∷ rest) b
    → Some next ≡ joined_at conditions.equalities instance s.atom b ent → FitKept instance conditions rest next
kept_on instance conditions s rest b next ent promise is = λ c solution r there.
    promise c (solved_more instance conditions s.atom (atoms_of rest) b next c ent is solution) r (later_in s r rest there)

-- ---- at the start

matched : (instance : List (List (List Value))) (d : Disjunct) (atoms : List Atom) (values : List Value)
    → AreSameAtoms d.atoms atoms → Meets instance d values → IsMatched instance atoms d.tests values
matched instance d atoms values same meets = record {
  hold = λ k e below. All-contains (AtomHolds instance values) d.atoms (get_or atoms k e) meets.atoms
      (same.each (get_or atoms k e) (Contains-get_or atoms k e below));
  pass = meets.tests;
}

pub starts_kept : (instance : List (List (List Value))) (p : Prepared) (conditions : Conditioned) (atoms : List KeptAtom)
    (b : List (Option Value)) → atoms ≡ p.atoms → IsSearched p.disjunct conditions (atoms_of atoms)
    → length b ≡ p.disjunct.vars → IsPreparedFor instance p → FitKept instance conditions atoms b
starts_kept instance p conditions atoms b are searched many prepared = λ c solution s there place tuple at fitted.
    let met = solution_met instance p.disjunct conditions (atoms_of atoms) b c searched many solution in
    let values = values_of c in
    let fits : FitsTuple values s.atom.terms tuple = fitted_tuple values s.atom.terms tuple
    (subst (λ e. AreFitted e s.atom.terms tuple) met.same fitted) in
    let match = matched instance p.disjunct (atoms_of atoms) values searched.same met.meets in
    by s place tuple values match at fits s.kept (subst (λ l. IfSome s.kept (KeepsAll instance (atoms_of l) p.disjunct.tests s.atom))
    (sym are) (prepared.kept s (subst (λ l. Contains l s) are there)))
  where
    by : (s : KeptAtom) (place : ℕ) (tuple values : List Value)
        → IsMatched instance (atoms_of atoms) p.disjunct.tests values → slice_get (tuples_of instance s.atom) place ≡ Some tuple
        → FitsTuple values s.atom.terms tuple → (o : Option (List Bool))
        → IfSome o (KeepsAll instance (atoms_of atoms) p.disjunct.tests s.atom) → keeps o place ≡ true
    by s place tuple values match at fits None kept = refl
    by s place tuple values match at fits (Some marks) kept = kept values place tuple match at fits

-- where it is said that there is no match there is no answer
pub unmatched_none : (instance : List (List (List Value))) (p : Prepared) (tuple : List Value) → IsPreparedFor instance p
    → p.is_unmatched ≡ true → IsAnswerBy instance p.disjunct tuple → ⊥
unmatched_none instance p tuple prepared is answer =
    subst (λ b. OnTrue b ((values : List Value) → Meets instance p.disjunct values → ⊥)) is prepared.none answer.values
    answer.meets

-- ---- what is prepared

pub zip_atoms : (atoms : List Atom) (kept : List (List Bool)) → atoms_of (zip_kept atoms kept) ≡ atoms
zip_atoms [] kept = refl
zip_atoms (atom ∷ atoms) [] = ap (λ l. atom ∷ l) (zip_atoms atoms [])
zip_atoms (atom ∷ atoms) (marks ∷ kept) = ap (λ l. atom ∷ l) (zip_atoms atoms kept)

none_told : (P : Atom → List Bool → Type 0) (atoms : List Atom) (s : KeptAtom) → Contains (zip_kept atoms []) s
    → IfSome s.kept (P s.atom)
none_told P [] s there = absurd (from_contains [] s there)
none_told P (atom ∷ atoms) s there = by (λ later. none_told P atoms s later) there
  where
    by : (Contains (zip_kept atoms []) s → IfSome s.kept (P s.atom))
        → Contains (record { atom = atom; kept = None } ∷ zip_kept atoms []) s → IfSome s.kept (P s.atom)
    by others (zero, below, is) = subst (λ (u : KeptAtom). IfSome u.kept (P u.atom)) is tt
    by others (suc k, below, is) = others (k, omega (arith, below), is)

all_told : (P : Atom → List Bool → Type 0) (atoms : List Atom) (kept : List (List Bool)) → AllZip P atoms kept → (s : KeptAtom)
    → Contains (zip_kept atoms kept) s → IfSome s.kept (P s.atom)
all_told P [] [] all s there = absurd (from_contains [] s there)
all_told P [] (marks ∷ kept) all s there = absurd all
all_told P (atom ∷ atoms) [] all s there = absurd all
all_told P (atom ∷ atoms) (marks ∷ kept) all s there = by (λ later. all_told P atoms kept all.1 s later) there
  where
    by : (Contains (zip_kept atoms kept) s → IfSome s.kept (P s.atom))
        → Contains (record { atom = atom; kept = Some marks } ∷ zip_kept atoms kept) s → IfSome s.kept (P s.atom)
    by others (zero, below, is) = subst (λ (u : KeptAtom). IfSome u.kept (P u.atom)) is all.0
    by others (suc k, below, is) = others (k, omega (arith, below), is)

pub seen_prepared : (instance : List (List (List Value))) (d : Disjunct) (tests : List Test) (order : List Atom)
    (kept : List (List Bool)) (is_unmatched : Bool) (atoms : List KeptAtom) → tests ≡ d.tests → AreSameAtoms d.atoms order
    → IsSeen instance order tests kept is_unmatched → atoms ≡ zip_kept order kept
    → IsPreparedFor instance record { disjunct = d; atoms = atoms; is_unmatched = is_unmatched }
seen_prepared instance d tests order kept is_unmatched atoms same_tests same seen are = record {
  kept = λ s there. subst (λ l. IfSome s.kept (KeepsAll instance (atoms_of l) d.tests s.atom)) (sym are)
      (told s (subst (λ l. Contains l s) are there) seen.right);
  none = never is_unmatched seen.none;
}
  where
    told : (s : KeptAtom) → Contains (zip_kept order kept) s → (kept ≡ []) ⊎ AreKept instance order tests kept
        → IfSome s.kept (KeepsAll instance (atoms_of (zip_kept order kept)) d.tests s.atom)
    told s there (inl none) = none_told (KeepsAll instance (atoms_of (zip_kept order kept)) d.tests) order s
        (subst (λ k. Contains (zip_kept order k) s) none there)
    told s there (inr all) = all_told (KeepsAll instance (atoms_of (zip_kept order kept)) d.tests) order kept
        (subst (λ l. AllZip (KeepsAll instance l d.tests) order kept) (sym (zip_atoms order kept))
        (subst (λ t. AllZip (KeepsAll instance order t) order kept) same_tests all)) s there

    never : (is : Bool) → OnTrue is ((values : List Value) → IsMatched instance order tests values → ⊥)
        → OnTrue is ((values : List Value) → Meets instance d values → ⊥)
    never true none = λ values meets. none values (subst (λ t. IsMatched instance order t values) (sym same_tests)
        (matched instance d order values same meets))
    never false none = tt

pub seen_all : (instance : List (List (List Value))) (order : List Atom) (tests : List Test) (kept told : List (List Bool))
    (is_unmatched : Bool) → told ≡ kept → AreKept instance order tests kept
    → OnTrue is_unmatched ((i : List (List (List Value))) (atoms : List Atom) (t : List Test) → AreKept i atoms t told
    → (values : List Value) → IsMatched i atoms t values → ⊥)
    → IsSeen instance order tests kept is_unmatched
seen_all instance order tests kept told is_unmatched same are never = record { right = inr are; none = by is_unmatched never }
  where
    by : (is : Bool) → OnTrue is ((i : List (List (List Value))) (atoms : List Atom) (t : List Test) → AreKept i atoms t told
        → (values : List Value) → IsMatched i atoms t values → ⊥)
        → OnTrue is ((values : List Value) → IsMatched instance order tests values → ⊥)
    by true none = none instance order tests (subst (AreKept instance order tests) (sym same) are)
    by false none = tt

-- ---- disjuncts by their places

pub prepared_at : (instance : List (List (List Value))) (prepared : List Prepared) (i : ℕ) (p : Prepared) → i < length prepared
    → p ≡ get_or prepared i p → All (IsPreparedFor instance) prepared → IsPreparedFor instance p
prepared_at instance prepared i p below is all = subst (IsPreparedFor instance) (sym is) (all i p below)

pub at_disjunct : (prepared : List Prepared) (i : ℕ) (p : Prepared) → p ≡ get_or prepared i p
    → p.disjunct ≡ get_or (disjuncts_of prepared) i p.disjunct
at_disjunct [] i p is = refl
at_disjunct (q ∷ prepared) zero p is = ap (λ (r : Prepared). r.disjunct) is
at_disjunct (q ∷ prepared) (suc i) p is = at_disjunct prepared i p is

pub disjuncts_within : (prepared : List Prepared) (i : ℕ) → i < length prepared → i < length (disjuncts_of prepared)
disjuncts_within prepared i below =
    let many = length-map prepared (λ (p : Prepared). p.disjunct) in
    omega (arith, below, many)

pub past_disjuncts : (prepared : List Prepared) (i : ℕ) → length prepared ≤ i → length (disjuncts_of prepared) ≤ i
past_disjuncts prepared i past =
    let many = length-map prepared (λ (p : Prepared). p.disjunct) in
    omega (arith, past, many)

pub none_more : (instance : List (List (List Value))) (prepared : List Prepared) (i : ℕ) (p : Prepared) (tuple : List Value)
    → i < length prepared → p ≡ get_or prepared i p → All (NoAnswerBy instance tuple) (take i (disjuncts_of prepared))
    → (IsAnswerBy instance p.disjunct tuple → ⊥) → All (NoAnswerBy instance tuple) (take (i + 1) (disjuncts_of prepared))
none_more instance prepared i p tuple below is all none =
    let disjuncts = disjuncts_of prepared in
    let next : take (i + 1) disjuncts ≡ take i disjuncts ++ p.disjunct ∷ [] =
    take_more disjuncts i p.disjunct (disjuncts_within prepared i below)
    ∙ ap (λ e. take i disjuncts ++ e ∷ []) (sym (at_disjunct prepared i p is)) in
    subst (All (NoAnswerBy instance tuple)) (sym next)
    (All-push (NoAnswerBy instance tuple) (take i disjuncts) p.disjunct all none)

pub prepared_more : (instance : List (List (List Value))) (disjuncts : List Disjunct) (i : ℕ) (d : Disjunct)
    (prepared now : List Prepared) (p : Prepared) → i < length disjuncts → d ≡ get_or disjuncts i d → p.disjunct ≡ d
    → IsPreparedFor instance p → now ≡ prepared ++ p ∷ []
    → (disjuncts_of prepared ≡ take i disjuncts) × All (IsPreparedFor instance) prepared
    → (disjuncts_of now ≡ take (i + 1) disjuncts) × All (IsPreparedFor instance) now
prepared_more instance disjuncts i d prepared now p below is same right after (are, all) = (
  ap disjuncts_of after ∙ map-append (λ (q : Prepared). q.disjunct) prepared (p ∷ []) ∙ ap (λ l. l ++ p.disjunct ∷ []) are
      ∙ ap (λ e. take i disjuncts ++ e ∷ []) (same ∙ is) ∙ sym (take_more disjuncts i d below),
  subst (All (IsPreparedFor instance)) (sym after) (All-push (IsPreparedFor instance) prepared p all right),
)
