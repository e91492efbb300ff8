-- What a search finds, step by step.
use Rattle.std.proofs.Common.{◌≡◌, ℕ, Bool, true, false, ◌&&◌, List, [], ◌∷◌, Option, None, Some, option_and_then, slice_get, refl, sym, ap, subst, ◌∙◌}
use Rattle.std.specs.List.{All, Contains}
use Rattle.std.proofs.lemmas.Bool.{false≢true}
use Rattle.std.proofs.lemmas.List.Elements.{All-contains}
use Rattle.std.proofs.lemmas.Option.{none-some, option_and_then_some, same_Some}
use Rattle.currency_base.specs.declared.ids.EntId.{EntId}
use Rattle.currency_base.specs.declared.value.Cmp.{Cmp}
use Rattle.currency_base.specs.declared.value.Value.{Value}
use Rattle.query_model.specs.declared.query.Atom.{Atom}
use Rattle.query_model.specs.declared.query.Test.{Test}
use Rattle.query_plan.specs.Plans.{Conditioned}
use Rattle.query_plan.specs.Implied.{Equated}
use Rattle.ucq_answers.specs.Found.{NoneAt}
use Rattle.ucq_answers.specs.Lookups.{AreCandidates}
use Rattle.ucq_answers.specs.Partly.{IsHeadOfSome, IsSolution, Reached, head_at, join, joined_at, may_hold, passes, put_before, side_of, tuples_of, value_at}
use Rattle.ucq_answers.proofs.GoingOn.{Extends, extends_on, extends_same}
use Rattle.ucq_answers.proofs.Spreading.{all_joined, joined_fit, side_on, value_on}

-- ---- comparisons

may_on : (o p o' p' : Option Value) (cmp : Cmp) → ((x : Value) → o ≡ Some x → o' ≡ Some x) →
    ((x : Value) → p ≡ Some x → p' ≡ Some x) → may_hold o' cmp p' ≡ true
    → may_hold o cmp p ≡ true
may_on None p o' p' cmp left right holds = refl
may_on (Some x) None o' p' cmp left right holds = refl
may_on (Some x) (Some y) o' p' cmp left right holds =
    ap (λ u. may_hold u cmp (Some y)) (sym (left x refl)) ∙ ap (λ u. may_hold o' cmp u) (sym (right y refl)) ∙ holds

both_true : (a b : Bool) → a && b ≡ true → (a ≡ true) × (b ≡ true)
both_true true b is = (refl, is)
both_true false b is = absurd (false≢true is)

-- what passes where more values are known passes
passes_before : (b c : List (Option Value)) (tests : List Test) → Extends b c → passes c tests ≡ true → passes b tests ≡ true
passes_before b c [] on all = refl
passes_before b c (t ∷ tests) on all =
    let both = both_true (may_hold (side_of c t.left) t.cmp (side_of c t.right)) (passes c tests) all in
    let here = may_on (side_of b t.left) (side_of b t.right) (side_of c t.left) (side_of c t.right) t.cmp
    (λ x is. side_on b c t.left x on is) (λ x is. side_on b c t.right x on is) both.0 in
    ap (λ u. u && passes b tests) here ∙ passes_before b c tests on both.1

-- ---- what is reached

pub reached_extends : (equalities : List Equated) (instance : List (List (List Value))) (atoms : List Atom)
    (b c : List (Option Value)) → Reached equalities instance atoms b c → Extends b c
reached_extends equalities instance [] b c is = subst (Extends b) is (extends_same b)
reached_extends equalities instance (atom ∷ atoms) b c is =
    let first = all_joined equalities b atom.terms is.1.tuple is.0 is.1.joins in
    extends_on b is.0 c first.extends (reached_extends equalities instance atoms is.0 c is.2)

-- where a comparison fails there is no solution
pub fails_all : (instance : List (List (List Value))) (conditions : Conditioned) (tests : List Test) (atoms : List Atom)
    (b c : List (Option Value)) → tests ≡ conditions.tests → false ≡ passes b tests → IsSolution instance conditions atoms b c → ⊥
fails_all instance conditions tests atoms b c is fails solution =
    false≢true (fails ∙ passes_before b c tests (reached_extends conditions.equalities instance atoms b c solution.reached)
    (ap (λ l. passes c l) is ∙ solution.passed))

-- where no atom is left the values are a solution
pub solved : (instance : List (List (List Value))) (conditions : Conditioned) (tests : List Test) (atoms : List Atom)
    (b : List (Option Value)) → tests ≡ conditions.tests → [] ≡ atoms → true ≡ passes b tests
    → IsSolution instance conditions atoms b b
solved instance conditions tests atoms b is none passed = subst (λ l. IsSolution instance conditions l b b) none
    record { reached = refl; passed = ap (λ l. passes b l) (sym is) ∙ sym passed }

-- one more atom, at a tuple that it fits
pub solved_more : (instance : List (List (List Value))) (conditions : Conditioned) (atom : Atom) (rest : List Atom)
    (b next c : List (Option Value)) (ent : EntId)
    → Some next ≡ joined_at conditions.equalities instance atom b ent
    → IsSolution instance conditions rest next c
    → IsSolution instance conditions (atom ∷ rest) b c
solved_more instance conditions atom rest b next c ent is solution =
    option_and_then_some (λ tuple. join conditions.equalities b atom.terms tuple) (slice_get (tuples_of instance atom) ent.0) next
    (sym is) (λ tuple at joins. record {
      reached = (
        next,
        record { place = ent.0; tuple = tuple; is_tuple = at; joins = joins },
        solution.reached,
      );
      passed = solution.passed;
    })

-- ---- one candidate after another

pub unfit_none : (instance : List (List (List Value))) (conditions : Conditioned) (atom : Atom) (rest : List Atom)
    (b : List (Option Value)) (ent : EntId) → None ≡ joined_at conditions.equalities instance atom b ent
    → NoneAt instance conditions atom rest b ent
unfit_none instance conditions atom rest b ent none next c fits solution = none-some next (none ∙ fits)

pub unfound_none : (instance : List (List (List Value))) (conditions : Conditioned) (atom : Atom) (rest : List Atom)
    (b own : List (Option Value)) (ent : EntId)
    → Some own ≡ joined_at conditions.equalities instance atom b ent →
    ((c : List (Option Value)) → IsSolution instance conditions rest own c → ⊥)
    → NoneAt instance conditions atom rest b ent
unfound_none instance conditions atom rest b own ent is never next c fits solution =
    let same : own ≡ next = same_Some own next (is ∙ fits) in
    never c (subst (λ d. IsSolution instance conditions rest d c) (sym same) solution)

-- a solution begins with one of the candidates
pub begins : (instance : List (List (List Value))) (conditions : Conditioned) (atom : Atom) (rest : List Atom)
    (b : List (Option Value)) (ents : List EntId) (c : List (Option Value))
    → AreCandidates (tuples_of instance atom) conditions.tests atom.terms b ents
    → (solution : IsSolution instance conditions (atom ∷ rest) b c)
    → (ent : EntId) × Contains ents ent × (joined_at conditions.equalities instance atom b ent ≡ Some solution.reached.0)
begins instance conditions atom rest b ents c are solution =
    let own = solution.reached.1 in
    let ent : EntId = record { 0 = own.place } in
    let fits = joined_fit conditions.equalities b atom.terms own.tuple solution.reached.0 own.joins in
    let on : Extends fits.0 c = extends_on fits.0 solution.reached.0 c fits.2
    (reached_extends conditions.equalities instance rest solution.reached.0 c solution.reached.2) in
    let passed : passes fits.0 conditions.tests ≡ true = passes_before fits.0 c conditions.tests on solution.passed in (
      ent,
      are own.place own.tuple fits.0 own.is_tuple fits.1 passed,
      ap (option_and_then (λ tuple. join conditions.equalities b atom.terms tuple)) own.is_tuple ∙ own.joins,
    )

pub never_any : (instance : List (List (List Value))) (conditions : Conditioned) (atom : Atom) (rest : List Atom)
    (b : List (Option Value)) (ents : List EntId)
    → AreCandidates (tuples_of instance atom) conditions.tests atom.terms b ents → All (NoneAt instance conditions atom rest b) ents →
    (c : List (Option Value)) → IsSolution instance conditions (atom ∷ rest) b c → ⊥
never_any instance conditions atom rest b ents are none c solution =
    let first = begins instance conditions atom rest b ents c are solution in
    All-contains (NoneAt instance conditions atom rest b) ents first.0 none first.1 solution.reached.0 c first.2
    record { reached = solution.reached.2; passed = solution.passed }

-- ---- the head

pub put_some : (o : Option Value) (rest : Option (List Value)) (tuple : List Value) → put_before o rest ≡ Some tuple
    → (x : Value) × (xs : List Value) × (o ≡ Some x) × (rest ≡ Some xs) × (tuple ≡ x ∷ xs)
put_some None rest tuple is = absurd (none-some tuple is)
put_some (Some x) None tuple is = absurd (none-some tuple is)
put_some (Some x) (Some xs) tuple is = (x, xs, refl, refl, sym (same_Some (x ∷ xs) tuple is))

pub head_on : (b c : List (Option Value)) (head : List ℕ) (tuple : List Value) → Extends b c → head_at b head ≡ Some
    tuple → head_at c head ≡ Some tuple
head_on b c [] tuple on is = is
head_on b c (v ∷ head) tuple on is =
    let parts = put_some (value_at b v) (head_at b head) tuple is in
    ap (λ o. put_before o (head_at c head)) (value_on b c v parts.0 on parts.2)
    ∙ ap (put_before (Some parts.0)) (head_on b c head parts.1 on parts.3)
    ∙ ap (λ t. Some t) (sym parts.4)

-- the head of each solution, where the head has its values before
pub head_of_each : (instance : List (List (List Value))) (conditions : Conditioned) (head : List ℕ) (atoms : List Atom)
    (b c : List (Option Value)) (tuple : List Value)
    → head_at b head ≡ Some tuple → IsSolution instance conditions atoms b c → head_at c head ≡ Some tuple
head_of_each instance conditions head atoms b c tuple is solution = head_on b c head tuple
    (reached_extends conditions.equalities instance atoms b c solution.reached) is

pub head_is : (instance : List (List (List Value))) (conditions : Conditioned) (head : List ℕ) (atoms : List Atom)
    (b : List (Option Value)) (tuple other : List Value)
    → head_at b head ≡ Some tuple → IsHeadOfSome instance conditions head atoms b other → tuple ≡ other
head_is instance conditions head atoms b tuple other is some =
    same_Some tuple other (sym (head_of_each instance conditions head atoms b some.values tuple is some.solution) ∙ some.is_head)
