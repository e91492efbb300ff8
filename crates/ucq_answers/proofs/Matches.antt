-- How the entities of a match are found, and what answers by a disjunct are.
use Rattle.std.proofs.Common.{◌≡◌, ℕ, zero, suc, Bool, List, [], ◌∷◌, map, length, replicate, Option, None, Some, option_and_then, option_map, slice_get, refl, sym, ap, subst, ◌∙◌, arith}
use Rattle.std.specs.List.{All, AllZip}
use Rattle.std.proofs.lemmas.List.{length-map}
use Rattle.std.proofs.lemmas.List.Elements.{All-contains}
use Rattle.std.proofs.lemmas.Option.{none-some, option_and_then_some, same_Some, slice_get-get_or}
use Rattle.currency_base.specs.declared.ids.EntId.{EntId}
use Rattle.currency_base.specs.declared.value.Value.{Value}
use Rattle.query_model.specs.Answers.{AtomHolds, AtomMatches, IsHead, Meets, TestHolds}
use Rattle.query_model.specs.declared.query.Atom.{Atom}
use Rattle.query_model.specs.declared.query.Disjunct.{Disjunct}
use Rattle.query_model.specs.declared.query.Match.{Match}
use Rattle.query_model.specs.declared.query.Term.{Term}
use Rattle.query_model.specs.declared.query.Term.TheVariants.{Var}
use Rattle.query_model.specs.declared.query.Test.{Test}
use Rattle.query_plan.specs.Implied.{AreContrary, Equated}
use Rattle.query_plan.specs.Plans.{Conditioned}
use Rattle.ucq_answers.specs.Found.{Adds, Bounded, FitsAt, HasUnfit, IsAnswerBy, IsFound, IsMatchBy, IsMet, IsMetFound}
use Rattle.ucq_answers.specs.Lookups.{AreCandidates}
use Rattle.ucq_answers.specs.Partly.{AreFitted, IsFit, IsFitted, IsHeadOfSome, bind, bind_all, fit, head_at, spread, tuples_of, values_of}
use Rattle.ucq_answers.proofs.Collecting.{adds_same}
use Rattle.ucq_answers.proofs.GoingOn.{CanBind, Extends, all_fitted, all_on, can_fit, extends_on, extends_same}
use Rattle.ucq_answers.proofs.Meaning.{IsSearched, full, full_extends, full_get, full_head, get_full, head_full, many_none, met_agrees, met_solution, nothing_extends, solution_met, tuple_fitted, fitted_tuple}
use Rattle.ucq_answers.proofs.Searching.{reached_extends}
use Rattle.ucq_answers.proofs.Spreading.{mapped_some, spread_extends, spread_on}
use Rattle.ucq_answers.proofs.Zipped.{zip_both, zip_length}

-- the atom does not fit the tuple at this place
abbrev pub NoFit : List (List (List Value)) → Atom → List (Option Value) → EntId → Type 0
NoFit instance atom b ent = (c : List (Option Value)) → option_and_then (λ tuple. fit b atom.terms tuple)
    (slice_get (tuples_of instance atom) ent.0) ≡ Some c → ⊥

pub fits_none : (instance : List (List (List Value))) (atom : Atom) (b : List (Option Value)) (ents : List EntId)
    → AreCandidates (tuples_of instance atom) [] atom.terms b ents
    → All (NoFit instance atom b) ents → (c : List (Option Value)) → IsFit (tuples_of instance atom) atom.terms b c → ⊥
fits_none instance atom b ents are none c is =
    let ent : EntId = record { 0 = is.place } in
    All-contains (NoFit instance atom b) ents ent none (are is.place is.tuple c is.is_tuple is.fits refl) c
    (ap (option_and_then (λ tuple. fit b atom.terms tuple)) is.is_tuple ∙ is.fits)

pub fits_some : (instance : List (List (List Value))) (atom : Atom) (b next : List (Option Value)) (ent : EntId)
    → option_and_then (λ tuple. fit b atom.terms tuple) (slice_get (tuples_of instance atom) ent.0) ≡ Some next
    → FitsAt instance b atom ent
fits_some instance atom b next ent is =
    option_and_then_some (λ tuple. fit b atom.terms tuple) (slice_get (tuples_of instance atom) ent.0) next is
    (λ tuple at fits. record { tuple = tuple; next = next; is_tuple = at; fits = fits })

-- ---- answers by a disjunct

-- what is known before an atom is searched
abbrev pub begun : Disjunct → Conditioned → List (Option Value)
begun d conditions = spread conditions.equalities (replicate d.vars None)

pub many_begun : (d : Disjunct) (conditions : Conditioned) → length (begun d conditions) ≡ d.vars
many_begun d conditions = sym (spread_extends conditions.equalities (replicate d.vars None)).as_many ∙ many_none d.vars

from_nothing : (d : Disjunct) (values : List Value) → length values ≡ d.vars → Extends (replicate d.vars None) (full values)
from_nothing d values many = nothing_extends d.vars (full values) (length-map values (λ x. Some x) ∙ many)

pub answer_from : (instance : List (List (List Value))) (d : Disjunct) (conditions : Conditioned) (atoms : List Atom)
    (tuple : List Value) → IsSearched d conditions atoms
    → IsHeadOfSome instance conditions d.head atoms (begun d conditions) tuple → IsAnswerBy instance d tuple
answer_from instance d conditions atoms tuple searched some =
    let met = solution_met instance d conditions atoms (begun d conditions) some.values searched (many_begun d conditions)
    some.solution in
    record {
      values = values_of some.values;
      meets = met.meets;
      is_head = full_head (values_of some.values) d.head tuple (ap (λ c. head_at c d.head) (sym met.same) ∙ some.is_head);
    }

pub answer_to : (instance : List (List (List Value))) (d : Disjunct) (conditions : Conditioned) (atoms : List Atom)
    (tuple : List Value) → IsSearched d conditions atoms
    → IsAnswerBy instance d tuple → IsHeadOfSome instance conditions d.head atoms (begun d conditions) tuple
answer_to instance d conditions atoms tuple searched is =
    let on : Extends (begun d conditions) (full is.values) =
    spread_on conditions.equalities (replicate d.vars None) (full is.values) (from_nothing d is.values is.meets.per_var)
    (met_agrees instance d conditions atoms is.values searched is.meets) in
    record {
      values = full is.values;
      solution = met_solution instance d conditions atoms (begun d conditions) is.values searched on is.meets;
      is_head = head_full is.values d.head tuple is.is_head;
    }

-- all heads of solutions are added, which are the answers by a disjunct
pub adds_answers : (instance : List (List (List Value))) (d : Disjunct) (conditions : Conditioned) (head : List ℕ)
    (atoms : List Atom) (b : List (Option Value)) (old new : Bounded) (is_full : Bool)
    → head ≡ d.head → b ≡ spread conditions.equalities (replicate d.vars None) → IsSearched d conditions atoms
    → Adds (IsHeadOfSome instance conditions head atoms b) old new is_full
    → Adds (IsAnswerBy instance d) old new is_full
adds_answers instance d conditions head atoms b old new is_full is_head is_b searched adds =
    adds_same (IsHeadOfSome instance conditions d.head atoms (begun d conditions)) (IsAnswerBy instance d) old new is_full
    (subst (λ u. Adds (IsHeadOfSome instance conditions d.head atoms u) old new is_full) is_b
    (subst (λ u. Adds (IsHeadOfSome instance conditions u atoms b) old new is_full) is_head adds))
    (λ tuple is. answer_from instance d conditions atoms tuple searched is)
    (λ opened tuple is. answer_to instance d conditions atoms tuple searched is)

-- where the comparisons hold nowhere there is no answer
pub contrary_none : (instance : List (List (List Value))) (d : Disjunct) (tests : List Test) (tuple : List Value)
    → tests ≡ d.tests → AreContrary tests → IsAnswerBy instance d tuple → ⊥
contrary_none instance d tests tuple same contrary is = contrary is.values
    (subst (All (TestHolds is.values)) (sym same) is.meets.tests)

-- ---- values of the head's variables

as_fit : (b : List (Option Value)) (head : List ℕ) (tuple : List Value) → bind_all b head tuple ≡ fit b
    (map (λ v. Var v) head) tuple
as_fit b [] [] = refl
as_fit b [] (x ∷ tuple) = refl
as_fit b (v ∷ head) [] = refl
as_fit b (v ∷ head) (x ∷ tuple) = and_same (bind b v x) (λ c. bind_all c head tuple)
    (λ c. fit c (map (λ w. Var w) head) tuple) (λ c. as_fit c head tuple)
  where
    and_same : {A B : Type 0} (o : Option A) (f g : A → Option B) → ((a : A) → f a ≡ g a) → option_and_then f o ≡
        option_and_then g o
    and_same None f g same = refl
    and_same (Some a) f g same = same a

head_fitted : (values : List Value) (head : List ℕ) (tuple : List Value) → IsHead values head tuple
    → AreFitted (full values) (map (λ v. Var v) head) tuple
head_fitted values [] [] is = record { as_many = refl; each = λ k t x at own. absurd (none-some t at) }
head_fitted values [] (x ∷ tuple) is = cc
head_fitted values (v ∷ head) [] is = cc
head_fitted values (v ∷ head) (x ∷ tuple) is =
    let first : slice_get values v ≡ Some x = cc in
    let others : IsHead values head tuple = cc in
    let rest = head_fitted values head tuple others in
    record { as_many = ap (λ n. suc n) rest.as_many; each = λ k t y at own. each first rest k t y at own }
  where
    each : slice_get values v ≡ Some x → AreFitted (full values) (map (λ w. Var w) head) tuple → (k : ℕ) (t : Term)
        (y : Value) → slice_get (Var v ∷ map (λ w. Var w) head) k ≡ Some t
        → slice_get (x ∷ tuple) k ≡ Some y → IsFitted (full values) t y
    each first rest zero t y at own =
        subst (λ u. IsFitted (full values) u y) (same_Some (Var v) t at)
        (subst (λ u. IsFitted (full values) (Var v) u) (same_Some x y own) (get_full values v x first))
    each first rest (suc k) t y at own = rest.each k t y at own

fitted_head : (values : List Value) (head : List ℕ) (tuple : List Value) → AreFitted (full values)
    (map (λ v. Var v) head) tuple → IsHead values head tuple
fitted_head values [] [] are = refl
fitted_head values [] (x ∷ tuple) are = absurd (omega (arith, are.as_many))
fitted_head values (v ∷ head) [] are = absurd (omega (arith, are.as_many))
fitted_head values (v ∷ head) (x ∷ tuple) are =
    let first : slice_get values v ≡ Some x = full_get values v x (are.each 0 (Var v) x refl refl) in
    let same : length (map (λ w. Var w) head) ≡ length tuple = omega (arith, are.as_many) in
    let rest : AreFitted (full values) (map (λ w. Var w) head) tuple =
    record { as_many = same; each = λ k t y at own. are.each (suc k) t y at own } in
    ap (λ o. o ∷ map (λ w. slice_get values w) head) first ∙ ap (λ l. Some x ∷ l) (fitted_head values head tuple rest)

-- an answer's values go on from those of the head
answer_goes_on : (d : Disjunct) (tuple values : List Value) → length values ≡ d.vars → IsHead values d.head tuple
    → CanBind (bind_all (replicate d.vars None) d.head tuple) (full values)
answer_goes_on d tuple values many is =
    subst (λ o. CanBind o (full values)) (sym (as_fit (replicate d.vars None) d.head tuple))
    (can_fit (replicate d.vars None) (full values) (map (λ v. Var v) d.head) tuple (from_nothing d values many)
    (head_fitted values d.head tuple is))

-- where the head's variables cannot have a tuple's values it is no answer
pub no_head : (instance : List (List (List Value))) (d : Disjunct) (equalities : List Equated) (tuple : List Value)
    → None ≡ option_map (spread equalities) (bind_all (replicate d.vars None) d.head tuple) → IsAnswerBy instance d tuple → ⊥
no_head instance d equalities tuple none is =
    let on = answer_goes_on d tuple is.values is.meets.per_var is.is_head in
    none-some (spread equalities on.next) (none ∙ ap (option_map (spread equalities)) on.is)

-- what is found from the values of the head
pub met_found : (instance : List (List (List Value))) (d : Disjunct) (conditions : Conditioned) (atoms : List Atom)
    (b : List (Option Value)) (tuple : List Value) (found : Option (List (Option Value)))
    → IsSearched d conditions atoms
    → option_map (spread conditions.equalities) (bind_all (replicate d.vars None) d.head tuple) ≡ Some b
    → IsFound instance conditions atoms b found → IsMetFound instance d tuple found
met_found instance d conditions atoms b tuple None searched bound never = λ is.
    let parts = mapped_some (spread conditions.equalities) (bind_all (replicate d.vars None) d.head tuple) b bound in
    let on = answer_goes_on d tuple is.values is.meets.per_var is.is_head in
    let same : on.next ≡ parts.0 = same_Some on.next parts.0 (sym on.is ∙ parts.1) in
    let own : Extends parts.0 (full is.values) = subst (λ c. Extends c (full is.values)) same on.extends in
    let spreads : Extends (spread conditions.equalities parts.0) (full is.values) =
    spread_on conditions.equalities parts.0 (full is.values) own
    (met_agrees instance d conditions atoms is.values searched is.meets) in
    let extends : Extends b (full is.values) = subst (λ c. Extends c (full is.values)) parts.2 spreads in
    never (full is.values) (met_solution instance d conditions atoms b is.values searched extends is.meets)
met_found instance d conditions atoms b tuple (Some c) searched bound solution =
    let parts = mapped_some (spread conditions.equalities) (bind_all (replicate d.vars None) d.head tuple) b bound in
    let given : fit (replicate d.vars None) (map (λ v. Var v) d.head) tuple ≡ Some parts.0 =
    sym (as_fit (replicate d.vars None) d.head tuple) ∙ parts.1 in
    let own = all_fitted (replicate d.vars None) (map (λ v. Var v) d.head) tuple parts.0 given in
    let first : Extends parts.0 b = subst (Extends parts.0) parts.2 (spread_extends conditions.equalities parts.0) in
    let many : length b ≡ d.vars = sym first.as_many ∙ sym own.extends.as_many ∙ many_none d.vars in
    let met = solution_met instance d conditions atoms b c searched many solution in
    let later : Extends parts.0 c = extends_on parts.0 b c first
    (reached_extends conditions.equalities instance atoms b c solution.reached) in
    let on : AreFitted c (map (λ v. Var v) d.head) tuple = all_on parts.0 c (map (λ v. Var v) d.head) tuple later own.fitted in
    record {
      same = met.same;
      meets = met.meets;
      is_head = fitted_head (values_of c) d.head tuple (subst (λ e. AreFitted e (map (λ v. Var v) d.head) tuple) met.same on);
    }

-- values in which the head's variables have those of a tuple are as many as before
pub many_bound : (d : Disjunct) (conditions : Conditioned) (b : List (Option Value)) (tuple : List Value)
    → option_map (spread conditions.equalities) (bind_all (replicate d.vars None) d.head tuple) ≡ Some b → length b ≡ d.vars
many_bound d conditions b tuple bound =
    let parts = mapped_some (spread conditions.equalities) (bind_all (replicate d.vars None) d.head tuple) b bound in
    let given : fit (replicate d.vars None) (map (λ v. Var v) d.head) tuple ≡ Some parts.0 =
    sym (as_fit (replicate d.vars None) d.head tuple) ∙ parts.1 in
    let own = all_fitted (replicate d.vars None) (map (λ v. Var v) d.head) tuple parts.0 given in
    let first : Extends parts.0 b = subst (Extends parts.0) parts.2 (spread_extends conditions.equalities parts.0) in
    sym first.as_many ∙ sym own.extends.as_many ∙ many_none d.vars

-- ---- entities

atom_fits : (instance : List (List (List Value))) (values : List Value) (atom : Atom) → AtomHolds instance values
    atom → IsFit (tuples_of instance atom) atom.terms (full values) (full values)
atom_fits instance values atom holds =
    let are : AreFitted (full values) atom.terms holds.tuple = tuple_fitted values atom.terms holds.tuple holds.fits in
    let on = can_fit (full values) (full values) atom.terms holds.tuple (extends_same (full values)) are in
    let own = all_fitted (full values) atom.terms holds.tuple on.next on.is in
    let same : on.next ≡ full values = sym (full_extends values on.next own.extends) in
    let tuples = tuples_of instance atom in
    let at : slice_get tuples holds.is_there.0 ≡ Some holds.tuple =
    slice_get-get_or tuples holds.is_there.0 holds.tuple holds.is_there.1 ∙ ap (λ u. Some u) holds.is_there.2 in
    record { place = holds.is_there.0; tuple = holds.tuple; is_tuple = at; fits = on.is ∙ ap (λ e. Some e) same }

-- where all atoms hold each fits a tuple
pub none_unfit : (instance : List (List (List Value))) (d : Disjunct) (tuple : List Value) (c : List (Option Value))
    → IsMet instance d tuple c → HasUnfit instance c d.atoms → ⊥
none_unfit instance d tuple c met unfit =
    let values = values_of c in
    let holds = All-contains (AtomHolds instance values) d.atoms unfit.atom met.meets.atoms unfit.is_atom in
    let fits = atom_fits instance values unfit.atom holds in
    unfit.none (full values) (subst (λ e. IsFit (tuples_of instance unfit.atom) unfit.atom.terms e (full values))
    (sym met.same) fits)

pub is_match : (instance : List (List (List Value))) (d : Disjunct) (number : ℕ) (tuple : List Value)
    (c : List (Option Value)) (m : Match) → m.disjunct ≡ number → m.values ≡ values_of c
    → IsMet instance d tuple c → AllZip (FitsAt instance c) d.atoms m.entities → IsMatchBy instance d number tuple m
is_match instance d number tuple c m is_number is_values met zip =
    record {
      is_number = is_number;
      meets = subst (Meets instance d) (sym is_values) met.meets;
      is_head = subst (λ v. IsHead v d.head tuple) (sym is_values) met.is_head;
      per_atom = zip_length (FitsAt instance c) d.atoms m.entities zip;
      atoms = λ k atom ent is_atom is_ent. subst (λ v. AtomMatches instance v atom ent.0) (sym is_values)
          (matches k atom ent is_atom is_ent);
    }
  where
    matches : (k : ℕ) (atom : Atom) (ent : EntId) → slice_get d.atoms k ≡ Some atom → slice_get m.entities k ≡ Some
        ent → AtomMatches instance (values_of c) atom ent.0
    matches k atom ent is_atom is_ent =
        let fits : FitsAt instance c atom ent = zip_both (FitsAt instance c) d.atoms m.entities k atom ent zip is_atom is_ent in
        let own = all_fitted c atom.terms fits.tuple fits.next fits.fits in
        let next : full (values_of c) ≡ fits.next = full_extends (values_of c) fits.next
        (subst (λ e. Extends e fits.next) met.same own.extends) in
        record {
          tuple = fits.tuple;
          is_tuple = fits.is_tuple;
          fits = fitted_tuple (values_of c) atom.terms
              fits.tuple (subst (λ e. AreFitted e atom.terms fits.tuple) (sym next) own.fitted);
        }
