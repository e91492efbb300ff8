-- What the matches by all disjuncts are.
use Rattle.std.proofs.Common.{◌≡◌, ◌+◌, ◌<◌, ◌≤◌, ◌⊎◌, inl, inr, ℕ, zero, suc, Bool, true, false, List, [], ◌∷◌, ◌++◌, length, drop, take, get_or, replicate, Option, None, Some, slice_get, refl, sym, ap, subst, ◌∙◌, arith}
use Rattle.std.specs.List.{All, Contains}
use Rattle.std.proofs.lemmas.List.{length-replicate, length-take-le, take-append-drop, take_more}
use Rattle.std.proofs.lemmas.List.Elements.{All-contains, All-contains_itself, All-weaker}
use Rattle.std.proofs.lemmas.Option.{get_or_from_slice_get, none-some, same_Some, slice_get-get_or, slice_get_within}
use Rattle.currency_base.specs.declared.ids.EntId.{EntId}
use Rattle.currency_base.specs.declared.value.Value.{Value}
use Rattle.query_model.specs.declared.query.Atom.{Atom}
use Rattle.query_model.specs.declared.query.Disjunct.{Disjunct}
use Rattle.query_model.specs.declared.query.Match.{Match}
use Rattle.query_model.specs.declared.query.Query.{Query}
use Rattle.query_model.specs.declared.query.Test.{Test}
use Rattle.spec_model.specs.Queries.{IsAtomOn, IsDisjunctOn, IsQueryOn}
use Rattle.spec_model.specs.declared.relation.Relation.{Relation}
use Rattle.match_candidates.specs.Found.{Adds, Bounded}
use Rattle.match_candidates.specs.Matches.{AreMatches, HasMoreMatches, IsMatch, MatchesAscend}
use Rattle.match_candidates.specs.Meant.{IsMatchBy, IsMatchOf, IsMeant, Left}
use Rattle.match_candidates.specs.Places.{AtomsFit}
use Rattle.match_candidates.specs.declared.at.At.{At}
use Rattle.match_candidates.proofs.Ascending.{ascending_once}
use Rattle.match_candidates.proofs.Among.{from_contains}
use Rattle.match_candidates.proofs.Bindings.{none_agrees}
use Rattle.match_candidates.proofs.Claimed.{IsAtomThere, all_claims, all_fit}
use Rattle.match_candidates.proofs.Collecting.{adds_also, adds_same, adds_stop}

-- ---- one disjunct

module _ (relations : List Relation) (d : Disjunct) (number : ℕ) (at : At) (m : Match) where
  abbrev Begun : Type 0
  Begun = IsMeant relations d.tests number (record { at = at; terms = []; atoms = d.atoms }) [] (replicate d.vars None) m

  pub of_begun : Begun → IsMatchBy relations d number m
  of_begun is = record {
    is_number = is.is_number;
    per_var = is.agrees.as_many ∙ length-replicate d.vars None;
    compared = is.compared;
    fitted = subst (AtomsFit relations m.values d.atoms) (sym is.entities) is.fitted;
  }

  pub to_begun : IsMatchBy relations d number m → Begun
  to_begun is = record {
    is_number = is.is_number;
    agrees = none_agrees d.vars m.values is.per_var;
    compared = is.compared;
    here = λ k t from there. absurd (none-some t there);
    more = m.entities;
    entities = refl;
    fitted = is.fitted;
  }

pub adds_begun : (relations : List Relation) (d : Disjunct) (number : ℕ) (at : At) (tests : List Test) (atoms : List Atom)
    (left : Left)
    (b : List (Option Value)) (old new : Bounded) (is_full : Bool) → tests ≡ d.tests
    → left ≡ record { at = at; terms = []; atoms = atoms }
    → atoms ≡ d.atoms → b ≡ replicate d.vars None → Adds (IsMeant relations tests number left [] b) old new is_full
    → Adds (IsMatchBy relations d number) old new is_full
adds_begun relations d number at tests atoms left b old new is_full same begun all none adds =
    adds_same (IsMeant relations d.tests number (start d.atoms) [] (replicate d.vars None))
    (IsMatchBy relations d number) old new is_full
    (subst (λ l. Adds (IsMeant relations d.tests number (start d.atoms) [] l) old new is_full) none
    (subst (λ l. Adds (IsMeant relations d.tests number l [] b) old new is_full) (begun ∙ ap start all)
    (subst (λ l. Adds (IsMeant relations l number left [] b) old new is_full) same adds)))
    (of_begun relations d number at) (to_begun relations d number at)
  where
    start : List Atom → Left
    start l = record { at = at; terms = []; atoms = l }

-- ---- one disjunct after another

front_get : {A : Type 0} (xs ys : List A) (i : ℕ) (x : A) → slice_get xs i ≡ Some x → slice_get (xs ++ ys) i ≡ Some x
front_get [] ys i x at = absurd (none-some x at)
front_get (z ∷ xs) ys zero x at = at
front_get (z ∷ xs) ys (suc i) x at = front_get xs ys i x at

last_get : {A : Type 0} (xs : List A) (y : A) → slice_get (xs ++ y ∷ []) (length xs) ≡ Some y
last_get [] y = refl
last_get (x ∷ xs) y = last_get xs y

either_get : {A : Type 0} (xs : List A) (y : A) (i : ℕ) (x : A) → slice_get (xs ++ y ∷ []) i ≡ Some x
    → (slice_get xs i ≡ Some x) ⊎ ((i ≡ length xs) × (y ≡ x))
either_get [] y zero x at = inr (refl, same_Some y x at)
either_get [] y (suc i) x at = absurd (none-some x at)
either_get (z ∷ xs) y zero x at = inl at
either_get {A} (z ∷ xs) y (suc i) x at = by (either_get xs y i x at)
  where
    by : (slice_get xs i ≡ Some x) ⊎ ((i ≡ length xs) × (y ≡ x))
        → (slice_get (z ∷ xs) (suc i) ≡ Some x) ⊎ ((suc i ≡ suc (length xs)) × (y ≡ x))
    by (inl is) = inl is
    by (inr is) = inr (ap (λ n. suc n) is.0, is.1)

module _ (relations : List Relation) (front : List Disjunct) (d : Disjunct) where
  of_last : (m : Match) → IsMatchOf relations front m ⊎ IsMatchBy relations d (length front) m
      → IsMatchOf relations (front ++ d ∷ []) m
  of_last m (inl is) = record {
    disjunct = is.disjunct;
    is_disjunct = front_get front (d ∷ []) m.disjunct is.disjunct is.is_disjunct;
    is = is.is;
  }
  of_last m (inr is) = record {
    disjunct = d;
    is_disjunct = ap (slice_get (front ++ d ∷ [])) is.is_number ∙ last_get front d;
    is = record { is_number = refl; per_var = is.per_var; compared = is.compared; fitted = is.fitted };
  }

  to_last : (m : Match) → IsMatchOf relations (front ++ d ∷ []) m
      → IsMatchOf relations front m ⊎ IsMatchBy relations d (length front) m
  to_last m is = by (either_get front d m.disjunct is.disjunct is.is_disjunct)
    where
      by : (slice_get front m.disjunct ≡ Some is.disjunct) ⊎ ((m.disjunct ≡ length front) × (d ≡ is.disjunct))
          → IsMatchOf relations front m ⊎ IsMatchBy relations d (length front) m
      by (inl before) = inl record { disjunct = is.disjunct; is_disjunct = before; is = is.is }
      by (inr here) =
          let own : IsMatchBy relations d m.disjunct m = subst (λ e. IsMatchBy relations e m.disjunct m) (sym here.1) is.is in
          inr (record { is_number = here.0; per_var = own.per_var; compared = own.compared; fitted = own.fitted })

module _ (relations : List Relation) (disjuncts : List Disjunct) (i : ℕ) (d : Disjunct) (within : i < length disjuncts)
    (at : d ≡ get_or disjuncts i d)
    (old mid new : Bounded) (first : Adds (IsMatchOf relations (take i disjuncts)) old mid false) where
  long : length (take i disjuncts) ≡ i
  long = length-take-le i disjuncts (omega arith)

  next : take (i + 1) disjuncts ≡ take i disjuncts ++ d ∷ []
  next = take_more disjuncts i d within ∙ ap (λ e. take i disjuncts ++ e ∷ []) (sym at)

  -- and then one more
  pub more_disjuncts : Adds (IsMatchBy relations d i) mid new false
      → Adds (IsMatchOf relations (take (i + 1) disjuncts)) old new false
  more_disjuncts adds =
      subst (λ l. Adds (IsMatchOf relations l) old new false) (sym next)
      (adds_also (IsMatchOf relations (take i disjuncts)) (IsMatchBy relations d (length (take i disjuncts)))
      (IsMatchOf relations (take i disjuncts ++ d ∷ [])) old mid new false first
      (subst (λ n. Adds (IsMatchBy relations d n) mid new false) (sym long) adds)
      (of_last relations (take i disjuncts) d) (λ opened. to_last relations (take i disjuncts) d))

  -- it stops at one
  pub last_disjunct : (is_full : Bool) → is_full ≡ true → Adds (IsMatchBy relations d i) mid new is_full
      → Adds (IsMatchOf relations disjuncts) old new true
  last_disjunct is_full closed adds =
      adds_stop (IsMatchOf relations (take i disjuncts)) (IsMatchBy relations d i)
      (IsMatchOf relations disjuncts) old mid new is_full closed first adds both
    where
      front : (m : Match) → IsMatchOf relations (take i disjuncts) m → IsMatchOf relations disjuncts m
      front m is = record {
        disjunct = is.disjunct;
        is_disjunct = subst (λ l. slice_get l m.disjunct ≡ Some is.disjunct) (take-append-drop i disjuncts)
            (front_get (take i disjuncts) (drop i disjuncts) m.disjunct is.disjunct is.is_disjunct);
        is = is.is;
      }

      both : (m : Match) → IsMatchOf relations (take i disjuncts) m ⊎ IsMatchBy relations d i m → IsMatchOf relations disjuncts m
      both m (inl is) = front m is
      both m (inr is) = record {
        disjunct = d;
        is_disjunct = ap (slice_get disjuncts) is.is_number ∙ slice_get-get_or disjuncts i d within ∙ ap Some (sym at);
        is = record { is_number = refl; per_var = is.per_var; compared = is.compared; fitted = is.fitted };
      }

-- ---- all of a query

fit_lengths : (relations : List Relation) (values : List Value) (atoms : List Atom) (ents : List EntId)
    → AtomsFit relations values atoms ents
    → length ents ≡ length atoms
fit_lengths relations values [] [] fit = refl
fit_lengths relations values [] (ent ∷ ents) fit = absurd fit
fit_lengths relations values (atom ∷ atoms) [] fit = absurd fit
fit_lengths relations values (atom ∷ atoms) (ent ∷ ents) fit = ap (λ n. suc n) (fit_lengths relations values atoms ents fit.1)

module _ (relations : List Relation) (query : Query) (on : IsQueryOn relations query) where
  atoms_there : (place : ℕ) (d : Disjunct) → slice_get query.disjuncts place ≡ Some d → All (IsAtomThere relations) d.atoms
  atoms_there place d at =
      let own = All-contains (IsDisjunctOn relations on.heads) query.disjuncts d on.disjuncts
      (place, slice_get_within query.disjuncts place d at, get_or_from_slice_get query.disjuncts place d d at) in
      All-weaker (IsAtomOn relations own.kinds) (IsAtomThere relations)
      (λ atom is. record { relation = is.relation; is_relation = is.is_relation; many = is.as_many }) d.atoms own.atoms

  pub to_match : (m : Match) → IsMatchOf relations query.disjuncts m → IsMatch relations query m
  to_match m is =
      let claims = all_claims relations m.values is.disjunct.atoms m.entities
      (atoms_there m.disjunct is.disjunct is.is_disjunct) is.is.fitted in
      record {
        disjunct = is.disjunct;
        is_disjunct = is.is_disjunct;
        per_var = is.is.per_var;
        per_atom = fit_lengths relations m.values is.disjunct.atoms m.entities is.is.fitted;
        compared = is.is.compared;
        claims = claims.0;
        are_claims = claims.1;
      }

  pub of_match : (m : Match) → IsMatch relations query m → IsMatchOf relations query.disjuncts m
  of_match m is = record {
    disjunct = is.disjunct;
    is_disjunct = is.is_disjunct;
    is = record {
      is_number = refl;
      per_var = is.per_var;
      compared = is.compared;
      fitted = all_fit relations m.values is.disjunct.atoms m.entities is.claims
          (atoms_there m.disjunct is.disjunct is.is_disjunct) is.are_claims;
    };
  }

-- what is read once all disjuncts were gone through
pub record IsAllFound (relations : List Relation) (query : Query) (most : ℕ) (found : Bounded) (is_full : Bool) : Type 0 where
  pub on : IsQueryOn relations query
  pub adds : Adds (IsMatch relations query) (record { most = most; matches = [] }) found is_full
  pub ascend : MatchesAscend found.matches

pub all_found : (relations tables : List Relation) (query : Query) (disjuncts : List Disjunct) (most : ℕ)
    (old found : Bounded) (is_full : Bool)
    → IsQueryOn relations query → tables ≡ relations → disjuncts ≡ query.disjuncts → old ≡ record { most = most; matches = [] }
    → MatchesAscend found.matches → Adds (IsMatchOf tables disjuncts) old found is_full
    → IsAllFound relations query most found is_full
all_found relations tables query disjuncts most old found is_full on same all none ascend adds = record {
  on = on;
  adds = adds_same (IsMatchOf relations query.disjuncts) (IsMatch relations query) _ found is_full
      (subst (λ o. Adds (IsMatchOf relations query.disjuncts) o found is_full) none
      (subst (λ l. Adds (IsMatchOf relations l) old found is_full) all (subst (λ l. Adds
      (IsMatchOf l disjuncts) old found is_full) same adds)))
      (to_match relations query on) (of_match relations query on);
  ascend = ascend;
}

module _ (relations : List Relation) (query : Query) (most : ℕ) (found : Bounded) (is_full : Bool)
    (is : IsAllFound relations query most found is_full)
    (list : List Match) (same : list ≡ found.matches) where
  each_match : All (IsMatch relations query) list
  each_match = subst (All (IsMatch relations query)) (sym same)
      (All-weaker (Contains found.matches) (IsMatch relations query) (λ m has. by m (is.adds.sound m has)) found.matches
      (All-contains_itself found.matches))
    where
      by : (m : Match) → Contains [] m ⊎ IsMatch relations query m → IsMatch relations query m
      by m (inl none) = absurd (from_contains [] m none)
      by m (inr own) = own

  pub too_many : most < length list → HasMoreMatches relations query most
  too_many more = record {
    some = list;
    each = each_match;
    once = ascending_once list (subst MatchesAscend (sym same) is.ascend);
    more = more;
  }

  pub all_listed : length list ≤ most → AreMatches relations query list
  all_listed few = record {
    each = each_match;
    all = λ m own. subst (λ l. Contains l m) (sym same) (is.adds.complete (opened is_full refl) m own);
    ascend = subst MatchesAscend (sym same) is.ascend;
  }
    where
      opened : (b : Bool) → is_full ≡ b → is_full ≡ false
      opened false e = e
      opened true e =
          let over = is.adds.full e in
          let bound = is.adds.most in
          let count = ap (λ (l : List Match). length l) same in
          absurd (omega (arith, few, over, bound, count))
