-- How matches are added, one after another.
use Rattle.std.proofs.Common.{◌≡◌, ◌<◌, ℕ, true, List, [], ◌∷◌, ◌++◌, length, replicate, get_or, Option, None, Some, option_map, slice_get, refl, sym, ap, subst, ◌∙◌}
use Rattle.std.specs.List.{All, AllZip}
use Rattle.std.proofs.lemmas.List.{append_assoc, append-nil}
use Rattle.std.proofs.lemmas.List.Elements.{All-append, All-cons, All-contains, All-nil}
use Rattle.std.proofs.lemmas.Option.{get_or_from_slice_get, slice_get_within}
use Rattle.currency_base.specs.declared.ids.EntId.{EntId}
use Rattle.currency_base.specs.declared.value.Value.{Value}
use Rattle.query_model.specs.declared.query.Atom.{Atom}
use Rattle.query_model.specs.declared.query.Disjunct.{Disjunct}
use Rattle.query_model.specs.declared.query.Match.{Match}
use Rattle.query_model.specs.declared.query.Test.{Test}
use Rattle.query_plan.specs.Plans.{Conditioned}
use Rattle.ucq_answers.specs.Found.{AddsMatches, AllFitAt, FitsAt, IsMatchAmong, IsMatchBy, IsMatchFrom, IsMatchWith, IsMet, IsOneOf, IsThis, Wanted}
use Rattle.ucq_answers.specs.Partly.{bind_all, joined_at, passes, spread, values_of}
use Rattle.ucq_answers.proofs.Matches.{is_match, met_found}
use Rattle.ucq_answers.proofs.Meaning.{IsSearched}
use Rattle.ucq_answers.proofs.Searching.{solved, solved_more}
use Rattle.ucq_answers.proofs.Union.{match_by}

-- ---- what is added

pub adds_nothing : (P : Match → Type 0) (old : Wanted) → AddsMatches P old old
adds_nothing P old = record { at_most = refl; added = []; is_added = sym (append-nil old.matches); each = All-nil P }

pub adds_then : (P : Match → Type 0) (old mid new : Wanted) → AddsMatches P old mid → AddsMatches P mid new
    → AddsMatches P old new
adds_then P old mid new first rest = record {
  at_most = rest.at_most ∙ first.at_most;
  added = first.added ++ rest.added;
  is_added = rest.is_added ∙ ap (λ l. l ++ rest.added) first.is_added ∙ append_assoc old.matches first.added rest.added;
  each = All-append P first.added rest.added first.each rest.each;
}

-- one match
pub adds_pushed : (old new : Wanted) (m : Match) → new.at_most ≡ old.at_most → new.matches ≡ old.matches ++ m ∷ []
    → AddsMatches (IsThis m) old new
adds_pushed old new m bound after = record {
  at_most = bound;
  added = m ∷ [];
  is_added = after;
  each = All-cons (IsThis m) m [] refl (All-nil (IsThis m));
}

-- the same, said otherwise
pub adds_as : (P Q : Match → Type 0) (old new : Wanted) → ((m : Match) → P m → Q m) → AddsMatches P old new
    → AddsMatches Q old new
adds_as P Q old new to adds = record {
  at_most = adds.at_most;
  added = adds.added;
  is_added = adds.is_added;
  each = λ k e below. to (get_or adds.added k e) (adds.each k e below);
}

-- just this match is added
pub adds_this : (P : Match → Type 0) (old mid new : Wanted) (m : Match) → AddsMatches P old mid
    → AddsMatches (IsThis m) mid new → P m → AddsMatches P old new
adds_this P old mid new m first rest is =
    adds_then P old mid new first (adds_as (IsThis m) P mid new (λ other same. subst P (sym same) is) rest)

-- where there was none before, each is meant
pub all_meant : (P : Match → Type 0) (old new : Wanted) → old.matches ≡ [] → AddsMatches P old new → All P new.matches
all_meant P old new none adds = subst (All P) (sym (adds.is_added ∙ ap (λ l. l ++ adds.added) none)) adds.each

-- ---- one step of the search

pub last_step : (instance : List (List (List Value))) (conditions : Conditioned) (tests : List Test) (atoms : List Atom)
    (number : ℕ) (steps : List Atom) (b : List (Option Value)) (old new : Wanted) → tests ≡ conditions.tests → [] ≡ steps
    → true ≡ passes b tests → AddsMatches (IsMatchWith instance atoms number b) old new
    → AddsMatches (IsMatchFrom instance conditions atoms number steps b) old new
last_step instance conditions tests atoms number steps b old new is none passed adds =
    adds_as (IsMatchWith instance atoms number b) (IsMatchFrom instance conditions atoms number steps b) old new
    (λ m is_match. record {
      values = b;
      solution = solved instance conditions tests steps b is none passed;
      is_match = is_match;
    }) adds

pub one_step : (instance : List (List (List Value))) (conditions : Conditioned) (atoms : List Atom) (number : ℕ)
    (atom : Atom) (rest : List Atom) (b next : List (Option Value)) (ent : EntId) (old new : Wanted)
    → Some next ≡ joined_at conditions.equalities instance atom b ent
    → AddsMatches (IsMatchFrom instance conditions atoms number rest next) old new
    → AddsMatches (IsMatchFrom instance conditions atoms number (atom ∷ rest) b) old new
one_step instance conditions atoms number atom rest b next ent old new is adds =
    adds_as (IsMatchFrom instance conditions atoms number rest next)
    (IsMatchFrom instance conditions atoms number (atom ∷ rest) b) old new
    (λ m from. record {
      values = from.values;
      solution = solved_more instance conditions atom rest b next from.values ent is from.solution;
      is_match = from.is_match;
    }) adds

-- ---- choices

-- one of the tuples of each atom
pub zip_chosen : (instance : List (List (List Value))) (b : List (Option Value)) (atoms : List Atom)
    (choices : List (List EntId)) (ents : List EntId) → AllZip (AllFitAt instance b) atoms choices
    → AllZip IsOneOf choices ents → AllZip (FitsAt instance b) atoms ents
zip_chosen instance b [] [] [] all chosen = tt
zip_chosen instance b [] [] (ent ∷ ents) all chosen = absurd chosen
zip_chosen instance b [] (l ∷ choices) ents all chosen = absurd all
zip_chosen instance b (atom ∷ atoms) [] ents all chosen = absurd all
zip_chosen instance b (atom ∷ atoms) (l ∷ choices) [] all chosen = absurd chosen
zip_chosen instance b (atom ∷ atoms) (l ∷ choices) (ent ∷ ents) all chosen = (
  All-contains (FitsAt instance b atom) l ent all.0 chosen.0,
  zip_chosen instance b atoms choices ents all.1 chosen.1,
)

pub one_of : (ents : List EntId) (k : ℕ) (ent : EntId) → slice_get ents k ≡ Some ent → IsOneOf ents ent
one_of ents k ent at = (k, slice_get_within ents k ent at, get_or_from_slice_get ents k ent ent at)

-- one match more, by one of the tuples of each atom
pub choice_added : (instance : List (List (List Value))) (atoms : List Atom) (number : ℕ) (b : List (Option Value))
    (choices : List (List EntId)) (old mid new : Wanted) (m : Match) → AllZip (AllFitAt instance b) atoms choices
    → AllZip IsOneOf choices m.entities → m.disjunct ≡ number → m.values ≡ values_of b
    → AddsMatches (IsMatchWith instance atoms number b) old mid → AddsMatches (IsThis m) mid new
    → AddsMatches (IsMatchWith instance atoms number b) old new
choice_added instance atoms number b choices old mid new m all chosen is_number is_values first rest =
    adds_this (IsMatchWith instance atoms number b) old mid new m first rest record {
      is_number = is_number;
      is_values = is_values;
      entities = zip_chosen instance b atoms choices m.entities all chosen;
    }

-- ---- matches by a disjunct

pub from_head : (instance : List (List (List Value))) (d : Disjunct) (conditions : Conditioned) (steps : List Atom)
    (atoms : List Atom) (number : ℕ) (b : List (Option Value)) (tuple : List Value) (m : Match)
    → IsSearched d conditions steps → atoms ≡ d.atoms
    → option_map (spread conditions.equalities) (bind_all (replicate d.vars None) d.head tuple) ≡ Some b
    → IsMatchFrom instance conditions atoms number steps b m → IsMatchBy instance d number tuple m
from_head instance d conditions steps atoms number b tuple m searched same bound from =
    let met : IsMet instance d tuple from.values =
    met_found instance d conditions steps b tuple (Some from.values) searched bound from.solution in
    is_match instance d number tuple from.values m from.is_match.is_number from.is_match.is_values met
    (subst (λ (l : List Atom). AllZip (FitsAt instance from.values) l m.entities) same from.is_match.entities)

pub all_from_head : (instance : List (List (List Value))) (d : Disjunct) (conditions : Conditioned) (steps : List Atom)
    (atoms : List Atom) (number : ℕ) (b : List (Option Value)) (tuple : List Value) (old new : Wanted)
    → IsSearched d conditions steps → atoms ≡ d.atoms
    → option_map (spread conditions.equalities) (bind_all (replicate d.vars None) d.head tuple) ≡ Some b
    → old.matches ≡ [] → AddsMatches (IsMatchFrom instance conditions atoms number steps b) old new
    → All (IsMatchBy instance d number tuple) new.matches
all_from_head instance d conditions steps atoms number b tuple old new searched same bound none adds =
    all_meant (IsMatchBy instance d number tuple) old new none
    (adds_as (IsMatchFrom instance conditions atoms number steps b) (IsMatchBy instance d number tuple) old new
    (λ m from. from_head instance d conditions steps atoms number b tuple m searched same bound from) adds)

-- ---- matches by one disjunct after another

pub more_matches : (instance : List (List (List Value))) (disjuncts : List Disjunct) (i : ℕ) (d : Disjunct) (number : ℕ)
    (tuple : List Value) (old more : List Match) → i < length disjuncts → d ≡ get_or disjuncts i d → number ≡ i
    → All (IsMatchAmong disjuncts instance tuple) old → All (IsMatchBy instance d number tuple) more
    → All (IsMatchAmong disjuncts instance tuple) (old ++ more)
more_matches instance disjuncts i d number tuple old more below is same all each =
    All-append (IsMatchAmong disjuncts instance tuple) old more all
    (λ k e within. match_by instance disjuncts i d number tuple (get_or more k e) below is same (each k e within))
