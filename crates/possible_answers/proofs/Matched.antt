-- The answers over a completion are the heads of the matches that hold in it.
use Rattle.std.proofs.Common.{◌≡◌, ◌∙◌, ◌<◌, ◌≤◌, ℕ, zero, suc, true, List, [], ◌∷◌, ◌++◌, All, Contains, Option, Some, None, ap, arith}
use Rattle.std.proofs.Common.{inl, inr, length, option_and_then, refl, slice_get, slice_index_or, subst, sym}
use Rattle.std.proofs.lemmas.List.{get_or_past}
use Rattle.std.proofs.lemmas.List.Elements.{All-head, All-tail}
use Rattle.std.proofs.lemmas.List.Sums.{AllPass-from_list_all}
use Rattle.std.proofs.lemmas.Option.{none-some, same_Some, slice_get_cases, slice_get_within}
use Rattle.answer_laws.specs.Answered.{IsAnswerIn}
use Rattle.answer_laws.specs.Laws.{InstancesExist}
use Rattle.axiom_laws.proofs.MatchClauses.{atoms_hold}
use Rattle.axiom_laws.proofs.Standing.{at_contains, contains_at}
use Rattle.currency_base.specs.declared.ids.EntId.{EntId}
use Rattle.currency_base.specs.declared.value.Value.{Value}
use Rattle.log_axioms.specs.Matches.{match_claims}
use Rattle.match_candidates.specs.Matches.{AreClaimsOf, IsMatch}
use Rattle.match_premises.proofs.Folds.{heads_are}
use Rattle.match_premises.specs.Premises.{comparisons_are, tuple_from}
use Rattle.possible_values.specs.Candidates.{MatchHolds}
use Rattle.query_model.specs.Answers.{AtomHolds, IsAnswer, is_compared, value_of}
use Rattle.query_model.specs.declared.query.Atom.{Atom}
use Rattle.query_model.specs.declared.query.Disjunct.{Disjunct}
use Rattle.query_model.specs.declared.query.Match.{Match}
use Rattle.query_model.specs.declared.query.Query.{Query}
use Rattle.spec_model.specs.Completion.{IsCompletion, Rankings}
use Rattle.spec_model.specs.Current.{IsCurrentInstance}
use Rattle.spec_model.specs.Facts.{AreRelations}
use Rattle.spec_model.specs.declared.relation.Relation.{Relation}
use Rattle.possible_answers.specs.Heads.{head_of}
use Rattle.possible_answers.proofs.Current.{IsOfCurrent, all_last, atoms_current}
use Rattle.possible_answers.proofs.Fitting.{head_read, tests_pass}

-- ---- from a match to an answer

-- the head of a match is that of its disjunct
of_disjunct : (query : Query) (m : Match) (d : Disjunct) (tuple : List Value) → slice_get query.disjuncts m.disjunct ≡ Some d
    → head_of query m ≡ Some tuple → tuple_from m.values (Some []) d.head ≡ Some tuple
of_disjunct query m d tuple at is =
    sym (ap (option_and_then (λ (x : Disjunct). tuple_from m.values (Some []) x.head)) at) ∙ is

pub match_answers : InstancesExist → (relations : List Relation) (c : Rankings) → AreRelations relations
    → IsCompletion relations c → (query : Query) (m : Match) (tuple : List Value) → IsMatch relations query m
    → MatchHolds relations query m c → head_of query m ≡ Some tuple → IsAnswerIn relations query tuple c
match_answers instances relations c are completion query m tuple is holds head =
    let instance = instances relations are.each c completion in
    let own = holds.are_claims in
    let same : own.disjunct ≡ is.disjunct = same_Some own.disjunct is.disjunct (sym own.is_disjunct ∙ is.is_disjunct) in
    let claims : match_claims relations m.values is.disjunct.atoms m.entities ≡ Some holds.claims =
    subst (λ (d : Disjunct). match_claims relations m.values d.atoms m.entities ≡ Some holds.claims) same own.are in
    record {
      instance = instance.0;
      is_current = instance.1;
      is_answer = record {
        disjunct = is.disjunct;
        is_disjunct = contains_at query.disjuncts m.disjunct is.disjunct is.is_disjunct;
        values = m.values;
        meets = record {
          per_var = is.per_var;
          atoms = atoms_hold relations c instance.0 instance.1 m.values is.disjunct.atoms m.entities holds.claims claims
              (all_last relations c holds.claims holds.hold);
          tests = AllPass-from_list_all (λ t. is_compared (value_of m.values t.left) t.cmp (value_of m.values t.right))
              is.disjunct.tests is.compared;
        };
        is_head = heads_are m.values tuple is.disjunct.head (of_disjunct query m is.disjunct tuple is.is_disjunct head);
      };
    }

-- ---- from an answer to a match

-- an entity for each atom, whose current tuple the atom fits
record HasEntities (relations : List Relation) (c : Rankings) (values : List Value) (atoms : List Atom) : Type 0 where
  entities : List EntId
  per_atom : length entities ≡ length atoms
  each : (k : ℕ) (atom : Atom) (ent : EntId) → slice_get atoms k ≡ Some atom → slice_get entities k ≡ Some ent
      → IsOfCurrent relations c values atom ent

module _ (relations : List Relation) (c : Rankings) (instance : List (List (List Value)))
    (current : IsCurrentInstance relations c instance) (values : List Value) where
  -- a relation that has a tuple in the instance is there
  relation_there : (rel k : ℕ) (tuple : List Value) → slice_get (slice_index_or instance rel []) k ≡ Some tuple
      → (r : Relation) × (slice_get relations rel ≡ Some r)
  relation_there rel k tuple at = elim ((slice_get_cases relations rel).1) [
    | inl one ↦ (one.0, one.2)
    | inr past ↦
        let p = past.0 in
        let many = current.per_relation in
        let beyond : length instance ≤ rel = omega (arith, many, p) in
        let none : slice_index_or instance rel [] ≡ [] = get_or_past instance rel [] beyond in
        let no : slice_get [] k ≡ Some tuple = ap (λ (xs : List (List Value)). slice_get xs k) (sym none) ∙ at in
        absurd (none-some tuple no)
  ]

  has_entity : (atom : Atom) → AtomHolds instance values atom → (ent : EntId) × IsOfCurrent relations c values atom ent
  has_entity atom holds =
      let at = at_contains (slice_index_or instance atom.relation.0 []) holds.tuple holds.is_there in
      let there = relation_there atom.relation.0 at.0 holds.tuple at.1 in (
        record { 0 = at.0 },
        record {
          relation = there.0;
          is_relation = there.1;
          tuple = holds.tuple;
          is_current = (current.each atom.relation.0 there.0 there.1).each at.0 holds.tuple at.1;
          fits = holds.fits;
        },
      )

  has_entities : (atoms : List Atom) → All (AtomHolds instance values) atoms → HasEntities relations c values atoms
  has_entities [] all = record { entities = []; per_atom = refl; each = λ k atom ent at e. absurd (none-some atom at) }
  has_entities (atom ∷ atoms) all =
      let here = has_entity atom (All-head (AtomHolds instance values) atom atoms all) in
      let rest = has_entities atoms (All-tail (AtomHolds instance values) atom atoms all) in
      record {
        entities = here.0 ∷ rest.entities;
        per_atom = ap suc rest.per_atom;
        each = λ k a e at_a at_e. by here.0 here.1 rest k a e at_a at_e;
      }
    where
      by : (ent : EntId) → IsOfCurrent relations c values atom ent → (rest : HasEntities relations c values atoms)
          → (k : ℕ) (a : Atom) (e : EntId) → slice_get (atom ∷ atoms) k ≡ Some a
          → slice_get (ent ∷ rest.entities) k ≡ Some e → IsOfCurrent relations c values a e
      by ent of rest zero a e at_a at_e =
          subst (λ (x : Atom). IsOfCurrent relations c values x e) (same_Some atom a at_a)
          (subst (λ (x : EntId). IsOfCurrent relations c values atom x) (same_Some ent e at_e) of)
      by ent of rest (suc k) a e at_a at_e = rest.each k a e at_a at_e

-- a match whose claims hold in a completion, with a tuple as its head
pub record IsMatched (relations : List Relation) (query : Query) (c : Rankings) (tuple : List Value) : Type 0 where
  pub m : Match
  pub is_match : IsMatch relations query m
  pub holds : MatchHolds relations query m c
  pub is_head : head_of query m ≡ Some tuple

pub answer_matches : (relations : List Relation) (c : Rankings) → AreRelations relations → IsCompletion relations c
    → (query : Query) (tuple : List Value) → IsAnswerIn relations query tuple c → IsMatched relations query c tuple
answer_matches relations c are completion query tuple answer =
    let is = answer.is_answer in
    let place = at_contains query.disjuncts is.disjunct is.is_disjunct in
    let ents = has_entities relations c answer.instance answer.is_current is.values is.disjunct.atoms is.meets.atoms in
    let claims = atoms_current relations c are completion is.values is.disjunct.atoms ents.entities ents.per_atom ents.each in
    let m : Match = record { disjunct = place.0; entities = ents.entities; values = is.values } in
    record {
      m = m;
      is_match = record {
        disjunct = is.disjunct;
        is_disjunct = place.1;
        per_var = is.meets.per_var;
        per_atom = ents.per_atom;
        compared = tests_pass is.values is.disjunct.tests is.meets.tests;
        claims = claims.premises;
        are_claims = claims.is;
      };
      holds = record {
        claims = claims.premises;
        are_claims = record { disjunct = is.disjunct; is_disjunct = place.1; are = claims.is };
        hold = claims.current;
      };
      is_head = ap (option_and_then (λ (d : Disjunct). tuple_from is.values (Some []) d.head)) place.1
          ∙ head_read is.values [] is.disjunct.head tuple is.is_head;
    }
