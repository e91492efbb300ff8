-- Each match over the current instance of a completion has an axiom, of which all but the answer's literal are false.
use Rattle.std.proofs.Common.{◌≡◌, ◌⊎◌, ◌+◌, ◌<◌, ◌≤◌, ◌-◌, ℕ, zero, suc, Bool, true, false, if◌then◌else◌, List, [], ◌∷◌, All, Some, drop, length, slice_get, slice_index_or, refl, subst, inl, inr, ⊎_elim, arith}
use Rattle.std.specs.Cmp.{IsTotalOrder}
use Rattle.std.specs.Cmp.Lexicographic.{slice_cmp}
use Rattle.std.specs.declared.cmp.Ordering.TheVariants.{Equal}
use Rattle.std.proofs.lemmas.List.Elements.{All-head, All-tail}
use Rattle.std.proofs.lemmas.Option.{none-some, same_Some, slice_get-get_or}
use Rattle.currency_base.specs.Literals.{literal}
use Rattle.currency_base.specs.Values.{value_cmp}
use Rattle.currency_base.specs.declared.ids.AttrId.{AttrId}
use Rattle.currency_base.specs.declared.ids.EntId.{EntId}
use Rattle.currency_base.specs.declared.ids.RelId.{RelId}
use Rattle.currency_base.specs.declared.ids.RowId.{RowId}
use Rattle.currency_base.specs.declared.lit.Lit.{Lit}
use Rattle.currency_base.specs.declared.value.Value.{Value}
use Rattle.current_tuples.specs.Places.{IsPlaceOf}
use Rattle.current_tuples.proofs.Readable.{last_of_entity, row_within, some_ranked}
use Rattle.query_model.specs.Answers.{AtomHolds, AtomMatches, IsAnswer, IsMatch}
use Rattle.query_model.specs.declared.query.Atom.{Atom}
use Rattle.query_model.specs.declared.query.Match.{Match}
use Rattle.query_model.specs.declared.query.Query.{Query}
use Rattle.query_model.specs.declared.query.Term.{Term}
use Rattle.spec_model.specs.Completion.{IsCompletion, Rankings, ranking_of}
use Rattle.spec_model.specs.Current.{last_row}
use Rattle.spec_model.specs.Facts.{AreRelations, IsRelation}
use Rattle.spec_model.specs.Spec.{Spec}
use Rattle.spec_model.specs.declared.relation.Relation.{Relation}
use Rattle.refutation_log.specs.declared.statement.Statement.TheVariants as says
use Rattle.order_literals.proofs.Callers.{own_name, row_of}
use Rattle.order_literals.proofs.Items.{IsIn, in_contained, in_either, in_kept, place_of}
use Rattle.order_literals.proofs.Members.{IsNameOf, in_answer, in_last}
use Rattle.order_literals.proofs.Sayings.{says_at}
use Rattle.order_literals.specs.Numbers.{is_wanted, numbers_of}
use Rattle.order_literals.specs.Said.{Said, Says, not_last, positive}
use Rattle.order_literals.specs.Statements.{statements_of}
use Rattle.order_literals.specs.declared.wanted.Wanted.{Wanted}
use Rattle.order_clauses.proofs.Reading.{all_at}
use Rattle.order_clauses.proofs.Saying.{contains_at}
use Rattle.value_names.specs.Names.{name_of}
use Rattle.match_clauses.proofs.Matches.{are_match_lits, atoms_there}
use Rattle.match_clauses.specs.Claimed.{atom_said, atoms_said, is_asked, match_said, not_current, terms_said}
use Rattle.match_clauses.specs.Clauses.{AreAtomsOf, AreMatchLits, IsAtomOf}
use Rattle.match_clauses.specs.Matched.{IsMatchIn, IsOfWanted}
use Rattle.axiom_models.specs.Matches.{AnswersHaveMatches, MatchesHaveAxioms}
use Rattle.axiom_models.proofs.Literals.{lits_of}

-- a literal says it
abbrev pub HasLit : Spec → Wanted → Said → Type 0
HasLit s wanted x = (lit : Lit) × Says (statements_of (numbers_of s.relations wanted)) lit x

module _ (s : Spec) (wanted : Wanted) (c : Rankings) (are : AreRelations s.relations)
    (completion : IsCompletion s.relations c) where
  -- ---- one value

  -- the name of a row's value is numbered
  name_numbered : (rel : RelId) (attr : AttrId) (r : Relation) (row : RowId) → slice_get s.relations rel.0 ≡ Some r
      → attr.0 < length r.attrs → row.0 < length r.rows → is_wanted wanted.currents rel.0 ≡ true
      → IsNameOf (numbers_of s.relations wanted) rel.0 attr.0 (name_of r.rows attr.0 row)
  name_numbered rel attr r row at attr_in row_in wants =
      let facts = all_at IsRelation s.relations rel.0 r are.each at in
      let of = row_of s.relations wanted rel.0 attr.0 row r at attr_in row_in wants in
      record {
        table = of.table;
        is_table = of.is_table;
        attr_within = of.attr_within;
        names = of.names;
        wanted = of.wanted;
        named = own_name s.relations wanted rel.0 attr.0 row r facts at attr_in row_in wants of.table of.names
            of.is_table of.wanted;
      }

  current_has : (rel : RelId) (attr : AttrId) (ent : EntId) (r : Relation) → slice_get s.relations rel.0 ≡ Some r
      → attr.0 < length r.attrs → ent.0 < length r.entities → is_wanted wanted.currents rel.0 ≡ true
      → HasLit s wanted (not_current s.relations c rel attr ent)
  current_has rel attr ent r at attr_in ent_in wants =
      let place : IsPlaceOf s.relations rel.0 attr.0 ent.0 =
      record { relation = r; is_relation = at; attr_within = attr_in; ent_within = ent_in } in
      let list = ranking_of c rel.0 attr.0 ent.0 in
      let some = some_ranked s.relations c rel.0 attr.0 ent.0 are completion place in
      let any : RowId = record { 0 = 0 } in
      let row = slice_index_or list (length list - 1) any in
      let is_last : last_row list ≡ Some row = slice_get-get_or list (length list - 1) any (omega (arith, some)) in
      let of = last_of_entity s.relations c rel.0 attr.0 ent.0 completion place row is_last r at in
      let name = name_of r.rows attr.0 row in
      let statements = statements_of (numbers_of s.relations wanted) in
      let there = place_of statements (says.Last rel attr name) (in_last (numbers_of s.relations wanted) rel attr name
      (name_numbered rel attr r row at attr_in (row_within r.rows row.0 ent.0 of) wants)) in
      let same : not_last rel attr name ≡ not_current s.relations c rel attr ent = rw (at, is_last) refl in (
        literal there.0 true,
        subst (Says statements (literal there.0 true)) same (says_at statements there.0
            (not_last rel attr name) there.1),
      )

  -- ---- terms and atoms

  terms_have : (rel : RelId) (ent : EntId) (r : Relation) → slice_get s.relations rel.0 ≡ Some r → ent.0 < length r.entities
      → is_wanted wanted.currents rel.0 ≡ true → (attr : ℕ) (terms : List Term) → attr + length terms ≤ length r.attrs
      → (x : Said) → IsIn (terms_said s.relations c rel ent attr terms) x → HasLit s wanted x
  terms_have rel ent r at ent_in wants attr [] few x is_in = absurd is_in
  terms_have rel ent r at ent_in wants attr (t ∷ terms) few x is_in =
      by (in_kept (is_asked t) here [] x) (in_either (if_asked (is_asked t)) more x is_in)
      (terms_have rel ent r at ent_in wants (attr + 1) terms (omega (arith, few)) x)
    where
      here : Said
      here = not_current s.relations c rel (record { 0 = attr }) ent

      if_asked : Bool → List Said
      if_asked asked = if asked then not_current s.relations c rel (record { 0 = attr }) ent ∷ [] else []

      more : List Said
      more = terms_said s.relations c rel ent (attr + 1) terms

      by : (IsIn (if is_asked t then here ∷ [] else []) x → ((is_asked t ≡ true) × (here ≡ x)) ⊎ IsIn [] x)
          → IsIn (if_asked (is_asked t)) x ⊎ IsIn more x → (IsIn more x → HasLit s wanted x) → HasLit s wanted x
      by kept (inl first) later = ⊎_elim
          (λ (p : (is_asked t ≡ true) × (here ≡ x)). subst (HasLit s wanted) p.1
          (current_has rel (record { 0 = attr }) ent r at (omega (arith, few)) ent_in wants))
          (λ (none : IsIn [] x). absurd none)
          (kept first)
      by kept (inr second) later = later second

  atom_has : (atom : Atom) (ent : EntId) → IsAtomOf s wanted atom ent → (x : Said)
      → IsIn (atom_said s.relations c atom ent) x → HasLit s wanted x
  atom_has atom ent of x is_in = by atom.terms of.one_more is_in
    where
      by : (terms : List Term) → length terms ≡ of.terms + 1
          → IsIn (terms_said s.relations c atom.relation ent 0 (drop 1 terms)) x → HasLit s wanted x
      by [] long at = absurd (omega (arith, long))
      by (first ∷ terms) long at =
          terms_have atom.relation ent of.are_terms.relation of.are_terms.is_relation of.are_terms.ent_within
          of.are_terms.are_wanted 0 terms (let as_many = of.are_terms.as_many in omega (arith, long, as_many)) x at

  atoms_have : (atoms : List Atom) (entities : List EntId)
      → ((k : ℕ) (atom : Atom) (ent : EntId) → slice_get atoms k ≡ Some atom → slice_get entities k ≡ Some ent
      → IsAtomOf s wanted atom ent)
      → (x : Said) → IsIn (atoms_said s.relations c atoms entities) x → HasLit s wanted x
  atoms_have [] entities each x is_in = absurd is_in
  atoms_have (atom ∷ atoms) [] each x is_in = absurd is_in
  atoms_have (atom ∷ atoms) (ent ∷ entities) each x is_in = ⊎_elim
      (λ (here : IsIn (atom_said s.relations c atom ent) x). atom_has atom ent (each 0 atom ent refl refl) x here)
      (λ (later : IsIn (atoms_said s.relations c atoms entities) x).
      atoms_have atoms entities (λ k a e at_a at_e. each (suc k) a e at_a at_e) x later)
      (in_either (atom_said s.relations c atom ent) (atoms_said s.relations c atoms entities) x is_in)

  match_has : (answer : ℕ) → answer < wanted.answers → (atoms : List Atom) (entities : List EntId)
      → AreAtomsOf s wanted atoms entities → (x : Said) → IsIn (match_said s.relations c answer atoms entities) x
      → HasLit s wanted x
  match_has answer within atoms entities of x (inl e) =
      let n = numbers_of s.relations wanted in
      let there = place_of (statements_of n) (says.Answer answer) (in_answer n answer within) in
      subst (HasLit s wanted) e
      (literal there.0 false, says_at (statements_of n) there.0 (positive (says.Answer answer)) there.1)
  match_has answer within atoms entities of x (inr later) = atoms_have atoms entities of.each x later

-- ---- the axiom of a match

module _ (total : IsTotalOrder (slice_cmp value_cmp)) (equal : (a b : List Value) → slice_cmp value_cmp a b ≡ Equal → a ≡ b) where
  pub matches_have_axioms : MatchesHaveAxioms
  matches_have_axioms s wanted posed query facts c completion instance is_current tuple answer asked m is =
      let within : IsMatchIn s.relations c query tuple m =
      record { instance = instance; is_current = is_current; is_match = is } in
      let d = is.disjunct in
      let wants : IsOfWanted wanted.currents query m = λ e at.
      asked.are_wanted e (contains_at query.disjuncts m.disjunct e at) in
      let of = atoms_there s wanted c query m facts.relations wants tuple within d is.is_disjunct in
      let made = lits_of (statements_of (numbers_of s.relations wanted)) (match_said s.relations c answer d.atoms m.entities)
      (match_has s wanted c facts.relations completion answer asked.within d.atoms m.entities of) in
      let are : AreMatchLits s wanted query c m answer made.0 =
      are_match_lits total equal s c facts.relations completion query m wanted answer made.0 d is.is_disjunct made.1 tuple
      within in
      record {
        lits = made.0;
        is_axiom = are.judged posed tuple within asked.posed_at;
        has_answer = are.has_answer;
        others = are.each;
      }

-- ---- an answer has a match

-- for each atom the place of a tuple that it fits
record HasEntities (instance : List (List (List Value))) (values : List Value) (atoms : List Atom) : Type 0 where
  entities : List EntId
  per_atom : length entities ≡ length atoms
  each : (k : ℕ) (atom : Atom) (ent : EntId) → slice_get atoms k ≡ Some atom → slice_get entities k ≡ Some ent
      → AtomMatches instance values atom ent.0

atom_matches : (instance : List (List (List Value))) (values : List Value) (atom : Atom) → AtomHolds instance values atom
    → (ent : EntId) × AtomMatches instance values atom ent.0
atom_matches instance values atom holds =
    let there = place_of (slice_index_or instance atom.relation.0 []) holds.tuple
    (in_contained (slice_index_or instance atom.relation.0 []) holds.tuple holds.is_there) in
    (record { 0 = there.0 }, record { tuple = holds.tuple; is_tuple = there.1; fits = holds.fits })

has_entities : (instance : List (List (List Value))) (values : List Value) (atoms : List Atom)
    → All (AtomHolds instance values) atoms → HasEntities instance values atoms
has_entities instance values [] all =
    record { entities = []; per_atom = refl; each = λ k atom ent at_atom at_ent. absurd (none-some atom at_atom) }
has_entities instance values (atom ∷ atoms) all =
    by (atom_matches instance values atom (All-head (AtomHolds instance values) atom atoms all))
    (has_entities instance values atoms (All-tail (AtomHolds instance values) atom atoms all))
  where
    places : (ent : EntId) → AtomMatches instance values atom ent.0 → (rest : HasEntities instance values atoms)
        → (k : ℕ) (a : Atom) (e : EntId) → slice_get (atom ∷ atoms) k ≡ Some a → slice_get (ent ∷ rest.entities) k ≡ Some e
        → AtomMatches instance values a e.0
    places ent here rest zero a e at_a at_e =
        subst (λ (x : EntId). AtomMatches instance values a x.0) (same_Some ent e at_e)
        (subst (λ (x : Atom). AtomMatches instance values x ent.0) (same_Some atom a at_a) here)
    places ent here rest (suc k) a e at_a at_e = rest.each k a e at_a at_e

    by : (ent : EntId) × AtomMatches instance values atom ent.0 → HasEntities instance values atoms
        → HasEntities instance values (atom ∷ atoms)
    by (ent, here) rest = record {
      entities = ent ∷ rest.entities;
      per_atom = let many = rest.per_atom in omega (arith, many);
      each = places ent here rest;
    }

pub match_of : (query : Query) (instance : List (List (List Value))) (tuple : List Value) → IsAnswer query instance tuple
    → (m : Match) × IsMatch query instance tuple m
match_of query instance tuple is =
    let at = place_of query.disjuncts is.disjunct (in_contained query.disjuncts is.disjunct is.is_disjunct) in
    let of = has_entities instance is.values is.disjunct.atoms is.meets.atoms in
    let m : Match = record { disjunct = at.0; entities = of.entities; values = is.values } in (
      m,
      record {
        disjunct = is.disjunct;
        is_disjunct = at.1;
        meets = is.meets;
        is_head = is.is_head;
        per_atom = of.per_atom;
        atoms = of.each;
      },
    )

pub answers_have_matches : MatchesHaveAxioms → AnswersHaveMatches
answers_have_matches have s wanted posed query facts c completion instance is_current tuple answer asked is =
    let found = match_of query instance tuple is in
    (found.0, found.1, have s wanted posed query facts c completion instance is_current tuple answer asked found.0 found.1)
