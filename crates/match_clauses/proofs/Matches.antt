-- A match over the current instance of a completion: its atoms are of entities that are there, and the literals of what
-- it says are the clause of its label.
use Rattle.std.proofs.Common.{◌≡◌, ◌∙◌, ◌==◌, ◌&&◌, ◌⊎◌, ◌<◌, ◌≤◌, ℕ, true, if◌then◌else◌, List, [], ◌∷◌, Contains, Option, Some, None, length, option_and_then, slice_get, slice_index_or, inl, inr, refl, sym, ap, subst, arith, ⊎_elim}
use Rattle.std.specs.Cmp.{IsTotalOrder}
use Rattle.std.specs.Cmp.Lexicographic.{slice_cmp}
use Rattle.std.specs.declared.cmp.Ordering.TheVariants.{Equal}
use Rattle.std.proofs.lemmas.Bool.{and_from, eq-eqb}
use Rattle.std.proofs.lemmas.List.{get_or_past}
use Rattle.std.proofs.lemmas.List.Elements.{All-contains, All-nil}
use Rattle.std.proofs.lemmas.Option.{none-some, same_Some, slice_get_cases, slice_get_within}
use Rattle.currency_base.specs.Literals.{var_of}
use Rattle.currency_base.specs.Values.{value_cmp}
use Rattle.currency_base.specs.declared.ids.EntId.{EntId}
use Rattle.currency_base.specs.declared.lit.Lit.{Lit}
use Rattle.currency_base.specs.declared.value.Value.{Value}
use Rattle.log_axioms.specs.Axioms as judged
use Rattle.log_axioms.specs.Axioms.{axiom_of, claimed_clause, is_axiom, match_clause, of_disjunct, of_query}
use Rattle.log_axioms.specs.Matches.{answer_place, first_place, match_claims}
use Rattle.log_axioms.specs.Posed.{Posed}
use Rattle.match_premises.specs.Premises.{comparisons_are}
use Rattle.query_model.specs.Answers.{AtomMatches}
use Rattle.query_model.specs.declared.query.Atom.{Atom}
use Rattle.query_model.specs.declared.query.Disjunct.{Disjunct}
use Rattle.query_model.specs.declared.query.Match.{Match}
use Rattle.query_model.specs.declared.query.Query.{Query}
use Rattle.refutation_log.specs.declared.statement.Statement.{Statement}
use Rattle.refutation_log.specs.declared.statement.Statement.TheVariants as says
use Rattle.refutation_log.specs.declared.step.Label.TheVariants as label
use Rattle.spec_model.specs.Completion.{IsCompletion, Rankings}
use Rattle.spec_model.specs.Facts.{AreRelations, IsRelation}
use Rattle.spec_model.specs.Spec.{Spec}
use Rattle.spec_model.specs.declared.relation.Relation.{Relation}
use Rattle.axiom_agreement.proofs.Agreeing.{Agrees, agrees_if, lits_are_clause}
use Rattle.axiom_agreement.proofs.Tests.{itself}
use Rattle.order_literals.proofs.Items.{IsIn, in_contained}
use Rattle.order_literals.proofs.Sayings.{negation_says, says_within}
use Rattle.order_clauses.specs.Added.{IsAddedTo}
use Rattle.order_clauses.specs.Clauses.{AreLits, IsSaidByOne, SaysOneOf}
use Rattle.order_clauses.proofs.Reading.{all_at}
use Rattle.order_clauses.proofs.Saying.{all_of, first_of}
use Rattle.order_literals.specs.Numbers.{is_wanted, numbers_of}
use Rattle.order_literals.specs.Said.{Says, not_last, positive}
use Rattle.order_literals.specs.Statements.{statements_of}
use Rattle.order_literals.specs.declared.wanted.Wanted.{Wanted}
use Rattle.match_clauses.specs.Claimed.{atoms_said, match_said}
use Rattle.match_clauses.specs.Clauses.{AreAtomsOf, AreMatchLits, IsCurrentDenied, Puts, SaysAnswer}
use Rattle.match_clauses.specs.Matched.{IsMatchIn, IsOfWanted, IsPosedAt}
use Rattle.match_clauses.proofs.Atoms.{AreClaimed, IsOfCurrent, atoms_claimed, denials}
use Rattle.match_clauses.proofs.Places.{IsDenied}
use Rattle.match_clauses.proofs.Putting.{puts_both, puts_one}
use Rattle.match_clauses.proofs.Values.{first_at, head_read, tests_pass}

-- ---- atoms of a match

-- a relation that has a tuple in the instance is there
relation_there : (relations : List Relation) (instance : List (List (List Value))) (rel ent : ℕ) (tuple : List Value)
    → length instance ≡ length relations → slice_get (slice_index_or instance rel []) ent ≡ Some tuple
    → (r : Relation) × (slice_get relations rel ≡ Some r)
relation_there relations instance rel ent tuple many at = elim ((slice_get_cases relations rel).1) [
  | inl one ↦ (one.0, one.2)
  | inr past ↦
      let beyond : length instance ≤ rel = let p = past.0 in omega (arith, many, p) in
      let none : slice_index_or instance rel [] ≡ [] = get_or_past instance rel [] beyond in
      let no : slice_get [] ent ≡ Some tuple = ap (λ (xs : List (List Value)). slice_get xs ent) (sym none) ∙ at in
      absurd (none-some tuple no)
]

module _ (relations : List Relation) (c : Rankings) (query : Query) (tuple : List Value) (m : Match)
    (is : IsMatchIn relations c query tuple m) where
  atom_of_current : (atom : Atom) (ent : EntId) → AtomMatches is.instance m.values atom ent.0 → IsOfCurrent relations
      c m.values atom ent
  atom_of_current atom ent matches =
      let there = relation_there relations is.instance atom.relation.0 ent.0 matches.tuple is.is_current.per_relation
      matches.is_tuple in
      record {
        relation = there.0;
        is_relation = there.1;
        tuple = matches.tuple;
        is_current = (is.is_current.each atom.relation.0 there.0 there.1).each ent.0 matches.tuple matches.is_tuple;
        fits = matches.fits;
      }

  of_current : (k : ℕ) (atom : Atom) (ent : EntId) → slice_get is.is_match.disjunct.atoms k ≡ Some atom
      → slice_get m.entities k ≡ Some ent
      → IsOfCurrent relations c m.values atom ent
  of_current k atom ent at_atom at_ent = atom_of_current atom ent (is.is_match.atoms k atom ent at_atom at_ent)

  pub disjunct_within : m.disjunct < length query.disjuncts
  disjunct_within = slice_get_within query.disjuncts m.disjunct is.is_match.disjunct is.is_match.is_disjunct

  pub disjunct_is : (d : Disjunct) → slice_get query.disjuncts m.disjunct ≡ Some d → is.is_match.disjunct ≡ d
  disjunct_is d at = same_Some is.is_match.disjunct d (sym is.is_match.is_disjunct ∙ at)

-- what the maker needs of the atoms
pub atoms_there : (s : Spec) (wanted : Wanted) (c : Rankings) (query : Query) (m : Match) → AreRelations s.relations
    → IsOfWanted wanted.currents query m
    → (tuple : List Value) → IsMatchIn s.relations c query tuple m → (d : Disjunct) → slice_get query.disjuncts
    m.disjunct ≡ Some d
    → AreAtomsOf s wanted d.atoms m.entities
atoms_there s wanted c query m are wants tuple is d at =
    subst (λ (x : Disjunct). AreAtomsOf s wanted x.atoms m.entities) (disjunct_is s.relations c query tuple m is d at) (record {
      per_atom = is.is_match.per_atom;
      each = λ k atom ent at_atom at_ent.
          let of = of_current s.relations c query tuple m is k atom ent at_atom at_ent in
          let facts : IsRelation of.relation = all_at IsRelation s.relations atom.relation.0 of.relation are.each
          of.is_relation in
          record {
            terms = length of.relation.attrs;
            one_more =
                let a = of.fits.as_many in
                let b = ap (λ (xs : List Value). length xs) of.is_current.tuple_is in
                let e = of.is_current.per_attr in
                omega (arith, a, b, e);
            are_terms = record {
              relation = of.relation;
              is_relation = of.is_relation;
              ent_within = slice_get_within of.relation.entities ent.0 of.is_current.name of.is_current.is_name;
              as_many = refl;
              few = let f = facts.few_attrs in omega (arith, f);
              are_wanted =
                  all_at (λ (a : Atom). is_wanted wanted.currents a.relation.0 ≡ true) is.is_match.disjunct.atoms k atom
                  (wants is.is_match.disjunct is.is_match.is_disjunct) at_atom;
            };
          };
    })

-- ---- what is put

none_lits : (statements : List Statement) → AreLits statements [] []
none_lits statements = record {
  each = All-nil (SaysOneOf statements []);
  all = All-nil (IsSaidByOne statements []);
  once = λ i j x at_i at_j. absurd (none-some x at_i);
}

pub match_made : (statements : List Statement) (relations : List Relation) (c : Rankings) (answer : ℕ)
    (atoms : List Atom) (entities : List EntId) (lit : Lit)
    (mid new : List Lit) → SaysAnswer statements answer lit → IsAddedTo [] lit mid → Puts statements
    (atoms_said relations c atoms entities) mid new
    → AreLits statements (match_said relations c answer atoms entities) new
match_made statements relations c answer atoms entities lit mid new told added puts =
    puts_both statements (positive (says.Answer answer) ∷ []) (atoms_said relations c atoms entities) [] mid new
    (puts_one statements (positive (says.Answer answer)) lit [] mid told added) puts [] (none_lits statements)

-- ---- the clause of the label

answer_agrees : (relations : List Relation) (answer : ℕ) → Agrees relations (positive (says.Answer answer)) (judged.answer answer)
answer_agrees relations answer =
    let same = and_from (answer == answer) true (itself answer) refl in
    agrees_if relations (positive (says.Answer answer)) (judged.answer answer) same same

module _ (total : IsTotalOrder (slice_cmp value_cmp)) (equal : (a b : List Value) → slice_cmp value_cmp a b ≡ Equal
    → a ≡ b) (s : Spec)
    (c : Rankings) (are : AreRelations s.relations) (completion : IsCompletion s.relations c) (query : Query) (m : Match) where
  claims : (tuple : List Value) (is : IsMatchIn s.relations c query tuple m)
      → AreClaimed s.relations c (atoms_said s.relations c is.is_match.disjunct.atoms m.entities)
      (match_claims s.relations m.values is.is_match.disjunct.atoms m.entities) []
  claims tuple is =
      atoms_claimed s.relations c are completion m.values is.is_match.disjunct.atoms m.entities is.is_match.per_atom
      (of_current s.relations c query tuple m is)

  label_clause : (posed : Posed) (tuple : List Value) (answer : ℕ) (is : IsMatchIn s.relations c query tuple m)
      → IsPosedAt posed query tuple answer
      → axiom_of s posed (label.Match m.disjunct m.entities m.values) ≡ Some
      (judged.answer answer ∷ denials (claims tuple is).premises)
  label_clause posed tuple answer is at =
      let d = is.is_match.disjunct in
      let place : answer_place posed.answers m.values d.head ≡ Some answer =
      ap (option_and_then (first_place posed.answers)) (head_read m.values [] d.head tuple is.is_match.is_head)
      ∙ first_at total equal posed.answers tuple answer at.is_tuple at.first in
      let claim : match_claims s.relations m.values d.atoms m.entities ≡ Some (claims tuple is).premises = (claims tuple is).is in
      let passes : ((length m.values == d.vars) && (length m.entities == length d.atoms) && comparisons_are m.values
      d.tests) ≡ true =
      and_from ((length m.values == d.vars) && (length m.entities == length d.atoms)) (comparisons_are m.values d.tests)
      (and_from (length m.values == d.vars) (length m.entities == length d.atoms)
      (eq-eqb (length m.values) d.vars is.is_match.meets.per_var)
      (eq-eqb (length m.entities) (length d.atoms) is.is_match.per_atom))
      (tests_pass m.values d.tests is.is_match.meets.tests) in
      ap (of_query s.relations posed.answers m.disjunct m.entities m.values) at.is_query
      ∙ ap (of_disjunct s.relations posed.answers m.entities m.values) is.is_match.is_disjunct
      ∙ ap (λ b. if b then claimed_clause (answer_place posed.answers m.values d.head)
      (match_claims s.relations m.values d.atoms m.entities) else None) passes
      ∙ ap (λ (o : Option ℕ). claimed_clause o (match_claims s.relations m.values d.atoms m.entities)) place
      ∙ ap (claimed_clause (Some answer)) claim

  is_clause : (posed : Posed) (tuple : List Value) (answer : ℕ) (statements : List Statement) (lits : List Lit)
      → (is : IsMatchIn s.relations c query tuple m) → IsPosedAt posed query tuple answer
      → AreLits statements (match_said s.relations c answer is.is_match.disjunct.atoms m.entities) lits
      → is_axiom s posed statements (label.Match m.disjunct m.entities m.values) lits ≡ true
  is_clause posed tuple answer statements lits is at made =
      let clause = label_clause posed tuple answer is at in
      rw clause
      (lits_are_clause s.relations statements lits (match_said s.relations c answer is.is_match.disjunct.atoms m.entities)
      (judged.answer answer ∷ denials (claims tuple is).premises) (
        answer_agrees s.relations answer,
        (claims tuple is).agree,
      ) made)

  -- ---- what is made

  module _ (wanted : Wanted) (answer : ℕ) (lits : List Lit) (d : Disjunct) (at_d : slice_get query.disjuncts m.disjunct ≡ Some d)
      (made : AreLits (statements_of (numbers_of s.relations wanted))
      (match_said s.relations c answer d.atoms m.entities) lits) where
    statements : List Statement
    statements = statements_of (numbers_of s.relations wanted)

    made_of : (tuple : List Value) (is : IsMatchIn s.relations c query tuple m)
        → AreLits (statements_of (numbers_of s.relations wanted))
        (match_said s.relations c answer is.is_match.disjunct.atoms m.entities) lits
    made_of tuple is =
        subst (λ (x : Disjunct). AreLits (statements_of (numbers_of s.relations wanted))
        (match_said s.relations c answer x.atoms m.entities) lits)
        (sym (disjunct_is s.relations c query tuple m is d at_d)) made

    says_one : (tuple : List Value) → IsMatchIn s.relations c query tuple m → (lit : Lit) → Contains lits lit
        → SaysAnswer (statements_of (numbers_of s.relations wanted)) answer lit
        ⊎ IsCurrentDenied s.relations c (statements_of (numbers_of s.relations wanted)) lit
    says_one tuple is lit is_in =
        let all = statements_of (numbers_of s.relations wanted) in
        let clause = match_said s.relations c answer is.is_match.disjunct.atoms m.entities in
        let one = All-contains (SaysOneOf all clause) lits lit (made_of tuple is).each is_in in
        ⊎_elim
        (λ (e : positive (says.Answer answer) ≡ one.said). inl (subst (Says all lit) (sym e) one.says))
        (λ (there : IsIn (atoms_said s.relations c is.is_match.disjunct.atoms m.entities) one.said).
        let of : IsDenied s.relations c one.said = (claims tuple is).denied one.said there in
        let r : IsCurrentDenied s.relations c all lit = record {
          rel = of.rel;
          attr = of.attr;
          row = of.row;
          says = negation_says all lit (not_last of.rel of.attr of.row) (subst (Says all lit) of.is one.says);
          is_current = of.is_current;
        } in inr r)
        (in_contained clause one.said one.is_in)

    pub are_match_lits : (tuple : List Value) → IsMatchIn s.relations c query tuple m → AreMatchLits s wanted query c
        m answer lits
    are_match_lits tuple is =
        let all = statements_of (numbers_of s.relations wanted) in
        let clause = match_said s.relations c answer d.atoms m.entities in
        let head = All-contains (IsSaidByOne all lits) clause (positive (says.Answer answer)) made.all
        (first_of (positive (says.Answer answer)) (atoms_said s.relations c d.atoms m.entities)) in
        record {
          judged = λ posed other is_other at. is_clause posed other answer all lits is_other at (made_of other is_other);
          within = all_of (λ (lit : Lit). var_of lit < length all) lits (λ lit is_in.
              let one = All-contains (SaysOneOf all clause) lits lit made.each is_in in
              says_within all lit one.said one.says);
          once = made.once;
          each = says_one tuple is;
          has_answer = (head.lit, head.is_in, head.says);
        }
