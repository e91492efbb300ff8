-- The statements of each axiom are about one entity, or about two that are tied.
use Rattle.std.proofs.Common.{◌≡◌, ◌==◌, ◌∙◌, ℕ, List, [], ◌∷◌, All, Bool, true, false, Option, Some, None, option_map, if◌then◌else◌, map, not, slice_get, slice_index_or, refl, sym, ap, subst}
use Rattle.std.specs.List.{filter}
use Rattle.std.proofs.lemmas.List.Elements.{All-append, All-cons, All-contains, All-filter, All-head, All-map, All-nil}
use Rattle.std.proofs.lemmas.Option.{same_Some, none-some, slice_get-get_or}
use Rattle.currency_base.specs.declared.ids.AttrId.{AttrId}
use Rattle.currency_base.specs.declared.ids.RelId.{RelId}
use Rattle.currency_base.specs.declared.ids.RowId.{RowId}
use Rattle.currency_base.specs.declared.pair.Pair.{Pair}
use Rattle.currency_base.specs.declared.row.Row.{Row}
use Rattle.copy_functions.specs.Copies.{CopyFunction}
use Rattle.denial_rules.specs.Instances.{atom_pair, concluded, instance_of, pair_and, pair_at, premises_of, values_hold}
use Rattle.denial_rules.specs.declared.instance.RuleInstance.{RuleInstance}
use Rattle.denial_rules.specs.declared.rule.Conclusion.{Conclusion}
use Rattle.denial_rules.specs.declared.rule.Conclusion.TheVariants as conclusion
use Rattle.denial_rules.specs.declared.rule.Predicate.{Predicate}
use Rattle.denial_rules.specs.declared.rule.Predicate.TheVariants.{Order, Compare}
use Rattle.denial_rules.specs.declared.rule.Rule.{Rule}
use Rattle.entity_lists.specs.Lists.{entities_of, rows_of}
use Rattle.entity_lists.proofs.Facts.{member_of}
use Rattle.partial_orders.specs.Pairs.{entity_of}
use Rattle.spec_model.specs.Facts.{IsGivenPair, IsSpecification}
use Rattle.spec_model.specs.Spec.{Spec}
use Rattle.spec_model.specs.declared.relation.Relation.{Relation}
use Rattle.value_names.specs.Names.{are_alike, name_of}
use Rattle.value_names.proofs.NameFacts.{named}
use Rattle.refutation_log.specs.declared.step.Label.{Label}
use Rattle.refutation_log.specs.declared.step.Label.TheVariants as label
use Rattle.order_literals.specs.Axioms.{IsAxiom, IsCopyAxiom, IsRuleAxiom, alike, conclusion_clause, others}
use Rattle.order_literals.specs.Said.{Said, before, last, not_before, not_last, not_top, top}
use Rattle.order_clauses.proofs.Members.{entity_is, row_within}
use Rattle.order_clauses.proofs.Reading.{all_at}
use Rattle.entity_ties.specs.Labels.{AreTies, Labelling, cell, label_of}
use Rattle.entity_ties.specs.Tied.{Cell, IsCopiedFrom, same, to_source}
use Rattle.variable_parts.specs.Parts.{cell_of, part_of}
use Rattle.variable_parts.specs.Laws.{LiesInPart}
use Rattle.variable_parts.proofs.Cells.{cell_at, entity_at_row, has_part, of_statement, part_at, relation_is, there}

-- what is said is about this entity
abbrev pub IsAbout : Spec → Cell → Said → Type 0
IsAbout s c said = cell_of s.relations said.statement ≡ Some c

-- ---- a clause about one entity

module _ (s : Spec) (t : Labelling) (is : IsSpecification s) (ties : AreTies s t) where
  -- it lies in the part of the entity
  pub about_one : (clause : List Said) (c : Cell) → All (IsAbout s c) clause → LiesInPart s t clause
  about_one [] c all = record { part = 0; each = All-nil (λ said. part_of t s.relations said.statement ≡ Some 0) }
  about_one (said ∷ more) c all =
      let has = has_part s t said.statement c is ties (All-head (IsAbout s c) said more all) in
      let first = part_at s t said.statement c (All-head (IsAbout s c) said more all) in
      record {
        part = has.0;
        each = λ k d within. part_at s t (slice_index_or (said ∷ more) k d).statement c (all k d within) ∙ sym first ∙ has.1;
      }

-- ---- rows of an entity

module _ (s : Spec) (rel : RelId) (r : Relation) (at : slice_get s.relations rel.0 ≡ Some r) (ent : ℕ) where
  -- the row is of the entity
  abbrev pub IsOf : RowId → Type 0
  IsOf row = entity_of r.rows row.0 ≡ Some ent

  pub about : (row : RowId) → IsOf row → cell_of s.relations (before rel (record { 0 = 0 }) row row).statement ≡ Some
      (cell rel.0 ent)
  about row of = cell_at s.relations rel.0 row.0 r ent at of

  -- the rows of the entity are
  pub rows_are : All IsOf (rows_of (entities_of r.rows) ent)
  rows_are k d within =
      let row = slice_index_or (rows_of (entities_of r.rows) ent) k d in
      entity_is r.rows row.0 ∙ member_of (entities_of r.rows) ent k row (slice_get-get_or
      (rows_of (entities_of r.rows) ent) k d within)

  -- what is said of some of them is about it
  pub all_about : (say : RowId → Said) (p : RowId → Bool) → ((row : RowId) → IsOf row → IsAbout s (cell rel.0 ent) (say row))
      → All (IsAbout s (cell rel.0 ent)) (map say (filter p (rows_of (entities_of r.rows) ent)))
  all_about say p each =
      All-map (IsAbout s (cell rel.0 ent)) say (filter p (rows_of (entities_of r.rows) ent))
      (All-filter p (λ row. IsAbout s (cell rel.0 ent) (say row)) (rows_of (entities_of r.rows) ent)
      (λ k d within. each (slice_index_or (rows_of (entities_of r.rows) ent) k d) (rows_are k d within)))

-- ---- rules

-- both rows of a pair are among these
record IsPairAmong (rows : List RowId) (p : Pair) : Type 0 where
  place : ℕ
  earlier_at : slice_get rows place ≡ Some p.earlier

pair_among : (attr : AttrId) (rows : List RowId) (v : ℕ) (y : Option RowId) (p : Pair)
    → pair_at attr (slice_get rows v) y ≡ Some p
    → IsPairAmong rows p
pair_among attr rows v y p e = by (slice_get rows v) y refl e
  where
    by : (x y : Option RowId) → slice_get rows v ≡ x → pair_at attr x y ≡ Some p → IsPairAmong rows p
    by None y at e = absurd (none-some p e)
    by (Some a) None at e = absurd (none-some p e)
    by (Some a) (Some b) at e = go (a.0 == b.0) e
      where
        pair : Pair
        pair = record { attr = attr; earlier = a; later = b }

        go : (test : Bool) → (if test then None else Some pair) ≡ Some p → IsPairAmong rows p
        go true e = absurd (none-some p e)
        go false e = record { place = v; earlier_at = at ∙ ap (λ (q : Pair). Some q.earlier) (same_Some pair p e) }

premises_among : (rows : List RowId) (ps : List Predicate) (qs : List Pair) → premises_of rows ps ≡ Some qs
    → All (IsPairAmong rows) qs
premises_among rows [] qs e = subst (All (IsPairAmong rows)) (same_Some [] qs e) (All-nil (IsPairAmong rows))
premises_among rows (Order atom ∷ more) qs e =
    by (atom_pair rows atom) (premises_of rows more) refl (λ rest is. premises_among rows more rest is) e
  where
    by : (p : Option Pair) (o : Option (List Pair)) → atom_pair rows atom ≡ p
        → ((rest : List Pair) → o ≡ Some rest → All (IsPairAmong rows) rest) → pair_and p o ≡ Some qs → All (IsPairAmong rows) qs
    by None o at each e = absurd (none-some qs e)
    by (Some p) None at each e = absurd (none-some qs e)
    by (Some p) (Some rest) at each e =
        subst (All (IsPairAmong rows)) (same_Some (p ∷ rest) qs e)
        (All-cons (IsPairAmong rows) p rest (pair_among atom.attr rows atom.earlier (slice_get rows atom.later) p at)
        (each rest refl))
premises_among rows (Compare left cmp right ∷ more) qs e = premises_among rows more qs e

concluded_among : (rows : List RowId) (q : Conclusion) (p : Pair) → concluded rows q ≡ Some p → IsPairAmong rows p
concluded_among rows conclusion.Never p e = absurd (none-some p e)
concluded_among rows (conclusion.Order atom) p e = pair_among atom.attr rows atom.earlier (slice_get rows atom.later) p e

record IsInstanceAmong (rule : Rule) (rows : List RowId) (i : RuleInstance) : Type 0 where
  premises : premises_of rows rule.predicates ≡ Some i.premises
  conclusion : i.conclusion ≡ concluded rows rule.conclusion

instance_among : (rule : Rule) (table : List Row) (rows : List RowId) (i : RuleInstance) → instance_of rule table rows ≡ Some i
    → IsInstanceAmong rule rows i
instance_among rule table rows i e = by (values_hold rule table rows) (premises_of rows rule.predicates) refl e
  where
    made : List Pair → RuleInstance
    made premises = record { premises = premises; conclusion = concluded rows rule.conclusion }

    by : (b : Bool) (o : Option (List Pair)) → premises_of rows rule.predicates ≡ o
        → (if b then option_map made o else None) ≡ Some i → IsInstanceAmong rule rows i
    by false o at e = absurd (none-some i e)
    by true None at e = absurd (none-some i e)
    by true (Some premises) at e =
        let is : made premises ≡ i = same_Some (made premises) i e in
        record {
          premises = at ∙ ap (λ (j : RuleInstance). Some j.premises) is;
          conclusion = sym (ap (λ (j : RuleInstance). j.conclusion) is);
        }

-- the clause of a rule is about the entity of the rows
rule_about : (s : Spec) (rule : Rule) (rows : List RowId) (clause : List Said) (r : Relation)
    → slice_get s.relations rule.relation.0 ≡ Some r → (law : IsRuleAxiom rule rows clause r)
    → All (IsAbout s (cell (rule.relation).0 (law.0).ent)) clause
rule_about s rule rows clause r at (choice, i, instance, clause_is) =
    subst (All (IsAbout s c)) (sym clause_is)
    (All-append (IsAbout s c) (map denied i.premises) (conclusion_clause rule.relation i.conclusion) premises
    (concluded i.conclusion refl))
  where
    c : Cell
    c = cell (rule.relation).0 choice.ent

    denied : Pair → Said
    denied p = not_before rule.relation p.attr p.earlier p.later

    parts : IsInstanceAmong rule rows i
    parts = instance_among rule r.rows rows i instance

    earlier_of : (p : Pair) → IsPairAmong rows p → IsAbout s c (denied p)
    earlier_of p among = about s rule.relation r at choice.ent p.earlier
        (all_at (λ (row : RowId). entity_of r.rows row.0 ≡ Some choice.ent) rows among.place p.earlier choice.of_entity
        among.earlier_at)

    premises : All (IsAbout s c) (map denied i.premises)
    premises = All-map (IsAbout s c) denied i.premises
        (λ k d within. earlier_of (slice_index_or i.premises k d) (premises_among rows rule.predicates i.premises
        parts.premises k d within))

    concluded : (o : Option Pair) → i.conclusion ≡ o → All (IsAbout s c) (conclusion_clause rule.relation o)
    concluded None e = All-nil (IsAbout s c)
    concluded (Some p) e =
        All-cons (IsAbout s c) (before rule.relation p.attr p.earlier p.later) []
        (earlier_of p (concluded_among rows rule.conclusion p (sym parts.conclusion ∙ e))) (All-nil (IsAbout s c))

-- ---- copy functions

-- the clause of a copy function lies in the part of both entities
copy_in : (s : Spec) (t : Labelling) (k place : ℕ) (copy : CopyFunction) (first second : RowId) (clause : List Said)
    → IsSpecification s → AreTies s t → slice_get s.copies k ≡ Some copy → IsCopyAxiom s copy place first second clause
    → LiesInPart s t clause
copy_in s t k place copy first second clause is ties at law =
    subst (LiesInPart s t) (sym law.clause_is)
    (let lies : LiesInPart s t (denied ∷ said ∷ []) = record {
      part = has.0;
      each = All-cons (λ x. part_of t s.relations x.statement ≡ Some has.0) denied (said ∷ [])
          (part_at s t denied.statement source source_at ∙ sym same_part ∙ sym (part_at s t said.statement target target_at)
          ∙ has.1)
          (All-cons (λ x. part_of t s.relations x.statement ≡ Some has.0) said [] has.1
          (All-nil (λ x. part_of t s.relations x.statement ≡ Some has.0)));
    } in lies)
  where
    denied : Said
    denied = not_before copy.source (law.at).source law.first_source law.second_source

    said : Said
    said = before copy.target (law.at).target first second

    target : Cell
    target = cell (copy.target).0 (law.targets).ent

    source : Cell
    source = cell (copy.source).0 (law.sources).ent

    target_at : cell_of s.relations said.statement ≡ Some target
    target_at = about s copy.target law.target law.is_target (law.targets).ent first (law.targets).a_of

    source_at : cell_of s.relations denied.statement ≡ Some source
    source_at = about s copy.source law.source law.is_source (law.sources).ent law.first_source (law.sources).a_of

    copied : IsCopiedFrom s target source
    copied = record {
      k = k;
      copy = copy;
      is_copy = at;
      target_relation = law.target;
      source_relation = law.source;
      is_target = law.is_target;
      is_source = law.is_source;
      of_target = refl;
      of_source = refl;
      row = first;
      from = law.first_source;
      mapped = law.first_from;
      row_of = (law.targets).a_of;
      from_of = (law.sources).a_of;
    }

    same_part : label_of t target ≡ label_of t source
    same_part = (ties.tied target source (there s target is (of_statement s.relations said.statement target target_at))
        (there s source is (of_statement s.relations denied.statement source source_at))).1
        (to_source target target source (same target) copied)

    has : (part : ℕ) × (part_of t s.relations said.statement ≡ Some part)
    has = has_part s t said.statement target is ties target_at

-- ---- each label

pub axiom_in : (s : Spec) (t : Labelling) (l : Label) (clause : List Said) → IsSpecification s → AreTies s t → IsAxiom s l clause
    → LiesInPart s t clause
axiom_in s t (label.Given rel attr earlier later) clause is ties (r, at, (given, clause_is)) =
    let p : Pair = record { attr = attr; earlier = earlier; later = later } in
    let facts = All-contains (IsGivenPair r) r.given p (relation_is s rel.0 r is at).given given in
    let ent = entity_at_row r.rows earlier.0 facts.earlier in
    let c = cell rel.0 ent.0 in
    subst (LiesInPart s t) (sym clause_is)
    (about_one s t is ties (before rel attr earlier later ∷ []) c
    (All-cons (IsAbout s c) (before rel attr earlier later) [] (about s rel r at ent.0 earlier ent.1) (All-nil (IsAbout s c))))
axiom_in s t (label.Transitive rel attr first second third) clause is ties (r, at, (within, one, two, outer, clause_is)) =
    let c = cell rel.0 one.ent in
    let said = not_before rel attr first second ∷ not_before rel attr second third ∷ before rel attr first third ∷ [] in
    subst (LiesInPart s t) (sym clause_is)
    (about_one s t is ties said c
    (All-cons (IsAbout s c) (not_before rel attr first second)
    (not_before rel attr second third ∷ before rel attr first third ∷ [])
    (about s rel r at one.ent first one.a_of)
    (All-cons (IsAbout s c) (not_before rel attr second third) (before rel attr first third ∷ [])
    (about s rel r at one.ent second one.b_of)
    (All-cons (IsAbout s c) (before rel attr first third) [] (about s rel r at one.ent first one.a_of) (All-nil (IsAbout s c))))))
axiom_in s t (label.Rule k rows) clause is ties (rule, is_rule, (r, at, law)) =
    about_one s t is ties clause (cell (rule.relation).0 (law.0).ent) (rule_about s rule rows clause r at law)
axiom_in s t (label.Copy k place first second) clause is ties (copy, at, law) =
    copy_in s t k.0 place copy first second clause is ties at law
axiom_in s t (label.Above rel attr row other) clause is ties (r, at, (within, two, clause_is)) =
    let c = cell rel.0 two.ent in
    subst (LiesInPart s t) (sym clause_is)
    (about_one s t is ties (not_top rel attr row ∷ before rel attr other row ∷ []) c
    (All-cons (IsAbout s c) (not_top rel attr row) (before rel attr other row ∷ []) (about s rel r at two.ent row two.a_of)
    (All-cons (IsAbout s c) (before rel attr other row) [] (about s rel r at two.ent other two.b_of) (All-nil (IsAbout s c)))))
axiom_in s t (label.Top rel attr row) clause is ties (r, at, (within, ent, of, clause_is)) =
    let c = cell rel.0 ent in
    let denied : RowId → Said = λ other. not_before rel attr other row in
    subst (LiesInPart s t) (sym clause_is)
    (about_one s t is ties (top rel attr row ∷ map denied (others r.rows ent row)) c
    (All-cons (IsAbout s c) (top rel attr row) (map denied (others r.rows ent row)) (about s rel r at ent row of)
    (all_about s rel r at ent denied (λ other. not (other.0 == row.0)) (λ other is_of. about s rel r at ent other is_of))))
axiom_in s t (label.Last rel attr row) clause is ties (r, at, (within, here, clause_is)) =
    let name = (named r attr.0 (relation_is s rel.0 r is at) within row here).have_one in
    let c = cell rel.0 name.ent in
    let of_name = last rel attr (name_of r.rows attr.0 row) in
    subst (LiesInPart s t) (sym clause_is)
    (about_one s t is ties (not_top rel attr row ∷ of_name ∷ []) c
    (All-cons (IsAbout s c) (not_top rel attr row) (of_name ∷ []) (about s rel r at name.ent row name.entity)
    (All-cons (IsAbout s c) of_name [] (about s rel r at name.ent (name_of r.rows attr.0 row) name.other_entity)
    (All-nil (IsAbout s c)))))
axiom_in s t (label.Value rel attr row) clause is ties (r, at, (within, ent, of, clause_is)) =
    let name = (named r attr.0 (relation_is s rel.0 r is at) within row (row_within r.rows row.0 ent of)).have_one in
    let one : name.ent ≡ ent = same_Some name.ent ent (sym name.entity ∙ of) in
    let c = cell rel.0 ent in
    let of_name = not_last rel attr (name_of r.rows attr.0 row) in
    let of_ent : entity_of r.rows (name_of r.rows attr.0 row).0 ≡ Some ent = name.other_entity ∙ ap Some one in
    subst (LiesInPart s t) (sym clause_is)
    (about_one s t is ties (of_name ∷ map (top rel attr) (alike r.rows attr.0 ent row)) c
    (All-cons (IsAbout s c) of_name (map (top rel attr) (alike r.rows attr.0 ent row))
    (about s rel r at ent (name_of r.rows attr.0 row) of_ent)
    (all_about s rel r at ent (top rel attr) (are_alike r.rows attr.0 row) (λ other is_of. about s rel r at ent other is_of))))
axiom_in s t (label.Match disjunct entities values) clause is ties none = absurd none
