-- The label of an axiom can be written.
use Rattle.std.proofs.Common.{◌≡◌, ◌<◌, ◌≤◌, ℕ, List, length, get_or, Some, slice_get, arith}
use Rattle.std.proofs.lemmas.List.Elements.{All-contains}
use Rattle.std.proofs.lemmas.Option.{slice_get_within}
use Rattle.currency_base.specs.declared.ids.AttrId.{AttrId}
use Rattle.currency_base.specs.declared.ids.RelId.{RelId}
use Rattle.currency_base.specs.declared.ids.RowId.{RowId}
use Rattle.partial_orders.specs.Pairs.{entity_of}
use Rattle.spec_model.specs.Facts.{IsRuleOf, IsGivenPair}
use Rattle.spec_model.specs.Satisfies.{IsChoice}
use Rattle.spec_model.specs.Spec.{Spec}
use Rattle.spec_model.specs.declared.relation.Relation.{Relation}
use Rattle.refutation_log.specs.declared.step.Label.{Label}
use Rattle.refutation_log.specs.declared.step.Label.TheVariants as label
use Rattle.refutation_log.specs.Writable.{IsPlace, AreFew, IsWritableLabel}
use Rattle.order_literals.specs.Axioms.{IsAxiom}
use Rattle.order_literals.specs.Said.{Said}
use Rattle.order_clauses.proofs.GivenPairs.{entity_there}
use Rattle.order_clauses.proofs.Reading.{all_at}
use Rattle.search_logs.specs.SearchLogs.{IsWithin}
use Rattle.search_logs.proofs.Bounds.{facts_of, rel_place, attr_place, row_place}
use Rattle.search_logs.proofs.Instances.{few_places}

module _ (s : Spec) (within : IsWithin s) where
  rel_in : (rel : RelId) (r : Relation) → slice_get s.relations rel.0 ≡ Some r → IsPlace rel.0
  rel_in = rel_place s.relations within.specification.relations

  attr_in : (rel : RelId) (r : Relation) (attr : AttrId) → slice_get s.relations rel.0 ≡ Some r
      → attr.0 < length r.attrs → IsPlace attr.0
  attr_in = attr_place s.relations within.specification.relations

  row_in : (rel : RelId) (r : Relation) (row : RowId) (ent : ℕ) → slice_get s.relations rel.0 ≡ Some r
      → entity_of r.rows row.0 ≡ Some ent
      → IsPlace row.0
  row_in = row_place s.relations within.specification.relations

  -- of a row that is there
  row_there : (rel : RelId) (r : Relation) (row : RowId) → slice_get s.relations rel.0 ≡ Some r
      → row.0 < length r.rows → IsPlace row.0
  row_there rel r row at below = let of = entity_there r.rows row.0 below in row_in rel r row of.0 at of.1

  rows_few : (rel : RelId) (r : Relation) (vars : ℕ) (rows : List RowId) → slice_get s.relations rel.0 ≡ Some r
      → vars ≤ 4 → IsChoice r.rows vars rows
      → AreFew (λ (row : RowId). IsPlace row.0) rows
  rows_few rel r vars rows at few choice =
      let many = choice.one_each in
      record {
        few = omega (arith, few, many);
        each = λ k d below. row_in rel r (get_or rows k d) choice.ent at (choice.of_entity k d below);
      }

  pub writable_label : (l : Label) (clause : List Said) → IsAxiom s l clause → IsWritableLabel l
  writable_label (label.Given rel attr earlier later) clause is =
      let r = is.0 in
      let at = is.1 in
      let given : IsGivenPair r (record { attr = attr; earlier = earlier; later = later }) =
      All-contains (IsGivenPair r) r.given (record { attr = attr; earlier = earlier; later = later })
      (facts_of s.relations within.specification.relations rel r at).given is.2.0 in (
        rel_in rel r at,
        attr_in rel r attr at given.attr,
        row_there rel r earlier at given.earlier,
        row_there rel r
            later at given.later,
      )
  writable_label (label.Transitive rel attr first second third) clause is =
      let r = is.0 in
      let at = is.1 in
      let one = is.2.1 in
      let two = is.2.2 in (
        rel_in rel r at,
        attr_in rel r attr at is.2.0,
        row_in rel r first one.ent at one.a_of,
        row_in rel r second one.ent at one.b_of,
        row_in rel r third two.ent at two.b_of,
      )
  writable_label (label.Rule k rows) clause is =
      let rule = is.0 in
      let number = slice_get_within s.rules k.0 rule is.1 in
      let few = within.specification.rules.few in
      let fits = (all_at (IsRuleOf s.relations) s.rules k.0 rule within.specification.rules.each is.1).fits in
      (omega (arith, number, few), rows_few rule.relation is.2.0 rule.vars rows is.2.1 fits.few_vars is.2.2.0)
  writable_label (label.Copy k place first second) clause is =
      let copy = is.0 in
      let its = is.2 in
      let number = slice_get_within s.copies k.0 copy is.1 in
      let few = within.specification.copies.few in
      let place_within = slice_get_within copy.places place its.at its.is_place in
      let places = few_places s k copy place first second clause within.instances_few is.1 its in (
        omega (arith, number, few),
        omega (arith, place_within, places),
        row_in copy.target its.target first its.targets.ent its.is_target its.targets.a_of,
        row_in copy.target its.target second its.targets.ent its.is_target its.targets.b_of,
      )
  writable_label (label.Above rel attr row other) clause is =
      let r = is.0 in
      let at = is.1 in
      let two = is.2.1 in (
        rel_in rel r at,
        attr_in rel r attr at is.2.0,
        row_in rel r row two.ent at two.a_of,
        row_in rel r other
            two.ent at two.b_of,
      )
  writable_label (label.Top rel attr row) clause is =
      let r = is.0 in
      let at = is.1 in
      (rel_in rel r at, attr_in rel r attr at is.2.0, row_in rel r row is.2.1 at is.2.2)
  writable_label (label.Last rel attr row) clause is =
      let r = is.0 in
      let at = is.1 in
      (rel_in rel r at, attr_in rel r attr at is.2.0, row_there rel r row at is.2.1)
  writable_label (label.Value rel attr row) clause is =
      let r = is.0 in
      let at = is.1 in
      (rel_in rel r at, attr_in rel r attr at is.2.0, row_in rel r row is.2.1 at is.2.2)
  writable_label (label.Match disjunct entities values) clause is = absurd is
