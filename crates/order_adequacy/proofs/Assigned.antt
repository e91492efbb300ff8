-- An assignment that makes the asked axioms true and ranks the rows is the truth of the statements.
use Rattle.std.proofs.Common.{◌≡◌, ◌≢◌, ◌∙◌, ℕ, Bool, true, false, not, List, [], ◌∷◌, Contains, Some, map, refl, sym, ap, subst, ⊎_elim}
use Rattle.currency_base.specs.declared.ids.AttrId.{AttrId}
use Rattle.currency_base.specs.declared.ids.RelId.{RelId}
use Rattle.currency_base.specs.declared.ids.RowId.{RowId}
use Rattle.entity_lists.specs.Lists.{entities_of, rows_of}
use Rattle.order_adequacy.specs.Laws.{ModelsAreCompletions, variables, said_answers}
use Rattle.order_clauses.specs.Clauses.{IsName}
use Rattle.order_literals.specs.Axioms.{AreTwo, others, alike}
use Rattle.order_literals.specs.Said.{before, not_before, top, not_top, last, not_last}
use Rattle.order_literals.specs.Truth.{StandsLast, IsCurrent, Holds}
use Rattle.order_literals.specs.declared.wanted.Wanted.{Wanted}
use Rattle.partial_orders.specs.Pairs.{entity_of}
use Rattle.refutation_log.specs.declared.statement.Statement.{Statement}
use Rattle.refutation_log.specs.declared.statement.Statement.TheVariants as says
use Rattle.refutation_log.specs.declared.step.Label.TheVariants as label
use Rattle.spec_model.specs.Completion.{Rankings, lists_of, Before}
use Rattle.spec_model.specs.Spec.{Spec}
use Rattle.spec_model.specs.declared.relation.Relation.{Relation}
use Rattle.value_names.proofs.NameFacts.{HaveOne, alike_have_one, have_one_alike, same_name}
use Rattle.value_names.specs.Names.{are_alike, name_of}
use Rattle.order_adequacy.proofs.Chosen.{stands_if, stands_in, current_in}
use Rattle.order_adequacy.proofs.LastAxioms.{last_current, alike_last}
use Rattle.order_adequacy.proofs.Lists.{at_place, in_passed}
use Rattle.order_adequacy.proofs.Models.{IsAssigned, Put, case_is, first_or_later, second_of_two, mapped_true, contrary, stands_so, not_put, consistent}
use Rattle.order_adequacy.proofs.OneClause.{OneIsTrue, asked_true}
use Rattle.order_adequacy.proofs.OrderAxioms.{RulesByInstances}
use Rattle.order_adequacy.proofs.Orders.{relation_facts, one_relation, one_entity, last_there, before_last, last_if}
use Rattle.order_adequacy.proofs.Rows.{row_there, in_others}
use Rattle.order_adequacy.proofs.Saids.{said, as_assigned}
use Rattle.order_adequacy.proofs.Statements.{IsWantedRow, IsWantedName, top_of_row, last_of_name}

-- ---- last rows

-- a row that is put last stands last
put_last : (s : Spec) (wanted : Wanted) (truths : List Bool) (c : Rankings) (rel : RelId) (attr : AttrId)
    (row : RowId) → IsAssigned s wanted truths c
    → IsWantedRow s.relations wanted rel.0 attr.0 row → Put s wanted truths (top rel attr row)
    → StandsLast s.relations c rel.0 attr.0 row
put_last s wanted truths c rel attr row m w put =
    stands_if s.relations c rel.0 attr.0 w.ent w.relation row w.is_relation
    (last_if s.relations c rel.0 attr.0 w.ent w.relation row (case_is s wanted truths c m) w.is_relation w.attr_in
    w.of_entity each)
  where
    each : (other : RowId) → entity_of w.relation.rows other.0 ≡ Some w.ent → other ≢ row
        → Before (lists_of c rel.0 attr.0) other row
    each other of differ =
        let two : AreTwo w.relation.rows row other = record {
          ent = w.ent;
          a_of = w.of_entity;
          b_of = of;
          differ =
              λ same. differ (sym same);
        } in
        let one = m.asked (label.Above rel attr row other) (not_top rel attr row ∷ before rel attr other row ∷ [])
        (w.relation, w.is_relation, (w.attr_in, two, refl)) w.wants in
        stands_so s wanted truths c rel attr other row m
        (second_of_two s wanted truths (not_top rel attr row) (before rel attr other row)
        (λ n. contrary s wanted truths c (says.Top rel attr row) m put n) one)

-- a row that is put not last stands not last
put_not_last : (s : Spec) (wanted : Wanted) (truths : List Bool) (c : Rankings) (rel : RelId) (attr : AttrId)
    (row : RowId) → IsAssigned s wanted truths c
    → IsWantedRow s.relations wanted rel.0 attr.0 row → Put s wanted truths (not_top rel attr row)
    → StandsLast s.relations c rel.0 attr.0 row → ⊥
put_not_last s wanted truths c rel attr row m w put t =
    let r = w.relation in
    let l = stands_in s.relations c rel.0 attr.0 w.ent r row w.is_relation w.of_entity t in
    let denials = map (λ (other : RowId). not_before rel attr other row) (others r.rows w.ent row) in
    let one = m.asked (label.Top rel attr row) (top rel attr row ∷ denials)
    (r, w.is_relation, (w.attr_in, w.ent, w.of_entity, refl)) w.wants in
    ⊎_elim
    (λ (h : Put s wanted truths (top rel attr row)). contrary s wanted truths c (says.Top rel attr row) m h put)
    (λ (later : OneIsTrue (variables s wanted) truths denials).
    let found = mapped_true s wanted truths (λ (other : RowId). not_before rel attr other row) (others r.rows w.ent row) later in
    let other = in_others r.rows w.ent row found.0 found.1 in
    not_put s wanted truths c rel attr found.0 row m
    (before_last s.relations c rel.0 attr.0 w.ent r row found.0 (case_is s wanted truths c m) w.is_relation w.attr_in
    l other.0 other.1) found.2)
    (first_or_later s wanted truths (top rel attr row) denials one)

-- ---- current values

-- another row of the same relation and entity
row_beside : (s : Spec) (wanted : Wanted) (rel attr : ℕ) (row other : RowId) → (w : IsWantedRow s.relations wanted rel attr row)
    → entity_of w.relation.rows other.0 ≡ Some w.ent → IsWantedRow s.relations wanted rel attr other
row_beside s wanted rel attr row other w of = record {
  relation = w.relation;
  is_relation = w.is_relation;
  wants = w.wants;
  attr_in = w.attr_in;
  ent = w.ent;
  of_entity = of;
}

names_itself : (s : Spec) (wanted : Wanted) (rel : RelId) (attr : AttrId) (row : RowId) → IsWantedName s.relations
    wanted rel.0 attr.0 row
    → IsName s rel attr row
names_itself s wanted rel attr row w r at =
    let same = one_relation s.relations rel.0 w.row_is.relation r w.row_is.is_relation at in
    subst (λ (q : Relation). name_of q.rows attr.0 row ≡ row) same w.named

-- a value that is put current is current
put_current : (s : Spec) (wanted : Wanted) (truths : List Bool) (c : Rankings) (rel : RelId) (attr : AttrId)
    (row : RowId) → IsAssigned s wanted truths c
    → IsWantedName s.relations wanted rel.0 attr.0 row → Put s wanted truths (last rel attr row)
    → IsCurrent s.relations c rel.0 attr.0 row
put_current s wanted truths c rel attr row m n put =
    let w = n.row_is in
    let r = w.relation in
    let name = name_of r.rows attr.0 row in
    let tops = map (top rel attr) (alike r.rows attr.0 w.ent row) in
    let one = m.asked (label.Value rel attr row) (not_last rel attr name ∷ tops)
    (r, w.is_relation, (w.attr_in, w.ent, w.of_entity, refl))
    (w.wants, names_itself s wanted rel attr row n) in
    ⊎_elim
    (λ (h : Put s wanted truths (not_last rel attr name)).
    absurd (contrary s wanted truths c (says.Last rel attr row) m put
    (subst (λ (x : RowId). Put s wanted truths (not_last rel attr x)) n.named h)))
    (λ (later : OneIsTrue (variables s wanted) truths tops).
    let found = mapped_true s wanted truths (top rel attr) (alike r.rows attr.0 w.ent row) later in
    by found.0 (alike_have_one r.rows attr.0 row found.0 (in_passed (are_alike r.rows attr.0 row)
    (rows_of (entities_of r.rows) w.ent) found.0 found.1).1) found.2)
    (first_or_later s wanted truths (not_last rel attr name) tops one)
  where
    by : (a : RowId) → HaveOne n.row_is.relation.rows attr.0 row a → Put s wanted truths (top rel attr a)
        → IsCurrent s.relations c rel.0 attr.0 row
    by a both h =
        let w = n.row_is in
        let own = one_entity w.relation.rows row.0 both.ent w.ent both.entity w.of_entity in
        let of : entity_of w.relation.rows a.0 ≡ Some w.ent = both.other_entity ∙ ap Some own in
        let stands = put_last s wanted truths c rel attr a m (row_beside s wanted rel.0 attr.0 row a w of) h in
        let l = stands_in s.relations c rel.0 attr.0 w.ent w.relation a w.is_relation of stands in
        last_current s.relations c rel.0 attr.0 w.ent w.relation a row w.is_relation l
        record {
          ent = both.ent;
          value = both.value;
          entity = both.other_entity;
          other_entity = both.entity;
          here =
              both.there;
          there = both.here;
        }

-- a value that is put not current is not current
put_not_current : (s : Spec) (wanted : Wanted) (truths : List Bool) (c : Rankings) (rel : RelId) (attr : AttrId)
    (row : RowId) → IsAssigned s wanted truths c
    → IsWantedName s.relations wanted rel.0 attr.0 row → Put s wanted truths (not_last rel attr row)
    → IsCurrent s.relations c rel.0 attr.0 row → ⊥
put_not_current s wanted truths c rel attr row m n put t =
    let w = n.row_is in
    let r = w.relation in
    let has = current_in s.relations c rel.0 attr.0 w.ent r row w.is_relation w.of_entity t in
    let found = last_there s.relations c rel.0 attr.0 w.ent r row (case_is s wanted truths c m) w.is_relation
    w.attr_in w.of_entity in
    let z = found.0 in
    let l = found.1 in
    let name = name_of r.rows attr.0 z in
    let one = m.asked (label.Last rel attr z) (not_top rel attr z ∷ last rel attr name ∷ [])
    (r, w.is_relation, (w.attr_in, row_there r.rows z.0 w.ent l.of_entity, refl)) w.wants in
    let current = second_of_two s wanted truths (not_top rel attr z) (last rel attr name)
    (λ h. put_not_last s wanted truths c rel attr z m (row_beside s wanted rel.0 attr.0 row z w l.of_entity) h
    (stands_if s.relations c rel.0 attr.0 w.ent r z w.is_relation l)) one in
    let facts = relation_facts s.relations rel.0 r (case_is s wanted truths c m).facts w.is_relation in
    let both = have_one_alike r.rows attr.0 row z (alike_last c rel.0 attr.0 w.ent r row z l has) in
    let one = same_name r attr.0 facts w.attr_in row z (row_there r.rows row.0 w.ent w.of_entity) both in
    let named : name ≡ row = sym one ∙ n.named in
    contrary s wanted truths c (says.Last rel attr row) m
    (subst (λ (x : RowId). Put s wanted truths (last rel attr x)) named current) put

-- ---- the truth of each statement

statement_holds : (s : Spec) (wanted : Wanted) (truths : List Bool) (c : Rankings) (x : Statement) (truth : Bool)
    → IsAssigned s wanted truths c
    → Contains (variables s wanted) x → Put s wanted truths (said x (not truth)) → Holds s.relations c
    (said_answers s wanted truths) (said x (not truth))
statement_holds s wanted truths c (says.Before rel attr a b) true m at put = stands_so s wanted truths c rel attr a b m put
statement_holds s wanted truths c (says.Before rel attr a b) false m at put = λ h. not_put s wanted truths c rel attr a b m h put
statement_holds s wanted truths c (says.Top rel attr row) true m at put =
    put_last s wanted truths c rel attr row m (top_of_row s.relations wanted rel attr row at) put
statement_holds s wanted truths c (says.Top rel attr row) false m at put =
    put_not_last s wanted truths c rel attr row m (top_of_row s.relations wanted rel attr row at) put
statement_holds s wanted truths c (says.Last rel attr row) true m at put =
    put_current s wanted truths c rel attr row m (last_of_name s.relations wanted rel attr row at) put
statement_holds s wanted truths c (says.Last rel attr row) false m at put =
    put_not_current s wanted truths c rel attr row m (last_of_name s.relations wanted rel attr row at) put
statement_holds s wanted truths c (says.Answer tuple) true m at put = put
statement_holds s wanted truths c (says.Answer tuple) false m at put = λ h. contrary s wanted truths c (says.Answer tuple) m h put

pub models_are_completions : RulesByInstances → ModelsAreCompletions
models_are_completions by_instances s wanted facts steps are truths long true_clauses c ranked =
    let m : IsAssigned s wanted truths c = record {
      by_instances = by_instances;
      facts = facts;
      asked = asked_true s wanted.currents (variables s wanted) steps truths are true_clauses;
      ranked = ranked;
    } in
    record {
      consistent = consistent s wanted truths c m;
      truth = record {
        per_variable = long;
        each = λ var x truth at is.
            statement_holds s wanted truths c x truth m (at_place (variables s wanted) var x at)
            (as_assigned (variables s wanted) truths var x truth at is);
      };
    }
