-- Every axiom is true in every consistent completion.
use Rattle.std.proofs.Common.{ℕ, List, sym, subst}
use Rattle.currency_base.specs.declared.pair.Pair.{Pair}
use Rattle.order_literals.specs.Axioms.{IsAxiom}
use Rattle.order_literals.specs.Said.{Said}
use Rattle.order_literals.specs.Truth.{OneHolds}
use Rattle.refutation_log.specs.declared.step.Label.{Label}
use Rattle.refutation_log.specs.declared.step.Label.TheVariants as label
use Rattle.spec_model.specs.Completion.{Rankings}
use Rattle.spec_model.specs.Consistent.{IsConsistent}
use Rattle.spec_model.specs.Facts.{IsSpecification}
use Rattle.spec_model.specs.Spec.{Spec}
use Rattle.order_adequacy.proofs.Chosen.{first_holds}
use Rattle.order_adequacy.proofs.LastAxioms.{above_true, top_true, last_true, value_true}
use Rattle.order_adequacy.proofs.OrderAxioms.{RulesByInstances, transitive_true, instance_true, copy_true}
use Rattle.order_adequacy.proofs.Orders.{IsCase}

-- a completion that is consistent is one of the relations
pub case_of : (s : Spec) (c : Rankings) → IsSpecification s → IsConsistent s c → IsCase s.relations c
case_of s c facts consistent = record { facts = facts.relations; completion = consistent.completion }

pub axiom_true : RulesByInstances → (answers : ℕ → Type 0) (s : Spec) → IsSpecification s → (c : Rankings) → IsConsistent s c
    → (l : Label) (clause : List Said) → IsAxiom s l clause → OneHolds s.relations c answers clause
axiom_true by_instances answers s facts c consistent (label.Given rel attr earlier later) clause is =
    let p : Pair = record { attr = attr; earlier = earlier; later = later } in
    subst (OneHolds s.relations c answers) (sym is.2.1) (first_holds (consistent.given rel.0 is.0 is.1 p is.2.0))
axiom_true by_instances answers s facts c consistent (label.Transitive rel attr first second third) clause is =
    subst (OneHolds s.relations c answers) (sym is.2.4)
    (transitive_true s.relations c answers rel attr first second third consistent.completion)
axiom_true by_instances answers s facts c consistent (label.Rule k rows) clause is =
    let rule = is.0 in
    let r = is.2.0 in
    let i = is.2.2.1 in
    let both = by_instances s c facts.rules consistent.completion k.0 rule is.1 r is.2.1 in
    let hold = both.0 (consistent.rules k.0 rule is.1 r is.2.1) in
    subst (OneHolds s.relations c answers) (sym is.2.2.3)
    (instance_true s.relations c answers rule.relation i (hold rows is.2.2.0 i is.2.2.2))
axiom_true by_instances answers s facts c consistent (label.Copy k place first second) clause is =
    copy_true s c answers k.0 is.0 place first second clause consistent.copies is.1 is.2
axiom_true by_instances answers s facts c consistent (label.Above rel attr row other) clause is =
    subst (OneHolds s.relations c answers) (sym is.2.2)
    (above_true s.relations c answers rel attr row other is.0 (case_of s c facts consistent) is.1 is.2.0 is.2.1)
axiom_true by_instances answers s facts c consistent (label.Top rel attr row) clause is =
    subst (OneHolds s.relations c answers) (sym is.2.3)
    (top_true s.relations c answers rel attr row is.0 is.2.1 (case_of s c facts consistent)
    record { is_relation = is.1; attr_in = is.2.0; of_entity = is.2.2 })
axiom_true by_instances answers s facts c consistent (label.Last rel attr row) clause is =
    subst (OneHolds s.relations c answers) (sym is.2.2)
    (last_true s.relations c answers rel attr row is.0 (case_of s c facts consistent) is.1 is.2.0)
axiom_true by_instances answers s facts c consistent (label.Value rel attr row) clause is =
    subst (OneHolds s.relations c answers) (sym is.2.3)
    (value_true s.relations c answers rel attr row is.0 is.2.1 (case_of s c facts consistent)
    record { is_relation = is.1; attr_in = is.2.0; of_entity = is.2.2 })
axiom_true by_instances answers s facts c consistent (label.Match disjunct entities values) clause is = absurd is
