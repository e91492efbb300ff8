use Rattle.std.proofs.Common.{◌≡◌, ◌∙◌, List, All, Some, get_or, sym, subst}
use Rattle.std.proofs.lemmas.Option.{slice_get-get_or}
use Rattle.std.proofs.lemmas.Result.{on_ok_weaker}
use Rattle.currency_base.specs.declared.ids.RowId.{RowId}
use Rattle.currency_base.specs.declared.pair.Pair.{Pair}
use Rattle.denial_rules.specs.Instances.{instance_of}
use Rattle.forced_closure.specs.Clauses.{HornClauses, Adds, AreSlots}
use Rattle.forced_closure.specs.declared.origin.Origin.TheVariants as origin
use Rattle.forced_closure.proofs.Adding.{adds_one}
use Rattle.forced_closure.proofs.Standing.{StandsIn, ground_of, ground_premises, concluded_atom, ground_conclusion, rule_clause}
use Rattle.forced_closure.proofs.ruled.push_ground.Goals as goal

pub slots_of-requires : goal.slots_of-requires
slots_of-requires c =
    let m = c.args.subject.now in
    let rule = c.rule-constraint.result.now in
    let rows = c.get-rows.result.now in
    let g = ground_of m c.args.rule.0 rule c.grounds_of.result.now c.args.ground rows c.spec.ensures.facts
    c.rule-constraint.ensures c.grounds_of.ensures c.get-rows.ensures in
    let e : instance_of rule c.relation.result.now.rows rows ≡ Some c.in-Some.instance = sym c.instance.ensures ∙ c.in-Some.is in
    subst (All (StandsIn m.spec.relations rule.relation.0)) (sym c.as_slice.ensures)
    (ground_premises m c.args.rule.0 rule rows c.relation.result.now c.in-Some.instance g c.relation.ensures e)

pub bounds-rows-atom : goal.bounds-rows-atom
bounds-rows-atom c =
    let m = c.args.subject.now in
    let rule = c.rule-constraint.result.now in
    let rows = c.get-rows.result.now in
    let g = ground_of m c.args.rule.0 rule c.grounds_of.result.now c.args.ground rows c.spec.ensures.facts
    c.rule-constraint.ensures c.grounds_of.ensures c.get-rows.ensures in
    let concludes = c.requires.concludes rule c.rule-constraint.ensures in
    (concluded_atom m c.args.rule.0 rule rows c.args.atom g concludes).0

pub bounds-rows-atom-2 : goal.bounds-rows-atom-2
bounds-rows-atom-2 c =
    let m = c.args.subject.now in
    let rule = c.rule-constraint.result.now in
    let rows = c.get-rows.result.now in
    let g = ground_of m c.args.rule.0 rule c.grounds_of.result.now c.args.ground rows c.spec.ensures.facts
    c.rule-constraint.ensures c.grounds_of.ensures c.get-rows.ensures in
    let concludes = c.requires.concludes rule c.rule-constraint.ensures in
    (concluded_atom m c.args.rule.0 rule rows c.args.atom g concludes).1

pub slot-conclusion-requires : goal.slot-conclusion-requires
slot-conclusion-requires c =
    let m = c.args.subject.now in
    let rule = c.rule-constraint.result.now in
    let rows = c.get-rows.result.now in
    let g = ground_of m c.args.rule.0 rule c.grounds_of.result.now c.args.ground rows c.spec.ensures.facts
    c.rule-constraint.ensures c.grounds_of.ensures c.get-rows.ensures in
    let concludes = c.requires.concludes rule c.rule-constraint.ensures in
    let none : RowId = record { 0 = 0 } in
    let bounds = concluded_atom m c.args.rule.0 rule rows c.args.atom g concludes in
    let at_a = slice_get-get_or rows c.args.atom.earlier none bounds.0 in
    let at_b = slice_get-get_or rows c.args.atom.later none bounds.1 in
    ground_conclusion m c.args.rule.0 rule rows c.args.atom (get_or rows c.args.atom.earlier none)
    (get_or rows c.args.atom.later none) g concludes at_a at_b

pub returns : goal.returns
returns c =
    let m = c.args.subject.now in
    let rule = c.rule-constraint.result.now in
    let rows = c.get-rows.result.now in
    let g = ground_of m c.args.rule.0 rule c.grounds_of.result.now c.args.ground rows c.spec.ensures.facts
    c.rule-constraint.ensures c.grounds_of.ensures c.get-rows.ensures in
    let concludes = c.requires.concludes rule c.rule-constraint.ensures in
    let e : instance_of rule c.relation.result.now.rows rows ≡ Some c.in-Some.instance = sym c.instance.ensures ∙ c.in-Some.is in
    let none : RowId = record { 0 = 0 } in
    let bounds = concluded_atom m c.args.rule.0 rule rows c.args.atom g concludes in
    let at_a = slice_get-get_or rows c.args.atom.earlier none bounds.0 in
    let at_b = slice_get-get_or rows c.args.atom.later none bounds.1 in
    let slots = subst (λ (ps : List Pair). AreSlots m.layout rule.relation.0 ps c.in_ok-premises.premises.items)
    c.as_slice.ensures c.in_ok-premises.ensures in
    let here = subst (AreSlots m.layout rule.relation.0 c.in-Some.instance.premises) (sym c.deref.ensures.value) slots in
    let clause = rule_clause m c.args.rule.0 rule c.grounds_of.result.now c.args.ground rows c.relation.result.now
    c.in-Some.instance c.args.atom
    (get_or rows c.args.atom.earlier none) (get_or rows c.args.atom.later none) c.deref.result.now
    c.slot-conclusion.result g c.rule-constraint.ensures c.grounds_of.ensures
    c.get-rows.ensures c.relation.ensures e concludes at_a at_b here c.slot-conclusion.ensures in
    on_ok_weaker c.push.result
    (λ pushed. subst (λ (t : HornClauses). Adds m c.args.gathered.now t (λ o. o ≡ origin.Rule c.args.rule c.args.ground)) (sym pushed)
    (adds_one m c.args.gathered.now (origin.Rule c.args.rule c.args.ground) c.deref.result.now c.slot-conclusion.result clause))
    c.push.ensures
