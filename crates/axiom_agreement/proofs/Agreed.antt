-- The laws: what is made is judged to be an axiom, and what is judged can be made.
use Rattle.std.proofs.Common.{◌≡◌, ◌∙◌, true, List, Some, false, refl, sym}
use Rattle.currency_base.specs.declared.lit.Lit.{Lit}
use Rattle.spec_model.specs.Facts.{IsSpecification}
use Rattle.spec_model.specs.Spec.{Spec}
use Rattle.refutation_log.specs.declared.statement.Statement.{Statement}
use Rattle.refutation_log.specs.declared.step.Label.{Label}
use Rattle.refutation_log.specs.declared.step.Label.TheVariants as label
use Rattle.log_axioms.specs.Axioms.{axiom_of, is_axiom}
use Rattle.log_axioms.specs.Posed.{Posed}
use Rattle.log_axioms.specs.declared.signed.Signed.{Signed}
use Rattle.order_literals.specs.Axioms.{IsAxiom}
use Rattle.order_literals.specs.Numbers.{numbers_of}
use Rattle.order_literals.specs.Said.{Said}
use Rattle.order_literals.specs.Statements.{statements_of}
use Rattle.order_clauses.specs.Clauses.{AreLits}
use Rattle.axiom_agreement.specs.Agreement.{StepsAreAxioms, ClausesAreAxioms, AxiomsAreWhole, IsNoMatch, OrdersAgree, ValuesAgree}
use Rattle.axiom_agreement.proofs.Agreeing.{lits_are_clause}
use Rattle.axiom_agreement.proofs.Copied.{copy_made, copy_has}
use Rattle.axiom_agreement.proofs.Orders.{given_made, given_has, transitive_made, transitive_has, above_made, above_has}
use Rattle.axiom_agreement.proofs.Ruled.{rule_made, rule_has}
use Rattle.axiom_agreement.proofs.Sayings.{IsJudged, HasAxiom, judged_of, order_agrees, last_agrees}
use Rattle.axiom_agreement.proofs.Wanted.{row_in, top_made, top_has, last_made, last_has, value_made, value_has}

made_is_judged : (s : Spec) → IsSpecification s → (l : Label) (clause : List Said) → IsAxiom s l clause → IsJudged s l clause
made_is_judged s is (label.Given rel attr earlier later) clause x = given_made s rel attr earlier later clause x
made_is_judged s is (label.Transitive rel attr first second third) clause x = transitive_made s rel attr first second
    third clause x
made_is_judged s is (label.Rule k rows) clause x = rule_made s k rows clause is.rules x
made_is_judged s is (label.Copy k place first second) clause x = copy_made s k place first second clause x
made_is_judged s is (label.Above rel attr row other) clause x = above_made s rel attr row other clause x
made_is_judged s is (label.Top rel attr row) clause x = top_made s rel attr row clause x
made_is_judged s is (label.Last rel attr row) clause x = last_made s rel attr row clause is.relations x
made_is_judged s is (label.Value rel attr row) clause x = value_made s rel attr row clause is.relations x
made_is_judged s is (label.Match disjunct entities values) clause x = absurd x

-- what is made is no match
made_no_match : (s : Spec) (l : Label) (clause : List Said) → IsAxiom s l clause → IsNoMatch l
made_no_match s (label.Given rel attr earlier later) clause x = tt
made_no_match s (label.Transitive rel attr first second third) clause x = tt
made_no_match s (label.Rule k rows) clause x = tt
made_no_match s (label.Copy k place first second) clause x = tt
made_no_match s (label.Above rel attr row other) clause x = tt
made_no_match s (label.Top rel attr row) clause x = tt
made_no_match s (label.Last rel attr row) clause x = tt
made_no_match s (label.Value rel attr row) clause x = tt
made_no_match s (label.Match disjunct entities values) clause x = x

-- whatever is posed, the judge has the same for such a label
one_judge : (s : Spec) (posed : Posed) (l : Label) → IsNoMatch l → axiom_of s posed l ≡ judged_of s l
one_judge s posed (label.Given rel attr earlier later) of = refl
one_judge s posed (label.Transitive rel attr first second third) of = refl
one_judge s posed (label.Rule k rows) of = refl
one_judge s posed (label.Copy k place first second) of = refl
one_judge s posed (label.Above rel attr row other) of = refl
one_judge s posed (label.Top rel attr row) of = refl
one_judge s posed (label.Last rel attr row) of = refl
one_judge s posed (label.Value rel attr row) of = refl
one_judge s posed (label.Match disjunct entities values) of = absurd of

lits_are_axiom : (s : Spec) (posed : Posed) (statements : List Statement) (l : Label) (lits : List Lit)
    (clause : List Said) → IsNoMatch l → IsJudged s l clause
    → AreLits statements clause lits → is_axiom s posed statements l lits ≡ true
lits_are_axiom s posed statements l lits clause of judged are =
    let is = one_judge s posed l of ∙ judged.is in
    rw is (lits_are_clause s.relations statements lits clause judged.signed judged.agree are)

pub steps_are_axioms : StepsAreAxioms
steps_are_axioms s posed wanted l lits taken is step =
    lits_are_axiom s posed (statements_of (numbers_of s.relations wanted)) l lits step.clause
    (made_no_match s l step.clause step.is_axiom)
    (made_is_judged s is l step.clause step.is_axiom) step.are_lits

judged_has : (s : Spec) (l : Label) (clause : List Signed) → IsNoMatch l → judged_of s l ≡ Some clause → HasAxiom s l
judged_has s (label.Given rel attr earlier later) clause of e = given_has s rel attr earlier later clause e
judged_has s (label.Transitive rel attr first second third) clause of e = transitive_has s rel attr first second third clause e
judged_has s (label.Rule k rows) clause of e = rule_has s k rows clause e
judged_has s (label.Copy k place first second) clause of e = copy_has s k place first second clause e
judged_has s (label.Above rel attr row other) clause of e = above_has s rel attr row other clause e
judged_has s (label.Top rel attr row) clause of e = top_has s rel attr row clause e
judged_has s (label.Last rel attr row) clause of e = last_has s rel attr row clause e
judged_has s (label.Value rel attr row) clause of e = value_has s rel attr row clause e
judged_has s (label.Match disjunct entities values) clause of e = absurd of

pub clauses_are_axioms : ClausesAreAxioms
clauses_are_axioms s posed l clause is of e = judged_has s l clause of (sym (one_judge s posed l of) ∙ e)

pub axioms_are_whole : AxiomsAreWhole
axioms_are_whole s currents statements steps is are posed (label.Given rel attr earlier later) clause of e =
    let its = given_has s rel attr earlier later clause e in
    let stands = are.all (label.Given rel attr earlier later) its.0 its.1 tt in
    (stands.lits, stands.is_in)
axioms_are_whole s currents statements steps is are posed (label.Rule k rows) clause of e =
    let its = rule_has s k rows clause e in
    let stands = are.all (label.Rule k rows) its.0 its.1 tt in
    (stands.lits, stands.is_in)
axioms_are_whole s currents statements steps is are posed (label.Copy k place first second) clause of e =
    let its = copy_has s k place first second clause e in
    let stands = are.all (label.Copy k place first second) its.0 its.1 tt in
    (stands.lits, stands.is_in)
axioms_are_whole s currents statements steps is are posed (label.Transitive rel attr first second third) clause of e = absurd of
axioms_are_whole s currents statements steps is are posed (label.Above rel attr row other) clause of e = absurd of
axioms_are_whole s currents statements steps is are posed (label.Top rel attr row) clause of e = absurd of
axioms_are_whole s currents statements steps is are posed (label.Last rel attr row) clause of e = absurd of
axioms_are_whole s currents statements steps is are posed (label.Value rel attr row) clause of e = absurd of
axioms_are_whole s currents statements steps is are posed (label.Match disjunct entities values) clause of e = absurd of

-- ---- literals

pub orders_agree : OrdersAgree
orders_agree relations statements lit rel attr earlier later says = order_agrees relations rel attr earlier later
    false statements lit says

pub values_agree : ValuesAgree
values_agree s statements lit rel attr row r is at attr_in row_within says =
    last_agrees s.relations rel attr row false r (row_in s.relations rel attr row r is.relations at attr_in
    row_within) statements lit says
