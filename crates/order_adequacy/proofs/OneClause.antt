-- A label has one clause at most, and of the clause of a label that is asked one is true.
use Rattle.std.proofs.Common.{◌≡◌, ◌∙◌, ℕ, Bool, List, [], ◌∷◌, All, Contains, Some, map, slice_get, sym, ap, ap₂, subst}
use Rattle.std.proofs.lemmas.List.Elements.{All-contains}
use Rattle.std.proofs.lemmas.Option.{same_Some}
use Rattle.currency_base.specs.declared.ids.RelId.{RelId}
use Rattle.currency_base.specs.declared.ids.RowId.{RowId}
use Rattle.currency_base.specs.declared.lit.Lit.{Lit}
use Rattle.copy_functions.specs.Copies.{CopyFunction}
use Rattle.copy_functions.specs.declared.place.Place.{Place}
use Rattle.denial_rules.specs.Instances.{instance_of}
use Rattle.denial_rules.specs.declared.instance.RuleInstance.{RuleInstance}
use Rattle.denial_rules.specs.declared.rule.Rule.{Rule}
use Rattle.order_clauses.specs.Clauses.{SaysOneOf, IsAsked, IsAskedStep, AreAxioms}
use Rattle.order_literals.specs.Axioms.{others, alike, instance_clause, IsCopyAxiom, IsAxiom}
use Rattle.order_literals.specs.Said.{Said, before, not_before, top, not_top, last, not_last, IsClauseTrue, IsSaidTrue}
use Rattle.partial_orders.specs.Pairs.{entity_of}
use Rattle.refutation_log.specs.Steps.{clause_of, clauses_of}
use Rattle.refutation_log.specs.declared.statement.Statement.{Statement}
use Rattle.refutation_log.specs.declared.step.Label.{Label}
use Rattle.refutation_log.specs.declared.step.Label.TheVariants as label
use Rattle.refutation_log.specs.declared.step.Step.{Step}
use Rattle.refutation_log.specs.declared.step.Step.TheVariants as step
use Rattle.spec_model.specs.Spec.{Spec}
use Rattle.spec_model.specs.declared.relation.Relation.{Relation}
use Rattle.value_names.specs.Names.{name_of}
use Rattle.order_adequacy.proofs.Lists.{mapped_in}
use Rattle.order_adequacy.proofs.Orders.{one_relation}

-- ---- one clause

-- the entity of a row of a relation that stands at a number
one_entity_at : (relations : List Relation) (rel row : ℕ) (r r' : Relation) (ent ent' : ℕ) → slice_get relations
    rel ≡ Some r → slice_get relations rel ≡ Some r'
    → entity_of r.rows row ≡ Some ent → entity_of r'.rows row ≡ Some ent' → ent ≡ ent'
one_entity_at relations rel row r r' ent ent' at at' of of' =
    let same = one_relation relations rel r r' at at' in
    same_Some ent ent' (sym of ∙ (ap (λ (q : Relation). entity_of q.rows row) same ∙ of'))

copy_clause : CopyFunction → Place → RowId → RowId → RowId → RowId → List Said
copy_clause copy at first_source second_source first second =
    not_before copy.source at.source first_source second_source ∷ before copy.target at.target first second ∷ []

one_copy_clause : (s : Spec) (copy : CopyFunction) (place : ℕ) (first second : RowId) (a b : List Said)
    → IsCopyAxiom s copy place first second a
    → IsCopyAxiom s copy place first second b → a ≡ b
unfolding copy_clause
one_copy_clause s copy place first second a b x y =
    let places : x.at ≡ y.at = same_Some x.at y.at (sym x.is_place ∙ y.is_place) in
    let firsts : x.first_source ≡ y.first_source = same_Some x.first_source y.first_source (sym x.first_from ∙ y.first_from) in
    let seconds : x.second_source ≡ y.second_source = same_Some x.second_source y.second_source
    (sym x.second_from ∙ y.second_from) in
    x.clause_is
    ∙ (ap (λ (at : Place). copy_clause copy at x.first_source x.second_source first second) places
    ∙ (ap₂ (λ (f g : RowId). copy_clause copy y.at f g first second) firsts seconds ∙ sym y.clause_is))

pub one_clause : (s : Spec) (l : Label) (a b : List Said) → IsAxiom s l a → IsAxiom s l b → a ≡ b
one_clause s (label.Given rel attr earlier later) a b x y = x.2.1 ∙ sym y.2.1
one_clause s (label.Transitive rel attr first second third) a b x y = x.2.4 ∙ sym y.2.4
one_clause s (label.Rule k rows) a b x y =
    let rules : x.0 ≡ y.0 = same_Some x.0 y.0 (sym x.1 ∙ y.1) in
    let relations : x.2.0 ≡ y.2.0 =
    same_Some x.2.0 y.2.0 (sym x.2.1 ∙ (ap (λ (q : Rule). slice_get s.relations q.relation.0) rules ∙ y.2.1)) in
    let instances : x.2.2.1 ≡ y.2.2.1 =
    same_Some x.2.2.1 y.2.2.1
    (sym x.2.2.2 ∙ (ap₂ (λ (q : Rule) (t : Relation). instance_of q t.rows rows) rules relations ∙ y.2.2.2)) in
    x.2.2.3 ∙ (ap₂ (λ (q : Rule) (i : RuleInstance). instance_clause q.relation i) rules instances ∙ sym y.2.2.3)
one_clause s (label.Copy k place first second) a b x y =
    let copies : x.0 ≡ y.0 = same_Some x.0 y.0 (sym x.1 ∙ y.1) in
    one_copy_clause s y.0 place first second a b
    (subst (λ (copy : CopyFunction). IsCopyAxiom s copy place first second a) copies x.2) y.2
one_clause s (label.Above rel attr row other) a b x y = x.2.2 ∙ sym y.2.2
one_clause s (label.Top rel attr row) a b x y =
    let same = one_relation s.relations rel.0 x.0 y.0 x.1 y.1 in
    let ents = one_entity_at s.relations rel.0 row.0 x.0 y.0 x.2.1 y.2.1 x.1 y.1 x.2.2 y.2.2 in
    x.2.3
    ∙ (ap₂ (λ (r : Relation) ent. top rel attr row ∷ map (λ other. not_before rel attr other row)
    (others r.rows ent row)) same ents ∙ sym y.2.3)
one_clause s (label.Last rel attr row) a b x y =
    let same = one_relation s.relations rel.0 x.0 y.0 x.1 y.1 in
    x.2.2 ∙ (ap (λ (r : Relation). not_top rel attr row ∷ last rel attr (name_of r.rows attr.0 row) ∷ []) same ∙ sym y.2.2)
one_clause s (label.Value rel attr row) a b x y =
    let same = one_relation s.relations rel.0 x.0 y.0 x.1 y.1 in
    let ents = one_entity_at s.relations rel.0 row.0 x.0 y.0 x.2.1 y.2.1 x.1 y.1 x.2.2 y.2.2 in
    x.2.3
    ∙ (ap₂ (λ (r : Relation) ent. not_last rel attr (name_of r.rows attr.0 row) ∷ map (top rel attr)
    (alike r.rows attr.0 ent row)) same ents ∙ sym y.2.3)
one_clause s (label.Match disjunct entities values) a b x y = absurd x

-- ---- one of it is true

-- one of a clause is true under an assignment
pub record OneIsTrue (statements : List Statement) (truths : List Bool) (clause : List Said) : Type 0 where
  pub one : Said
  pub is_in : Contains clause one
  pub is_true : IsSaidTrue statements truths one

-- the literals of a step that is an axiom under a label
same_label : (l l' : Label) (lits lits' : List Lit) → step.Axiom l lits ≡ step.Axiom l' lits' → (l ≡ l') × (lits ≡ lits')
same_label l l' lits lits' e =
    let labels : l ≡ l' = cc in
    let literals : lits ≡ lits' = cc in
    (labels, literals)

pub asked_true : (s : Spec) (currents : List RelId) (statements : List Statement) (steps : List Step) (truths : List Bool)
    → AreAxioms s currents statements steps → All (IsClauseTrue truths) (clauses_of steps) →
    (l : Label) (clause : List Said) → IsAxiom s l clause
    → IsAsked s currents l → OneIsTrue statements truths clause
asked_true s currents statements steps truths are true_clauses l clause is asked =
    let stands = are.all l clause is asked in
    let here = All-contains (IsAskedStep s currents statements) steps (step.Axiom l stands.lits) are.each stands.is_in in
    let same = same_label l here.label stands.lits here.lits here.step.is_step in
    let clauses : here.step.clause ≡ clause =
    one_clause s l here.step.clause clause (subst (λ (m : Label). IsAxiom s m here.step.clause) (sym same.0)
    here.step.is_axiom) is in
    let listed : Contains (clauses_of steps) stands.lits = mapped_in clause_of steps (step.Axiom l stands.lits) stands.is_in in
    let chosen = All-contains (IsClauseTrue truths) (clauses_of steps) stands.lits true_clauses listed in
    let among = subst (λ (lits : List Lit). Contains lits chosen.lit) same.1 chosen.is_in in
    let says_one = All-contains (SaysOneOf statements here.step.clause) here.lits chosen.lit here.step.are_lits.each among in
    record {
      one = says_one.said;
      is_in = subst (λ (c : List Said). Contains c says_one.said) clauses says_one.is_in;
      is_true = record { lit = chosen.lit; says = says_one.says; is_true = chosen.is_true };
    }
