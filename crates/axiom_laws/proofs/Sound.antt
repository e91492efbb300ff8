-- Every axiom is true in every consistent completion.
use Rattle.std.proofs.Common.{◌≡◌, ℕ, Bool, true, false, List, [], ◌∷◌, All, Contains, Option, Some, None, slice_get, refl, sym, ◌∙◌, subst, ⊎_elim}
use Rattle.std.specs.List.{list_all, list_any}
use Rattle.std.proofs.lemmas.Bool.{and_parts, or_cases, false≢true}
use Rattle.std.proofs.lemmas.List.Elements.{All-contains}
use Rattle.std.proofs.lemmas.List.Sums.{AllPass-from_list_all}
use Rattle.std.proofs.lemmas.Option.{same_Some, none-some}
use Rattle.currency_base.specs.declared.ids.RowId.{RowId}
use Rattle.currency_base.specs.declared.lit.Lit.{Lit}
use Rattle.copy_functions.specs.Copies.{CopyFunction}
use Rattle.denial_rules.specs.Rules.{IsRuleOn}
use Rattle.denial_rules.specs.declared.rule.Rule.{Rule}
use Rattle.spec_model.specs.Spec.{Spec}
use Rattle.spec_model.specs.Completion.{Rankings, IsCompletion}
use Rattle.spec_model.specs.Consistent.{IsConsistent}
use Rattle.spec_model.specs.Facts.{IsSpecification, IsRuleOf, IsCopyAmong, IsPlaceBetween, kinds_of}
use Rattle.spec_model.specs.declared.relation.Relation.{Relation}
use Rattle.refutation_log.specs.declared.statement.Statement.{Statement}
use Rattle.refutation_log.specs.declared.step.Label.{Label}
use Rattle.refutation_log.specs.declared.step.Label.TheVariants as label
use Rattle.log_axioms.specs.Axioms.{given_clause, transitive_clause, above_clause, top_clause, last_clause, value_clause, rule_clause, copy_clause, in_relation, of_rule, of_copy, axiom_of, is_said, lit_says, is_clause, is_axiom}
use Rattle.log_axioms.specs.declared.signed.Signed.{Signed}
use Rattle.log_axioms.specs.Posed.{AreAnswersOver, Posed}
use Rattle.log_axioms.specs.Truth.{meaning, HoldsIn, LitHolds, ClauseHolds}
use Rattle.axiom_laws.specs.Laws.{AxiomsHoldOver}
use Rattle.axiom_laws.proofs.Chosen.{HasTrue, IsCase, first_in, rest_in, in_relation_is}
use Rattle.axiom_laws.proofs.CopyClauses.{IsCopyCase, copy_true}
use Rattle.axiom_laws.proofs.MatchClauses.{query_true}
use Rattle.axiom_laws.proofs.OrderClauses.{given_true, transitive_true}
use Rattle.axiom_laws.proofs.RuleClauses.{rule_true}
use Rattle.axiom_laws.proofs.SaysSame.{IsSound, agree}
use Rattle.axiom_laws.proofs.Standing.{all_at}
use Rattle.axiom_laws.proofs.TopClauses.{above_true, top_true, last_true, value_true}

-- ---- the clause of a label has a true statement

rule_label : (s : Spec) (c : Rankings) (answers : ℕ → Type 0) → IsSpecification s → IsConsistent s c → IsCase s.relations c
    → (k : ℕ) (rows : List RowId) (clause : List Signed)
    → (o : Option Rule) → slice_get s.rules k ≡ o → of_rule s rows o ≡ Some clause → HasTrue s.relations c answers clause
rule_label s c answers facts consistent is k rows clause None at e = absurd (none-some clause e)
rule_label s c answers facts consistent is k rows clause (Some rule) at e =
    let r = in_relation_is s.relations rule.relation (rule_clause rule rows) clause e in
    let of = all_at (IsRuleOf s.relations) s.rules k rule facts.rules.each at in
    let same : of.relation ≡ r.0 = same_Some of.relation r.0 (sym of.is_relation ∙ r.1) in
    let fits = subst (λ (q : Relation). IsRuleOn (kinds_of q) rule) same of.fits in
    rule_true s.relations c answers rule rows r.0 clause is r.1 fits (consistent.rules k rule at r.0 r.1) r.2

copy_label : (s : Spec) (c : Rankings) (answers : ℕ → Type 0) → IsSpecification s → IsConsistent s c → IsCase s.relations c
    → (k place : ℕ) (first second : RowId) (clause : List Signed)
    → (o : Option CopyFunction) → slice_get s.copies k ≡ o → of_copy s place first second o ≡ Some clause
    → HasTrue s.relations c answers clause
copy_label s c answers facts consistent is k place first second clause None at e = absurd (none-some clause e)
copy_label s c answers facts consistent is k place first second clause (Some copy) at e =
    let target = in_relation_is s.relations copy.target
    (λ t. in_relation s.relations copy.source (copy_clause copy place first second t)) clause e in
    let source = in_relation_is s.relations copy.source (copy_clause copy place first second target.0) clause target.2 in
    let among = all_at (IsCopyAmong s.relations) s.copies k copy facts.copies.each at in
    let same_target : among.target ≡ target.0 = same_Some among.target target.0 (sym among.is_target ∙ target.1) in
    let same_source : among.source ≡ source.0 = same_Some among.source source.0 (sym among.is_source ∙ source.1) in
    let places : All (IsPlaceBetween target.0 source.0) copy.places =
    subst (λ (t : Relation). All (IsPlaceBetween t source.0) copy.places) same_target
    (subst (λ (t : Relation). All (IsPlaceBetween among.target t) copy.places) same_source among.places) in
    let copied : IsCopyCase s.relations c copy target.0 source.0 = record {
      case = is;
      is_target = target.1;
      is_source = source.1;
      places = places;
      compatible = consistent.copies k copy at target.0 source.0 target.1 source.1;
    } in
    copy_true s.relations c answers copy place first second target.0 source.0 clause copied source.2

label_true : (s : Spec) (c : Rankings) (answers : ℕ → Type 0) → IsSpecification s → IsConsistent s c → IsCase s.relations c
    → (posed : Posed) → AreAnswersOver s.relations posed c answers → (l : Label) (clause : List Signed)
    → axiom_of s posed l ≡ Some clause
    → HasTrue s.relations c answers clause
label_true s c answers facts consistent is posed over (label.Given rel attr earlier later) clause e =
    let r = in_relation_is s.relations rel (given_clause rel attr earlier later) clause e in
    given_true s.relations c answers rel attr earlier later r.0 clause consistent.given r.1 r.2
label_true s c answers facts consistent is posed over (label.Transitive rel attr first second third) clause e =
    let r = in_relation_is s.relations rel (transitive_clause rel attr first second third) clause e in
    transitive_true s.relations c answers rel attr first second third r.0 clause is r.1 r.2
label_true s c answers facts consistent is posed over (label.Rule rule rows) clause e =
    rule_label s c answers facts consistent is rule.0 rows clause (slice_get s.rules rule.0) refl e
label_true s c answers facts consistent is posed over (label.Copy copy place first second) clause e =
    copy_label s c answers facts consistent is copy.0 place first second clause (slice_get s.copies copy.0) refl e
label_true s c answers facts consistent is posed over (label.Above rel attr row other) clause e =
    let r = in_relation_is s.relations rel (above_clause rel attr row other) clause e in
    above_true s.relations c answers rel attr row other r.0 clause is r.1 r.2
label_true s c answers facts consistent is posed over (label.Top rel attr row) clause e =
    let r = in_relation_is s.relations rel (top_clause rel attr row) clause e in
    top_true s.relations c answers rel attr row r.0 clause is r.1 r.2
label_true s c answers facts consistent is posed over (label.Last rel attr row) clause e =
    let r = in_relation_is s.relations rel (last_clause rel attr row) clause e in
    last_true s.relations c answers rel attr row r.0 clause is r.1 r.2
label_true s c answers facts consistent is posed over (label.Value rel attr row) clause e =
    let r = in_relation_is s.relations rel (value_clause rel attr row) clause e in
    value_true s.relations c answers rel attr row r.0 clause is r.1 r.2
label_true s c answers facts consistent is posed over (label.Match disjunct entities values) clause e =
    query_true s.relations c answers posed over disjunct entities values clause posed.query refl e

-- ---- literals that are the clause have a true one

pub found : {A : Type 0} (test : A → Bool) (xs : List A) → list_any test xs ≡ true → (x : A) × Contains xs x × (test x ≡ true)
found test [] e = absurd (false≢true e)
found test (x ∷ xs) e =
    ⊎_elim
    (λ here. (x, first_in x xs, here))
    (λ later. let more = found test xs later in (more.0, rest_in x more.0 xs more.1, more.2))
    (or_cases (test x) (list_any test xs) e)

said_true : (relations : List Relation) (c : Rankings) (answers : ℕ → Type 0) (statements : List Statement)
    (s : Signed) (lit : Lit)
    → IsCompletion relations c → IsSound relations s
    → HoldsIn relations c answers s → lit_says relations statements s lit ≡ true → LitHolds relations c answers statements lit
said_true relations c answers statements s lit completion sound holds e = by (meaning statements lit) refl e
  where
    by : (o : Option Signed) → meaning statements lit ≡ o → is_said relations s (meaning statements lit) ≡ true
        → LitHolds relations c answers statements lit
    by None is e = let none : false ≡ true = rw is at e in absurd (false≢true none)
    by (Some m) is e =
        let said : is_said relations s (Some m) ≡ true = rw is at e in
        rw is (agree relations c answers m s completion said sound holds)

clause_true : (relations : List Relation) (c : Rankings) (answers : ℕ → Type 0) (statements : List Statement)
    (lits : List Lit) (clause : List Signed)
    → IsCompletion relations c
    → is_clause relations statements lits clause ≡ true → HasTrue relations c answers clause → ClauseHolds relations
    c answers statements lits
clause_true relations c answers statements lits clause completion e t =
    let each_is_said = list_all (λ lit. list_any (λ s. lit_says relations statements s lit) clause) lits in
    let parts = and_parts each_is_said (list_all says_it clause) e in
    let lit = found (lit_says relations statements t.member) lits
    (All-contains (λ s. says_it s ≡ true) clause t.member (AllPass-from_list_all says_it clause parts.1) t.is_in) in
    let is_true = said_true relations c answers statements t.member lit.0 completion t.sound t.holds lit.2 in
    record { lit = lit.0; is_in = lit.1; is_true = is_true }
  where
    says_it : Signed → Bool
    says_it s = list_any (lit_says relations statements s) lits

-- ---- the law

pub axiom_true : (answers : ℕ → Type 0) → AxiomsHoldOver answers
axiom_true answers s facts c consistent posed over statements l lits e = by (axiom_of s posed l) refl e
  where
    by : (o : Option (List Signed)) → axiom_of s posed l ≡ o → is_axiom s posed statements l lits ≡ true
        → ClauseHolds s.relations c answers statements lits
    by None is e = let none : false ≡ true = rw is at e in absurd (false≢true none)
    by (Some clause) is e =
        let here : is_clause s.relations statements lits clause ≡ true = rw is at e in
        let completion = consistent.completion in
        clause_true s.relations c answers statements lits clause completion here
        (label_true s c answers facts consistent record { facts = facts.relations; completion = completion } posed
        over l clause is)
