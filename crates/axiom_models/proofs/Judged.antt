-- What the judge takes for true in a completion is true under the truth of the statements in it.
use Rattle.std.proofs.Common.{◌≡◌, ◌∙◌, ℕ, Bool, true, false, not, List, Contains, Option, Some, None, option_map, slice_get, refl, sym, ap, subst, inl, inr}
use Rattle.std.specs.List.{list_all, list_any}
use Rattle.std.proofs.lemmas.Bool.{and_parts, false≢true}
use Rattle.std.proofs.lemmas.List.Elements.{All-contains}
use Rattle.std.proofs.lemmas.List.Sums.{AllPass-from_list_all}
use Rattle.std.proofs.lemmas.Option.{none-some}
use Rattle.currency_base.specs.Literals.{is_negative, negation, var_of}
use Rattle.currency_base.specs.declared.ids.AttrId.{AttrId}
use Rattle.currency_base.specs.declared.ids.EntId.{EntId}
use Rattle.currency_base.specs.declared.ids.RelId.{RelId}
use Rattle.currency_base.specs.declared.ids.RowId.{RowId}
use Rattle.currency_base.specs.declared.lit.Lit.{Lit}
use Rattle.currency_base.specs.declared.value.Value.{Value}
use Rattle.spec_model.specs.Completion.{IsCompletion, Rankings}
use Rattle.spec_model.specs.Spec.{Spec}
use Rattle.spec_model.specs.declared.relation.Relation.{Relation}
use Rattle.refutation_log.specs.declared.statement.Statement.{Statement}
use Rattle.refutation_log.specs.declared.statement.Statement.TheVariants as says
use Rattle.refutation_log.specs.declared.step.Label.{Label}
use Rattle.refutation_log.specs.declared.step.Label.TheVariants as label
use Rattle.axiom_laws.proofs.MatchClauses.{query_true}
use Rattle.axiom_laws.proofs.SaysSame.{IsSound, agree}
use Rattle.axiom_laws.proofs.Sound.{found}
use Rattle.log_axioms.specs.Axioms.{axiom_of, is_axiom, is_clause, is_said, lit_says, says_same}
use Rattle.log_axioms.specs.Posed.{AreAnswersOver, Posed}
use Rattle.log_axioms.specs.Truth.{ClauseHolds, HoldsIn, IsLast, IsTop, IsTrueIn, LitHolds, rows_in}
use Rattle.log_axioms.specs.declared.signed.Signed.{Signed}
use Rattle.order_literals.proofs.Sayings.{Tells, negation_sign, negation_var, not_not, told_from, tells}
use Rattle.order_literals.specs.Said.{IsClauseTrue, Said, Says, last, not_last}
use Rattle.order_literals.specs.Truth.{Holds, IsCurrent, IsTrue, IsTruth, StandsLast}
use Rattle.order_literals.specs.declared.wanted.Wanted.{Wanted}
use Rattle.match_clauses.specs.Clauses.{IsCurrentDenied, SaysAnswer}
use Rattle.order_adequacy.proofs.Orders.{IsCase}
use Rattle.order_adequacy.proofs.Saids.{said, said_true}
use Rattle.order_adequacy.specs.Laws.{variables}

-- ---- statements

module _ (relations : List Relation) (c : Rankings) (answers : ℕ → Type 0) where
  made_true : (x : Statement) → IsTrueIn relations c answers x → IsTrue relations c answers x
  made_true (says.Before rel attr a b) t = t
  made_true (says.Top rel attr row) t = by (slice_get relations rel.0) refl t
    where
      by : (o : Option Relation) → slice_get relations rel.0 ≡ o → IsTop c rel.0 attr.0 (rows_in o) row
          → StandsLast relations c rel.0 attr.0 row
      by None at t = absurd (none-some t.ent t.of_entity)
      by (Some r) at t = record { relation = r; is_relation = at; ent = t.ent; of_entity = t.of_entity; is_last = t.is_last }
  made_true (says.Last rel attr row) t = by (slice_get relations rel.0) refl t
    where
      by : (o : Option Relation) → slice_get relations rel.0 ≡ o → IsLast c rel.0 attr.0 (rows_in o) row
          → IsCurrent relations c rel.0 attr.0 row
      by None at t = absurd (none-some t.ent t.of_entity)
      by (Some r) at t = record {
        relation = r;
        is_relation = at;
        ent = t.ent;
        of_entity = t.of_entity;
        value = t.value;
        of_row = t.of_row;
        current = t.current;
      }
  made_true (says.Answer tuple) t = t

  pub judged_true : (x : Statement) → IsTrue relations c answers x → IsTrueIn relations c answers x
  judged_true (says.Before rel attr a b) t = t
  judged_true (says.Top rel attr row) t =
      subst (λ (o : Option Relation). IsTop c rel.0 attr.0 (rows_in o) row) (sym t.is_relation)
      (record { ent = t.ent; of_entity = t.of_entity; is_last = t.is_last })
  judged_true (says.Last rel attr row) t =
      subst (λ (o : Option Relation). IsLast c rel.0 attr.0 (rows_in o) row) (sym t.is_relation)
      (record { ent = t.ent; of_entity = t.of_entity; value = t.value; of_row = t.of_row; current = t.current })
  judged_true (says.Answer tuple) t = t

  holds : (x : Statement) (negative : Bool) → HoldsIn relations c answers (record { statement = x; negative = negative })
      → Holds relations c answers (said x negative)
  holds x false h = made_true x h
  holds x true h = λ t. h (judged_true x t)

  -- ---- literals

  pub lit_holds : (statements : List Statement) (lit : Lit) (x : Said) → Tells statements lit x
      → LitHolds relations c answers statements lit
      → HoldsIn relations c answers (record { statement = x.statement; negative = x.negative })
  lit_holds statements lit x t h =
      let own : HoldsIn relations c answers (record { statement = x.statement; negative = is_negative lit }) = rw t.at at h in
      subst (λ (b : Bool). HoldsIn relations c answers (record { statement = x.statement; negative = b })) t.sign own

  -- a literal that denies a current value is not true
  pub denied_fails : (statements : List Statement) (lit : Lit) → IsCurrentDenied relations c statements lit
      → LitHolds relations c answers statements lit → ⊥
  denied_fails statements lit denied h =
      let t = last_told (negation lit) denied.rel denied.attr denied.row denied.says in
      let own : Tells statements lit (not_last denied.rel denied.attr denied.row) = record {
        at = ap (slice_get statements) (sym (negation_var lit)) ∙ t.at;
        sign = sym (not_not (is_negative lit)) ∙ ap not (sym (negation_sign lit) ∙ t.sign);
      } in
      lit_holds statements lit (not_last denied.rel denied.attr denied.row) own h
      (judged_true (says.Last denied.rel denied.attr denied.row) denied.is_current)
    where
      last_told : (lit : Lit) (rel : RelId) (attr : AttrId) (row : RowId) → Says statements lit (last rel attr row)
          → Tells statements lit (last rel attr row)
      last_told lit rel attr row (inl e) = tells statements lit (last rel attr row) e
      last_told lit rel attr row (inr e) = tells statements lit (last rel attr row) e

-- a literal that says that a tuple is an answer
pub answer_told : (statements : List Statement) (answer : ℕ) (lit : Lit) → SaysAnswer statements answer lit
    → Tells statements lit (said (says.Answer answer) false)
answer_told statements answer lit (inl e) = tells statements lit (said (says.Answer answer) false) e
answer_told statements answer lit (inr e) = tells statements lit (said (says.Answer answer) false) e

-- ---- the literals of an axiom

-- each says a statement
meant : (statements : List Statement) (relations : List Relation) (x : Signed) (lit : Lit)
    → lit_says relations statements x lit ≡ true → (y : Statement) × (slice_get statements (var_of lit) ≡ Some y)
meant statements relations x lit e = by (slice_get statements (var_of lit)) refl e
  where
    by : (o : Option Statement) → slice_get statements (var_of lit) ≡ o
        → is_said relations x (option_map (λ y. record { statement = y; negative = is_negative lit }) o) ≡ true
        → (y : Statement) × (slice_get statements (var_of lit) ≡ Some y)
    by None at e = absurd (false≢true e)
    by (Some y) at e = (y, at)

axiom_meant : (s : Spec) (posed : Posed) (statements : List Statement) (l : Label) (lits : List Lit)
    → is_axiom s posed statements l lits ≡ true → (lit : Lit) → Contains lits lit
    → (y : Statement) × (slice_get statements (var_of lit) ≡ Some y)
axiom_meant s posed statements l lits e lit is_in = by (axiom_of s posed l) refl e
  where
    by : (o : Option (List Signed)) → axiom_of s posed l ≡ o → is_axiom s posed statements l lits ≡ true
        → (y : Statement) × (slice_get statements (var_of lit) ≡ Some y)
    by None is e = let none : false ≡ true = rw is at e in absurd (false≢true none)
    by (Some clause) is e =
        let here : is_clause s.relations statements lits clause ≡ true = rw is at e in
        let says_one : Lit → Bool = λ l. list_any (λ x. lit_says s.relations statements x l) clause in
        let parts = and_parts (list_all says_one lits) (list_all (λ x. list_any (lit_says s.relations statements x) lits) clause)
        here in
        let one = All-contains (λ l. says_one l ≡ true) lits lit (AllPass-from_list_all says_one lits parts.0) is_in in
        let signed = found (λ x. lit_says s.relations statements x lit) clause one in
        meant statements s.relations signed.0 lit signed.2

-- a literal that says the same as what holds is true for the judge
lit_told : (relations : List Relation) (c : Rankings) (answers : ℕ → Type 0) (statements : List Statement) (x : Signed)
    (lit : Lit) → IsCompletion relations c → IsSound relations x → HoldsIn relations c answers x
    → lit_says relations statements x lit ≡ true → LitHolds relations c answers statements lit
lit_told relations c answers statements x lit completion sound holds e =
    let of = meant statements relations x lit e in
    let own : Signed = record { statement = of.0; negative = is_negative lit } in
    let same : says_same relations own x ≡ true = rw of.1 at e in
    rw of.1 (agree relations c answers own x completion same sound holds)

-- the axiom of a match is true for the judge in any completion, where the answers over it are answers
pub match_holds : (s : Spec) (posed : Posed) (c : Rankings) (answers : ℕ → Type 0) → IsCompletion s.relations c
    → AreAnswersOver s.relations posed c answers → (statements : List Statement) (disjunct : ℕ) (entities : List EntId)
    (values : List Value) (lits : List Lit) → is_axiom s posed statements (label.Match disjunct entities values) lits ≡ true
    → ClauseHolds s.relations c answers statements lits
match_holds s posed c answers completion over statements disjunct entities values lits e =
    by (axiom_of s posed (label.Match disjunct entities values)) refl e
  where
    says_it : Signed → Bool
    says_it x = list_any (lit_says s.relations statements x) lits

    by : (o : Option (List Signed)) → axiom_of s posed (label.Match disjunct entities values) ≡ o
        → is_axiom s posed statements (label.Match disjunct entities values) lits ≡ true
        → ClauseHolds s.relations c answers statements lits
    by None is e = let none : false ≡ true = rw is at e in absurd (false≢true none)
    by (Some clause) is e =
        let here : is_clause s.relations statements lits clause ≡ true = rw is at e in
        let t = query_true s.relations c answers posed over disjunct entities values clause posed.query refl is in
        let parts = and_parts (list_all (λ l. list_any (λ x. lit_says s.relations statements x l) clause) lits)
        (list_all says_it clause) here in
        let one = All-contains (λ x. says_it x ≡ true) clause t.member (AllPass-from_list_all says_it clause parts.1) t.is_in in
        let lit = found (lit_says s.relations statements t.member) lits one in
        record {
          lit = lit.0;
          is_in = lit.1;
          is_true = lit_told s.relations c answers statements t.member lit.0 completion t.sound t.holds lit.2;
        }

-- where the judge takes the clause of an axiom for true, it is true
pub clause_true : (s : Spec) (wanted : Wanted) (posed : Posed) (c : Rankings) (answers : ℕ → Type 0) (truths : List Bool)
    → IsCase s.relations c → IsTruth s.relations c answers (variables s wanted) truths
    → (l : Label) (lits : List Lit) → is_axiom s posed (variables s wanted) l lits ≡ true
    → ClauseHolds s.relations c answers (variables s wanted) lits → IsClauseTrue truths lits
clause_true s wanted posed c answers truths is truth l lits e clause =
    let of = axiom_meant s posed (variables s wanted) l lits e clause.lit clause.is_in in
    let sign = is_negative clause.lit in
    let told : Tells (variables s wanted) clause.lit (said of.0 sign) = record { at = of.1; sign = refl } in
    let told_by = told_from (variables s wanted) clause.lit (said of.0 sign) told in
    record {
      lit = clause.lit;
      is_in = clause.is_in;
      is_true = said_true s wanted c answers truths clause.lit of.0 sign is truth (inl told_by)
          (holds s.relations c answers of.0 sign
          (lit_holds s.relations c answers (variables s wanted) clause.lit (said of.0 sign) told clause.is_true));
    }
