-- The axioms on three rows of a list, where they are true, put its rows in an order.
use Rattle.std.proofs.Common.{◌≡◌, ◌⊎◌, ℕ, Bool, List, [], ◌∷◌, All, Contains, Some, length, refl, sym, ap, subst, inl, inr, ⊎_elim}
use Rattle.std.proofs.lemmas.Bool.{cases_eq}
use Rattle.std.proofs.lemmas.List.Elements.{All-contains}
use Rattle.currency_base.specs.declared.ids.AttrId.{AttrId}
use Rattle.currency_base.specs.declared.ids.RelId.{RelId}
use Rattle.currency_base.specs.declared.ids.RowId.{RowId}
use Rattle.entity_lists.specs.Lists.{entities_of, rows_of}
use Rattle.partial_orders.specs.Pairs.{entity_of}
use Rattle.spec_model.specs.Spec.{Spec}
use Rattle.spec_model.specs.declared.relation.Relation.{Relation}
use Rattle.refutation_log.specs.Steps.{clause_of, clauses_of}
use Rattle.refutation_log.specs.declared.statement.Statement.{Statement}
use Rattle.refutation_log.specs.declared.step.Step.{Step}
use Rattle.refutation_log.specs.declared.step.Step.TheVariants as step
use Rattle.order_literals.proofs.Callers.{pair_of}
use Rattle.order_literals.proofs.Deciding.{pair_decided, pair_exclude, said_exclude}
use Rattle.order_literals.proofs.Items.{contained, in_contained, in_map}
use Rattle.order_literals.proofs.RowLaws.{row_is}
use Rattle.order_literals.specs.Axioms.{AreTwo}
use Rattle.order_literals.specs.Numbers.{Numbers, numbers_of}
use Rattle.order_literals.specs.Said.{Said, before, not_before, IsClauseTrue, IsSaidTrue}
use Rattle.order_literals.specs.Statements.{statements_of}
use Rattle.order_literals.specs.declared.wanted.Wanted.{Wanted}
use Rattle.order_clauses.specs.Clauses.{AreTransitive, SaysOneOf, StandsAmong}
use Rattle.completion_build.proofs.Leading.{entity_is, is_ranking}
use Rattle.completion_build.specs.Judged.{IsOrdered}
use Rattle.completion_build.specs.Places.{contest_of}
use Rattle.order_adequacy.proofs.OneClause.{OneIsTrue}
use Rattle.order_adequacy.specs.Laws.{variables}
use Rattle.axiom_models.specs.Models.{IsListIn, IsOrderOf}
use Rattle.axiom_models.proofs.RowOrders.{LeadsOn, row_order}

-- of a clause that stands among steps whose clauses are true one is true
stands_true : (statements : List Statement) (truths : List Bool) (steps : List Step) (clause : List Said)
    → All (IsClauseTrue truths) (clauses_of steps) → StandsAmong statements steps clause → OneIsTrue statements truths clause
stands_true statements truths steps clause all stands =
    let taken : Step = step.Axiom stands.label stands.lits in
    let listed : Contains (clauses_of steps) stands.lits = contained (clauses_of steps) stands.lits
    (in_map clause_of steps taken (in_contained steps taken stands.is_in)) in
    let chosen = All-contains (IsClauseTrue truths) (clauses_of steps) stands.lits all listed in
    let said = All-contains (SaysOneOf statements clause) stands.lits chosen.lit stands.are_lits.each chosen.is_in in
    record {
      one = said.said;
      is_in = said.is_in;
      is_true = record { lit = chosen.lit; says = said.says; is_true = chosen.is_true };
    }

-- where the clause on three rows is true, the first is put before the third if it is before the second, and this before the third
third_put : (n : Numbers) (truths : List Bool) (rel : RelId) (attr : AttrId) (a b c : RowId)
    → OneIsTrue (statements_of n) truths (not_before rel attr a b ∷ not_before rel attr b c ∷ before rel attr a c ∷ [])
    → IsSaidTrue (statements_of n) truths (before rel attr a b) → IsSaidTrue (statements_of n) truths (before rel attr b c)
    → IsSaidTrue (statements_of n) truths (before rel attr a c)
third_put n truths rel attr a b c t first second =
    by (in_contained (not_before rel attr a b ∷ not_before rel attr b c ∷ before rel attr a c ∷ []) t.one t.is_in)
  where
    by : (not_before rel attr a b ≡ t.one) ⊎ ((not_before rel attr b c ≡ t.one) ⊎ ((before rel attr a c ≡ t.one) ⊎ ⊥))
        → IsSaidTrue (statements_of n) truths (before rel attr a c)
    by (inl e) = absurd (said_exclude n truths (before rel attr a b) first
        (subst (IsSaidTrue (statements_of n) truths) (sym e) t.is_true))
    by (inr (inl e)) = absurd (said_exclude n truths (before rel attr b c) second
        (subst (IsSaidTrue (statements_of n) truths) (sym e) t.is_true))
    by (inr (inr (inl e))) = subst (IsSaidTrue (statements_of n) truths) (sym e) t.is_true
    by (inr (inr (inr none))) = absurd none

module _ (s : Spec) (wanted : Wanted) (truths : List Bool) (long : length truths ≡ length (variables s wanted))
    (rel : RelId) (attr : AttrId) (ent : ℕ) (r : Relation) (is : IsListIn s rel attr ent r) (steps : List Step)
    (are : AreTransitive s (variables s wanted) rel attr ent steps) (all : All (IsClauseTrue truths) (clauses_of steps)) where
  numbers : Numbers
  numbers = numbers_of s.relations wanted

  -- a row of the list
  abbrev IsRow : RowId → Type 0
  IsRow row = entity_of r.rows row.0 ≡ Some ent

  -- the assignment puts one row before another
  abbrev IsBefore : RowId → RowId → Type 0
  IsBefore t u = IsSaidTrue (variables s wanted) truths (before rel attr t u)

  never : (t : RowId) → IsBefore t t → ⊥
  never t put = pair_exclude (numbers_of s.relations wanted) truths rel attr t t put put

  two_of : (t u : RowId) → IsRow t → IsRow u → IsBefore t u → AreTwo r.rows t u
  two_of t u of_t of_u put =
      record { ent = ent; a_of = of_t; b_of = of_u; differ = λ e. never u (subst (λ (x : RowId). IsBefore x u) e put) }

  leads_on : LeadsOn IsRow IsBefore
  leads_on = record {
    either = λ t u of_t of_u differ.
        pair_decided (numbers_of s.relations wanted) truths long rel attr t u
        (pair_of s.relations wanted rel.0 attr.0 t u r is.is_relation is.attr_within
        (record { ent = ent; a_of = of_t; b_of = of_u; differ = differ }));
    never = never;
    on = λ t u v of_t of_u of_v first second.
        ⊎_elim
        (λ (same : t.0 ≡ v.0).
        absurd (pair_exclude (numbers_of s.relations wanted) truths rel attr t u first
        (subst (λ (x : RowId). IsBefore u x) (sym (row_is t v same)) second)))
        (λ (differ : t.0 ≡ v.0 → ⊥).
        let outer : AreTwo r.rows t v =
        record { ent = ent; a_of = of_t; b_of = of_v; differ = λ e. differ (ap (λ (x : RowId). x.0) e) } in
        let clause = not_before rel attr t u ∷ not_before rel attr u v ∷ before rel attr t v ∷ [] in
        let stands = are.all r is.is_relation t u v of_t clause
        (r, is.is_relation, (is.attr_within, two_of t u of_t of_u first, two_of u v of_u of_v second, outer, refl)) in
        third_put (numbers_of s.relations wanted) truths rel attr t u v
        (stands_true (variables s wanted) truths steps clause all stands) first second)
        (cases_eq t.0 v.0);
  }

  rows : List RowId
  rows = rows_of (entities_of r.rows) ent

  pub list_ordered : (list : List RowId) × IsOrdered (contest_of (numbers_of s.relations wanted) truths rel attr r ent) list
  list_ordered =
      let list = rows_of (entities_of r.rows) ent in
      let found = row_order IsRow IsBefore leads_on list (λ x at. entity_is r.rows ent x (contained list x at)) in (
        found.0,
        record {
          only = λ row at. contained list row (found.1.only row (in_contained found.0 row at));
          all = λ row at. contained found.0 row (found.1.all row (in_contained list row at));
          once = found.1.once;
          put = found.1.put;
        },
      )

  pub list_order : (list : List RowId) × IsOrderOf s wanted truths rel attr ent r list
  list_order = (
    list_ordered.0,
    record {
      ranking = is_ranking pair_exclude (numbers_of s.relations wanted) truths rel attr r ent list_ordered.0 list_ordered.1;
      put = list_ordered.1.put;
    },
  )
