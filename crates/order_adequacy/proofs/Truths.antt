-- The truth of the statements in a consistent completion makes every axiom true, and is the truth in no other.
use Rattle.std.proofs.Common.{◌≡◌, ℕ, zero, suc, Bool, true, false, not, List, [], ◌∷◌, Some, length, slice_get, refl, ap, subst, inl, inr, ⊎_elim}
use Rattle.std.proofs.lemmas.List.Elements.{All-contains}
use Rattle.std.proofs.lemmas.Option.{same_Some, none-some}
use Rattle.currency_base.specs.declared.ids.AttrId.{AttrId}
use Rattle.currency_base.specs.declared.ids.RelId.{RelId}
use Rattle.currency_base.specs.declared.ids.RowId.{RowId}
use Rattle.order_literals.proofs.Deciding.{pair_decided}
use Rattle.order_adequacy.specs.Laws.{TruthsAreModelsOver, TruthsRankOver, ModelsAreOneOver, RankingsAreOne, variables}
use Rattle.order_clauses.specs.Clauses.{IsSaidByOne}
use Rattle.order_literals.proofs.Callers.{pair_of}
use Rattle.order_literals.specs.Numbers.{numbers_of}
use Rattle.order_literals.specs.Said.{before, IsSaidTrue}
use Rattle.order_literals.specs.Truth.{IsTrue, Holds, IsTruth}
use Rattle.order_literals.specs.declared.wanted.Wanted.{Wanted}
use Rattle.refutation_log.specs.declared.statement.Statement.{Statement}
use Rattle.refutation_log.specs.declared.statement.Statement.TheVariants as says
use Rattle.spec_model.specs.Completion.{Rankings, lists_of, Before}
use Rattle.spec_model.specs.Spec.{Spec}
use Rattle.spec_model.specs.declared.relation.Relation.{Relation}
use Rattle.order_adequacy.proofs.Chosen.{stands_or, current_or}
use Rattle.order_adequacy.proofs.Decided.{Decided, before_or}
use Rattle.order_adequacy.proofs.OrderAxioms.{RulesByInstances}
use Rattle.order_adequacy.proofs.Orders.{IsCase, not_both, pair_before}
use Rattle.order_adequacy.proofs.Saids.{said, said_true, said_holds}
use Rattle.order_adequacy.proofs.SameOrders.{KeepsOrder, same_completion}
use Rattle.order_adequacy.proofs.Sound.{case_of, axiom_true}

one_more : (m n : ℕ) → m ≡ n → suc m ≡ suc n
one_more m n e = ap (λ (k : ℕ). suc k) e

pub truths_are_models : RulesByInstances → (answers : ℕ → Type 0) → TruthsAreModelsOver answers
truths_are_models by_instances answers s wanted facts c consistent truths truth l lits step is =
    let one = axiom_true by_instances answers s facts c consistent l is.clause is.is_axiom in
    let by_one = All-contains (IsSaidByOne (variables s wanted) lits) is.clause one.said is.are_lits.all one.is_in in
    record {
      lit = by_one.lit;
      is_in = by_one.is_in;
      is_true =
          said_true s wanted c answers truths by_one.lit one.said.statement one.said.negative
          (case_of s c facts consistent) truth by_one.says one.holds;
    }

-- ---- the order that the truths say

-- what stands before a row is put before it
put_before : (s : Spec) (wanted : Wanted) (c : Rankings) (answers : ℕ → Type 0) (truths : List Bool) (rel : RelId)
    (attr : AttrId) (a b : RowId)
    → IsCase s.relations c → IsTruth s.relations c answers (variables s wanted) truths → Before (lists_of c rel.0 attr.0) a b
    → IsSaidTrue (variables s wanted) truths (before rel attr a b)
put_before s wanted c answers truths rel attr a b is truth h =
    let two = pair_before s.relations c rel.0 attr.0 a b is.completion h in
    let pair = pair_of s.relations wanted rel.0 attr.0 a b two.relation two.is_relation two.attr_in two.two in
    ⊎_elim
    (λ (put : IsSaidTrue (variables s wanted) truths (before rel attr a b)). put)
    (λ (put : IsSaidTrue (variables s wanted) truths (before rel attr b a)).
    absurd (not_both s.relations c rel.0 attr.0 a b is.completion h
    (said_holds s wanted c answers truths (says.Before rel attr b a) false is truth put)))
    (pair_decided (numbers_of s.relations wanted) truths truth.per_variable rel attr a b pair)

pub truths_rank : (answers : ℕ → Type 0) → TruthsRankOver answers
truths_rank answers s wanted facts c completion truths truth =
    let is : IsCase s.relations c = record { facts = facts.relations; completion = completion } in
    record {
      completion = completion;
      said = λ rel attr r at inside a b h. put_before s wanted c answers truths rel attr a b is truth h;
      stands = λ rel attr r at inside a b put. said_holds s wanted c answers truths (says.Before rel attr a b) false is truth put;
    }

-- ---- one completion

pub rankings_are_one : RankingsAreOne
rankings_are_one relations statements truths c d is is' = same_completion relations c d is.completion is'.completion keeps
  where
    keeps : KeepsOrder relations c d
    keeps rel attr a b h =
        let pair = pair_before relations c rel attr a b is.completion h in
        let put = is.said (record { 0 = rel }) (record { 0 = attr }) pair.relation pair.is_relation pair.attr_in a b h in
        is'.stands (record { 0 = rel }) (record { 0 = attr }) pair.relation pair.is_relation pair.attr_in a b put

pub models_are_one : (answers others : ℕ → Type 0) → ModelsAreOneOver answers others
models_are_one answers others s wanted facts truths c d consistent truth consistent' truth' =
    rankings_are_one s.relations (variables s wanted) truths c d
    (truths_rank answers s wanted facts c consistent.completion truths truth)
    (truths_rank others s wanted facts d consistent'.completion truths truth')

-- ---- there is a truth

-- a truth of which the statement is as it says
true_or_false : (relations : List Relation) (c : Rankings) (answers : ℕ → Type 0) (s : Statement)
    → Decided (IsTrue relations c answers s)
    → (truth : Bool) × Holds relations c answers (said s (not truth))
true_or_false relations c answers s (inl holds) = (true, holds)
true_or_false relations c answers s (inr never) = (false, never)

true_or : (relations : List Relation) (c : Rankings) (answers : ℕ → Type 0) → ((tuple : ℕ) → Decided (answers tuple))
    → (s : Statement)
    → Decided (IsTrue relations c answers s)
true_or relations c answers each (says.Before rel attr a b) = before_or (lists_of c rel.0 attr.0) a b
true_or relations c answers each (says.Top rel attr row) = stands_or relations c rel.0 attr.0 row
true_or relations c answers each (says.Last rel attr row) = current_or relations c rel.0 attr.0 row
true_or relations c answers each (says.Answer tuple) = each tuple

pub truth_there : (answers : ℕ → Type 0) → ((tuple : ℕ) → Decided (answers tuple)) → (relations : List Relation)
    (c : Rankings) (statements : List Statement)
    → (truths : List Bool) × IsTruth relations c answers statements truths
truth_there answers each relations c [] =
    ([], record { per_variable = refl; each = λ var s truth at is. absurd (none-some s at) })
truth_there answers each relations c (s ∷ statements) =
    by (true_or_false relations c answers s (true_or relations c answers each s))
    (truth_there answers each relations c statements)
  where
    places : (t : Bool) (truths : List Bool) → Holds relations c answers (said s (not t)) → IsTruth relations c
        answers statements truths
        → (var : ℕ) (x : Statement) (truth : Bool) → slice_get (s ∷ statements) var ≡ Some x → slice_get (t ∷ truths)
        var ≡ Some truth
        → Holds relations c answers (said x (not truth))
    places t truths holds rest zero x truth at is =
        subst (λ (b : Bool). Holds relations c answers (said x (not b))) (same_Some t truth is)
        (subst (λ (y : Statement). Holds relations c answers (said y (not t))) (same_Some s x at) holds)
    places t truths holds rest (suc var) x truth at is = rest.each var x truth at is

    by : (t : Bool) × Holds relations c answers (said s (not t)) → (truths : List Bool) × IsTruth relations c answers
        statements truths
        → (truths : List Bool) × IsTruth relations c answers (s ∷ statements) truths
    by (t, holds) (truths, rest) = (
      t ∷ truths,
      record {
        per_variable = one_more (length truths) (length statements) rest.per_variable;
        each =
            places t truths holds rest;
      },
    )
