-- An assignment that makes the asked axioms true and ranks the rows: what it says of their order is so, and the ranking is
-- consistent.
use Rattle.std.proofs.Common.{◌≡◌, ◌≢◌, ◌⊎◌, ◌∙◌, ℕ, Bool, true, false, List, [], ◌∷◌, All, Contains, Option, Some, None, map, slice_get, slice_index_or, refl, sym, ap, subst, inl, inr, ⊎_elim}
use Rattle.std.proofs.lemmas.List.Elements.{All-contains, Contains-append_cases}
use Rattle.std.proofs.lemmas.Option.{same_Some}
use Rattle.currency_base.specs.declared.ids.AttrId.{AttrId}
use Rattle.currency_base.specs.declared.ids.CopyId.{CopyId}
use Rattle.currency_base.specs.declared.ids.RelId.{RelId}
use Rattle.currency_base.specs.declared.ids.RowId.{RowId}
use Rattle.currency_base.specs.declared.ids.RuleId.{RuleId}
use Rattle.currency_base.specs.declared.pair.Pair.{Pair}
use Rattle.completion_build.specs.Ranked.{IsRankedBy}
use Rattle.copy_functions.specs.Copies.{CopyFunction, source_at}
use Rattle.denial_rules.specs.declared.instance.RuleInstance.{RuleInstance}
use Rattle.denial_rules.specs.declared.rule.Rule.{Rule}
use Rattle.order_literals.proofs.Deciding.{said_exclude}
use Rattle.order_literals.proofs.Items.{in_contained}
use Rattle.order_adequacy.specs.Laws.{variables}
use Rattle.order_clauses.specs.Clauses.{IsAsked}
use Rattle.order_literals.specs.Axioms.{AreTwo, conclusion_clause, instance_clause, IsCopyAxiom, IsAxiom}
use Rattle.order_literals.specs.Numbers.{numbers_of}
use Rattle.order_literals.specs.Said.{Said, before, not_before, IsSaidTrue}
use Rattle.order_literals.specs.declared.wanted.Wanted.{Wanted}
use Rattle.refutation_log.specs.declared.statement.Statement.{Statement}
use Rattle.refutation_log.specs.declared.statement.Statement.TheVariants as says
use Rattle.refutation_log.specs.declared.step.Label.{Label}
use Rattle.refutation_log.specs.declared.step.Label.TheVariants as label
use Rattle.rule_laws.specs.Holds.{PairHolds, ConcludedHolds, InstancesHold}
use Rattle.spec_model.specs.Compatible.{AreCopiedTogether}
use Rattle.spec_model.specs.Completion.{Rankings, lists_of, Before}
use Rattle.spec_model.specs.Consistent.{KeepsGiven, SatisfiesRules, IsCompatibleWith, IsConsistent}
use Rattle.spec_model.specs.Facts.{IsSpecification}
use Rattle.spec_model.specs.Spec.{Spec}
use Rattle.spec_model.specs.declared.relation.Relation.{Relation}
use Rattle.order_adequacy.proofs.Lists.{front_or_later, in_mapped}
use Rattle.order_adequacy.proofs.OneClause.{OneIsTrue}
use Rattle.order_adequacy.proofs.OrderAxioms.{RulesByInstances}
use Rattle.order_adequacy.proofs.Orders.{IsCase, pair_before, not_itself}
use Rattle.order_adequacy.proofs.Saids.{said, says_paired}

-- an assignment of the statements that makes each asked axiom true, and a ranking that it says
pub record IsAssigned (s : Spec) (wanted : Wanted) (truths : List Bool) (c : Rankings) : Type 0 where
  pub by_instances : RulesByInstances
  pub facts : IsSpecification s
  pub asked : (l : Label) (clause : List Said) → IsAxiom s l clause → IsAsked s wanted.currents l
      → OneIsTrue (variables s wanted) truths clause
  pub ranked : IsRankedBy s.relations (variables s wanted) truths c

-- what is true under the assignment
abbrev pub Put : Spec → Wanted → List Bool → Said → Type 0
Put s wanted truths x = IsSaidTrue (variables s wanted) truths x

pub case_is : (s : Spec) (wanted : Wanted) (truths : List Bool) (c : Rankings) → IsAssigned s wanted truths c
    → IsCase s.relations c
case_is s wanted truths c m = record { facts = m.facts.relations; completion = m.ranked.completion }

-- ---- clauses

-- of a clause of which one is true, the first or one of the others is
pub first_or_later : (s : Spec) (wanted : Wanted) (truths : List Bool) (x : Said) (xs : List Said)
    → OneIsTrue (variables s wanted) truths (x ∷ xs)
    → Put s wanted truths x ⊎ OneIsTrue (variables s wanted) truths xs
first_or_later s wanted truths x xs t =
    ⊎_elim
    (λ (same : x ≡ t.one). inl (subst (Put s wanted truths) (sym same) t.is_true))
    (λ (later : Contains xs t.one). inr record { one = t.one; is_in = later; is_true = t.is_true })
    (front_or_later x t.one xs t.is_in)

pub none_true : (s : Spec) (wanted : Wanted) (truths : List Bool) → OneIsTrue (variables s wanted) truths [] → ⊥
none_true s wanted truths t = in_contained [] t.one t.is_in

pub only_first : (s : Spec) (wanted : Wanted) (truths : List Bool) (x : Said) → OneIsTrue (variables s wanted) truths
    (x ∷ []) → Put s wanted truths x
only_first s wanted truths x t =
    ⊎_elim (λ (h : Put s wanted truths x). h) (λ (n : OneIsTrue (variables s wanted) truths []). absurd
    (none_true s wanted truths n))
    (first_or_later s wanted truths x [] t)

-- of a clause of two of which the first is false the second is true
pub second_of_two : (s : Spec) (wanted : Wanted) (truths : List Bool) (x y : Said) → (Put s wanted truths x → ⊥)
    → OneIsTrue (variables s wanted) truths (x ∷ y ∷ []) → Put s wanted truths y
second_of_two s wanted truths x y never t =
    ⊎_elim (λ (h : Put s wanted truths x). absurd (never h))
    (λ (later : OneIsTrue (variables s wanted) truths (y ∷ [])). only_first s wanted truths y later)
    (first_or_later s wanted truths x (y ∷ []) t)

-- of a list of what a function makes of items one is true
pub mapped_true : {A : Type 0} (s : Spec) (wanted : Wanted) (truths : List Bool) (f : A → Said) (xs : List A)
    → OneIsTrue (variables s wanted) truths (map f xs) → (x : A) × Contains xs x × Put s wanted truths (f x)
mapped_true s wanted truths f xs t =
    let found = in_mapped f xs t.one t.is_in in
    (found.0, found.1, subst (Put s wanted truths) (sym found.2) t.is_true)

pub contrary : (s : Spec) (wanted : Wanted) (truths : List Bool) (c : Rankings) (x : Statement) → IsAssigned s wanted truths c
    → Put s wanted truths (said x false) → Put s wanted truths (said x true) → ⊥
contrary s wanted truths c x m h n = said_exclude (numbers_of s.relations wanted) truths (said x false) h n

-- ---- the order of rows

-- rows that are put in an order stand in it
pub stands_so : (s : Spec) (wanted : Wanted) (truths : List Bool) (c : Rankings) (rel : RelId) (attr : AttrId)
    (a b : RowId) → IsAssigned s wanted truths c
    → Put s wanted truths (before rel attr a b) → Before (lists_of c rel.0 attr.0) a b
stands_so s wanted truths c rel attr a b m put =
    let pair = says_paired s wanted put.lit (says.Before rel attr a b) false put.says in
    m.ranked.stands rel attr pair.relation pair.is_relation pair.attr_in a b put

-- rows that stand in an order are put in it
pub put_so : (s : Spec) (wanted : Wanted) (truths : List Bool) (c : Rankings) (rel : RelId) (attr : AttrId)
    (a b : RowId) → IsAssigned s wanted truths c
    → Before (lists_of c rel.0 attr.0) a b → Put s wanted truths (before rel attr a b)
put_so s wanted truths c rel attr a b m h =
    let pair = pair_before s.relations c rel.0 attr.0 a b m.ranked.completion h in
    m.ranked.said rel attr pair.relation pair.is_relation pair.attr_in a b h

-- and the contrary is not put
pub not_put : (s : Spec) (wanted : Wanted) (truths : List Bool) (c : Rankings) (rel : RelId) (attr : AttrId)
    (a b : RowId) → IsAssigned s wanted truths c
    → Before (lists_of c rel.0 attr.0) a b → Put s wanted truths (not_before rel attr a b) → ⊥
not_put s wanted truths c rel attr a b m h n = contrary s wanted truths c (says.Before rel attr a b) m
    (put_so s wanted truths c rel attr a b m h) n

-- ---- given pairs

given_kept : (s : Spec) (wanted : Wanted) (truths : List Bool) (c : Rankings) → IsAssigned s wanted truths c
    → KeepsGiven s.relations c
given_kept s wanted truths c m rel r at p given =
    let id : RelId = record { 0 = rel } in
    let clause = before id p.attr p.earlier p.later ∷ [] in
    let one = m.asked (label.Given id p.attr p.earlier p.later) clause (r, at, (given, refl)) tt in
    stands_so s wanted truths c id p.attr p.earlier p.later m
    (only_first s wanted truths (before id p.attr p.earlier p.later) one)

-- ---- rules

instance_holds : (s : Spec) (wanted : Wanted) (truths : List Bool) (c : Rankings) (rel : RelId) (i : RuleInstance)
    → IsAssigned s wanted truths c
    → OneIsTrue (variables s wanted) truths (instance_clause rel i) → All (PairHolds (slice_index_or c rel.0 [])) i.premises
    → ConcludedHolds (slice_index_or c rel.0 []) i.conclusion
instance_holds s wanted truths c rel i m t all =
    ⊎_elim
    (λ (front : Contains (map (λ (p : Pair). not_before rel p.attr p.earlier p.later) i.premises) t.one).
    let premise = mapped_true s wanted truths (λ (p : Pair). not_before rel p.attr p.earlier p.later) i.premises
    record { one = t.one; is_in = front; is_true = t.is_true } in
    let p = premise.0 in
    absurd (not_put s wanted truths c rel p.attr p.earlier p.later m
    (All-contains (PairHolds (slice_index_or c rel.0 [])) i.premises p all premise.1) premise.2))
    (λ (back : Contains (conclusion_clause rel i.conclusion) t.one). concluding i.conclusion
    record { one = t.one; is_in = back; is_true = t.is_true })
    (Contains-append_cases (map (λ (p : Pair). not_before rel p.attr p.earlier p.later) i.premises)
    (conclusion_clause rel i.conclusion) t.one t.is_in)
  where
    concluding : (o : Option Pair) → OneIsTrue (variables s wanted) truths (conclusion_clause rel o) → ConcludedHolds
        (slice_index_or c rel.0 []) o
    concluding None t = absurd (none_true s wanted truths t)
    concluding (Some p) t =
        stands_so s wanted truths c rel p.attr p.earlier p.later m
        (only_first s wanted truths (before rel p.attr p.earlier p.later) t)

rules_satisfied : (s : Spec) (wanted : Wanted) (truths : List Bool) (c : Rankings) → IsAssigned s wanted truths c
    → SatisfiesRules s.relations s.rules c
rules_satisfied s wanted truths c m k rule at r at_r =
    let both = m.by_instances s c m.facts.rules m.ranked.completion k rule at r at_r in
    both.1 (hold k rule at r at_r)
  where
    hold : (k : ℕ) (rule : Rule) → slice_get s.rules k ≡ Some rule → (r : Relation) → slice_get s.relations
        rule.relation.0 ≡ Some r
        → InstancesHold r.rows (slice_index_or c rule.relation.0 []) rule
    hold k rule at r at_r rows choice i is all =
        let id : RuleId = record { 0 = k } in
        let one = m.asked (label.Rule id rows) (instance_clause rule.relation i)
        (rule, at, (r, at_r, (choice, i, is, refl))) tt in
        instance_holds s wanted truths c rule.relation i m one all

-- ---- copied rows

-- two rows whose sources differ differ
sources_differ : (copy : CopyFunction) (target source : Relation) (first second : RowId)
    → (rows : AreCopiedTogether copy target.rows source.rows first second) → first ≡ second → rows.first_source ≡
    rows.second_source
sources_differ copy target source first second rows same =
    same_Some rows.first_source rows.second_source
    (sym rows.first_is ∙ (ap (source_at copy) same ∙ rows.second_is))

copies_kept : (s : Spec) (wanted : Wanted) (truths : List Bool) (c : Rankings) → IsAssigned s wanted truths c
    → IsCompatibleWith s.relations s.copies c
copies_kept s wanted truths c m k copy at target source is_target is_source place_at place is_place first second rows h =
    let id : CopyId = record { 0 = k } in
    let apart : rows.first_source ≢ rows.second_source =
    not_itself s.relations c copy.source.0 place.source.0 rows.first_source rows.second_source m.ranked.completion h in
    let targets : AreTwo target.rows first second = record {
      ent = rows.ent;
      a_of = rows.first_of;
      b_of = rows.second_of;
      differ = λ same. apart (sources_differ copy target source first second rows same);
    } in
    let sources : AreTwo source.rows rows.first_source rows.second_source =
    record { ent = rows.source_ent; a_of = rows.first_source_of; b_of = rows.second_source_of; differ = apart } in
    let denied = not_before copy.source place.source rows.first_source rows.second_source in
    let kept = before copy.target place.target first second in
    let is : IsCopyAxiom s copy place_at first second (denied ∷ kept ∷ []) = record {
      target = target;
      source = source;
      is_target = is_target;
      is_source = is_source;
      at = place;
      is_place = is_place;
      first_source = rows.first_source;
      second_source = rows.second_source;
      first_from = rows.first_is;
      second_from = rows.second_is;
      targets = targets;
      sources = sources;
      clause_is = refl;
    } in
    let one = m.asked (label.Copy id place_at first second) (denied ∷ kept ∷ []) (copy, at, is) tt in
    stands_so s wanted truths c copy.target place.target first second m
    (second_of_two s wanted truths denied kept
    (not_put s wanted truths c copy.source place.source rows.first_source rows.second_source m h) one)

-- ---- all of them

pub consistent : (s : Spec) (wanted : Wanted) (truths : List Bool) (c : Rankings) → IsAssigned s wanted truths c
    → IsConsistent s c
consistent s wanted truths c m = record {
  completion = m.ranked.completion;
  given = given_kept s wanted truths c m;
  rules = rules_satisfied s wanted truths c m;
  copies = copies_kept s wanted truths c m;
}
