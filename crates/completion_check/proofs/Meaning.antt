-- What the places of rows say of the lists that they are places in.
use Rattle.std.proofs.Common.{◌≡◌, ◌<◌, ◌∙◌, ℕ, zero, suc, Bool, true, false, not, ◌&&◌, List, [], ◌∷◌, get_or, All, Option, Some, None, length, slice_get, slice_index, slice_index_or, refl, sym, ap, subst, arith}
use Rattle.std.specs.List.{list_all}
use Rattle.std.proofs.lemmas.Bool.{ltb-true, lt-ltb}
use Rattle.std.proofs.lemmas.Option.{same_Some, none-some, slice_get-get_or}
use Rattle.std.proofs.lemmas.List.{length-map}
use Rattle.partial_orders.specs.Pairs.{entity_of}
use Rattle.currency_base.specs.declared.ids.RowId.{RowId}
use Rattle.currency_base.specs.declared.pair.Pair.{Pair}
use Rattle.currency_base.specs.declared.row.Row.{Row}
use Rattle.denial_rules.specs.declared.rule.Conclusion.{Conclusion}
use Rattle.denial_rules.specs.declared.rule.Conclusion.TheVariants as conclusion
use Rattle.denial_rules.specs.declared.rule.Predicate.{Predicate}
use Rattle.denial_rules.specs.declared.rule.Predicate.TheVariants.{Order, Compare}
use Rattle.denial_rules.specs.declared.rule.Rule.{Rule}
use Rattle.denial_rules.specs.Rules.{IsPredicate, IsConclusion, IsRuleOn}
use Rattle.spec_model.specs.Facts.{IsRelation, IsGivenPair, kinds_of}
use Rattle.spec_model.specs.Completion.{Before}
use Rattle.spec_model.specs.Satisfies.{Lists, IsChoice, StandsBefore, PredicateHolds, ConclusionHolds, IsSatisfiedBy, IsBrokenBy}
use Rattle.spec_model.specs.declared.relation.Relation.{Relation}
use Rattle.completion_check.specs.Relations.{FitsRelation, IsRanked, AreAllMarked, IsInOrder, Keeps}
use Rattle.completion_check.specs.Tests.{Places, is_before, predicate_test, conclusion_test, breaks}
use Rattle.completion_check.specs.Breaks.{breaks_it, tried}
use Rattle.completion_check.proofs.Fronts.{list_all_true}
use Rattle.completion_check.proofs.Kept.{all_at, entity_within, before_from, below_from}
use Rattle.completion_check.proofs.Places.{row_within}

-- a relation whose lists are rankings, and the places of its rows in them
pub record IsScene (r : Relation) (lists : Lists) (places : Places) : Type 0 where
  pub facts : IsRelation r
  pub fits : FitsRelation r lists
  pub ranked : IsRanked r lists
  pub marked : AreAllMarked r lists places

entity_is : (r : Relation) (row ent : ℕ) → IsRelation r → entity_of r.rows row ≡ Some ent → ent < length r.entities
entity_is r row ent facts of =
    let e = entity_within r.rows (length r.entities) row facts.entities (row_within r.rows row ent of) in
    let same : e.0 ≡ ent = same_Some e.0 ent (sym e.2 ∙ of) in
    subst (λ n. n < length r.entities) same e.1

-- of two rows of one entity the one with the smaller place stands before the other
pub before_at : (r : Relation) (lists : Lists) (places : Places) (attr ent : ℕ) (a b : RowId)
    → IsScene r lists places → attr < length r.attrs
    → entity_of r.rows a.0 ≡ Some ent → entity_of r.rows b.0 ≡ Some ent → slice_index (slice_index_or places attr [])
    a.0 < slice_index (slice_index_or places attr []) b.0
    → Before (slice_index_or lists attr []) a b
before_at r lists places attr ent a b scene within of_a of_b below =
    let is = entity_is r a.0 ent scene.facts of_a in
    let listed : ent < length (slice_index_or lists attr []) = omega (arith, scene.fits.per_entity attr within) in
    before_from r.rows (slice_index_or lists attr []) (slice_index_or places attr []) ent a b
    (scene.ranked attr ent within is) (scene.marked attr within ent listed) of_a of_b below

pub below_at : (r : Relation) (lists : Lists) (places : Places) (attr : ℕ) (a b : RowId) → IsScene r lists places
    → attr < length r.attrs
    → Before (slice_index_or lists attr []) a b → slice_index (slice_index_or places attr []) a.0 < slice_index
    (slice_index_or places attr []) b.0
below_at r lists places attr a b scene within before =
    below_from r.rows (slice_index_or lists attr []) (slice_index_or places attr []) a b (scene.marked attr within) before

-- ---- given pairs

pub keeps_in_order : (r : Relation) (lists : Lists) (places : Places) (p : Pair) → IsScene r lists places
    → IsGivenPair r p → IsInOrder places p → Keeps lists p
keeps_in_order r lists places p scene is below =
    let e = entity_within r.rows (length r.entities) p.earlier.0 scene.facts.entities is.earlier in
    before_at r lists places p.attr.0 e.0 p.earlier p.later scene is.attr e.2 (sym is.one_entity.1 ∙ e.2) below

pub in_order_kept : (r : Relation) (lists : Lists) (places : Places) (p : Pair) → IsScene r lists places
    → IsGivenPair r p → Keeps lists p → IsInOrder places p
in_order_kept r lists places p scene is before = below_at r lists places p.attr.0 p.earlier p.later scene is.attr before

-- ---- rules

-- a row, if it is there, of an entity
abbrev OfEntity : List Row → ℕ → Option RowId → Type 0
OfEntity table ent None = Unit {0}
OfEntity table ent (Some row) = entity_of table row.0 ≡ Some ent

of_entity_at : (table : List Row) (ent : ℕ) (rows : List RowId) (i : ℕ)
    → All (λ (r : RowId). entity_of table r.0 ≡ Some ent) rows → OfEntity table ent (slice_get rows i)
of_entity_at table ent rows i all = go (slice_get rows i) refl
  where
    go : (x : Option RowId) → slice_get rows i ≡ x → OfEntity table ent x
    go None e = tt
    go (Some row) e = all_at (λ (r : RowId). entity_of table r.0 ≡ Some ent) rows i row all e

stands_tested : (r : Relation) (lists : Lists) (places : Places) (attr ent : ℕ) (x y : Option RowId)
    → IsScene r lists places → attr < length r.attrs
    → OfEntity r.rows ent x → OfEntity r.rows ent y → is_before (slice_index_or places attr []) x y ≡ true
    → StandsBefore (slice_index_or lists attr []) x y
stands_tested r lists places attr ent (Some a) (Some b) scene within of_a of_b e = before_at r lists places attr ent
    a b scene within of_a of_b (ltb-true _ _ e)
stands_tested r lists places attr ent None y scene within of_a of_b e = absurd (cc)
stands_tested r lists places attr ent (Some a) None scene within of_a of_b e = absurd (cc)

tested_standing : (r : Relation) (lists : Lists) (places : Places) (attr : ℕ) (x y : Option RowId)
    → IsScene r lists places → attr < length r.attrs
    → StandsBefore (slice_index_or lists attr []) x y → is_before (slice_index_or places attr []) x y ≡ true
tested_standing r lists places attr (Some a) (Some b) scene within before = lt-ltb _ _
    (below_at r lists places attr a b scene within before)
tested_standing r lists places attr None y scene within before = absurd before
tested_standing r lists places attr (Some a) None scene within before = absurd before

pub attr_within : (r : Relation) (attr : ℕ) → attr < length (kinds_of r) → attr < length r.attrs
attr_within r attr below = let e = length-map r.attrs (λ a. a.kind) in omega arith

holds_tested : (r : Relation) (lists : Lists) (places : Places) (vars ent : ℕ) (rows : List RowId) (p : Predicate)
    → IsScene r lists places
    → All (λ (q : RowId). entity_of r.rows q.0 ≡ Some ent) rows → IsPredicate vars (kinds_of r) p
    → predicate_test r.rows places rows p ≡ true → PredicateHolds r.rows lists rows p
holds_tested r lists places vars ent rows (Order atom) scene of is e =
    stands_tested r lists places atom.attr.0 ent (slice_get rows atom.earlier) (slice_get rows atom.later) scene
    (attr_within r atom.attr.0 is.attr)
    (of_entity_at r.rows ent rows atom.earlier of) (of_entity_at r.rows ent rows atom.later of) e
holds_tested r lists places vars ent rows (Compare left cmp right) scene of is e = e

tested_holding : (r : Relation) (lists : Lists) (places : Places) (vars : ℕ) (rows : List RowId) (p : Predicate)
    → IsScene r lists places
    → IsPredicate vars (kinds_of r) p → PredicateHolds r.rows lists rows p → predicate_test r.rows places rows p ≡ true
tested_holding r lists places vars rows (Order atom) scene is h =
    tested_standing r lists places atom.attr.0 (slice_get rows atom.earlier) (slice_get rows atom.later) scene
    (attr_within r atom.attr.0 is.attr) h
tested_holding r lists places vars rows (Compare left cmp right) scene is h = h

concludes_tested : (r : Relation) (lists : Lists) (places : Places) (vars ent : ℕ) (rows : List RowId)
    (q : Conclusion) → IsScene r lists places
    → All (λ (x : RowId). entity_of r.rows x.0 ≡ Some ent) rows → IsConclusion vars (kinds_of r) q
    → conclusion_test places rows q ≡ true → ConclusionHolds lists rows q
concludes_tested r lists places vars ent rows conclusion.Never scene of is e = absurd (cc)
concludes_tested r lists places vars ent rows (conclusion.Order atom) scene of is e =
    stands_tested r lists places atom.attr.0 ent (slice_get rows atom.earlier) (slice_get rows atom.later) scene
    (attr_within r atom.attr.0 is.attr)
    (of_entity_at r.rows ent rows atom.earlier of) (of_entity_at r.rows ent rows atom.later of) e

tested_concluding : (r : Relation) (lists : Lists) (places : Places) (vars : ℕ) (rows : List RowId) (q : Conclusion)
    → IsScene r lists places
    → IsConclusion vars (kinds_of r) q → ConclusionHolds lists rows q → conclusion_test places rows q ≡ true
tested_concluding r lists places vars rows conclusion.Never scene is h = absurd h
tested_concluding r lists places vars rows (conclusion.Order atom) scene is h =
    tested_standing r lists places atom.attr.0 (slice_get rows atom.earlier) (slice_get rows atom.later) scene
    (attr_within r atom.attr.0 is.attr) h

and_both : (a b : Bool) → a && b ≡ true → (a ≡ true) × (b ≡ true)
and_both true true e = (refl, refl)
and_both true false e = absurd (cc)
and_both false b e = absurd (cc)

-- all tests of a list pass, or what holds of each item passes
each_passes : {A : Type 0} (test : A → Bool) (xs : List A) (k : ℕ) (x : A) → list_all test xs ≡ true
    → slice_get xs k ≡ Some x → test x ≡ true
each_passes test [] k x all at = absurd (none-some x at)
each_passes test (y ∷ xs) zero x all at = ap test (sym (same_Some y x at)) ∙ (and_both (test y) (list_all test xs) all).0
each_passes test (y ∷ xs) (suc k) x all at = each_passes test xs k x (and_both (test y) (list_all test xs) all).1 at

-- what holds of the item at each place holds of all
All-from_each : {A : Type 0} (P : A → Type 0) (xs : List A) → ((k : ℕ) (x : A) → slice_get xs k ≡ Some x → P x) → All P xs
All-from_each P xs each k d below = each k (get_or xs k d) (slice_get-get_or xs k d below)

-- a choice that breaks nothing satisfies the rule
pub satisfied_unbroken : (r : Relation) (lists : Lists) (places : Places) (rule : Rule) (rows : List RowId)
    → IsScene r lists places → IsRuleOn (kinds_of r) rule
    → IsChoice r.rows rule.vars rows → breaks_it (tried rule r places) rows ≡ false → IsSatisfiedBy r.rows lists rule rows
unfolding breaks
satisfied_unbroken r lists places rule rows scene is choice unbroken all =
    let passed : list_all (predicate_test r.rows places rows) rule.predicates ≡ true =
    list_all_true (predicate_test r.rows places rows) rule.predicates
    (λ k p at. tested_holding r lists places rule.vars rows p scene
    (all_at (IsPredicate rule.vars (kinds_of r)) rule.predicates k p is.predicates at)
    (all_at (PredicateHolds r.rows lists rows) rule.predicates k p all at)) in
    let rest : not (conclusion_test places rows rule.conclusion) ≡ false =
    sym (ap (λ b. b && not (conclusion_test places rows rule.conclusion)) passed) ∙ unbroken in
    concludes_tested r lists places rule.vars choice.ent rows rule.conclusion scene choice.of_entity is.conclusion
    (from_not (conclusion_test places rows rule.conclusion) rest)
  where
    from_not : (b : Bool) → not b ≡ false → b ≡ true
    from_not true e = refl
    from_not false e = absurd (cc)

-- and one that breaks it, breaks it
pub broken_breaking : (r : Relation) (lists : Lists) (places : Places) (rule : Rule) (rows : List RowId)
    → IsScene r lists places → IsRuleOn (kinds_of r) rule
    → IsChoice r.rows rule.vars rows → breaks_it (tried rule r places) rows ≡ true → IsBrokenBy r.rows lists rule rows
unfolding breaks
broken_breaking r lists places rule rows scene is choice broken =
    let both = and_both (list_all (predicate_test r.rows places rows) rule.predicates)
    (not (conclusion_test places rows rule.conclusion)) broken in
    record {
      choice = choice;
      predicates = All-from_each (PredicateHolds r.rows lists rows) rule.predicates
          (λ k p at. holds_tested r lists places rule.vars choice.ent rows p scene choice.of_entity
          (all_at (IsPredicate rule.vars (kinds_of r)) rule.predicates k p is.predicates at)
          (each_passes (predicate_test r.rows places rows) rule.predicates k p both.0 at));
      conclusion = λ h. apart (conclusion_test places rows rule.conclusion) both.1
          (tested_concluding r lists places rule.vars rows rule.conclusion scene is.conclusion h);
    }
  where
    apart : (b : Bool) → not b ≡ true → b ≡ true → ⊥
    apart true e f = absurd (cc)
    apart false e f = absurd (cc)
