-- Relations, rules and copy functions with one more.
use Rattle.std.proofs.Common.{◌≡◌, ◌∙◌, ◌⊎◌, ◌+◌, ◌<◌, ◌^◌, ◌++◌, ℕ, zero, suc, List, [], ◌∷◌, length, map, Some, slice_get, Contains, sym, ap, subst, refl, inl, inr, arith, length-append}
use Rattle.std.proofs.lemmas.List.{map-append}
use Rattle.std.proofs.lemmas.List.Elements.{All-append, All-cons, All-nil}
use Rattle.std.proofs.lemmas.Option.{slice_get_within, get_or_from_slice_get}
use Rattle.currency_base.specs.Lists.{OnlyOnce}
use Rattle.copy_functions.specs.Copies.{CopyFunction}
use Rattle.denial_rules.specs.declared.rule.Rule.{Rule}
use Rattle.spec_model.specs.Facts.{IsRelation, IsRuleOf, IsCopyAmong, AreRelations, AreRules, AreCopies}
use Rattle.spec_model.specs.declared.relation.Relation.{Relation}

-- an item that stands at a place is in the list
contains_at : {A : Type 0} (xs : List A) (i : ℕ) (x : A) → slice_get xs i ≡ Some x → Contains xs x
contains_at xs i x at = (i, slice_get_within xs i x at, get_or_from_slice_get xs i x x at)

-- an item of a list with one more is one of the list, or is the last
snoc_at : {A : Type 0} (xs : List A) (x : A) (i : ℕ) (y : A) → slice_get (xs ++ x ∷ []) i ≡ Some y
    → (slice_get xs i ≡ Some y) ⊎ ((i ≡ length xs) × (x ≡ y))
snoc_at [] x zero y at = inr (refl, cc)
snoc_at [] x (suc i) y at = inl at
snoc_at (z ∷ zs) x zero y at = inl at
snoc_at (z ∷ zs) x (suc i) y at = elim (snoc_at zs x i y at) [ inl here ↦ inl here | inr last ↦ inr (ap suc last.0, last.1) ]

-- a list with one new item more has each item once
once_more : {A : Type 0} (xs : List A) (x : A) → OnlyOnce xs → (Contains xs x → ⊥) → OnlyOnce (xs ++ x ∷ [])
once_more {A} xs x once new i j y at_i at_j = cases (snoc_at xs x i y at_i) (snoc_at xs x j y at_j)
  where
    cases : (slice_get xs i ≡ Some y) ⊎ ((i ≡ length xs) × (x ≡ y)) → (slice_get xs j ≡ Some y) ⊎
        ((j ≡ length xs) × (x ≡ y)) → i ≡ j
    cases (inl a) (inl b) = once i j y a b
    cases (inl a) (inr b) = absurd (new (subst (λ (z : A). Contains xs z) (sym b.1) (contains_at xs i y a)))
    cases (inr a) (inl b) = absurd (new (subst (λ (z : A). Contains xs z) (sym a.1) (contains_at xs j y b)))
    cases (inr a) (inr b) = a.0 ∙ sym b.0

-- the relations with one more, whose name is new
pub longer_relations : (done : List Relation) (r : Relation) → AreRelations done → IsRelation r → length done + 2 < 2 ^ 32
    → (Contains (map (λ r. r.name) done) r.name → ⊥) → AreRelations (done ++ r ∷ [])
longer_relations done r are is few new = record {
  few = omega (arith, few, length-append done (r ∷ []));
  each = All-append IsRelation done (r ∷ []) are.each (All-cons IsRelation r [] is (All-nil IsRelation));
  names = rw map-append (once_more (map (λ r. r.name) done) r.name are.names new);
}

-- the rules with one more, whose name is new
pub longer_rules : (relations : List Relation) (done : List Rule) (rule : Rule) → AreRules relations done
    → IsRuleOf relations rule → length done + 2 < 2 ^ 32
    → (Contains (map (λ r. r.name) done) rule.name → ⊥) → AreRules relations (done ++ rule ∷ [])
longer_rules relations done rule are is few new = record {
  few = omega (arith, few, length-append done (rule ∷ []));
  each = All-append (IsRuleOf relations) done (rule ∷ []) are.each (All-cons (IsRuleOf relations) rule [] is
      (All-nil (IsRuleOf relations)));
  names = rw map-append (once_more (map (λ r. r.name) done) rule.name are.names new);
}

-- the copy functions with one more, whose name is new
pub longer_copies : (relations : List Relation) (done : List CopyFunction) (copy : CopyFunction)
    → AreCopies relations done → IsCopyAmong relations copy
    → length done + 2 < 2 ^ 32 → (Contains (map (λ c. c.name) done) copy.name → ⊥) → AreCopies relations (done ++ copy ∷ [])
longer_copies relations done copy are is few new = record {
  few = omega (arith, few, length-append done (copy ∷ []));
  each = All-append (IsCopyAmong relations) done (copy ∷ []) are.each (All-cons (IsCopyAmong relations) copy [] is
      (All-nil (IsCopyAmong relations)));
  names = rw map-append (once_more (map (λ c. c.name) done) copy.name are.names new);
}
