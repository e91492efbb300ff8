-- A specification with some of its items is one.
use Rattle.std.proofs.Common.{◌≡◌, ◌∙◌, ◌≤◌, ℕ, zero, suc, Bool, true, false, if◌then◌else◌, List, [], ◌∷◌, All, Some, length, map, slice_get, refl, sym, ap, subst, arith}
use Rattle.std.proofs.lemmas.List.Elements.{All-nil, All-cons, All-head, All-tail, All-contains, All-weaker}
use Rattle.std.proofs.lemmas.Option.{none-some, same_Some}
use Rattle.currency_base.specs.Lists.{OnlyOnce}
use Rattle.currency_base.specs.declared.pair.Pair.{Pair}
use Rattle.copy_functions.specs.Copies.{CopyFunction}
use Rattle.denial_rules.specs.declared.rule.Rule.{Rule}
use Rattle.part_items.proofs.KeptPlaces.{kept_relation, relation_of, as_many_relations, pair_of, kept_copy, copy_of, as_many_copies, source_of}
use Rattle.part_laws.proofs.Rows.{all_at, at_place}
use Rattle.spec_items.specs.Kept.{Keeps, kept_pairs, kept_relations, kept_rules, kept_copies, kept}
use Rattle.spec_items.specs.declared.item.Item.TheVariants as item
use Rattle.spec_model.specs.Facts.{IsGivenPair, IsRelation, AreRelations, IsRuleOf, AreRules, IsPlaceBetween, IsCopyAmong, AreCopies, IsSpecification}
use Rattle.spec_model.specs.Spec.{Spec}
use Rattle.spec_model.specs.declared.relation.Relation.{Relation}
use Rattle.part_widens.proofs.Lists.{all_of}

-- ---- items that are kept where a test says so

abbrev put_if : {A : Type 0} → Bool → A → List A → List A
put_if test x xs = if test then x ∷ xs else xs

put_all : {A : Type 0} (P : A → Type 0) (test : Bool) (x : A) (xs : List A) → P x → All P xs → All P (put_if test x xs)
put_all P true x xs one all = All-cons P x xs one all
put_all P false x xs one all = all

put_few : {A : Type 0} (test : Bool) (x : A) (xs : List A) → length (put_if test x xs) ≤ suc (length xs)
put_few true x xs = omega arith
put_few false x xs = omega arith

-- names that stand only once
module _ {A B : Type 0} (f : A → B) where
  put_at : (test : Bool) (x : A) (xs : List A) (k : ℕ) (y : B) → slice_get (map f (put_if test x xs)) k ≡ Some y
      → (j : ℕ) × (slice_get (map f (x ∷ xs)) j ≡ Some y)
  put_at true x xs k y at = (k, at)
  put_at false x xs k y at = (suc k, at)

  behind : (x : A) (xs ys : List A)
      → ((k : ℕ) (y : B) → slice_get (map f xs) k ≡ Some y → (j : ℕ) × (slice_get (map f ys) j ≡ Some y))
      → (k : ℕ) (y : B) → slice_get (map f (x ∷ xs)) k ≡ Some y → (j : ℕ) × (slice_get (map f (x ∷ ys)) j ≡ Some y)
  behind x xs ys is zero y at = (0, at)
  behind x xs ys is (suc k) y at = let more = is k y at in (suc more.0, more.1)

  once_tail : (x : A) (xs : List A) → OnlyOnce (map f (x ∷ xs)) → OnlyOnce (map f xs)
  once_tail x xs once i j y at_i at_j = let same = once (suc i) (suc j) y at_i at_j in omega (arith, same)

  once_head : (x : A) (xs : List A) → OnlyOnce (map f (x ∷ xs)) → (j : ℕ) → slice_get (map f xs) j ≡ Some (f x) → ⊥
  once_head x xs once j at = let same : 0 ≡ suc j = once 0 (suc j) (f x) refl at in omega (arith, same)

  once_cons : (x : A) (xs : List A) → OnlyOnce (map f xs) → ((j : ℕ) → slice_get (map f xs) j ≡ Some (f x) → ⊥)
      → OnlyOnce (map f (x ∷ xs))
  once_cons x xs once apart zero zero y at_i at_j = refl
  once_cons x xs once apart zero (suc j) y at_i at_j = absurd (apart j (at_j ∙ sym at_i))
  once_cons x xs once apart (suc i) zero y at_i at_j = absurd (apart i (at_i ∙ sym at_j))
  once_cons x xs once apart (suc i) (suc j) y at_i at_j = ap suc (once i j y at_i at_j)

  once_put : (test : Bool) (x : A) (xs : List A) → OnlyOnce (map f xs) → ((j : ℕ) → slice_get (map f xs) j ≡ Some (f x) → ⊥)
      → OnlyOnce (map f (put_if test x xs))
  once_put true x xs once apart = once_cons x xs once apart
  once_put false x xs once apart = once

module _ (keeps : Keeps) where
  -- ---- relations

  relation_names : (first : ℕ) (rs : List Relation) → map (λ r. r.name) (kept_relations keeps first rs) ≡ map (λ r. r.name) rs
  relation_names first [] = refl
  relation_names first (r ∷ rs) = ap (λ (names : List (List ℕ)). r.name ∷ names) (relation_names (suc first) rs)

  is_given : (rel : ℕ) (r : Relation) (p : Pair) → IsGivenPair r p → IsGivenPair (kept_relation keeps rel r) p
  is_given rel r p is = record { attr = is.attr; earlier = is.earlier; later = is.later; one_entity = is.one_entity }

  is_relation : (rel : ℕ) (r : Relation) → IsRelation r → IsRelation (kept_relation keeps rel r)
  is_relation rel r is = record {
    few_attrs = is.few_attrs;
    few_rows = is.few_rows;
    few_entities = is.few_entities;
    entities = is.entities;
    inhabited = is.inhabited;
    values = is.values;
    attr_names = is.attr_names;
    row_names = is.row_names;
    entity_names = is.entity_names;
    given = all_of (IsGivenPair (kept_relation keeps rel r)) (kept_pairs keeps rel r.given) (λ k p at.
        let of = pair_of keeps rel r.given p (at_place (kept_pairs keeps rel r.given) k p at) in
        is_given rel r p (All-contains (IsGivenPair r) r.given p is.given of.0));
  }

  are_relations : (rs : List Relation) → AreRelations rs → AreRelations (kept_relations keeps 0 rs)
  are_relations rs are = record {
    few = omega (arith, as_many_relations keeps 0 rs, are.few);
    each = all_of IsRelation (kept_relations keeps 0 rs) (λ rel r at.
        let of = relation_of keeps rs rel r at in
        subst IsRelation of.2 (is_relation rel of.0 (all_at IsRelation rs rel of.0 are.each of.1)));
    names = subst OnlyOnce (sym (relation_names 0 rs)) are.names;
  }

  -- a relation is there with some of its given pairs
  pub kept_there : (first : ℕ) (rs : List Relation) (rel : ℕ) (r : Relation) → slice_get rs rel ≡ Some r
      → (given : List Pair) × (slice_get (kept_relations keeps first rs) rel ≡ Some (record r { given = given }))
  kept_there first [] rel r at = absurd (none-some r at)
  kept_there first (x ∷ rs) zero r at =
      let given = kept_pairs keeps first x.given in
      (given, ap (λ (y : Relation). Some (record y { given = given })) (same_Some x r at))
  kept_there first (x ∷ rs) (suc rel) r at = kept_there (suc first) rs rel r at

  -- ---- rules

  rules_few : (k : ℕ) (rules : List Rule) → length (kept_rules keeps k rules) ≤ length rules
  rules_few k [] = omega arith
  rules_few k (rule ∷ rules) =
      let rest = kept_rules keeps (suc k) rules in
      omega (arith, put_few (keeps (item.Rule (record { 0 = k }))) rule rest, rules_few (suc k) rules)

  all_rules : (P : Rule → Type 0) (k : ℕ) (rules : List Rule) → All P rules → All P (kept_rules keeps k rules)
  all_rules P k [] all = All-nil P
  all_rules P k (rule ∷ rules) all =
      put_all P (keeps (item.Rule (record { 0 = k }))) rule (kept_rules keeps (suc k) rules) (All-head P rule rules all)
      (all_rules P (suc k) rules (All-tail P rule rules all))

  name_of : (k : ℕ) (rules : List Rule) (j : ℕ) (name : List ℕ)
      → slice_get (map (λ (rule : Rule). rule.name) (kept_rules keeps k rules)) j ≡ Some name
      → (i : ℕ) × (slice_get (map (λ (rule : Rule). rule.name) rules) i ≡ Some name)
  name_of k [] j name at = absurd (none-some name at)
  name_of k (rule ∷ rules) j name at =
      let rest = kept_rules keeps (suc k) rules in
      let f : Rule → List ℕ = λ rule. rule.name in
      let put = put_at f (keeps (item.Rule (record { 0 = k }))) rule rest j name at in
      behind f rule rest rules (λ i y. name_of (suc k) rules i y) put.0 name put.1

  rule_names : (k : ℕ) (rules : List Rule) → OnlyOnce (map (λ (rule : Rule). rule.name) rules)
      → OnlyOnce (map (λ (rule : Rule). rule.name) (kept_rules keeps k rules))
  rule_names k [] once = once
  rule_names k (rule ∷ rules) once =
      let rest = kept_rules keeps (suc k) rules in
      let f : Rule → List ℕ = λ rule. rule.name in
      once_put f (keeps (item.Rule (record { 0 = k }))) rule rest (rule_names (suc k) rules (once_tail f rule rules once))
      (λ j at. let of = name_of (suc k) rules j rule.name at in once_head f rule rules once of.0 of.1)

  rule_of : (rs : List Relation) (rule : Rule) → IsRuleOf rs rule → IsRuleOf (kept_relations keeps 0 rs) rule
  rule_of rs rule is =
      let now = kept_there 0 rs rule.relation.0 is.relation is.is_relation in
      record { relation = record is.relation { given = now.0 }; is_relation = now.1; fits = is.fits }

  are_rules : (rs : List Relation) (rules : List Rule) → AreRules rs rules
      → AreRules (kept_relations keeps 0 rs) (kept_rules keeps 0 rules)
  are_rules rs rules are = record {
    few = omega (arith, rules_few 0 rules, are.few);
    each = all_rules (IsRuleOf (kept_relations keeps 0 rs)) 0 rules
        (All-weaker (IsRuleOf rs) (IsRuleOf (kept_relations keeps 0 rs)) (rule_of rs) rules are.each);
    names = rule_names 0 rules are.names;
  }

  -- ---- copy functions

  copy_names : (first : ℕ) (copies : List CopyFunction)
      → map (λ copy. copy.name) (kept_copies keeps first copies) ≡ map (λ copy. copy.name) copies
  copy_names first [] = refl
  copy_names first (copy ∷ copies) = ap (λ (names : List (List ℕ)). copy.name ∷ names) (copy_names (suc first) copies)

  copy_among : (rs : List Relation) (k : ℕ) (copy : CopyFunction) → IsCopyAmong rs copy
      → IsCopyAmong (kept_relations keeps 0 rs) (kept_copy keeps k copy)
  copy_among rs k copy is =
      let target = kept_there 0 rs copy.target.0 is.target is.is_target in
      let source = kept_there 0 rs copy.source.0 is.source is.is_source in
      let new_target : Relation = record is.target { given = target.0 } in
      let new_source : Relation = record is.source { given = source.0 } in
      record {
        target = new_target;
        source = new_source;
        is_target = target.1;
        is_source = source.1;
        places = All-weaker (IsPlaceBetween is.target is.source) (IsPlaceBetween new_target new_source)
            (λ place between.
            record { kind = between.kind; in_target = between.in_target; in_source = between.in_source })
            copy.places is.places;
        copied = λ row from mapped. is.copied row from (source_of keeps k copy row from mapped).1;
      }

  are_copies : (rs : List Relation) (copies : List CopyFunction) → AreCopies rs copies
      → AreCopies (kept_relations keeps 0 rs) (kept_copies keeps 0 copies)
  are_copies rs copies are = record {
    few = omega (arith, as_many_copies keeps 0 copies, are.few);
    each = all_of (IsCopyAmong (kept_relations keeps 0 rs)) (kept_copies keeps 0 copies) (λ k copy at.
        let of = copy_of keeps copies k copy at in
        subst (IsCopyAmong (kept_relations keeps 0 rs)) of.2
        (copy_among rs k of.0 (all_at (IsCopyAmong rs) copies k of.0 are.each of.1)));
    names = subst OnlyOnce (sym (copy_names 0 copies)) are.names;
  }

  pub is_kept : (s : Spec) → IsSpecification s → IsSpecification (kept keeps s)
  is_kept s is = record {
    relations = are_relations s.relations is.relations;
    rules = are_rules s.relations s.rules is.rules;
    copies = are_copies s.relations s.copies is.copies;
  }
