-- What an item of a specification speaks of is there.
use Rattle.std.proofs.Common.{◌≡◌, ◌+◌, ℕ, zero, suc, List, [], ◌∷◌, ◌++◌, map, Option, Some, None, All, Contains, slice_get, refl, subst, arith}
use Rattle.std.proofs.lemmas.List.Elements.{All-append, All-cons, All-contains, All-head, All-map, All-nil, All-tail, All-weaker}
use Rattle.std.proofs.lemmas.Option.{slice_get_within}
use Rattle.currency_base.specs.declared.ids.RowId.{RowId}
use Rattle.currency_base.specs.declared.pair.Pair.{Pair}
use Rattle.copy_functions.specs.Copies.{CopyFunction, source_at}
use Rattle.denial_rules.specs.declared.rule.Rule.{Rule}
use Rattle.spec_items.specs.Items.{copy_items, given_items, items_of, mapped_item, mapped_items, rows_of, rule_items}
use Rattle.spec_items.specs.declared.item.Item.{Item}
use Rattle.spec_items.specs.declared.item.Item.TheVariants as item
use Rattle.spec_model.specs.Facts.{AreCopies, AreRelations, IsCopyAmong, IsGivenPair, IsRelation}
use Rattle.spec_model.specs.Spec.{Spec}
use Rattle.spec_model.specs.declared.relation.Relation.{Relation}
use Rattle.item_write.specs.Placed.{IsPlaced}

-- a list stands in another from a place on
abbrev StandsAt : {A : Type 0} → List A → ℕ → List A → Type 0
StandsAt {A} all first rest = (k : ℕ) (x : A) → slice_get rest k ≡ Some x → slice_get all (first + k) ≡ Some x

stands_first : {A : Type 0} (all : List A) (first : ℕ) (x : A) (rest : List A) → StandsAt all first (x ∷ rest)
    → slice_get all first ≡ Some x
stands_first all first x rest at =
    let same : first + 0 ≡ first = omega arith in subst (λ n. slice_get all n ≡ Some x) same (at 0 x refl)

stands_later : {A : Type 0} (all : List A) (first : ℕ) (x : A) (rest : List A) → StandsAt all first (x ∷ rest)
    → StandsAt all (suc first) rest
stands_later all first x rest at k y e =
    let same : first + suc k ≡ suc first + k = omega arith in subst (λ n. slice_get all n ≡ Some y) same (at (suc k) y e)

stands_whole : {A : Type 0} (all : List A) → StandsAt all 0 all
stands_whole all k x e = let same : k ≡ 0 + k = omega arith in subst (λ n. slice_get all n ≡ Some x) same e

-- ---- given pairs

pair_placed : (s : Spec) (rel : ℕ) (r : Relation) → slice_get s.relations rel ≡ Some r → (p : Pair) → IsGivenPair r p
    → IsPlaced s (item.Given (record { 0 = rel }) p)
pair_placed s rel r at p is = record {
  relation = r;
  is_relation = at;
  attr = is.attr;
  earlier = is.earlier;
  later = is.later;
}

given_placed : (s : Spec) (first : ℕ) (rs : List Relation) → StandsAt s.relations first rs → All IsRelation rs
    → All (IsPlaced s) (given_items first rs)
given_placed s first [] at facts = All-nil (IsPlaced s)
given_placed s first (r ∷ rs) at facts =
    let given : Pair → Item = λ p. item.Given (record { 0 = first }) p in
    let here = stands_first s.relations first r rs at in
    All-append (IsPlaced s) (map given r.given) (given_items (suc first) rs)
    (All-map (IsPlaced s) given r.given
    (All-weaker (IsGivenPair r) (λ p. IsPlaced s (given p)) (pair_placed s first r here) r.given
    (All-head IsRelation r rs facts).given))
    (given_placed s (suc first) rs (stands_later s.relations first r rs at) (All-tail IsRelation r rs facts))

-- ---- rules

rules_placed : (s : Spec) (first : ℕ) (rules : List Rule) → StandsAt s.rules first rules → All (IsPlaced s) (rule_items first rules)
rules_placed s first [] at = All-nil (IsPlaced s)
rules_placed s first (rule ∷ rules) at =
    All-cons (IsPlaced s) (item.Rule (record { 0 = first })) (rule_items (suc first) rules)
    (slice_get_within s.rules first rule (stands_first s.rules first rule rules at))
    (rules_placed s (suc first) rules (stands_later s.rules first rule rules at))

-- ---- mapped rows

row_placed : (s : Spec) (k : ℕ) (copy : CopyFunction) → slice_get s.copies k ≡ Some copy → IsCopyAmong s.relations copy
    → (row : ℕ) (o : Option RowId) → source_at copy (record { 0 = row }) ≡ o → All (IsPlaced s) (mapped_item k row o)
row_placed s k copy at among row None e = All-nil (IsPlaced s)
row_placed s k copy at among row (Some source) e =
    let copied = among.copied (record { 0 = row }) source e in
    All-cons (IsPlaced s) (item.Copy (record { 0 = k }) (record { 0 = row })) []
    (record {
      function = copy;
      is_function = at;
      source = source;
      is_mapped = e;
      in_target = record { relation = among.target; is_relation = among.is_target; within = copied.in_target };
      in_source = record { relation = among.source; is_relation = among.is_source; within = copied.in_source };
    })
    (All-nil (IsPlaced s))

mapped_placed : (s : Spec) (k : ℕ) (copy : CopyFunction) → slice_get s.copies k ≡ Some copy → IsCopyAmong s.relations copy
    → (rows : ℕ) → All (IsPlaced s) (mapped_items k copy rows)
mapped_placed s k copy at among zero = All-nil (IsPlaced s)
mapped_placed s k copy at among (suc rows) =
    All-append (IsPlaced s) (mapped_items k copy rows) (mapped_item k rows (source_at copy (record { 0 = rows })))
    (mapped_placed s k copy at among rows)
    (row_placed s k copy at among rows (source_at copy (record { 0 = rows })) refl)

copies_placed : (s : Spec) (first : ℕ) (copies : List CopyFunction) → StandsAt s.copies first copies
    → All (IsCopyAmong s.relations) copies → All (IsPlaced s) (copy_items s.relations first copies)
copies_placed s first [] at among = All-nil (IsPlaced s)
copies_placed s first (copy ∷ copies) at among =
    let rows = rows_of (slice_get s.relations copy.target.0) in
    All-append (IsPlaced s) (mapped_items first copy rows) (copy_items s.relations (suc first) copies)
    (mapped_placed s first copy (stands_first s.copies first copy copies at) (All-head (IsCopyAmong s.relations) copy copies among)
    rows)
    (copies_placed s (suc first) copies (stands_later s.copies first copy copies at)
    (All-tail (IsCopyAmong s.relations) copy copies among))

-- ---- items

pub item_placed : (s : Spec) (i : Item) → AreRelations s.relations → AreCopies s.relations s.copies → Contains (items_of s) i
    → IsPlaced s i
item_placed s i relations copies is =
    let given = given_items 0 s.relations in
    let rules = rule_items 0 s.rules in
    let mapped = copy_items s.relations 0 s.copies in
    All-contains (IsPlaced s) (items_of s) i
    (All-append (IsPlaced s) (given ++ rules) mapped
    (All-append (IsPlaced s) given rules
    (given_placed s 0 s.relations (stands_whole s.relations) relations.each)
    (rules_placed s 0 s.rules (stands_whole s.rules)))
    (copies_placed s 0 s.copies (stands_whole s.copies) copies.each))
    is
