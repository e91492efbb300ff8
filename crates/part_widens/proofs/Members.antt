-- What each item of a specification is of.
use Rattle.std.proofs.Common.{◌≡◌, ◌+◌, ℕ, zero, suc, List, [], ◌∷◌, ◌++◌, map, Option, Some, None, Contains, slice_get, refl, subst, arith}
use Rattle.std.proofs.lemmas.Option.{none-some, same_Some}
use Rattle.currency_base.specs.declared.ids.RowId.{RowId}
use Rattle.currency_base.specs.declared.pair.Pair.{Pair}
use Rattle.copy_functions.specs.Copies.{CopyFunction, source_at}
use Rattle.denial_rules.specs.declared.rule.Rule.{Rule}
use Rattle.part_laws.proofs.Rows.{at_place}
use Rattle.spec_items.specs.Items.{given_items, rule_items, mapped_item, mapped_items, rows_of, copy_items, items_of}
use Rattle.spec_items.specs.declared.item.Item.{Item}
use Rattle.spec_items.specs.declared.item.Item.TheVariants as item
use Rattle.spec_model.specs.Spec.{Spec}
use Rattle.spec_model.specs.declared.relation.Relation.{Relation}

-- ---- lists of which each item has a property

abbrev Each : {A : Type 0} → (A → Type 0) → List A → Type 0
Each {A} P xs = (k : ℕ) (x : A) → slice_get xs k ≡ Some x → P x

module _ {A : Type 0} (P : A → Type 0) where
  none : Each P []
  none k x at = absurd (none-some x at)

  more : (y : A) (ys : List A) → P y → Each P ys → Each P (y ∷ ys)
  more y ys one each zero x at = subst P (same_Some y x at) one
  more y ys one each (suc k) x at = each k x at

  both : (xs ys : List A) → Each P xs → Each P ys → Each P (xs ++ ys)
  both [] ys front back = back
  both (x ∷ xs) ys front back = more x (xs ++ ys) (front 0 x refl) (both xs ys (λ k y at. front (suc k) y at) back)

  mapped : {B : Type 0} (f : B → A) (xs : List B) → ((k : ℕ) (x : B) → slice_get xs k ≡ Some x → P (f x)) → Each P (map f xs)
  mapped f [] has = none
  mapped f (x ∷ xs) has = more (f x) (map f xs) (has 0 x refl) (mapped f xs (λ k y at. has (suc k) y at))

-- ---- items

-- a given pair of one of the relations, or a mapped row of one of the copy functions
abbrev pub IsOf : Spec → Item → Type 0
IsOf s (item.Given rel p) = (r : Relation) × (slice_get s.relations rel.0 ≡ Some r) × Contains r.given p
IsOf s (item.Rule k) = Unit {0}
IsOf s (item.Copy k row) =
    (copy : CopyFunction) × (from : RowId) × (slice_get s.copies k.0 ≡ Some copy) × (source_at copy row ≡ Some from)

given_of : (s : Spec) (first : ℕ) (rs : List Relation)
    → ((k : ℕ) (r : Relation) → slice_get rs k ≡ Some r → slice_get s.relations (first + k) ≡ Some r)
    → Each (IsOf s) (given_items first rs)
given_of s first [] at = none (IsOf s)
given_of s first (r ∷ rs) at =
    let same : first + 0 ≡ first = omega arith in
    both (IsOf s) (map (λ (p : Pair). item.Given (record { 0 = first }) p) r.given) (given_items (suc first) rs)
    (mapped (IsOf s) (λ (p : Pair). item.Given (record { 0 = first }) p) r.given
    (λ k p is. (r, subst (λ n. slice_get s.relations n ≡ Some r) same (at 0 r refl), at_place r.given k p is)))
    (given_of s (suc first) rs
    (λ k q is.
    let next : first + suc k ≡ suc first + k = omega arith in
    subst (λ n. slice_get s.relations n ≡ Some q) next (at (suc k) q is)))

rules_of : (s : Spec) (k : ℕ) (rules : List Rule) → Each (IsOf s) (rule_items k rules)
rules_of s k [] = none (IsOf s)
rules_of s k (rule ∷ rules) =
    more (IsOf s) (item.Rule (record { 0 = k })) (rule_items (suc k) rules) tt (rules_of s (suc k) rules)

row_of : (s : Spec) (k : ℕ) (copy : CopyFunction) (row : ℕ) (from : Option RowId) → slice_get s.copies k ≡ Some copy
    → source_at copy (record { 0 = row }) ≡ from
    → Each (IsOf s) (mapped_item k row from)
row_of s k copy row None is mapped = none (IsOf s)
row_of s k copy row (Some from) is mapped =
    more (IsOf s) (item.Copy (record { 0 = k }) (record { 0 = row })) [] (copy, from, is, mapped) (none (IsOf s))

mapped_of : (s : Spec) (k : ℕ) (copy : CopyFunction) (rows : ℕ) → slice_get s.copies k ≡ Some copy
    → Each (IsOf s) (mapped_items k copy rows)
mapped_of s k copy zero is = none (IsOf s)
mapped_of s k copy (suc rows) is =
    both (IsOf s) (mapped_items k copy rows) (mapped_item k rows (source_at copy (record { 0 = rows })))
    (mapped_of s k copy rows is) (row_of s k copy rows (source_at copy (record { 0 = rows })) is refl)

copies_of : (s : Spec) (relations : List Relation) (first : ℕ) (copies : List CopyFunction)
    → ((k : ℕ) (copy : CopyFunction) → slice_get copies k ≡ Some copy → slice_get s.copies (first + k) ≡ Some copy)
    → Each (IsOf s) (copy_items relations first copies)
copies_of s relations first [] at = none (IsOf s)
copies_of s relations first (copy ∷ copies) at =
    let same : first + 0 ≡ first = omega arith in
    let rows = rows_of (slice_get relations copy.target.0) in
    both (IsOf s) (mapped_items first copy rows) (copy_items relations (suc first) copies)
    (mapped_of s first copy rows (subst (λ n. slice_get s.copies n ≡ Some copy) same (at 0 copy refl)))
    (copies_of s relations (suc first) copies
    (λ k q is.
    let next : first + suc k ≡ suc first + k = omega arith in
    subst (λ n. slice_get s.copies n ≡ Some q) next (at (suc k) q is)))

-- each item is of something that is there
pub item_of : (s : Spec) (k : ℕ) (i : Item) → slice_get (items_of s) k ≡ Some i → IsOf s i
item_of s =
    let given = given_items 0 s.relations in
    let rules = rule_items 0 s.rules in
    both (IsOf s) (given ++ rules) (copy_items s.relations 0 s.copies)
    (both (IsOf s) given rules
    (given_of s 0 s.relations
    (λ k r at. let same : k ≡ 0 + k = omega arith in subst (λ n. slice_get s.relations n ≡ Some r) same at))
    (rules_of s 0 s.rules))
    (copies_of s s.relations 0 s.copies
    (λ k copy at. let same : k ≡ 0 + k = omega arith in subst (λ n. slice_get s.copies n ≡ Some copy) same at))
