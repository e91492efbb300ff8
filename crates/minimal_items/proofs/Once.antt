-- No item of a specification stands twice among its items.
use Rattle.std.proofs.Common.{◌≡◌, ◌∙◌, ◌+◌, ◌<◌, ◌≤◌, ◌⊎◌, ℕ, zero, suc, List, [], ◌∷◌, ◌++◌, Option, Some, None, length, map, get_or, slice_get, refl, sym, ap, subst, inl, inr, ⊎_elim, arith}
use Rattle.std.specs.declared.cmp.Ordering.TheVariants.{Less, Equal}
use Rattle.std.specs.Cmp.{IsTotalOrder}
use Rattle.std.proofs.lemmas.Bool.{cases_order}
use Rattle.std.proofs.lemmas.Cmp.{nat_cmp_total, on_total, then_total, tied_itself}
use Rattle.std.proofs.lemmas.Map.Keys.{Less-from_sorted}
use Rattle.std.proofs.lemmas.Option.{get_or_from_slice_get, none-some, same_Some, slice_get_within}
use Rattle.currency_base.specs.Lists.{OnlyOnce}
use Rattle.currency_base.specs.declared.ids.RowId.{RowId}
use Rattle.currency_base.specs.declared.pair.Pair.{Pair}
use Rattle.copy_functions.specs.Copies.{CopyFunction, source_at}
use Rattle.denial_rules.specs.declared.rule.Rule.{Rule}
use Rattle.partial_orders.specs.Pairs.{pair_cmp}
use Rattle.spec_items.specs.Items.{given_items, rule_items, mapped_item, mapped_items, rows_of, copy_items, items_of}
use Rattle.spec_items.specs.declared.item.Item.{Item}
use Rattle.spec_items.specs.declared.item.Item.TheVariants as item
use Rattle.spec_model.specs.Spec.{Spec}
use Rattle.spec_model.specs.declared.relation.Relation.{Relation}
use Rattle.minimal_items.specs.Trials.{Ascends}

-- ---- lists that follow each other

-- each item of a list has this
abbrev Each : {A : Type 0} → (A → Type 0) → List A → Type 0
Each {A} P xs = (k : ℕ) (x : A) → slice_get xs k ≡ Some x → P x

module _ {A : Type 0} where
  placed : (xs ys : List A) (k : ℕ) (x : A) → slice_get (xs ++ ys) k ≡ Some x
      → (slice_get xs k ≡ Some x) ⊎ ((j : ℕ) × (k ≡ length xs + j) × (slice_get ys j ≡ Some x))
  placed [] ys k x at = inr (k, omega arith, at)
  placed (y ∷ xs) ys zero x at = inl at
  placed (y ∷ xs) ys (suc k) x at = ⊎_elim
      (λ (here : slice_get xs k ≡ Some x). inl here)
      (λ (there : (j : ℕ) × (k ≡ length xs + j) × (slice_get ys j ≡ Some x)).
      let far = there.1 in
      inr (there.0, omega (arith, far), there.2))
      (placed xs ys k x at)

  each_append : (P : A → Type 0) (xs ys : List A) → Each P xs → Each P ys → Each P (xs ++ ys)
  each_append P xs ys front back k x at = ⊎_elim
      (λ (here : slice_get xs k ≡ Some x). front k x here)
      (λ (there : (j : ℕ) × (k ≡ length xs + j) × (slice_get ys j ≡ Some x)). back there.0 x there.2)
      (placed xs ys k x at)

  once_nil : (i j : ℕ) (x : A) → slice_get [] i ≡ Some x → slice_get [] j ≡ Some x → i ≡ j
  once_nil i j x at_i at_j = absurd (none-some x at_i)

  once_one : (y : A) → OnlyOnce (y ∷ [])
  once_one y zero zero x at_i at_j = refl
  once_one y zero (suc j) x at_i at_j = absurd (none-some x at_j)
  once_one y (suc i) j x at_i at_j = absurd (none-some x at_i)

  once_append : (xs ys : List A) → OnlyOnce xs → OnlyOnce ys
      → ((i j : ℕ) (x : A) → slice_get xs i ≡ Some x → slice_get ys j ≡ Some x → ⊥) → OnlyOnce (xs ++ ys)
  once_append xs ys front back apart i j x at_i at_j = ⊎_elim
      (λ (here : slice_get xs i ≡ Some x). ⊎_elim
      (λ (too : slice_get xs j ≡ Some x). front i j x here too)
      (λ (there : (n : ℕ) × (j ≡ length xs + n) × (slice_get ys n ≡ Some x)). absurd (apart i there.0 x here there.2))
      (placed xs ys j x at_j))
      (λ (there : (n : ℕ) × (i ≡ length xs + n) × (slice_get ys n ≡ Some x)). ⊎_elim
      (λ (here : slice_get xs j ≡ Some x). absurd (apart j there.0 x here there.2))
      (λ (too : (n : ℕ) × (j ≡ length xs + n) × (slice_get ys n ≡ Some x)).
      let same = back there.0 too.0 x there.2 too.2 in
      let far = there.1 in
      let far_too = too.1 in
      omega (arith, same, far, far_too))
      (placed xs ys j x at_j))
      (placed xs ys i x at_i)

unmapped : {A B : Type 0} (f : A → B) (xs : List A) (k : ℕ) (y : B) → slice_get (map f xs) k ≡ Some y
    → (x : A) × (slice_get xs k ≡ Some x) × (f x ≡ y)
unmapped f [] k y at = absurd (none-some y at)
unmapped f (x ∷ xs) zero y at = (x, refl, same_Some (f x) y at)
unmapped f (x ∷ xs) (suc k) y at = unmapped f xs k y at

-- ---- what tells items apart

abbrev kind : Item → ℕ
kind (item.Given rel p) = 0
kind (item.Rule k) = 1
kind (item.Copy copy target) = 2

abbrev number : Item → ℕ
number (item.Given rel p) = rel.0
number (item.Rule k) = k.0
number (item.Copy copy target) = copy.0

abbrev row_of : Item → ℕ
row_of (item.Given rel p) = 0
row_of (item.Rule k) = 0
row_of (item.Copy copy target) = target.0

abbrev pair_or : Pair → Item → Pair
pair_or d (item.Given rel p) = p
pair_or d (item.Rule k) = d
pair_or d (item.Copy copy target) = d

-- ---- given pairs

pairs_total : IsTotalOrder pair_cmp
pairs_total = then_total (on_total (λ (p : Pair). p.attr.0) nat_cmp_total)
    (then_total (on_total (λ (p : Pair). p.earlier.0) nat_cmp_total) (on_total (λ (p : Pair). p.later.0) nat_cmp_total))

not_below : (r : Relation) → Ascends r → (i j : ℕ) (p : Pair) → slice_get r.given i ≡ Some p → slice_get r.given j ≡ Some p
    → i < j → ⊥
not_below r ascends i j p at_i at_j below =
    let less : pair_cmp (get_or r.given i p) (get_or r.given j p) ≡ Less =
    Less-from_sorted pair_cmp r.given i j p ascends below (slice_get_within r.given j p at_j) in
    let one = get_or_from_slice_get r.given i p p at_i in
    let other = get_or_from_slice_get r.given j p p at_j in
    let is : pair_cmp p p ≡ Less =
    subst (λ (x : Pair). pair_cmp x p ≡ Less) one (subst (λ (y : Pair). pair_cmp (get_or r.given i p) y ≡ Less) other less) in
    let tied : Equal ≡ Less = sym (tied_itself pairs_total p) ∙ is in
    cc

pairs_once : (r : Relation) → Ascends r → OnlyOnce r.given
pairs_once r ascends i j p at_i at_j = ⊎_elim
    (λ (same : i ≡ j). same)
    (λ (apart : (i < j) ⊎ (j < i)). absurd (⊎_elim
    (λ (below : i < j). not_below r ascends i j p at_i at_j below)
    (λ (above : j < i). not_below r ascends j i p at_j at_i above)
    apart))
    (cases_order i j)

abbrev given_of : ℕ → Pair → Item
given_of rel p = item.Given (record { 0 = rel }) p

given_each : (rel : ℕ) (rs : List Relation) → Each (λ i. (kind i ≡ 0) × (rel ≤ number i)) (given_items rel rs)
given_each rel [] = λ k i at. absurd (none-some i at)
given_each rel (r ∷ rs) = each_append (λ i. (kind i ≡ 0) × (rel ≤ number i)) (map (given_of rel) r.given)
    (given_items (suc rel) rs)
    (λ k i at.
    let of = unmapped (given_of rel) r.given k i at in
    (ap kind (sym of.2), let same = ap number of.2 in omega (arith, same)))
    (λ k i at.
    let more = given_each (suc rel) rs k i at in
    (more.0, let above = more.1 in omega (arith, above)))

here_once : (rel : ℕ) (r : Relation) → Ascends r → OnlyOnce (map (given_of rel) r.given)
here_once rel r ascends i j x at_i at_j =
    let one = unmapped (given_of rel) r.given i x at_i in
    let other = unmapped (given_of rel) r.given j x at_j in
    let same : other.0 ≡ one.0 = ap (pair_or one.0) (other.2 ∙ sym one.2) in
    pairs_once r ascends i j one.0 one.1 (other.1 ∙ ap Some same)

given_once : (rel : ℕ) (rs : List Relation) → Each Ascends rs → OnlyOnce (given_items rel rs)
given_once rel [] ascend = once_nil
given_once rel (r ∷ rs) ascend = once_append (map (given_of rel) r.given) (given_items (suc rel) rs)
    (here_once rel r (ascend 0 r refl))
    (given_once (suc rel) rs (λ k x at. ascend (suc k) x at))
    (λ i j x at_i at_j.
    let of = unmapped (given_of rel) r.given i x at_i in
    let same = ap number of.2 in
    let above = (given_each (suc rel) rs j x at_j).1 in
    omega (arith, same, above))

-- ---- rules

rule_at : (k : ℕ) (rules : List Rule) (i : ℕ) (x : Item) → slice_get (rule_items k rules) i ≡ Some x
    → (kind x ≡ 1) × (number x ≡ k + i)
rule_at k [] i x at = absurd (none-some x at)
rule_at k (rule ∷ rules) zero x at =
    let same = same_Some (item.Rule (record { 0 = k })) x at in
    (sym (ap kind same), let is = ap number same in omega (arith, is))
rule_at k (rule ∷ rules) (suc i) x at =
    let more = rule_at (suc k) rules i x at in
    (more.0, let is = more.1 in omega (arith, is))

rules_once : (k : ℕ) (rules : List Rule) → OnlyOnce (rule_items k rules)
rules_once k rules i j x at_i at_j =
    let one = (rule_at k rules i x at_i).1 in
    let other = (rule_at k rules j x at_j).1 in
    omega (arith, one, other)

-- ---- mapped rows

one_is : (k row : ℕ) (o : Option RowId) → Each (λ x. (kind x ≡ 2) × (number x ≡ k) × (row_of x ≡ row)) (mapped_item k row o)
one_is k row None i x at = absurd (none-some x at)
one_is k row (Some source) zero x at =
    let same = same_Some (item.Copy (record { 0 = k }) (record { 0 = row })) x at in
    (sym (ap kind same), sym (ap number same), sym (ap row_of same))
one_is k row (Some source) (suc i) x at = absurd (none-some x at)

one_once : (k row : ℕ) (o : Option RowId) → OnlyOnce (mapped_item k row o)
one_once k row None = once_nil
one_once k row (Some source) = once_one (item.Copy (record { 0 = k }) (record { 0 = row }))

mapped_each : (k : ℕ) (copy : CopyFunction) (rows : ℕ)
    → Each (λ x. (kind x ≡ 2) × (number x ≡ k) × (row_of x < rows)) (mapped_items k copy rows)
mapped_each k copy zero = λ i x at. absurd (none-some x at)
mapped_each k copy (suc rows) =
    let source = source_at copy (record { 0 = rows }) in
    each_append (λ x. (kind x ≡ 2) × (number x ≡ k) × (row_of x < suc rows)) (mapped_items k copy rows)
    (mapped_item k rows source)
    (λ i x at.
    let more = mapped_each k copy rows i x at in
    (more.0, more.1, let below = more.2 in omega (arith, below)))
    (λ i x at.
    let is = one_is k rows source i x at in
    (is.0, is.1, let row = is.2 in omega (arith, row)))

mapped_once : (k : ℕ) (copy : CopyFunction) (rows : ℕ) → OnlyOnce (mapped_items k copy rows)
mapped_once k copy zero = once_nil
mapped_once k copy (suc rows) =
    let source = source_at copy (record { 0 = rows }) in
    once_append (mapped_items k copy rows) (mapped_item k rows source) (mapped_once k copy rows) (one_once k rows source)
    (λ i j x at_i at_j.
    let below = (mapped_each k copy rows i x at_i).2 in
    let is = (one_is k rows source j x at_j).2 in
    omega (arith, below, is))

copies_each : (relations : List Relation) (k : ℕ) (copies : List CopyFunction)
    → Each (λ x. (kind x ≡ 2) × (k ≤ number x)) (copy_items relations k copies)
copies_each relations k [] = λ i x at. absurd (none-some x at)
copies_each relations k (copy ∷ copies) =
    let rows = rows_of (slice_get relations copy.target.0) in
    each_append (λ x. (kind x ≡ 2) × (k ≤ number x)) (mapped_items k copy rows) (copy_items relations (suc k) copies)
    (λ i x at.
    let is = mapped_each k copy rows i x at in
    (is.0, let same = is.1 in omega (arith, same)))
    (λ i x at.
    let more = copies_each relations (suc k) copies i x at in
    (more.0, let above = more.1 in omega (arith, above)))

copies_once : (relations : List Relation) (k : ℕ) (copies : List CopyFunction) → OnlyOnce (copy_items relations k copies)
copies_once relations k [] = once_nil
copies_once relations k (copy ∷ copies) =
    let rows = rows_of (slice_get relations copy.target.0) in
    once_append (mapped_items k copy rows) (copy_items relations (suc k) copies) (mapped_once k copy rows)
    (copies_once relations (suc k) copies)
    (λ i j x at_i at_j.
    let same = (mapped_each k copy rows i x at_i).1 in
    let above = (copies_each relations (suc k) copies j x at_j).1 in
    omega (arith, same, above))

-- ---- all together

pub items_once : (s : Spec) → ((rel : ℕ) (r : Relation) → slice_get s.relations rel ≡ Some r → Ascends r) → OnlyOnce (items_of s)
items_once s ascend =
    let given = given_items 0 s.relations in
    let rules = rule_items 0 s.rules in
    let copies = copy_items s.relations 0 s.copies in
    once_append (given ++ rules) copies
    (once_append given rules (given_once 0 s.relations ascend) (rules_once 0 s.rules)
    (λ i j x at_i at_j.
    let one = (given_each 0 s.relations i x at_i).0 in
    let other = (rule_at 0 s.rules j x at_j).0 in
    omega (arith, one, other)))
    (copies_once s.relations 0 s.copies)
    (λ i j x at_i at_j.
    let one = each_append (λ y. kind y < 2) given rules
    (λ k y at. let is = (given_each 0 s.relations k y at).0 in omega (arith, is))
    (λ k y at. let is = (rule_at 0 s.rules k y at).0 in omega (arith, is)) i x at_i in
    let other = (copies_each s.relations 0 s.copies j x at_j).0 in
    omega (arith, one, other))
