-- Two items are one where a test says so.
use Rattle.std.proofs.Common.{◌≡◌, ◌∙◌, ◌&&◌, ◌==◌, ℕ, true, refl, ap}
use Rattle.std.proofs.lemmas.Bool.{and_from, and_parts, eq-eqb, eqb-true, false≢true}
use Rattle.currency_base.specs.declared.ids.CopyId.{CopyId}
use Rattle.currency_base.specs.declared.ids.RelId.{RelId}
use Rattle.currency_base.specs.declared.ids.RowId.{RowId}
use Rattle.currency_base.specs.declared.pair.Pair.{Pair}
use Rattle.spec_items.specs.declared.item.Item.{Item}
use Rattle.spec_items.specs.declared.item.Item.TheVariants as item
use Rattle.minimal_items.specs.Among.{same_item}

same_given : (rel other : RelId) (p q : Pair) → same_item (item.Given rel p) (item.Given other q) ≡ true
    → item.Given rel p ≡ item.Given other q
same_given rel other p q e =
    let three = and_parts (rel.0 == other.0 && p.attr.0 == q.attr.0 && p.earlier.0 == q.earlier.0) (p.later.0 == q.later.0) e in
    let two = and_parts (rel.0 == other.0 && p.attr.0 == q.attr.0) (p.earlier.0 == q.earlier.0) three.0 in
    let one = and_parts (rel.0 == other.0) (p.attr.0 == q.attr.0) two.0 in
    let make : ℕ → ℕ → ℕ → ℕ → Item =
    λ r a x y. item.Given (record { 0 = r })
    (record { attr = record { 0 = a }; earlier = record { 0 = x }; later = record { 0 = y } }) in
    ap (λ r. make r p.attr.0 p.earlier.0 p.later.0) (eqb-true rel.0 other.0 one.0)
    ∙ ap (λ a. make other.0 a p.earlier.0 p.later.0) (eqb-true p.attr.0 q.attr.0 one.1)
    ∙ ap (λ x. make other.0 q.attr.0 x p.later.0) (eqb-true p.earlier.0 q.earlier.0 two.1)
    ∙ ap (λ y. make other.0 q.attr.0 q.earlier.0 y) (eqb-true p.later.0 q.later.0 three.1)

same_copy : (copy other : CopyId) (target row : RowId) → same_item (item.Copy copy target) (item.Copy other row) ≡ true
    → item.Copy copy target ≡ item.Copy other row
same_copy copy other target row e =
    let one = and_parts (copy.0 == other.0) (target.0 == row.0) e in
    let make : ℕ → ℕ → Item = λ c t. item.Copy (record { 0 = c }) (record { 0 = t }) in
    ap (λ c. make c target.0) (eqb-true copy.0 other.0 one.0) ∙ ap (λ t. make other.0 t) (eqb-true target.0 row.0 one.1)

pub same_of : (i j : Item) → same_item i j ≡ true → i ≡ j
same_of (item.Given rel p) (item.Given other q) e = same_given rel other p q e
same_of (item.Given rel p) (item.Rule k) e = absurd (false≢true e)
same_of (item.Given rel p) (item.Copy copy target) e = absurd (false≢true e)
same_of (item.Rule k) (item.Given rel p) e = absurd (false≢true e)
same_of (item.Rule k) (item.Rule other) e =
    let make : ℕ → Item = λ n. item.Rule (record { 0 = n }) in ap make (eqb-true k.0 other.0 e)
same_of (item.Rule k) (item.Copy copy target) e = absurd (false≢true e)
same_of (item.Copy copy target) (item.Given rel p) e = absurd (false≢true e)
same_of (item.Copy copy target) (item.Rule k) e = absurd (false≢true e)
same_of (item.Copy copy target) (item.Copy other row) e = same_copy copy other target row e

pub same_itself : (i : Item) → same_item i i ≡ true
same_itself (item.Given rel p) =
    let one = and_from (rel.0 == rel.0) (p.attr.0 == p.attr.0) (eq-eqb rel.0 rel.0 refl) (eq-eqb p.attr.0 p.attr.0 refl) in
    let two = and_from (rel.0 == rel.0 && p.attr.0 == p.attr.0) (p.earlier.0 == p.earlier.0) one
    (eq-eqb p.earlier.0 p.earlier.0 refl) in
    and_from (rel.0 == rel.0 && p.attr.0 == p.attr.0 && p.earlier.0 == p.earlier.0) (p.later.0 == p.later.0) two
    (eq-eqb p.later.0 p.later.0 refl)
same_itself (item.Rule k) = eq-eqb k.0 k.0 refl
same_itself (item.Copy copy target) =
    and_from (copy.0 == copy.0) (target.0 == target.0) (eq-eqb copy.0 copy.0 refl) (eq-eqb target.0 target.0 refl)
