-- A loop that puts the given pairs of relations in, one relation more.
use Rattle.std.proofs.Common.{◌≡◌, ◌∙◌, ◌+◌, ◌<◌, ℕ, suc, List, ◌∷◌, ◌++◌, map, length, get_or, drop, sym, ap, arith}
use Rattle.std.proofs.lemmas.List.{append_assoc, drop_more}
use Rattle.spec_model.specs.declared.relation.Relation.{Relation}
use Rattle.spec_items.specs.Items.{given_items}
use Rattle.spec_items.specs.declared.item.Item.{Item}
use Rattle.spec_items.specs.declared.item.Item.TheVariants as item

-- what was put in, and what is left to put in, stay the whole
pub given_more : (relations : List Relation) (rel : ℕ) (r : Relation) (before now whole : List Item)
    → rel < length relations → r ≡ get_or relations rel r
    → before ++ given_items rel (drop rel relations) ≡ whole → now ≡ before
    ++ map (λ p. item.Given (record { 0 = rel }) p) r.given
    → now ++ given_items (rel + 1) (drop (rel + 1) relations) ≡ whole
given_more relations rel r before now whole below is so_far put =
    let rest = drop (rel + 1) relations in
    let here = map (λ p. item.Given (record { 0 = rel }) p) r.given in
    let next : rel + 1 ≡ suc rel = omega arith in
    let left : drop rel relations ≡ r ∷ rest = drop_more relations rel r below ∙ ap (λ (q : Relation). q ∷ rest) (sym is) in
    ap (λ (items : List Item). items ++ given_items (rel + 1) rest) put
    ∙ ap (λ n. (before ++ here) ++ given_items n rest) next
    ∙ append_assoc before here (given_items (suc rel) rest)
    ∙ sym (ap (λ (rs : List Relation). before ++ given_items rel rs) left)
    ∙ so_far
