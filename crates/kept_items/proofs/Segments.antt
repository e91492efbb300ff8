-- Items that stand one after the other, and their marks.
use Rattle.std.proofs.Common.{◌≡◌, ◌∙◌, ◌+◌, ℕ, suc, Bool, List, ◌∷◌, ◌++◌, Some, length, slice_get, refl, ap, subst, arith}
use Rattle.spec_items.specs.Kept.{Keeps}
use Rattle.spec_items.specs.declared.item.Item.{Item}
use Rattle.kept_items.specs.Marked.{is_marked, KeepsMarked}
use Rattle.kept_items.proofs.Places.{get_front, get_back}

-- those of the items are kept that are marked, where the first one has this place among the marks
abbrev pub KeepsFrom : List Bool → Keeps → ℕ → List Item → Type 0
KeepsFrom marks keeps at items = (k : ℕ) (i : Item) → slice_get items k ≡ Some i → keeps i ≡ is_marked marks (at + k)

module _ (marks : List Bool) (keeps : Keeps) where
  pub from_start : (items : List Item) → KeepsMarked items marks keeps → KeepsFrom marks keeps 0 items
  from_start items are k i here = let same : k ≡ 0 + k = omega arith in are k i here ∙ ap (is_marked marks) same

  pub moved : (at to : ℕ) (items : List Item) → at ≡ to → KeepsFrom marks keeps at items → KeepsFrom marks keeps to items
  moved at to items same are = subst (λ n. KeepsFrom marks keeps n items) same are

  pub front : (at : ℕ) (xs ys : List Item) → KeepsFrom marks keeps at (xs ++ ys) → KeepsFrom marks keeps at xs
  front at xs ys are k i here = are k i (get_front xs ys k i here)

  pub back : (at : ℕ) (xs ys : List Item) → KeepsFrom marks keeps at (xs ++ ys) → KeepsFrom marks keeps (at + length xs) ys
  back at xs ys are k i here =
      let same : at + (length xs + k) ≡ (at + length xs) + k = omega arith in
      are (length xs + k) i (get_back xs ys k i here) ∙ ap (is_marked marks) same

  pub first : (at : ℕ) (x : Item) (xs : List Item) → KeepsFrom marks keeps at (x ∷ xs) → keeps x ≡ is_marked marks at
  first at x xs are = let same : at + 0 ≡ at = omega arith in are 0 x refl ∙ ap (is_marked marks) same

  pub rest : (at : ℕ) (x : Item) (xs : List Item) → KeepsFrom marks keeps at (x ∷ xs) → KeepsFrom marks keeps (at + 1) xs
  rest at x xs are k i here =
      let same : at + suc k ≡ (at + 1) + k = omega arith in
      are (suc k) i here ∙ ap (is_marked marks) same
