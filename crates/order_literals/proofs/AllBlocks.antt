-- Where the blocks stand among all.
use Rattle.std.proofs.Common.{◌≡◌, ◌⊎◌, inl, inr, ◌∙◌, ◌+◌, ◌-◌, ◌*◌, ℕ, zero, suc, List, [], ◌∷◌, ◌++◌, All, Some, length, get_or, slice_get, refl, sym, subst, arith, length-append}
use Rattle.std.specs.List.{sum_by}
use Rattle.std.proofs.lemmas.Option.{slice_get-get_or}
use Rattle.currency_base.specs.declared.ids.AttrId.{AttrId}
use Rattle.currency_base.specs.declared.ids.RelId.{RelId}
use Rattle.order_literals.specs.Layout.{attrs_before, HasPlace, IsBlockOf}
use Rattle.order_literals.specs.Numbers.{Numbered, Numbers}
use Rattle.order_literals.specs.Statements.{blocks_from, blocks_of}
use Rattle.order_literals.specs.declared.block.Block.{Block}
use Rattle.order_literals.specs.declared.block.Block.TheVariants.{Pairs, Tops, Lasts, Answers}
use Rattle.order_literals.proofs.Placed.{at_left, at_right, at_either, count_of_kind, kind_at, in_kind}

-- the blocks of each kind
abbrev pairs : Numbers → List Block
pairs n = blocks_from Pairs 0 n.tables

abbrev tops : Numbers → List Block
tops n = blocks_from Tops 0 n.tables

abbrev lasts : Numbers → List Block
lasts n = blocks_from Lasts 0 n.tables

-- how many attributes all relations have
abbrev pub places : List Numbered → ℕ
places tables = sum_by (λ t. t.attrs) tables

-- a block of the first two kinds
first_of_all : (n : Numbers) (i : ℕ) (b : Block) → slice_get (pairs n ++ tops n) i ≡ Some b → slice_get (blocks_of n) i ≡ Some b
first_of_all n i b h = at_left (pairs n ++ tops n ++ lasts n) (Answers ∷ []) i b (at_left (pairs n ++ tops n) (lasts n) i b h)

-- a block of pairs
pub pairs_block : (n : Numbers) (rel attr : ℕ) → HasPlace n.tables rel attr
    → slice_get (blocks_of n) (attrs_before n.tables rel + attr) ≡ Some (Pairs (record { 0 = rel }) (record { 0 = attr }))
pairs_block n rel attr here =
    let read = kind_at Pairs 0 n.tables rel attr here.table here.is_table here.attr_within in
    let number : 0 + rel ≡ rel = omega arith in
    let these = rw number at read in
    first_of_all n (attrs_before n.tables rel + attr) (Pairs (record { 0 = rel }) (record { 0 = attr }))
    (at_left (pairs n) (tops n) (attrs_before n.tables rel + attr) (Pairs (record { 0 = rel }) (record { 0 = attr })) these)

-- a block of rows that stand last
pub tops_block : (n : Numbers) (rel attr : ℕ) → HasPlace n.tables rel attr
    → slice_get (blocks_of n) (places n.tables + (attrs_before n.tables rel + attr)) ≡ Some
    (Tops (record { 0 = rel }) (record { 0 = attr }))
tops_block n rel attr here =
    let read = kind_at Tops 0 n.tables rel attr here.table here.is_table here.attr_within in
    let number : 0 + rel ≡ rel = omega arith in
    let these = rw number at read in
    let behind = at_right (pairs n) (tops n) (places n.tables) (attrs_before n.tables rel + attr)
    (sym (count_of_kind Pairs 0 n.tables)) in
    first_of_all n (places n.tables + (attrs_before n.tables rel + attr))
    (Tops (record { 0 = rel }) (record { 0 = attr })) (behind ∙ these)

-- a block of current values
pub lasts_block : (n : Numbers) (rel attr : ℕ) → HasPlace n.tables rel attr
    → slice_get (blocks_of n) (2 * places n.tables + (attrs_before n.tables rel + attr)) ≡ Some
    (Lasts (record { 0 = rel }) (record { 0 = attr }))
lasts_block n rel attr here =
    let read = kind_at Lasts 0 n.tables rel attr here.table here.is_table here.attr_within in
    let number : 0 + rel ≡ rel = omega arith in
    let these = rw number at read in
    let front = pairs n ++ tops n in
    let count = length-append (pairs n) (tops n) in
    let twice : 2 * places n.tables ≡ length front = omega (
      arith,
      count_of_kind Pairs 0 n.tables,
      count_of_kind Tops
          0 n.tables,
    ) in
    let behind = at_right front (lasts n) (2 * places n.tables) (attrs_before n.tables rel + attr) twice in
    at_left (pairs n ++ tops n ++ lasts n) (Answers ∷ []) (2 * places n.tables + (attrs_before n.tables rel + attr))
    (Lasts (record { 0 = rel }) (record { 0 = attr })) (behind ∙ these)

-- the block of answers is the last
pub answers_block : (n : Numbers) → slice_get (blocks_of n) (length (blocks_of n) - 1) ≡ Some Answers
answers_block n =
    let count = length-append (pairs n ++ tops n ++ lasts n) (Answers ∷ []) in
    let place : length (blocks_of n) - 1 ≡ length (pairs n ++ tops n ++ lasts n) + 0 = omega arith in
    rw place (at_right (pairs n ++ tops n ++ lasts n) (Answers ∷ []) (length (pairs n ++ tops n ++ lasts n)) 0 refl)

-- each block is of these relations
pub block_known : (n : Numbers) (i : ℕ) (b : Block) → slice_get (blocks_of n) i ≡ Some b → IsBlockOf n.tables b
block_known n i b e = ends (at_either (pairs n ++ tops n ++ lasts n) (Answers ∷ []) i b e)
  where
    of_kind : (make : RelId → AttrId → Block) (i : ℕ) →
        ((rel : RelId) (attr : AttrId) → HasPlace n.tables rel.0 attr.0 → IsBlockOf n.tables (make rel attr))
        → slice_get (blocks_from make 0 n.tables) i ≡ Some b → IsBlockOf n.tables b
    of_kind make i known at =
        let found = in_kind make 0 n.tables i b at in
        let number : 0 + found.0 ≡ found.0 = omega arith in
        let is : b ≡ make (record { 0 = found.0 }) (record { 0 = found.1 }) = rw number at found.3 in
        subst (IsBlockOf n.tables) (sym is) (known (record { 0 = found.0 }) (record { 0 = found.1 }) found.2)

    two : (slice_get (pairs n) i ≡ Some b) ⊎ ((j : ℕ) × (slice_get (tops n) j ≡ Some b)
        × (i ≡ length (pairs n) + j)) → IsBlockOf n.tables b
    two (inl first) = of_kind Pairs i (λ rel attr h. h) first
    two (inr second) = of_kind Tops second.0 (λ rel attr h. h) second.1

    three : (slice_get (pairs n ++ tops n) i ≡ Some b)
        ⊎ ((j : ℕ) × (slice_get (lasts n) j ≡ Some b)
        × (i ≡ length (pairs n ++ tops n) + j)) → IsBlockOf n.tables b
    three (inl front) = two (at_either (pairs n) (tops n) i b front)
    three (inr third) = of_kind Lasts third.0 (λ rel attr h. h) third.1

    ends : (slice_get (pairs n ++ tops n ++ lasts n) i ≡ Some b) ⊎ ((j : ℕ) × (slice_get (Answers ∷ []) j ≡ Some b) ×
        (i ≡ length (pairs n ++ tops n ++ lasts n) + j)) → IsBlockOf n.tables b
    ends (inl front) = three (at_either (pairs n ++ tops n) (lasts n) i b front)
    ends (inr (zero, at, h)) =
        let is : Answers ≡ b = cc in
        subst (IsBlockOf n.tables) is tt
    ends (inr (suc j, at, h)) = cc

-- all of them are
pub blocks_known : (n : Numbers) → All (IsBlockOf n.tables) (blocks_of n)
blocks_known n i d within = block_known n i (get_or (blocks_of n) i d) (slice_get-get_or (blocks_of n) i d within)
