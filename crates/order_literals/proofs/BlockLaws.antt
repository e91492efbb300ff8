-- The blocks of statements and the statements of a block: what is in them, and that they ascend.
use Rattle.std.proofs.Common.{◌≡◌, ◌⊎◌, ◌+◌, ◌<◌, ℕ, zero, suc, List, [], ◌∷◌, ◌++◌, map, Some, slice_get, refl, sym, ap, ◌∙◌, subst, subst₂, inl, inr, ⊎_elim, arith}
use Rattle.std.specs.Bool.{⊤}
use Rattle.std.specs.List.{range_with_len}
use Rattle.std.proofs.lemmas.Option.{same_Some, none-some}
use Rattle.currency_base.specs.declared.ids.AttrId.{AttrId}
use Rattle.currency_base.specs.declared.ids.RelId.{RelId}
use Rattle.order_literals.specs.declared.block.Block.{Block}
use Rattle.order_literals.specs.declared.block.Block.TheVariants.{Pairs, Tops, Lasts, Answers}
use Rattle.order_literals.specs.Numbers.{Numbered, Numbers}
use Rattle.order_literals.specs.Statements.{blocks_from, blocks_of}
use Rattle.order_literals.proofs.Items.{IsIn, in_left, in_right, in_either, in_map, from_map, in_range, range_in}
use Rattle.order_literals.proofs.Ascents.{Ascends, Precedes, ascends_append, ascends_map, range_ascends}

abbrev pub rel_at : ℕ → RelId
rel_at n = record { 0 = n }

abbrev pub attr_at : ℕ → AttrId
attr_at n = record { 0 = n }

-- the numbers with which the keys of a block's statements begin
abbrev pub block_key : Block → List ℕ
block_key (Pairs rel attr) = 0 ∷ rel.0 ∷ attr.0 ∷ []
block_key (Tops rel attr) = 1 ∷ rel.0 ∷ attr.0 ∷ []
block_key (Lasts rel attr) = 2 ∷ rel.0 ∷ attr.0 ∷ []
block_key Answers = 3 ∷ []

abbrev pub IsBlockBelow : Block → Block → Type 0
IsBlockBelow a b = Precedes (block_key a) (block_key b)

-- an attribute of one of these relations
pub record IsAttrOf (tables : List Numbered) (rel attr : ℕ) : Type 0 where
  pub table : Numbered
  pub is_table : slice_get tables rel ≡ Some table
  pub attr_within : attr < table.attrs

-- ---- the blocks of one kind

-- the block is of an attribute of one of these relations, of which the first has this number
record IsMade (make : RelId → AttrId → Block) (first : ℕ) (tables : List Numbered) (block : Block) : Type 0 where
  rel : ℕ
  attr : ℕ
  place : ℕ
  is : rel ≡ first + place
  of : IsAttrOf tables place attr
  made : make (rel_at rel) (attr_at attr) ≡ block

module _ (make : RelId → AttrId → Block) where
  abbrev of_rel : ℕ → ℕ → Block
  of_rel rel attr = make (rel_at rel) (attr_at attr)

  in_blocks_from : (first : ℕ) (tables : List Numbered) (block : Block) → IsIn (blocks_from make first tables) block
      → IsMade make first tables block
  in_blocks_from first [] block at = absurd at
  in_blocks_from first (t ∷ tables) block at =
      by (in_blocks_from (first + 1) tables block)
      (in_either (map (of_rel first) (range_with_len 0 t.attrs)) (blocks_from make (first + 1) tables) block at)
    where
      by : (IsIn (blocks_from make (first + 1) tables) block → IsMade make (first + 1) tables block)
          → IsIn (map (of_rel first) (range_with_len 0 t.attrs)) block ⊎ IsIn (blocks_from make (first + 1) tables) block
          → IsMade make first (t ∷ tables) block
      by more (inl here) =
          let from = from_map (of_rel first) (range_with_len 0 t.attrs) block here in
          let within = (in_range 0 t.attrs from.0 from.1).1 in
          record {
            rel = first;
            attr = from.0;
            place = 0;
            is = omega arith;
            of = record { table = t; is_table = refl; attr_within = omega arith };
            made = from.2;
          }
      by more (inr there) =
          let from = more there in
          record {
            rel = from.rel;
            attr = from.attr;
            place = suc from.place;
            is = omega (arith, from.is);
            of = record { table = from.of.table; is_table = from.of.is_table; attr_within = from.of.attr_within };
            made = from.made;
          }

  blocks_from_in : (first : ℕ) (tables : List Numbered) (rel attr place : ℕ) → rel ≡ first + place
      → IsAttrOf tables place attr → IsIn (blocks_from make first tables) (of_rel rel attr)
  blocks_from_in first [] rel attr place is of = absurd (none-some of.table of.is_table)
  blocks_from_in first (t ∷ tables) rel attr zero is of =
      let same : first ≡ rel = omega arith in
      let its : of.table ≡ t = sym (same_Some t of.table of.is_table) in
      let within : attr < t.attrs = subst (λ (u : Numbered). attr < u.attrs) its of.attr_within in
      in_left (map (of_rel first) (range_with_len 0 t.attrs)) (blocks_from make (first + 1) tables) (of_rel rel attr)
      (subst (λ r. IsIn (map (of_rel first) (range_with_len 0 t.attrs)) (of_rel r attr)) same
      (in_map (of_rel first) (range_with_len 0 t.attrs) attr (range_in 0 t.attrs attr (omega arith) (omega arith))))
  blocks_from_in first (t ∷ tables) rel attr (suc place) is of =
      in_right (map (of_rel first) (range_with_len 0 t.attrs)) (blocks_from make (first + 1) tables) (of_rel rel attr)
      (blocks_from_in (first + 1) tables rel attr place (omega arith)
      (record { table = of.table; is_table = of.is_table; attr_within = of.attr_within }))

  module _ (kind : ℕ) (keyed : (rel attr : ℕ) → block_key (of_rel rel attr) ≡ kind ∷ rel ∷ attr ∷ []) where
    by_keys : (rel attr rel' attr' : ℕ) → Precedes (rel ∷ attr ∷ []) (rel' ∷ attr' ∷ [])
        → IsBlockBelow (of_rel rel attr) (of_rel rel' attr')
    by_keys rel attr rel' attr' below =
        let whole : Precedes (kind ∷ rel ∷ attr ∷ []) (kind ∷ rel' ∷ attr' ∷ []) = inr (refl, below) in
        subst₂ Precedes (sym (keyed rel attr)) (sym (keyed rel' attr')) whole

    blocks_from_ascend : (first : ℕ) (tables : List Numbered) → Ascends IsBlockBelow (blocks_from make first tables)
    blocks_from_ascend first [] = tt
    blocks_from_ascend first (t ∷ tables) =
        ascends_append IsBlockBelow (map (of_rel first) (range_with_len 0 t.attrs)) (blocks_from make (first + 1) tables)
        (ascends_map IsBlockBelow (λ x y. x < y) (of_rel first)
        (λ x y below. by_keys first x first y (inr (refl, inl below)))
        (range_with_len 0 t.attrs) (range_ascends 0 t.attrs))
        (blocks_from_ascend (first + 1) tables)
        (λ a b at later.
        let one = from_map (of_rel first) (range_with_len 0 t.attrs) a at in
        let other = in_blocks_from (first + 1) tables b later in
        let less : first < other.rel = omega (arith, other.is) in
        subst₂ IsBlockBelow one.2 other.made (by_keys first one.0 other.rel other.attr (inl less)))

    -- the key of each begins with the kind
    kind_of : (first : ℕ) (tables : List Numbered) (block : Block) → IsIn (blocks_from make first tables) block
        → (rest : List ℕ) × (block_key block ≡ kind ∷ rest)
    kind_of first tables block at =
        let from = in_blocks_from first tables block at in
        (from.rel ∷ from.attr ∷ [], sym (ap block_key from.made) ∙ keyed from.rel from.attr)

-- ---- all blocks

lesser_kind : (a b : Block) (i j : ℕ) → (rest : List ℕ) × (block_key a ≡ i ∷ rest)
    → (rest : List ℕ) × (block_key b ≡ j ∷ rest) → i < j → IsBlockBelow a b
lesser_kind a b i j of_a of_b below =
    let whole : Precedes (i ∷ of_a.0) (j ∷ of_b.0) = inl below in
    subst₂ Precedes (sym of_a.1) (sym of_b.1) whole

pub blocks_ascend : (n : Numbers) → Ascends IsBlockBelow (blocks_of n)
blocks_ascend n =
    ascends_append IsBlockBelow ((pairs ++ tops) ++ lasts) (Answers ∷ [])
    (ascends_append IsBlockBelow (pairs ++ tops) lasts
    (ascends_append IsBlockBelow pairs tops
    (blocks_from_ascend Pairs 0 (λ r a. refl) 0 n.tables)
    (blocks_from_ascend Tops 1 (λ r a. refl) 0 n.tables)
    (λ a b at later. lesser_kind a b 0 1 (pairs_kind a at) (tops_kind b later) (omega arith)))
    (blocks_from_ascend Lasts 2 (λ r a. refl) 0 n.tables)
    (λ a b at later. ⊎_elim
    (λ one. lesser_kind a b 0 2 (pairs_kind a one) (lasts_kind b later) (omega arith))
    (λ one. lesser_kind a b 1 2 (tops_kind a one) (lasts_kind b later) (omega arith))
    (in_either pairs tops a at)))
    ((λ y none. absurd none), tt)
    (λ a b at later. ⊎_elim
    (λ more. ⊎_elim
    (λ one. lesser_kind a b 0 3 (pairs_kind a one) (answers_kind b later) (omega arith))
    (λ one. lesser_kind a b 1 3 (tops_kind a one) (answers_kind b later) (omega arith))
    (in_either pairs tops a more))
    (λ one. lesser_kind a b 2 3 (lasts_kind a one) (answers_kind b later) (omega arith))
    (in_either (pairs ++ tops) lasts a at))
  where
    pairs : List Block
    pairs = blocks_from Pairs 0 n.tables

    tops : List Block
    tops = blocks_from Tops 0 n.tables

    lasts : List Block
    lasts = blocks_from Lasts 0 n.tables

    pairs_kind : (b : Block) → IsIn pairs b → (rest : List ℕ) × (block_key b ≡ 0 ∷ rest)
    pairs_kind = kind_of Pairs 0 (λ r a. refl) 0 n.tables

    tops_kind : (b : Block) → IsIn tops b → (rest : List ℕ) × (block_key b ≡ 1 ∷ rest)
    tops_kind = kind_of Tops 1 (λ r a. refl) 0 n.tables

    lasts_kind : (b : Block) → IsIn lasts b → (rest : List ℕ) × (block_key b ≡ 2 ∷ rest)
    lasts_kind = kind_of Lasts 2 (λ r a. refl) 0 n.tables

    answers_kind : (b : Block) → IsIn (Answers ∷ []) b → (rest : List ℕ) × (block_key b ≡ 3 ∷ rest)
    answers_kind b (inl e) = ([], sym (ap block_key e))
    answers_kind b (inr none) = absurd none

-- the block is of an attribute of one of the relations, or on answers
abbrev pub IsBlockOf : Numbers → Block → Type 0
IsBlockOf n (Pairs rel attr) = IsAttrOf n.tables rel.0 attr.0
IsBlockOf n (Tops rel attr) = IsAttrOf n.tables rel.0 attr.0
IsBlockOf n (Lasts rel attr) = IsAttrOf n.tables rel.0 attr.0
IsBlockOf n Answers = ⊤

pub in_blocks : (n : Numbers) (block : Block) → IsIn (blocks_of n) block → IsBlockOf n block
in_blocks n block at =
    ⊎_elim
    (λ more. ⊎_elim
    (λ some. ⊎_elim
    (made Pairs (λ r a of. of))
    (made Tops (λ r a of. of))
    (in_either (blocks_from Pairs 0 n.tables) (blocks_from Tops 0 n.tables) block some))
    (made Lasts (λ r a of. of))
    (in_either (blocks_from Pairs 0 n.tables ++ blocks_from Tops 0 n.tables) (blocks_from Lasts 0 n.tables) block more))
    answers
    (in_either (blocks_from Pairs 0 n.tables ++ blocks_from Tops 0 n.tables ++ blocks_from Lasts 0 n.tables)
    (Answers ∷ []) block at)
  where
    made : (make : RelId → AttrId → Block) → ((rel attr : ℕ) → IsAttrOf n.tables rel attr → IsBlockOf n
        (make (rel_at rel) (attr_at attr)))
        → IsIn (blocks_from make 0 n.tables) block → IsBlockOf n block
    made make is at =
        let from = in_blocks_from make 0 n.tables block at in
        let place : from.place ≡ from.rel = omega (arith, from.is) in
        subst (IsBlockOf n) from.made
        (is from.rel from.attr (subst (λ r. IsAttrOf n.tables r from.attr) place from.of))

    answers : IsIn (Answers ∷ []) block → IsBlockOf n block
    answers (inl e) = subst (IsBlockOf n) e tt
    answers (inr none) = absurd none

pub blocks_in : (n : Numbers) (block : Block) → IsBlockOf n block → IsIn (blocks_of n) block
blocks_in n (Pairs rel attr) of =
    in_left (blocks_from Pairs 0 n.tables ++ blocks_from Tops 0 n.tables ++ blocks_from Lasts 0 n.tables)
    (Answers ∷ []) (Pairs rel attr)
    (in_left (blocks_from Pairs 0 n.tables ++ blocks_from Tops 0 n.tables) (blocks_from Lasts 0 n.tables) (Pairs rel attr)
    (in_left (blocks_from Pairs 0 n.tables) (blocks_from Tops 0 n.tables) (Pairs rel attr)
    (blocks_from_in Pairs 0 n.tables rel.0 attr.0 rel.0 (omega arith) of)))
blocks_in n (Tops rel attr) of =
    in_left (blocks_from Pairs 0 n.tables ++ blocks_from Tops 0 n.tables ++ blocks_from Lasts 0 n.tables)
    (Answers ∷ []) (Tops rel attr)
    (in_left (blocks_from Pairs 0 n.tables ++ blocks_from Tops 0 n.tables) (blocks_from Lasts 0 n.tables) (Tops rel attr)
    (in_right (blocks_from Pairs 0 n.tables) (blocks_from Tops 0 n.tables) (Tops rel attr)
    (blocks_from_in Tops 0 n.tables rel.0 attr.0 rel.0 (omega arith) of)))
blocks_in n (Lasts rel attr) of =
    in_left (blocks_from Pairs 0 n.tables ++ blocks_from Tops 0 n.tables ++ blocks_from Lasts 0 n.tables)
    (Answers ∷ []) (Lasts rel attr)
    (in_right (blocks_from Pairs 0 n.tables ++ blocks_from Tops 0 n.tables) (blocks_from Lasts 0 n.tables) (Lasts rel attr)
    (blocks_from_in Lasts 0 n.tables rel.0 attr.0 rel.0 (omega arith) of))
blocks_in n Answers of =
    in_right (blocks_from Pairs 0 n.tables ++ blocks_from Tops 0 n.tables ++ blocks_from Lasts 0 n.tables)
    (Answers ∷ []) Answers (inl refl)
