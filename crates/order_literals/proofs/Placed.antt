-- Which block stands where, and in which block a statement stands.
use Rattle.std.proofs.Common.{◌≡◌, ◌⊎◌, inl, inr, ◌∙◌, ◌+◌, ◌<◌, ℕ, zero, suc, List, [], ◌∷◌, ◌++◌, Some, length, map, take, get_or, slice_get, refl, sym, ap, append_assoc, arith, length-append, length-take-le}
use Rattle.std.specs.List.{flat_map, range_with_len, sum_by}
use Rattle.std.proofs.lemmas.List.{append-nil, take_more}
use Rattle.std.proofs.lemmas.List.FromFn.{length-map-range_with_len}
use Rattle.std.proofs.lemmas.List.Sums.{sum_by-cons}
use Rattle.std.proofs.lemmas.Option.{slice_get-get_or, slice_get_within}
use Rattle.currency_base.specs.declared.ids.AttrId.{AttrId}
use Rattle.currency_base.specs.declared.ids.RelId.{RelId}
use Rattle.order_literals.specs.Layout.{attrs_before, HasPlace}
use Rattle.order_literals.specs.Numbers.{Numbered}
use Rattle.order_literals.specs.Statements.{blocks_from}
use Rattle.order_literals.specs.declared.block.Block.{Block}

-- ---- lists that are joined

-- what stands in a list stands there in one that goes on
pub at_left : {A : Type 0} (xs ys : List A) (i : ℕ) (x : A) → slice_get xs i ≡ Some x → slice_get (xs ++ ys) i ≡ Some x
at_left [] ys i x e = cc
at_left (a ∷ xs) ys zero x e = e
at_left (a ∷ xs) ys (suc i) x e = at_left xs ys i x e

-- and what stands in a list stands so much later behind another
pub at_right : {A : Type 0} (xs ys : List A) (n i : ℕ) → n ≡ length xs → slice_get (xs ++ ys) (n + i) ≡ slice_get ys i
at_right [] ys n i e =
    let same : n + i ≡ i = omega arith in
    ap (slice_get ys) same
at_right (a ∷ xs) ys zero i e = absurd (omega arith)
at_right (a ∷ xs) ys (suc n) i e =
    let next : suc n + i ≡ suc (n + i) = omega arith in
    ap (slice_get ((a ∷ xs) ++ ys)) next ∙ at_right xs ys n i (omega arith)

-- what stands in two lists joined stands in one of them
pub at_either : {A : Type 0} (xs ys : List A) (i : ℕ) (x : A) → slice_get (xs ++ ys) i ≡ Some x
    → (slice_get xs i ≡ Some x) ⊎ ((j : ℕ) × (slice_get ys j ≡ Some x) × (i ≡ length xs + j))
at_either [] ys i x e = inr (i, e, omega arith)
at_either (a ∷ xs) ys zero x e = inl e
at_either (a ∷ xs) ys (suc i) x e = by (at_either xs ys i x e)
  where
    by : (slice_get xs i ≡ Some x) ⊎ ((j : ℕ) × (slice_get ys j ≡ Some x) × (i ≡ length xs + j))
        → (slice_get xs i ≡ Some x) ⊎ ((j : ℕ) × (slice_get ys j ≡ Some x) × (suc i ≡ suc (length xs) + j))
    by (inl left) = inl left
    by (inr right) = inr (right.0, right.1, omega (arith, right.2))

-- what stands in a piece stands behind the pieces before it
pub at_piece : {A B : Type 0} (f : A → List B) (xs : List A) (i k : ℕ) (x : A) → slice_get xs i ≡ Some x → k < length (f x)
    → slice_get (flat_map f xs) (length (flat_map f (take i xs)) + k) ≡ slice_get (f x) k
at_piece f [] i k x e h = cc
at_piece f (a ∷ xs) zero k x e h =
    let is : a ≡ x = cc in
    let same : 0 + k ≡ k = omega arith in
    let read = slice_get-get_or (f a) k in
    rw (same, is) (left (f x) (flat_map f xs) k h)
  where
    left : {B : Type 0} (ys zs : List B) (k : ℕ) → k < length ys → slice_get (ys ++ zs) k ≡ slice_get ys k
    left [] zs k h = absurd (omega arith)
    left (y ∷ ys) zs zero h = refl
    left (y ∷ ys) zs (suc k) h = left ys zs k (omega arith)
at_piece f (a ∷ xs) (suc i) k x e h =
    let front = flat_map f (take i xs) in
    let whole : length (f a ++ front) ≡ length (f a) + length front = length-append (f a) front in
    let place : length (f a ++ front) + k ≡ length (f a) + (length front + k) = omega arith in
    ap (slice_get (f a ++ flat_map f xs)) place ∙ at_right (f a) (flat_map f xs) (length (f a)) (length front + k)
    refl ∙ at_piece f xs i k x e h

-- what stands in the pieces joined stands in one of them
pub in_piece : {A B : Type 0} (f : A → List B) (xs : List A) (v : ℕ) (y : B) → slice_get (flat_map f xs) v ≡ Some y
    → (i k : ℕ) × (x : A) × (slice_get xs i ≡ Some x) × (slice_get (f x) k ≡ Some y)
in_piece f [] v y e = cc
in_piece {A = A} {B = B} f (a ∷ xs) v y e = by (in_piece f xs) (at_either (f a) (flat_map f xs) v y e)
  where
    by : ((v : ℕ) (y : B) → slice_get (flat_map f xs) v ≡ Some y → (i k : ℕ) × (x : A) × (slice_get xs i ≡ Some x) ×
        (slice_get (f x) k ≡ Some y))
        → (slice_get (f a) v ≡ Some y) ⊎ ((j : ℕ) × (slice_get (flat_map f xs) j ≡ Some y) × (v ≡ length (f a) + j))
        → (i k : ℕ) × (x : A) × (slice_get (a ∷ xs) i ≡ Some x) × (slice_get (f x) k ≡ Some y)
    by more (inl here) = (0, v, a, refl, here)
    by more (inr later) = let rest = more later.0 y later.1 in (suc rest.0, rest.1, rest.2, rest.3, rest.4)

-- ---- the blocks of a kind

-- a block for each attribute
attr_at : (make : RelId → AttrId → Block) (rel : ℕ) (start attrs attr : ℕ) → attr < attrs
    → slice_get (map (λ attr. make (record { 0 = rel }) (record { 0 = attr })) (range_with_len start attrs)) attr
    ≡ Some (make (record { 0 = rel }) (record { 0 = start + attr }))
attr_at make rel start zero attr h = absurd (omega arith)
attr_at make rel start (suc attrs) zero h =
    let same : start + 0 ≡ start = omega arith in
    rw same refl
attr_at make rel start (suc attrs) (suc attr) h =
    let same : start + suc attr ≡ start + 1 + attr = omega arith in
    rw same (attr_at make rel (start + 1) attrs attr (omega arith))

-- how many there are
pub count_of_kind : (make : RelId → AttrId → Block) (first : ℕ) (tables : List Numbered)
    → length (blocks_from make first tables) ≡ sum_by (λ t. t.attrs) tables
count_of_kind make first [] = refl
count_of_kind make first (t ∷ tables) =
    let front = map (λ attr. make (record { 0 = first }) (record { 0 = attr })) (range_with_len 0 t.attrs) in
    let parts = length-append front (blocks_from make (first + 1) tables) in
    let these : length front ≡ t.attrs = length-map-range_with_len {X = Block}
    (λ attr. make (record { 0 = first }) (record { 0 = attr })) 0 t.attrs in
    let rest = count_of_kind make (first + 1) tables in
    omega (arith, parts, sum_by-cons (λ (t : Numbered). t.attrs) t tables)

-- the block of an attribute of a relation
pub kind_at : (make : RelId → AttrId → Block) (first : ℕ) (tables : List Numbered) (rel attr : ℕ) (t : Numbered)
    → slice_get tables rel ≡ Some t
    → attr < t.attrs → slice_get (blocks_from make first tables) (attrs_before tables rel + attr) ≡ Some
    (make (record { 0 = first + rel }) (record { 0 = attr }))
kind_at make first [] rel attr t e h = cc
kind_at make first (t' ∷ tables) zero attr t e h =
    let is : t' ≡ t = cc in
    let attrs = ap (λ (u : Numbered). u.attrs) is in
    let same : 0 + attr ≡ attr = omega arith in
    let place : first + 0 ≡ first = omega arith in
    let read = attr_at make first 0 t'.attrs attr (omega arith) in
    let here : slice_get (map (λ attr. make (record { 0 = first }) (record { 0 = attr })) (range_with_len 0 t'.attrs)) attr
    ≡ Some (make (record { 0 = first }) (record { 0 = attr })) = rw same at read in
    rw (same, place) (at_left _ _ attr _ here)
kind_at make first (t' ∷ tables) (suc rel) attr t e h =
    let front = map (λ attr. make (record { 0 = first }) (record { 0 = attr })) (range_with_len 0 t'.attrs) in
    let these : length front ≡ t'.attrs = length-map-range_with_len {X = Block}
    (λ attr. make (record { 0 = first }) (record { 0 = attr })) 0 t'.attrs in
    let more = sum_by-cons (λ (u : Numbered). u.attrs) t' (take rel tables) in
    let place : attrs_before (t' ∷ tables) (suc rel) + attr ≡ t'.attrs + (attrs_before tables rel + attr) = omega arith in
    let number : first + suc rel ≡ first + 1 + rel = omega arith in
    rw (place, number)
    (at_right front (blocks_from make (first + 1) tables) t'.attrs (attrs_before tables rel + attr) (sym these)
    ∙ kind_at make (first + 1) tables rel attr t e h)

-- the blocks of one more relation
kinds_push : (make : RelId → AttrId → Block) (first : ℕ) (front : List Numbered) (rel : ℕ) (t : Numbered) → length front ≡ rel
    → blocks_from make first (front ++ t ∷ []) ≡ blocks_from make first front
    ++ map (λ attr. make (record { 0 = first + rel }) (record { 0 = attr })) (range_with_len 0 t.attrs)
kinds_push make first [] rel t e =
    let same : first + rel ≡ first = omega arith in
    rw same (append-nil _)
kinds_push make first (u ∷ front) zero t e = absurd (omega arith)
kinds_push make first (u ∷ front) (suc rel) t e =
    let number : first + suc rel ≡ first + 1 + rel = omega arith in
    let more = kinds_push make (first + 1) front rel t (omega arith) in
    let these = map (λ attr. make (record { 0 = first }) (record { 0 = attr })) (range_with_len 0 u.attrs) in
    let last = map (λ attr. make (record { 0 = first + 1 + rel }) (record { 0 = attr })) (range_with_len 0 t.attrs) in
    rw (number, more) (sym (append_assoc these (blocks_from make (first + 1) front) last))

pub kinds_more : (make : RelId → AttrId → Block) (tables : List Numbered) (rel : ℕ) (t : Numbered) (front xs ys : List Block)
    → rel < length tables → t ≡ get_or tables rel t → xs ≡ front ++ blocks_from make 0 (take rel tables)
    → ys ≡ xs ++ map (λ attr. make (record { 0 = rel }) (record { 0 = attr })) (range_with_len 0 t.attrs)
    → ys ≡ front ++ blocks_from make 0 (take (rel + 1) tables)
kinds_more make tables rel t front xs ys within is before put =
    let more = take_more tables rel t within in
    let last : take (rel + 1) tables ≡ take rel tables ++ t ∷ [] = cc in
    let same : 0 + rel ≡ rel = omega arith in
    let made = kinds_push make 0 (take rel tables) rel t (length-take-le rel tables (omega arith)) in
    let attrs = map (λ attr. make (record { 0 = rel }) (record { 0 = attr })) (range_with_len 0 t.attrs) in
    let one : blocks_from make 0 (take rel tables ++ t ∷ []) ≡ blocks_from make 0 (take rel tables) ++ attrs = rw same at made in
    let joined = append_assoc front (blocks_from make 0 (take rel tables)) attrs in
    rw (put, before, last, one) joined

-- each of them is of an attribute of a relation
pub in_kind : (make : RelId → AttrId → Block) (first : ℕ) (tables : List Numbered) (i : ℕ) (b : Block)
    → slice_get (blocks_from make first tables) i ≡ Some b
    → (rel attr : ℕ) × HasPlace tables rel attr × (b ≡ make (record { 0 = first + rel }) (record { 0 = attr }))
in_kind make first [] i b e = cc
in_kind make first (t ∷ tables) i b e =
    by (in_kind make (first + 1) tables)
    (at_either (map (λ attr. make (record { 0 = first }) (record { 0 = attr })) (range_with_len 0 t.attrs))
    (blocks_from make (first + 1) tables) i b e)
  where
    by : ((i : ℕ) (b : Block) → slice_get (blocks_from make (first + 1) tables) i ≡ Some b
        → (rel attr : ℕ) × HasPlace tables rel attr × (b ≡ make (record { 0 = first + 1 + rel }) (record { 0 = attr })))
        → (slice_get (map (λ attr. make (record { 0 = first }) (record { 0 = attr })) (range_with_len 0 t.attrs)) i ≡ Some b)
        ⊎ ((j : ℕ) × (slice_get (blocks_from make (first + 1) tables) j ≡ Some b)
        × (i ≡ length (map (λ attr. make (record { 0 = first }) (record { 0 = attr })) (range_with_len 0 t.attrs)) + j))
        → (rel attr : ℕ) × HasPlace (t ∷ tables) rel attr × (b ≡ make (record { 0 = first + rel }) (record { 0 = attr }))
    by more (inl here) =
        let within = slice_get_within (map (λ attr. make (record { 0 = first }) (record { 0 = attr }))
        (range_with_len 0 t.attrs)) i b here in
        let count : length (map (λ attr. make (record { 0 = first }) (record { 0 = attr }))
        (range_with_len 0 t.attrs)) ≡ t.attrs =
        length-map-range_with_len {X = Block} (λ attr. make (record { 0 = first }) (record { 0 = attr })) 0 t.attrs in
        let inside : i < t.attrs = omega arith in
        let read = attr_at make first 0 t.attrs i inside in
        let start : first + 0 ≡ first = omega arith in
        let number : 0 + i ≡ i = omega arith in
        let is : b ≡ make (record { 0 = first }) (record { 0 = 0 + i }) = cc in
        (0, i, record { table = t; is_table = refl; attr_within = inside }, rw (start, ← number) is)
    by more (inr later) =
        let rest = more later.0 b later.1 in
        let number : first + suc rest.0 ≡ first + 1 + rest.0 = omega arith in (
          suc rest.0,
          rest.1,
          record {
            table = rest.2.table;
            is_table = rest.2.is_table;
            attr_within =
                rest.2.attr_within;
          },
          rw number rest.3,
        )
