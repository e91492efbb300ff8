-- Lists that are made place by place, and rows by their places in a list.
use Rattle.std.proofs.Common.{◌≡◌, ◌<◌, ◌∙◌, ◌==◌, ℕ, zero, suc, Bool, true, false, if◌then◌else◌, List, [], ◌∷◌, All, Contains, Some, map, length, slice_get, slice_index_or, refl, sym, ap, arith}
use Rattle.std.proofs.lemmas.Bool.{eqb-true, eqb-false}
use Rattle.std.proofs.lemmas.List.Elements.{All-head, All-tail, All-map, All-weaker, All-contains_itself}
use Rattle.std.proofs.lemmas.Option.{same_Some, none-some, get_or_from_slice_get, slice_get_within}
use Rattle.currency_base.specs.declared.ids.RowId.{RowId}
use Rattle.part_laws.specs.Parts.{whole_row}
use Rattle.part_laws.proofs.Rows.{place_of}

-- ---- lists

-- so many items, each made of its place
abbrev pub listed : {A : Type 0} → (ℕ → A) → ℕ → List A
listed make zero = []
listed make (suc m) = make 0 ∷ listed (λ i. make (suc i)) m

pub as_many : {A : Type 0} (make : ℕ → A) (m : ℕ) → length (listed make m) ≡ m
as_many make zero = refl
as_many make (suc m) = let more = as_many (λ i. make (suc i)) m in omega (arith, more)

pub made_at : {A : Type 0} (make : ℕ → A) (m i : ℕ) (x : A) → i < m → slice_index_or (listed make m) i x ≡ make i
made_at make zero i x below = absurd (omega (arith, below))
made_at make (suc m) zero x below = refl
made_at make (suc m) (suc i) x below = made_at (λ k. make (suc k)) m i x (omega (arith, below))

-- what holds of nothing, and of each item that is made, holds at each place
pub all_made : {A : Type 0} (P : A → Type 0) (make : ℕ → A) (m i : ℕ) (x : A) → P x → (i < m → P (make i))
    → P (slice_index_or (listed make m) i x)
all_made P make zero i x none each = none
all_made P make (suc m) zero x none each = each (omega arith)
all_made P make (suc m) (suc i) x none each = all_made P (λ k. make (suc k)) m i x none (λ below. each (omega (arith, below)))

-- ---- rows

-- the place of a row among others
abbrev pub place_in : List RowId → RowId → ℕ
place_in [] x = 0
place_in (row ∷ rows) x = if row.0 == x.0 then 0 else suc (place_in rows x)

same_row : (a b : RowId) → a.0 ≡ b.0 → a ≡ b
same_row a b e = ap (λ (n : ℕ). let x : RowId = record { 0 = n } in x) e

chosen : (test : Bool) (row x : RowId) (rows : List RowId) (n : ℕ) → (test ≡ true → row ≡ x)
    → (test ≡ false → slice_get rows n ≡ Some x)
    → slice_get (row ∷ rows) (if test then 0 else suc n) ≡ Some x
chosen true row x rows n first later = ap Some (first refl)
chosen false row x rows n first later = later refl

found_at : (rows : List RowId) (x : RowId) (k : ℕ) → slice_get rows k ≡ Some x → slice_get rows (place_in rows x) ≡ Some x
found_at [] x k at = absurd (none-some x at)
found_at (row ∷ rows) x zero at =
    let same : row ≡ x = same_Some row x at in
    chosen (row.0 == x.0) row x rows (place_in rows x) (λ e. same)
    (λ e. absurd (eqb-false row.0 x.0 e (ap (λ (q : RowId). q.0) same)))
found_at (row ∷ rows) x (suc k) at =
    chosen (row.0 == x.0) row x rows (place_in rows x) (λ e. same_row row x (eqb-true row.0 x.0 e)) (λ e. found_at rows x k at)

found : (rows : List RowId) (x : RowId) → Contains rows x → slice_get rows (place_in rows x) ≡ Some x
found rows x inside = let at = place_of rows x inside in found_at rows x at.0 at.1

-- a row by its place among others
abbrev pub numbered : List RowId → RowId → RowId
numbered rows x = record { 0 = place_in rows x }

-- rows by their places are these rows
pub rows_back : (rows list : List RowId) → All (Contains rows) list → list ≡ map (whole_row rows) (map (numbered rows) list)
rows_back rows [] all = refl
rows_back rows (x ∷ xs) all =
    let at = found rows x (All-head (Contains rows) x xs all) in
    let same : whole_row rows (numbered rows x) ≡ x = get_or_from_slice_get rows (place_in rows x) x (numbered rows x) at in
    ap (λ (l : List RowId). x ∷ l) (rows_back rows xs (All-tail (Contains rows) x xs all))
    ∙ ap (λ (y : RowId). y ∷ map (whole_row rows) (map (numbered rows) xs)) (sym same)

pub places_within : (rows list : List RowId) → All (Contains rows) list
    → All (λ row. row.0 < length rows) (map (numbered rows) list)
places_within rows list all =
    All-map (λ (row : RowId). row.0 < length rows) (numbered rows) list
    (All-weaker (Contains rows) (λ (x : RowId). place_in rows x < length rows)
    (λ x inside. slice_get_within rows (place_in rows x) x (found rows x inside)) list all)

-- what holds of each row that a list contains
pub all_contained : (P : RowId → Type 0) (list : List RowId) → ((x : RowId) → Contains list x → P x) → All P list
all_contained P list each = All-weaker (Contains list) P each list (All-contains_itself list)
