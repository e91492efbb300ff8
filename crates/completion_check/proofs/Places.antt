-- Steps of the marks of an entity's list, and what whole marks say of the list.
use Rattle.std.proofs.Common.{◌≡◌, ◌+◌, ◌-◌, ◌<◌, ◌≤◌, ◌⊎◌, ℕ, zero, suc, List, [], ◌∷◌, ◌++◌, Some, Contains, take, length, slice_get, slice_index, slice_set, refl, ap, sym, ◌∙◌, inl, inr, ⊎_elim, arith, add-one}
use Rattle.std.proofs.lemmas.Option.{same_Some, none-some, get_or_from_slice_get, slice_get-get_or, slice_get_within}
use Rattle.std.proofs.lemmas.Bool.{cases_eq}
use Rattle.std.proofs.lemmas.List.{get_or-set_same, get_or-set_other, take_more, length-take-le}
use Rattle.partial_orders.specs.Pairs.{entity_of}
use Rattle.currency_base.specs.declared.ids.RowId.{RowId}
use Rattle.currency_base.specs.declared.row.Row.{Row}
use Rattle.spec_model.specs.Completion.{IsRanking}
use Rattle.completion_check.specs.Marks.{AreMarksOf, SameElsewhere, IsUnmarked}

-- an item of a list with one more at its end
get_push : {A : Type 0} (xs : List A) (y : A) (i : ℕ) (x : A) → slice_get (xs ++ y ∷ []) i ≡ Some x
    → (slice_get xs i ≡ Some x) ⊎ ((i ≡ length xs) × (x ≡ y))
get_push [] y zero x e = inr (refl, sym (same_Some y x e))
get_push [] y (suc i) x e = absurd (none-some x e)
get_push (z ∷ xs) y zero x e = inl e
get_push (z ∷ xs) y (suc i) x e =
    ⊎_elim (λ (h : slice_get xs i ≡ Some x). inl h) (λ (h : (i ≡ length xs) × (x ≡ y)). inr (ap suc h.0, h.1))
    (get_push xs y i x e)

push_get : {A : Type 0} (xs : List A) (y : A) → slice_get (xs ++ y ∷ []) (length xs) ≡ Some y
push_get [] y = refl
push_get (x ∷ xs) y = push_get xs y

get_left : {A : Type 0} (xs ys : List A) (i : ℕ) (x : A) → slice_get xs i ≡ Some x → slice_get (xs ++ ys) i ≡ Some x
get_left [] ys i x e = absurd (none-some x e)
get_left (z ∷ xs) ys zero x e = e
get_left (z ∷ xs) ys (suc i) x e = get_left xs ys i x e

-- an item of the front of a list
pub get_of_take : {A : Type 0} (xs : List A) (n i : ℕ) (x : A) → slice_get (take n xs) i ≡ Some x →
    (i < n) × (slice_get xs i ≡ Some x)
get_of_take xs zero i x e = absurd (none-some x e)
get_of_take [] (suc n) i x e = absurd (none-some x e)
get_of_take (z ∷ xs) (suc n) zero x e = (omega arith, e)
get_of_take (z ∷ xs) (suc n) (suc i) x e = let h = get_of_take xs n i x e in (omega (arith, h.0), h.1)

pub get_in_take : {A : Type 0} (xs : List A) (n i : ℕ) (x : A) → slice_get xs i ≡ Some x → i < n
    → slice_get (take n xs) i ≡ Some x
get_in_take xs zero i x e below = absurd (omega arith)
get_in_take [] (suc n) i x e below = absurd (none-some x e)
get_in_take (z ∷ xs) (suc n) zero x e below = e
get_in_take (z ∷ xs) (suc n) (suc i) x e below = get_in_take xs n i x e (omega arith)

pub take_more_at : {A : Type 0} (xs : List A) (n : ℕ) (x : A) → slice_get xs n ≡ Some x → take (n + 1) xs ≡ take n xs ++ x ∷ []
take_more_at xs n x e =
    take_more xs n x (slice_get_within xs n x e) ∙ ap (λ y. take n xs ++ y ∷ []) (get_or_from_slice_get xs n x x e)

-- an item stands in its list
pub contains_at : {A : Type 0} (xs : List A) (i : ℕ) (x : A) → slice_get xs i ≡ Some x → Contains xs x
contains_at xs i x e = (i, slice_get_within xs i x e, get_or_from_slice_get xs i x x e)

pub at_contains : {A : Type 0} (xs : List A) (x : A) → Contains xs x → (i : ℕ) × (slice_get xs i ≡ Some x)
at_contains xs x c = (c.0, slice_get-get_or xs c.0 x c.1 ∙ ap Some c.2)

-- a row is its number
pub same_row : (r s : RowId) → r.0 ≡ s.0 → r ≡ s
same_row r s e = ap (λ (n : ℕ). let x : RowId = record { 0 = n } in x) e

-- one more row of the list
pub marks_more : (rows : List Row) (ent : ℕ) (list : List RowId) (places : List ℕ) (row : RowId) → AreMarksOf rows ent list places
    → entity_of rows row.0 ≡ Some ent → slice_index places row.0 ≡ 0 → row.0 < length places
    → AreMarksOf rows ent (list ++ row ∷ []) (slice_set places row.0 (length list + 1))
marks_more rows ent list places row marks of_ent free within =
    record {
      listed = λ i r at.
          ⊎_elim
          (λ (h : slice_get list i ≡ Some r).
          let was = marks.listed i r h in
          let other : r.0 ≡ row.0 → ⊥ = λ same. absurd (omega (arith, was.1, ap (slice_index places) same, free)) in
          (was.0, get_or-set_other places row.0 r.0 (length list + 1) 0 other ∙ was.1))
          (λ (h : (i ≡ length list) × (r ≡ row)).
          rw (h.1, h.0) (of_ent, get_or-set_same places row.0 (length list + 1) 0 within))
          (get_push list row i r at);
      marked = λ i r of_ent' at.
          ⊎_elim
          (λ (same : r.0 ≡ row.0).
          let here : slice_index (slice_set places row.0 (length list + 1)) row.0 ≡ i + 1 = rw same at at in
          let is : length list + 1 ≡ i + 1 = sym (get_or-set_same places row.0 (length list + 1) 0 within) ∙ here in
          let last : i ≡ length list = omega arith in
          rw (last, same_row r row same) (push_get list row))
          (λ (other : r.0 ≡ row.0 → ⊥).
          get_left list (row ∷ []) i r (marks.marked i r of_ent'
          (sym (get_or-set_other places row.0 r.0 (length list + 1) 0 other) ∙ at)))
          (cases_eq r.0 row.0);
    }

-- the rows of the other entities
pub elsewhere_more : (rows : List Row) (ent row v : ℕ) (old places : List ℕ) → SameElsewhere rows ent old places
    → entity_of rows row ≡ Some ent → SameElsewhere rows ent old (slice_set places row v)
elsewhere_more rows ent row v old places same of_ent r not_of_ent =
    let other : r ≡ row → ⊥ = λ is. not_of_ent (ap (entity_of rows) is ∙ of_ent) in
    get_or-set_other places row r v 0 other ∙ same r not_of_ent

-- a row that is not free shows that the list is no ranking
pub refused_at : (rows : List Row) (ent n : ℕ) (list : List RowId) (places : List ℕ) (row : RowId)
    → AreMarksOf rows ent (take n list) places
    → slice_get list n ≡ Some row → ((entity_of rows row.0 ≡ Some ent) × (slice_index places row.0 ≡ 0) → ⊥)
    → IsRanking rows ent list → ⊥
refused_at rows ent n list places row marks at taken ranking =
    let of_ent = ranking.only row (contains_at list n row at) in
    go (slice_index places row.0) refl of_ent
  where
    go : (v : ℕ) → slice_index places row.0 ≡ v → entity_of rows row.0 ≡ Some ent → ⊥
    go zero e of_ent = taken (of_ent, e)
    go (suc i) e of_ent =
        let found = get_of_take list n i row (marks.marked i row of_ent (e ∙ sym (add-one i))) in
        let same = ranking.once i n row found.1 at in
        absurd (omega (arith, found.0, same))

-- a row that stands for an entity is one of the rows
pub row_within : (rows : List Row) (row ent : ℕ) → entity_of rows row ≡ Some ent → row < length rows
row_within [] row ent e = absurd (none-some ent e)
row_within (r ∷ rows) zero ent e = omega arith
row_within (r ∷ rows) (suc row) ent e = omega (arith, row_within rows row ent e)

-- one more row of a list whose front is marked
pub marks_next : (rows : List Row) (ent n : ℕ) (list : List RowId) (places : List ℕ) (row : RowId)
    → AreMarksOf rows ent (take n list) places
    → slice_get list n ≡ Some row → entity_of rows row.0 ≡ Some ent → slice_index places row.0 ≡ 0 → length rows ≤ length places
    → AreMarksOf rows ent (take (n + 1) list) (slice_set places row.0 (n + 1))
marks_next rows ent n list places row marks at of_ent free room =
    let inside = slice_get_within list n row at in
    let within : row.0 < length places = omega (arith, row_within rows row.0 ent of_ent) in
    let more = marks_more rows ent (take n list) places row marks of_ent free within in
    let front : length (take n list) ≡ n = length-take-le n list (omega arith) in
    rw (take_more_at list n row at) (rw front at more)

-- the marks of another entity stay
pub marks_kept : (rows : List Row) (ent other : ℕ) (list : List RowId) (old new : List ℕ) → SameElsewhere rows ent
    old new → (other ≡ ent → ⊥)
    → AreMarksOf rows other list old → AreMarksOf rows other list new
marks_kept rows ent other list old new same apart marks =
    let elsewhere : (row : ℕ) → entity_of rows row ≡ Some other → slice_index new row ≡ slice_index old row =
    λ row e. same row (λ e'. apart (same_Some other ent (sym e ∙ e'))) in
    record {
      listed = λ i row at. let was = marks.listed i row at in (was.0, elsewhere row.0 was.0 ∙ was.1);
      marked = λ i row e at. marks.marked i row e (sym (elsewhere row.0 e) ∙ at);
    }

pub unmarked_kept : (rows : List Row) (ent other : ℕ) (old new : List ℕ) → SameElsewhere rows ent old new → (other ≡ ent → ⊥)
    → IsUnmarked rows other old → IsUnmarked rows other new
unmarked_kept rows ent other old new same apart unmarked row e =
    same row (λ e'. apart (same_Some other ent (sym e ∙ e'))) ∙ unmarked row e

-- a marked list is a ranking where each row of its entity has a place
pub ranking_from_marks : (rows : List Row) (ent : ℕ) (list : List RowId) (places : List ℕ) → AreMarksOf rows ent list places
    → ((row : ℕ) → entity_of rows row ≡ Some ent → 0 < slice_index places row) → IsRanking rows ent list
ranking_from_marks rows ent list places marks every =
    record {
      only = λ row c. (marks.listed _ row (at_contains list row c).1).0;
      once = λ i j row at at'.
          let p = (marks.listed i row at).1 in
          let q = (marks.listed j row at').1 in
          omega (arith, p, q);
      all = λ row e.
          let above = every row.0 e in
          let n = slice_index places row.0 in
          let back : slice_index places row.0 ≡ (n - 1) + 1 = omega arith in
          contains_at list (n - 1) row (marks.marked (n - 1) row e back);
    }

-- and none where one has no place
pub not_ranking : (rows : List Row) (ent row : ℕ) (list : List RowId) (places : List ℕ) → AreMarksOf rows ent list places
    → entity_of rows row ≡ Some ent → slice_index places row ≡ 0 → IsRanking rows ent list → ⊥
not_ranking rows ent row list places marks e free ranking =
    let it : RowId = record { 0 = row } in
    let found = at_contains list it (ranking.all it e) in
    absurd (omega (arith, (marks.listed found.0 it found.1).1, free))
