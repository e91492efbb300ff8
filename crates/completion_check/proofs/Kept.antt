-- What the places of two rows say of their pair.
use Rattle.std.proofs.Common.{◌≡◌, ◌+◌, ◌<◌, ◌≤◌, ℕ, zero, suc, List, [], ◌∷◌, Some, All, length, slice_get, slice_index, slice_index_or, refl, ap, sym, ◌∙◌, subst, ⊎_elim, arith}
use Rattle.std.proofs.lemmas.Option.{same_Some, none-some, get_or_from_slice_get, slice_get_within}
use Rattle.std.proofs.lemmas.Bool.{cases_eq, cases_lt}
use Rattle.std.proofs.lemmas.List.{get_or_past}
use Rattle.std.proofs.lemmas.List.Elements.{All-get_or, All-head, All-tail}
use Rattle.partial_orders.specs.Pairs.{entity_of}
use Rattle.currency_base.specs.declared.ids.RowId.{RowId}
use Rattle.currency_base.specs.declared.row.Row.{Row}
use Rattle.spec_model.specs.Completion.{IsRanking, Before}
use Rattle.completion_check.specs.Marks.{AreMarksOf, AreMarked}
use Rattle.completion_check.proofs.Places.{at_contains}

-- what holds of each item holds of the one at a place
pub all_at : {A : Type 0} (P : A → Type 0) (xs : List A) (i : ℕ) (x : A) → All P xs → slice_get xs i ≡ Some x → P x
all_at P xs i x all at = subst P (get_or_from_slice_get xs i x x at) (All-get_or P xs i x (slice_get_within xs i x at) all)

-- what holds of the items before a place, each at its place, and of the one there
pub each_at_more : {A : Type 0} (P : ℕ → A → Type 0) (xs : List A) (n : ℕ) (x : A) → slice_get xs n ≡ Some x → P n x
    → ((k : ℕ) (y : A) → k < n → slice_get xs k ≡ Some y → P k y) → (k : ℕ) (y : A) → k < n + 1 → slice_get xs k ≡ Some y → P k y
each_at_more P xs n x at here before k y below at' =
    ⊎_elim
    (λ (is : k ≡ n).
    subst (λ m. P m y) (sym is) (subst (P n) (same_Some x y (sym at ∙ (sym (ap (slice_get xs) is) ∙ at'))) here))
    (λ (apart : k ≡ n → ⊥). before k y (omega arith) at')
    (cases_eq k n)

-- each row stands for one of the entities
pub entity_within : (rows : List Row) (n row : ℕ) → All (λ r. r.entity.0 < n) rows → row < length rows
    → (ent : ℕ) × (ent < n) × (entity_of rows row ≡ Some ent)
entity_within [] n row all below = absurd (omega arith)
entity_within (r ∷ rows) n zero all below = (r.entity.0, All-head (λ q. q.entity.0 < n) r rows all, refl)
entity_within (r ∷ rows) n (suc row) all below =
    entity_within rows n row (All-tail (λ q. q.entity.0 < n) r rows all) (omega arith)

-- a list with an item is one of the lists
list_within : {A : Type 0} (lists : List (List A)) (ent i : ℕ) (x : A) → slice_get (slice_index_or lists ent []) i ≡
    Some x → ent < length lists
list_within {A} lists ent i x at =
    ⊎_elim
    (λ (h : ent < length lists). h)
    (λ (h : length lists ≤ ent). absurd
    (none-some x (sym (ap (λ (l : List A). slice_get l i) (get_or_past lists ent [] h)) ∙ at)))
    (cases_lt ent (length lists))

-- of two rows of one entity, the one with the smaller place stands before the other
pub before_from : (rows : List Row) (lists : List (List RowId)) (places : List ℕ) (ent : ℕ) (earlier later : RowId)
    → IsRanking rows ent (slice_index_or lists ent []) → AreMarksOf rows ent (slice_index_or lists ent []) places
    → entity_of rows earlier.0 ≡ Some ent → entity_of rows later.0 ≡ Some ent
    → slice_index places earlier.0 < slice_index places later.0 → Before lists earlier later
before_from rows lists places ent earlier later ranking marks of_ent of_ent' below =
    let list = slice_index_or lists ent [] in
    let low = at_contains list earlier (ranking.all earlier of_ent) in
    let high = at_contains list later (ranking.all later of_ent') in
    let low_place = (marks.listed low.0 earlier low.1).1 in
    let high_place = (marks.listed high.0 later high.1).1 in
    record { ent = ent; low = low.0; high = high.0; below = omega arith; first = low.1; second = high.1 }

-- a pair that is kept has its earlier row at the smaller place
pub below_from : (rows : List Row) (lists : List (List RowId)) (places : List ℕ) (earlier later : RowId)
    → AreMarked rows lists places → Before lists earlier later → slice_index places earlier.0 < slice_index places later.0
below_from rows lists places earlier later marked before =
    let marks = marked before.ent (list_within lists before.ent before.low earlier before.first) in
    let low_place = (marks.listed before.low earlier before.first).1 in
    let high_place = (marks.listed before.high later before.second).1 in
    omega (arith, before.below)
