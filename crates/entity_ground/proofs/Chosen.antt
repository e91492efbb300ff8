-- Choices that go on from a front.
use Rattle.std.proofs.Common.{◌≡◌, ◌-◌, ◌<◌, ℕ, zero, suc, Bool, cond, List, [], ◌∷◌, ◌++◌, map, refl, sym, ap, ◌∙◌, arith, append_assoc}
use Rattle.std.specs.List.{filter, flat_map}
use Rattle.std.proofs.lemmas.List.{append-nil}
use Rattle.currency_base.specs.declared.ids.RowId.{RowId}
use Rattle.entity_ground.specs.Choosing.{chosen_from}
use Rattle.entity_ground.specs.Grounds.{choices}
use Rattle.entity_ground.proofs.Joined.{flat_same, filter_flat, map_flat}

front_moved : (front : List RowId) (row : RowId) (lists : List (List RowId))
    → map (λ l. front ++ l) (map (λ rows. row ∷ rows) lists) ≡ map (λ l. (front ++ row ∷ []) ++ l) lists
front_moved front row [] = refl
front_moved front row (l ∷ lists) =
    ap (λ x. x ∷ map (λ l. front ++ l) (map (λ rows. row ∷ rows) lists)) (sym (append_assoc front (row ∷ []) l))
    ∙ ap (λ x. ((front ++ row ∷ []) ++ l) ∷ x) (front_moved front row lists)

-- choices that go on from a front are a filter of all of them
chosen_filter : (test : List RowId → Bool) (members : List RowId) (left : ℕ) (front : List RowId)
    → filter test (map (λ l. front ++ l) (choices left members)) ≡ chosen_from test members left front
chosen_filter test members zero front = ap (λ l. cond (test l) (l ∷ []) []) (append-nil front)
chosen_filter test members (suc left) front =
    ap (filter test) (map_flat (λ l. front ++ l) (λ row. map (λ rows. row ∷ rows) (choices left members)) members)
    ∙ filter_flat test (λ row. map (λ l. front ++ l) (map (λ rows. row ∷ rows) (choices left members))) members
    ∙ flat_same (λ row. filter test (map (λ l. front ++ l) (map (λ rows. row ∷ rows) (choices left members))))
    (λ row. chosen_from test members left (front ++ row ∷ []))
    (λ row. ap (filter test) (front_moved front row (choices left members)) ∙ chosen_filter test members left
    (front ++ row ∷ [])) members

map_same : {A : Type 0} (xs : List (List A)) → map (λ l. [] ++ l) xs ≡ xs
map_same [] = refl
map_same (x ∷ xs) = ap (λ l. x ∷ l) (map_same xs)

-- all that are chosen from nothing
pub chosen_from_nothing : (test : List RowId → Bool) (members : List RowId) (vars : ℕ) → chosen_from test members
    vars [] ≡ filter test (choices vars members)
chosen_from_nothing test members vars = sym (chosen_filter test members vars []) ∙ ap (filter test)
    (map_same (choices vars members))

-- where a row is left to choose, one row is chosen first
pub chosen_more : (test : List RowId → Bool) (members : List RowId) (left : ℕ) (front : List RowId) → 0 < left
    → chosen_from test members left front ≡ flat_map (λ row. chosen_from test members (left - 1) (front ++ row ∷ [])) members
chosen_more test members zero front some = absurd (omega arith)
chosen_more test members (suc left) front some =
    let same : suc left - 1 ≡ left = omega arith in
    rw same refl
