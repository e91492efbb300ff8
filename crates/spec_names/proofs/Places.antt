-- Items of a list where each stands once.
use Rattle.std.proofs.Common.{◌≡◌, ◌∙◌, ◌<◌, ℕ, min, Bool, true, false, Some, List, [], ◌∷◌, ◌++◌, length, get_or, slice_get, take, map, Contains, sym, ap, arith}
use Rattle.std.specs.Bool.{OnTrue, OnFalse}
use Rattle.std.proofs.lemmas.List.{get_or-take, length-take, take-map, length-map, get_or-map}
use Rattle.std.proofs.lemmas.Option.{slice_get-get_or, slice_get_within, get_or_from_slice_get}
use Rattle.currency_base.specs.Lists.{OnlyOnce}

-- an item is not among those before it
pub not_before : {A : Type 0} (xs : List A) (i : ℕ) (x : A) → OnlyOnce xs → i < length xs → get_or xs i x ≡ x
    → Contains (take i xs) x → ⊥
not_before xs i x once within at_i (k, below, at_k) =
    let count : length (take i xs) ≡ min i (length xs) = length-take i xs in
    let earlier : k < i = omega arith in
    let in_list : k < length xs = omega arith in
    let same : get_or xs k x ≡ x = sym (get_or-take i xs k x earlier) ∙ at_k in
    let first : slice_get xs k ≡ Some x = slice_get-get_or xs k x in_list ∙ ap Some same in
    let second : slice_get xs i ≡ Some x = slice_get-get_or xs i x within ∙ ap Some at_i in
    let place : k ≡ i = once k i x first second in
    absurd (omega arith)

-- the same of what a function gives at the items
pub none_before : {A B : Type 0} (f : A → B) (xs : List A) (i : ℕ) (x : A) → OnlyOnce (map f xs) → i < length xs
    → get_or xs i x ≡ x
    → Contains (map f (take i xs)) (f x) → ⊥
none_before f xs i x once within at_i there =
    let within_map : i < length (map f xs) = let e : length (map f xs) ≡ length xs = length-map xs f in omega arith in
    let at_map : get_or (map f xs) i (f x) ≡ f x = get_or-map f xs i x (f x) within ∙ ap f at_i in
    not_before (map f xs) i (f x) once within_map at_map (rw (take-map f i xs) there)

-- a name that was nowhere stands at the end
pub added : (old new : List (List ℕ)) (name : List ℕ) (place : ℕ) (is_new : Bool) → (Contains old name → ⊥)
    → slice_get new place ≡ Some name
    → OnTrue is_new (new ≡ old ++ name ∷ []) → OnFalse is_new (new ≡ old) → new ≡ old ++ name ∷ []
added old new name place true absent at_place fresh known = fresh
added old new name place false absent at_place fresh known =
    let there : slice_get old place ≡ Some name = rw known at at_place in
    absurd (absent (place, slice_get_within old place name there, get_or_from_slice_get old place name name there))
