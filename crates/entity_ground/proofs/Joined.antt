-- Lists that are made one after another.
use Rattle.std.proofs.Common.{◌≡◌, Bool, true, false, cond, List, [], ◌∷◌, ◌++◌, map, refl, sym, ap, ◌∙◌}
use Rattle.std.specs.List.{filter, flat_map}
use Rattle.std.proofs.lemmas.List.{map-append}
use Rattle.std.proofs.lemmas.List.Elements.{filter-append}

pub flat_same : {A B : Type 0} (make other : A → List B) → ((x : A) → make x ≡ other x) → (xs : List A)
    → flat_map make xs ≡ flat_map other xs
flat_same make other same [] = refl
flat_same make other same (x ∷ xs) = ap (λ l. l ++ flat_map make xs) (same x) ∙ ap (λ l. other x ++ l)
    (flat_same make other same xs)

-- what makes nothing can be left out
pub flat_filter : {A B : Type 0} (keeps : A → Bool) (make : A → List B) → ((x : A) → keeps x ≡ false → make x ≡ []) →
    (xs : List A)
    → flat_map make (filter keeps xs) ≡ flat_map make xs
flat_filter keeps make nothing [] = refl
flat_filter {A} {B} keeps make nothing (x ∷ xs) = by (keeps x) (nothing x) (flat_filter keeps make nothing xs)
  where
    by : (b : Bool) → (b ≡ false → make x ≡ []) → flat_map make (filter keeps xs) ≡ flat_map make xs
        → flat_map make (cond b (x ∷ filter keeps xs) (filter keeps xs)) ≡ make x ++ flat_map make xs
    by true none rest = ap (λ l. make x ++ l) rest
    by false none rest = rest ∙ ap (λ l. l ++ flat_map make xs) (sym (none refl))

pub filter_flat : {A B : Type 0} (test : B → Bool) (make : A → List B) (xs : List A) → filter test
    (flat_map make xs) ≡ flat_map (λ x. filter test (make x)) xs
filter_flat test make [] = refl
filter_flat test make (x ∷ xs) = filter-append test (make x) (flat_map make xs) ∙ ap (λ l. filter test (make x) ++ l)
    (filter_flat test make xs)

pub map_flat : {A B C : Type 0} (f : B → C) (make : A → List B) (xs : List A) → map f (flat_map make xs) ≡ flat_map
    (λ x. map f (make x)) xs
map_flat f make [] = refl
map_flat f make (x ∷ xs) = map-append f (make x) (flat_map make xs) ∙ ap (λ l. map f (make x) ++ l) (map_flat f make xs)
