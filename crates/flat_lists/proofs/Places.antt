-- Where a list stands among the items, and the lists before a place.
use Rattle.std.proofs.Common.{◌≡◌, ◌<◌, ◌≤◌, ◌∙◌, ℕ, zero, suc, List, [], ◌∷◌, ◌++◌, Some, length, get_or, take, drop, slice_get, slice_range, refl, sym, ap, arith, length-take-le}
use Rattle.std.proofs.lemmas.List.{take-append-drop}
use Rattle.flat_lists.specs.Flat.{cut_from, Ascend, IsFlat}
use Rattle.flat_lists.proofs.Cuts.{start_within, cut_more}

-- the list at a place
pub list_at : {A : Type 0} (start : ℕ) (ends : List ℕ) (xs : List A) (place : ℕ) → place < length ends
    → slice_get (cut_from start ends xs) place ≡ Some (slice_range xs (get_or (start ∷ ends) place 0) (get_or ends place 0))
list_at start [] xs place h = absurd (omega arith)
list_at start (end ∷ ends) xs zero h = refl
list_at start (end ∷ ends) xs (suc place) h = list_at end ends xs place (omega arith)

-- it starts no later than it ends
pub span_order : (start : ℕ) (ends : List ℕ) (total place : ℕ) → Ascend start ends total → place < length ends
    → get_or (start ∷ ends) place 0 ≤ get_or ends place 0
span_order start [] total place a h = absurd (omega arith)
span_order start (end ∷ ends) total zero a h = a.0
span_order start (end ∷ ends) total (suc place) a h = span_order end ends total place a.1 (omega arith)

-- and starts within the items
pub span_within : (start : ℕ) (ends : List ℕ) (total place : ℕ) → Ascend start ends total → place ≤ length ends
    → get_or (start ∷ ends) place 0 ≤ total
span_within start ends total zero a h = start_within start ends total a
span_within start [] total (suc place) a h = absurd (omega arith)
span_within start (end ∷ ends) total (suc place) a h = span_within end ends total place a.1 (omega arith)

-- as it ends, too
pub end_within : (start : ℕ) (ends : List ℕ) (total place : ℕ) → Ascend start ends total → place < length ends
    → get_or ends place 0 ≤ total
end_within start [] total place a h = absurd (omega arith)
end_within start (end ∷ ends) total place a h = span_within end ends total place a.1 (omega arith)

cut_take : {A : Type 0} (start : ℕ) (ends : List ℕ) (xs : List A) (count : ℕ)
    → cut_from start (take count ends) xs ≡ take count (cut_from start ends xs)
cut_take start ends xs zero = refl
cut_take start [] xs (suc count) = refl
cut_take start (end ∷ ends) xs (suc count) = ap (λ zs. slice_range xs start end ∷ zs) (cut_take end ends xs count)

ascend_take : (start : ℕ) (ends : List ℕ) (total count : ℕ) → Ascend start ends total → count ≤ length ends
    → Ascend start (take count ends) (get_or (start ∷ ends) count 0)
ascend_take start ends total zero a h = refl
ascend_take start [] total (suc count) a h = absurd (omega arith)
ascend_take start (end ∷ ends) total (suc count) a h = (a.0, ascend_take end ends total count a.1 (omega arith))

-- the lists from a place on are dropped
module _ {A : Type 0} (xs : List A) (ends : List ℕ) (flat : IsFlat ends (length xs)) (count : ℕ) (within : count ≤ length ends)
    (xs' : List A) (ends' : List ℕ) (start : ℕ)
    (start_is : start ≡ get_or (0 ∷ ends) count 0) (items_are : xs' ≡ take start xs) (ends_are : ends' ≡ take count ends) where
  start_below : start ≤ length xs
  start_below = omega (arith, span_within 0 ends (length xs) count flat.ascend within)

  total : length xs' ≡ start
  total = ap length items_are ∙ length-take-le start xs start_below

  ascend : Ascend 0 ends' (length xs')
  ascend = rw (total, ends_are, start_is) (ascend_take 0 ends (length xs) count flat.ascend within)

  pub flat_cut : IsFlat ends' (length xs')
  flat_cut = record { ascend = ascend; few = omega (arith, total, start_below, flat.few) }

  pub cut_cut : cut_from 0 ends' xs' ≡ take count (cut_from 0 ends xs)
  cut_cut =
      let whole : xs' ++ drop start xs ≡ xs = ap (λ zs. zs ++ drop start xs) items_are ∙ take-append-drop start xs in
      sym (cut_more 0 ends' xs' (drop start xs) ascend) ∙ ap (cut_from 0 ends') whole
      ∙ ap (λ zs. cut_from 0 zs xs) ends_are ∙ cut_take 0 ends xs count
