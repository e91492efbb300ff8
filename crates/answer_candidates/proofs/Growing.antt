-- One place more.
use Rattle.std.proofs.Common.{◌≡◌, ◌+◌, ◌<◌, ℕ, zero, suc, Bool, true, not, if◌then◌else◌, List, [], ◌∷◌, ◌++◌, Some, length, map, take, get_or, slice_get, slice_index_or, refl, sym, ap, subst, ◌∙◌, arith}
use Rattle.std.specs.List.{All, filter, range_with_len}
use Rattle.std.proofs.lemmas.List.{take_more}
use Rattle.std.proofs.lemmas.List.Elements.{filter-append}
use Rattle.std.proofs.lemmas.Option.{get_or_from_slice_get, same_Some, slice_get-get_or, slice_get_within}
use Rattle.currency_base.specs.declared.value.Value.{Value}
use Rattle.answer_candidates.specs.Candidates.{is_left}

range_more : (a n : ℕ) → range_with_len a (n + 1) ≡ range_with_len a n ++ (a + n) ∷ []
range_more a zero = ap (λ b. b ∷ []) (omega arith)
range_more a (suc n) =
    let next : suc n + 1 ≡ suc (n + 1) = omega arith in
    let last : a + 1 + n ≡ a + suc n = omega arith in
    rw next (ap (λ xs. a ∷ xs) (range_more (a + 1) n ∙ ap (λ b. range_with_len (a + 1) n ++ b ∷ []) last))

-- the place of one mark more
pub left_more : (gone : List Bool) (n : ℕ) (d : Bool) (places now : List ℕ) → n < length gone → places ≡ filter
    (is_left gone) (range_with_len 0 n)
    → now ≡ places ++ (if not (get_or gone n d) then n ∷ [] else []) → now ≡ filter (is_left gone) (range_with_len 0 (n + 1))
left_more gone n d places now below before after =
    let zero_more : 0 + n ≡ n = omega arith in
    let range : range_with_len 0 (n + 1) ≡ range_with_len 0 n ++ n ∷ [] = range_more 0 n
    ∙ ap (λ b. range_with_len 0 n ++ b ∷ []) zero_more in
    let same : get_or gone n d ≡ get_or gone n true = same_Some _ _ (sym (slice_get-get_or gone n d below)
    ∙ slice_get-get_or gone n true below) in
    after ∙ ap (λ xs. xs ++ (if not (get_or gone n d) then n ∷ [] else [])) before
    ∙ ap (λ b. filter (is_left gone) (range_with_len 0 n) ++ (if not b then n ∷ [] else [])) same
    ∙ sym (filter-append (is_left gone) (range_with_len 0 n) (n ∷ [])) ∙ ap (filter (is_left gone)) (sym range)

-- a place that is read is one of a tuple
pub place_within : (tuples : List (List Value)) (places : List ℕ) (at place : ℕ) → All (λ p. p < length tuples)
    places → slice_get places at ≡ Some place
    → place < length tuples
place_within tuples places at place all read =
    subst (λ p. p < length tuples) (get_or_from_slice_get places at place place read)
    (all at place (slice_get_within places at place read))

map_push : {A B : Type 0} (f : A → B) (xs : List A) (y : A) → map f (xs ++ y ∷ []) ≡ map f xs ++ f y ∷ []
map_push f [] y = refl
map_push f (x ∷ xs) y = ap (λ zs. f x ∷ zs) (map_push f xs y)

-- the tuple at one place more
pub tuples_more : (tuples : List (List Value)) (places : List ℕ) (found now : List (List Value)) (at place : ℕ)
    (tuple copy : List Value)
    → found ≡ map (λ p. slice_index_or tuples p []) (take at places) → slice_get places at ≡ Some place
    → slice_get tuples place ≡ Some tuple → copy ≡ tuple
    → now ≡ found ++ copy ∷ [] → now ≡ map (λ p. slice_index_or tuples p []) (take (at + 1) places)
tuples_more tuples places found now at place tuple copy before read there same after =
    let more : take (at + 1) places ≡ take at places ++ place ∷ [] =
    take_more places at place (slice_get_within places at place read)
    ∙ ap (λ p. take at places ++ p ∷ []) (get_or_from_slice_get places at place place read) in
    let is : copy ≡ slice_index_or tuples place [] = same ∙ sym (get_or_from_slice_get tuples place tuple [] there) in
    after ∙ ap (λ xs. xs ++ copy ∷ []) before ∙ ap (λ t. map (λ p. slice_index_or tuples p []) (take at places) ++ t ∷ []) is
    ∙ sym (map_push (λ p. slice_index_or tuples p []) (take at places) place)
    ∙ ap (map (λ p. slice_index_or tuples p [])) (sym more)

-- one tuple more of those that are copied
pub copied_more : {A : Type 0} (xs : List A) (i : ℕ) (x : A) (old new : List A) → slice_get xs i ≡ Some x
    → old ≡ take i xs → new ≡ old ++ x ∷ []
    → new ≡ take (i + 1) xs
copied_more xs i x old new at were push =
    push ∙ ap (λ ys. ys ++ x ∷ []) were
    ∙ sym (take_more xs i x (slice_get_within xs i x at) ∙ ap (λ y. take i xs ++ y ∷ []) (get_or_from_slice_get xs i x x at))
