-- A walk along the links gives the lists that they hold.
use Rattle.std.proofs.Common.{◌≡◌, ◌⊎◌, ◌<◌, ◌≤◌, ◌∙◌, ℕ, zero, suc, true, false, eqb, List, [], ◌∷◌, length, slice_index, refl, sym, ap, subst, inl, inr, arith}
use Rattle.std.specs.List.{list_any, IsDistinct, AllByRecursion}
use Rattle.std.proofs.lemmas.Bool.{ne_eqb, eq-eqb, eqb-true, or_cases}
use Rattle.std.proofs.lemmas.List.{ext_get_or, get_or-map, length-map}
use Rattle.std.proofs.lemmas.Map.Steps.{length-le_from_distinct_below}
use Rattle.watch_links.specs.Links.{IsIn, HasNoneTwice, list_of}
use Rattle.watch_links.specs.Chains.{no_slot, walk, walks, IsChain, AreLinked}
use Rattle.watch_links.proofs.ChainFacts.{chain_below, chain_once}

not_among : (x : ℕ) (xs : List ℕ) → (IsIn x xs → ⊥) → AllByRecursion (λ y. eqb x y ≡ false) xs
not_among x [] out = tt
not_among x (y ∷ ys) out = (ne_eqb x y (λ e. out (inl e)), not_among x ys (λ i. out (inr i)))

distinct : (xs : List ℕ) → HasNoneTwice xs → IsDistinct eqb xs
unfolding IsDistinct
distinct [] once = tt
distinct (x ∷ xs) once = (not_among x xs once.0, distinct xs once.1)

in_from_any : (q : ℕ) (xs : List ℕ) → list_any (eqb q) xs ≡ true → IsIn q xs
in_from_any q [] e = absurd (cc)
in_from_any q (x ∷ xs) e = go (λ h. in_from_any q xs h) (or_cases (eqb q x) (list_any (eqb q) xs) e)
  where
    go : (list_any (eqb q) xs ≡ true → IsIn q xs) → (eqb q x ≡ true) ⊎ (list_any (eqb q) xs ≡ true) → IsIn q (x ∷ xs)
    go more (inl h) = inl (eqb-true q x h)
    go more (inr h) = inr (more h)

-- a chain has no more slots than there are
pub chain_short : (n : ℕ → ℕ) (count link : ℕ) (xs : List ℕ) → count ≤ no_slot → IsChain n count link xs → length xs ≤ count
chain_short n count link xs few c =
    length-le_from_distinct_below xs count (distinct xs (chain_once n count link xs few c))
    (λ q any. chain_below n count link q xs c (in_from_any q xs any))

-- a walk along a chain gives its slots
pub walk_is : (next : List ℕ) (count link fuel : ℕ) (xs : List ℕ) → count ≤ no_slot
    → IsChain (slice_index next) count link xs → length xs ≤ fuel → walk next fuel link ≡ xs
unfolding walk
walk_is next count link zero [] few c enough = refl
walk_is next count link (suc fuel) [] few c enough = rw (eq-eqb link no_slot c) refl
walk_is next count link zero (x ∷ xs) few c enough = absurd (omega (arith, enough))
walk_is next count link (suc fuel) (x ∷ xs) few c enough =
    let differs : link ≡ no_slot → ⊥ = λ e. absurd (omega (arith, few, c.0, c.1, e)) in
    let more : walk next fuel (slice_index next x) ≡ xs = walk_is next count (slice_index next x) fuel xs few c.2
    (omega (arith, enough)) in
    rw (ne_eqb link no_slot differs) (ap (λ (z : ℕ). z ∷ walk next fuel (slice_index next z)) c.0
    ∙ ap (λ (zs : List ℕ). x ∷ zs) more)

-- the lists that the links hold are those that walks along them give
pub walks_are : (firsts next owned : List ℕ) (lists : List (List ℕ)) → AreLinked firsts next owned lists
    → walks next firsts ≡ lists
walks_are firsts next owned lists linked =
    ext_get_or [] (walks next firsts) lists (length-map firsts (walk next (length next)) ∙ sym linked.per_owner)
    (λ owner within.
    let inside : owner < length firsts = omega (arith, within, length-map firsts (walk next (length next))) in
    let chain = linked.chains owner inside in
    let short = chain_short (slice_index next) (length next) (slice_index firsts owner) (list_of lists owner) linked.few chain in
    get_or-map (walk next (length next)) firsts owner 0 [] inside
    ∙ walk_is next (length next) (slice_index firsts owner) (length next) (list_of lists owner) linked.few chain short)

-- so the invariant holds wherever the links hold some lists
pub closed : (firsts next owned : List ℕ) (lists : List (List ℕ)) → AreLinked firsts next owned lists
    → AreLinked firsts next owned (walks next firsts)
closed firsts next owned lists linked =
    subst (AreLinked firsts next owned) (sym (walks_are firsts next owned lists linked)) linked
