-- Lists that are linked through their slots.
use Rattle.std.proofs.Common.{◌≡◌, ◌==◌, ◌<◌, ◌≤◌, ◌∙◌, ℕ, suc, cond, List, [], ◌∷◌, Some, None, length, refl, sym, ap, subst, inl, inr, arith}
use Rattle.std.proofs.lemmas.Bool.Decides.{eqb_tells}
use Rattle.std.proofs.lemmas.Bool.{ne_eqb, eq-eqb}
use Rattle.watch_links.specs.Links.{IsIn, HasNoneTwice, head_of, following, without}
use Rattle.watch_links.specs.Chains.{no_slot, slot_at, IsChain}
use Rattle.watch_links.proofs.SlotLists.{Tells, coming_in, head_splits, in_without}

-- each slot of a chain is one that there is
pub chain_below : (n : ℕ → ℕ) (count link y : ℕ) (xs : List ℕ) → IsChain n count link xs → IsIn y xs → y < count
chain_below n count link y [] c i = absurd i
chain_below n count link y (x ∷ xs) c (inl e) = omega (arith, e, c.1)
chain_below n count link y (x ∷ xs) c (inr i) = chain_below n count (n x) y xs c.2 i

-- the slots of a chain are no more and no fewer than those of another from the same link on
same_length : (n : ℕ → ℕ) (count link : ℕ) (xs ys : List ℕ) → count ≤ no_slot → IsChain n count link xs
    → IsChain n count link ys → length xs ≡ length ys
same_length n count link [] [] few c d = refl
same_length n count link [] (y ∷ ys) few c d = absurd (omega (arith, few, c, d.0, d.1))
same_length n count link (x ∷ xs) [] few c d = absurd (omega (arith, few, c.0, c.1, d))
same_length n count link (x ∷ xs) (y ∷ ys) few c d =
    let same : y ≡ x = sym d.0 ∙ c.0 in
    ap suc (same_length n count (n x) xs ys few c.2 (subst (λ (z : ℕ). IsChain n count (n z) ys) same d.2))

-- from a slot of a chain on there is a chain, not longer than the whole
from_slot : (n : ℕ → ℕ) (count link y : ℕ) (xs : List ℕ) → IsChain n count link xs → IsIn y xs
    → (rest : List ℕ) × (length rest ≤ length xs) × IsChain n count y rest
from_slot n count link y [] c i = absurd i
from_slot n count link y (x ∷ xs) c (inl e) = (x ∷ xs, omega arith, (e, c.1, c.2))
from_slot n count link y (x ∷ xs) c (inr i) =
    let more = from_slot n count (n x) y xs c.2 i in
    (more.0, omega (arith, more.1), more.2)

-- no slot stands in a chain twice: else the walk would come round
pub chain_once : (n : ℕ → ℕ) (count link : ℕ) (xs : List ℕ) → count ≤ no_slot → IsChain n count link xs → HasNoneTwice xs
chain_once n count link [] few c = tt
chain_once n count link (x ∷ xs) few c = (
  λ i. let again = from_slot n count (n x) x xs c.2 i in
      let whole : IsChain n count x (x ∷ xs) = (refl, c.1, c.2) in
      let same : length again.0 ≡ length (x ∷ xs) = same_length n count x again.0 (x ∷ xs) few again.2 whole in
      let short : length again.0 ≤ length xs = again.1 in
      omega (arith, same, short),
  chain_once n count (n x) xs few c.2,
)

-- the link that begins a chain leads to its first slot
pub chain_head : (n : ℕ → ℕ) (count link : ℕ) (xs : List ℕ) → count ≤ no_slot → IsChain n count link xs
    → slot_at link ≡ head_of xs
chain_head n count link [] few c = rw (eq-eqb link no_slot c) refl
chain_head n count link (x ∷ xs) few c =
    let differs : link ≡ no_slot → ⊥ = λ e. absurd (omega (arith, few, c.0, c.1, e)) in
    rw (ne_eqb link no_slot differs) (ap Some c.0)

-- the link of a slot leads to the slot that follows
pub chain_following : (n : ℕ → ℕ) (count link slot : ℕ) (xs : List ℕ) → count ≤ no_slot → IsChain n count link xs
    → IsIn slot xs → slot_at (n slot) ≡ following slot xs
unfolding following
chain_following n count link slot [] few c i = absurd i
chain_following n count link slot (x ∷ xs) few c i = go (eqb_tells slot x)
    (λ j. chain_following n count (n x) slot xs few c.2 j) i
  where
    go : Tells slot x → (IsIn slot xs → slot_at (n slot) ≡ following slot xs) → IsIn slot (x ∷ xs)
        → slot_at (n slot) ≡ cond (slot == x) (head_of xs) (following slot xs)
    go (inl h) more i = rw h.0 (ap (λ (z : ℕ). slot_at (n z)) h.1 ∙ chain_head n count (n x) xs few c.2)
    go (inr h) more (inl e) = absurd (h.1 e)
    go (inr h) more (inr j) = rw h.0 (more j)

-- a chain stays where the links of its slots stay, also where there are more slots
pub chain_kept : (n n' : ℕ → ℕ) (count count' link : ℕ) (xs : List ℕ) → count ≤ count' → IsChain n count link xs
    → ((y : ℕ) → IsIn y xs → y < count → n' y ≡ n y) → IsChain n' count' link xs
chain_kept n n' count count' link [] more c same = c
chain_kept n n' count count' link (x ∷ xs) more c same =
    let rest : IsChain n' count' (n x) xs = chain_kept n n' count count' (n x) xs more c.2 (λ y i. same y (inr i)) in
    (c.0, omega (arith, c.1, more), rw (same x (inl refl) c.1) rest)

-- the chain from a slot on that is the first
pub chain_behind : (n : ℕ → ℕ) (count link slot : ℕ) (xs : List ℕ) → IsChain n count link xs → head_of xs ≡ Some slot
    → IsChain n count (n slot) (without slot xs)
unfolding without
chain_behind n count link slot xs c is =
    let split = head_splits slot xs is in
    go split.0 (subst (IsChain n count link) split.1 c) split.1
  where
    go : (rest : List ℕ) → IsChain n count link (slot ∷ rest) → xs ≡ slot ∷ rest → IsChain n count (n slot) (without slot xs)
    go rest c same = rw (same, eq-eqb slot slot refl) c.2

-- where the slot before one leads to the slot after it, the chain is without that one
pub chain_cut : (n n' : ℕ → ℕ) (count link before slot : ℕ) (xs : List ℕ) → IsChain n count link xs → HasNoneTwice xs
    → following before xs ≡ Some slot → (before < count → n' before ≡ n slot)
    → ((y : ℕ) → (y ≡ before → ⊥) → n' y ≡ n y) → IsChain n' count link (without slot xs)
unfolding without following
chain_cut n n' count link before slot [] c once is led same = c
chain_cut n n' count link before slot (x ∷ xs) c once is led same =
    go (eqb_tells before x) (λ j. chain_cut n n' count (n x) before slot xs c.2 once.1 j led same) is
  where
    go : Tells before x → (following before xs ≡ Some slot → IsChain n' count (n x) (without slot xs))
        → cond (before == x) (head_of xs) (following before xs) ≡ Some slot
        → IsChain n' count link (cond (slot == x) xs (x ∷ without slot xs))
    go (inl h) more is =
        let first : head_of xs ≡ Some slot = rw h.0 at is in
        let stands : IsIn slot xs = coming_in None slot xs first in
        let other : slot ≡ x → ⊥ = λ e. once.0 (subst (λ (z : ℕ). IsIn z xs) e stands) in
        let leads : n' x ≡ n slot = ap n' (sym h.1) ∙ led (omega (arith, h.1, c.1)) in
        let rest : IsChain n count (n slot) (without slot xs) = chain_behind n count (n x) slot xs c.2 first in
        let kept : IsChain n' count (n slot) (without slot xs) = chain_kept n n' count count (n slot) (without slot xs)
        (omega arith) rest
        (λ y i l. same y (λ e. once.0 (subst (λ (z : ℕ). IsIn z xs) (e ∙ h.1) (in_without slot y xs i)))) in
        rw (ne_eqb slot x other) (c.0, c.1, rw leads kept)
    go (inr h) more is =
        let there : following before xs ≡ Some slot = rw h.0 at is in
        let stands : IsIn slot xs = coming_in (Some before) slot xs there in
        let other : slot ≡ x → ⊥ = λ e. once.0 (subst (λ (z : ℕ). IsIn z xs) e stands) in
        rw (ne_eqb slot x other) (c.0, c.1, rw (same x (λ e. h.1 (sym e))) (more there))
