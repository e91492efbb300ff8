-- A tree where one node is written.
use Rattle.std.proofs.Common.{◌≡◌, ◌≢◌, ◌⊎◌, ◌<◌, ◌≤◌, ◌+◌, ◌*◌, ◌/◌, ◌∙◌, ◌++◌, ℕ, zero, suc, Bool, List, take, drop, length, slice_index_or, slice_set, sym, ap, inl, inr, arith}
use Rattle.std.proofs.Math.Seq.{take-append_seam}
use Rattle.std.proofs.lemmas.Bool.{cases_eq}
use Rattle.std.proofs.lemmas.List.{length-set, get_or-set_same, get_or-set_other}
use Rattle.count_tree.specs.Nodes.{AreRightBelow, AreRightBut, IsAbove, IsBetter, IsRight, IsTree, above, node}
use Rattle.count_tree.proofs.Paths.{above_half, above_zero}

module _ (present : List Bool) (best : List ℕ) (here x : ℕ) where
  other_node : (place : ℕ) → place ≢ here → node present (slice_set best here x) place ≡ node present best place
  other_node place d = rw (length-set, get_or-set_other best here place x 0 d)

  module _ (counts : List ℕ) where
    -- it is right, where the better one is written
    pub right_here : 0 < here → here < length best → IsBetter counts (node present best (2 * here))
        (node present best (2 * here + 1)) x
        → IsRight counts present (slice_set best here x) here
    right_here pos within better =
        rw (
          other_node (2 * here) (λ e. omega arith),
          other_node (2 * here + 1) (λ e. omega arith),
          get_or-set_same
              best here x 0 within,
        ) better

    -- the others stay right, but for the one above it
    pub right_other : (place : ℕ) → place ≢ here → 2 * place ≢ here → 2 * place + 1 ≢ here → IsRight counts present best place
        → IsRight counts present (slice_set best here x) place
    right_other place differ left right before =
        rw (other_node (2 * place) left, other_node (2 * place + 1) right, get_or-set_other best here place x 0 differ) before

    -- so after it only the ones above it may be wrong
    pub right_below : 0 < here → here < length best → IsBetter counts (node present best (2 * here))
        (node present best (2 * here + 1)) x
        → AreRightBelow counts present best here → AreRightBelow counts present (slice_set best here x) (here / 2)
    right_below pos within better below place pos_place within_place = go (cases_eq place here) (cases_eq place (here / 2))
      where
        climbs : place ≢ here → (steps : ℕ) → place ≡ above steps here → IsAbove place (here / 2)
        climbs differ zero is = absurd (differ is)
        climbs differ (suc steps) is = record { steps = steps; is = is ∙ sym (above_half steps here) }

        stays : place ≢ here → place ≢ here / 2 → IsRight counts present best place ⊎ IsAbove place here
            → IsRight counts present (slice_set best here x) place ⊎ IsAbove place (here / 2)
        stays differ half (inl right) = inl (right_other place differ (λ e. half (omega arith)) (λ e. half (omega arith)) right)
        stays differ half (inr is) = inr (climbs differ is.steps is.is)

        go : (place ≡ here) ⊎ (place ≢ here) → (place ≡ here / 2) ⊎ (place ≢ here / 2)
            → IsRight counts present (slice_set best here x) place ⊎ IsAbove place (here / 2)
        go (inl e) half = inl (rw e (right_here pos within better))
        go (inr differ) (inl half) = inr (record { steps = 0; is = half })
        go (inr differ) (inr half) = stays differ half (below place pos_place (omega (arith, length-set best here x)))

    -- so where it alone may be wrong before, the one above it alone may be after
    pub right_but : 0 < here → here < length best → IsBetter counts (node present best (2 * here))
        (node present best (2 * here + 1)) x
        → AreRightBut counts present best here → AreRightBut counts present (slice_set best here x) (here / 2)
    right_but pos within better but place pos_place within_place half = go (cases_eq place here)
      where
        go : (place ≡ here) ⊎ (place ≢ here) → IsRight counts present (slice_set best here x) place
        go (inl e) = rw e (right_here pos within better)
        go (inr differ) =
            right_other place differ (λ e. half (omega arith)) (λ e. half (omega arith))
            (but place pos_place (omega (arith, length-set best here x)) differ)

    -- all that come after it are right still, and it is
    pub right_after : 0 < here → here < length best → IsBetter counts (node present best (2 * here))
        (node present best (2 * here + 1)) x
        → ((place : ℕ) → here < place → place < length best → IsRight counts present best place)
        → (place : ℕ) → here ≤ place → place < length (slice_set best here x) → IsRight counts present
        (slice_set best here x) place
    right_after pos within better after place from within_place = go (cases_eq place here)
      where
        go : (place ≡ here) ⊎ (place ≢ here) → IsRight counts present (slice_set best here x) place
        go (inl e) = rw e (right_here pos within better)
        go (inr differ) =
            let later : here < place = omega arith in
            right_other place differ (λ e. omega arith) (λ e. omega arith)
            (after place later (omega (arith, length-set best here x)))

-- no node is wrong, where none stands above the one that may be
pub all_right : (counts : List ℕ) (present : List Bool) (best : List ℕ) (here : ℕ) → here ≡ 0 → AreRightBelow counts
    present best here
    → (place : ℕ) → 0 < place → place < length best → IsRight counts present best place
all_right counts present best here none below place pos within = go (below place pos within)
  where
    go : IsRight counts present best place ⊎ IsAbove place here → IsRight counts present best place
    go (inl right) = right
    go (inr is) =
        let zero_is : place ≡ 0 = is.is ∙ ap (above is.steps) none ∙ above_zero is.steps in
        absurd (omega arith)

-- nor where the one that may be has the better one already
pub right_all : (counts : List ℕ) (present : List Bool) (best : List ℕ) (here x : ℕ) → slice_index_or best here 0 ≡ x
    → IsBetter counts (node present best (2 * here)) (node present best (2 * here + 1)) x → AreRightBut counts present best here
    → (place : ℕ) → 0 < place → place < length best → IsRight counts present best place
right_all counts present best here x is better but place pos within = go (cases_eq place here)
  where
    go : (place ≡ here) ⊎ (place ≢ here) → IsRight counts present best place
    go (inl e) = rw (e, is) better
    go (inr differ) = but place pos within differ

-- nor where that is none
pub right_none : (counts : List ℕ) (present : List Bool) (best : List ℕ) (here : ℕ) → here ≡ 0
    → AreRightBut counts present best here → (place : ℕ) → 0 < place → place < length best → IsRight counts present best place
right_none counts present best here none but place pos within = but place pos within (λ e. omega (arith, none))

-- a vector whose items were written holds what was written
pub put_back : {A : Type 0} (xs ys : List A) (n : ℕ) → n ≡ length xs → length ys ≡ length xs
    → take n (ys ++ drop (length ys) xs) ≡ ys
put_back xs ys n is long = let end : n ≡ length ys = is ∙ sym long in rw end (take-append_seam ys (drop (length ys) xs))

-- nodes that were all set right make a tree
pub whole : (counts : List ℕ) (present : List Bool) (best best' : List ℕ) (n : ℕ) (seen_counts : List ℕ)
    (seen_present : List Bool)
    → length counts ≤ 4294967295 → length present ≡ length counts → length best ≡ length counts → n ≡ length best
    → length best' ≡ length best
    → seen_counts ≡ counts → seen_present ≡ present
    → ((place : ℕ) → 0 < place → place < length best' → IsRight seen_counts seen_present best' place)
    → IsTree counts present (take n (best' ++ drop (length best') best))
whole counts present best best' n seen_counts seen_present few present_long best_long n_is long counts_are present_are right =
    rw (put_back best best' n n_is long) (record {
      few = few;
      present_length = present_long;
      best_length = long ∙ best_long;
      right = rw (← counts_are, ← present_are) right;
    })
