-- The order of numbers by their counts, and what is true of all nodes of a tree.
use Rattle.std.proofs.Common.{◌≡◌, ◌≢◌, ◌⊎◌, ◌<◌, ◌≤◌, ◌+◌, ◌-◌, ◌*◌, ◌/◌, ◌∙◌, ℕ, zero, suc, Bool, true, false, List, [], ◌∷◌, Some, slice_index_or, length, get_or, slice_get, refl, sym, ap, subst, inl, inr, arith}
use Rattle.std.proofs.lemmas.Bool.{cases_eq, cases_lt, cond_above, cond_below}
use Rattle.std.proofs.lemmas.List.{get_or_past}
use Rattle.std.proofs.lemmas.Option.{get_or_from_slice_get, slice_get_within}
use Rattle.count_tree.specs.Greatest.{IsGreatest}
use Rattle.count_tree.specs.Nodes.{IsBefore, IsTree, leaf, no_number, node}

before_trans : (counts : List ℕ) (a b c : ℕ) → IsBefore counts a b → IsBefore counts b c → IsBefore counts a c
before_trans counts a b c (inl p) (inl q) = inl (omega arith)
before_trans counts a b c (inl p) (inr q) = inl (omega (arith, q.0))
before_trans counts a b c (inr p) (inl q) = inl (omega (arith, p.0))
before_trans counts a b c (inr p) (inr q) = inr (p.0 ∙ q.0, omega (arith, p.1, q.1))

-- what stands in the first half and in the last half
pub upper : (present : List Bool) (best : List ℕ) (place : ℕ) → place < length best → node present best place ≡
    get_or best place 0
upper present best place h = sym (cond_below place (length best) (get_or best place 0) (leaf present (place - length best)) h)

pub lower : (present : List Bool) (best : List ℕ) (place : ℕ) → length best ≤ place → node present best place ≡ leaf
    present (place - length best)
lower present best place h = sym (cond_above place (length best) (get_or best place 0)
    (leaf present (place - length best)) (leaf present (place - length best)) h refl)

present_there : (present : List Bool) (number : ℕ) → get_or present number false ≡ true → slice_get present number ≡ Some true
present_there [] number e = let no : ⊥ = cc in absurd no
present_there (b ∷ bs) zero e = ap Some e
present_there (b ∷ bs) (suc number) e = present_there bs number e

module _ (counts : List ℕ) (present : List Bool) (best : List ℕ) (tree : IsTree counts present best) where
  -- what is true of the numbers' own nodes, and goes up from a child, is true of all nodes
  pub each_node : (P : ℕ → ℕ → Type 0) → ((place : ℕ) → length best ≤ place → P place (leaf present (place - length best)))
      → ((place number : ℕ) → P (2 * place) number → P place number) → ((place number : ℕ) → P (2 * place + 1) number
      → P place number)
      → (fuel place : ℕ) → 2 * length best ≤ place + fuel → 0 < place → P place (node present best place)
  each_node P last left right zero place enough pos =
      subst (P place) (sym (lower present best place (omega arith))) (last place (omega arith))
  each_node P last left right (suc fuel) place enough pos =
      go (cases_lt place (length best)) (λ child below. each_node P last left right fuel child (omega arith) (omega arith))
    where
      from : ((child : ℕ) → place < child → P child (node present best child)) → (number : ℕ)
          → (number ≡ node present best (2 * place)) ⊎ (number ≡ node present best (2 * place + 1)) → P place number
      from below number (inl e) = left place number (subst (P (2 * place)) (sym e) (below (2 * place) (omega arith)))
      from below number (inr e) = right place number (subst (P (2 * place + 1)) (sym e) (below (2 * place + 1) (omega arith)))

      go : (place < length best) ⊎ (length best ≤ place) →
          ((child : ℕ) → place < child → P child (node present best child)) → P place (node present best place)
      go (inr h) below = subst (P place) (sym (lower present best place h)) (last place h)
      go (inl h) below = subst (P place) (sym (upper present best place h))
          (from below (get_or best place 0) (tree.right place pos h).one_of)

  -- what stands at the first node comes before all that stands at others
  before_all : (fuel place : ℕ) → place ≤ fuel → 0 < place → place < 2 * length best → IsBefore counts
      (node present best 1) (node present best place)
  before_all zero place enough pos within = absurd (omega arith)
  before_all (suc fuel) place enough pos within = go (cases_eq place 1)
      (λ h. before_all fuel (place / 2) (omega arith) (omega arith) (omega arith))
    where
      child : 1 < place → (place ≡ 2 * (place / 2)) ⊎ (place ≢ 2 * (place / 2)) → IsBefore counts
          (get_or best (place / 2) 0) (node present best place)
      child h (inl e) =
          subst (λ (n : ℕ). IsBefore counts (get_or best (place / 2) 0) (node present best n)) (sym e)
          (tree.right (place / 2) (omega arith) (omega arith)).before_left
      child h (inr d) =
          let odd : 2 * (place / 2) + 1 ≡ place = omega arith in
          subst (λ (n : ℕ). IsBefore counts (get_or best (place / 2) 0) (node present best n)) odd
          (tree.right (place / 2) (omega arith) (omega arith)).before_right

      go : (place ≡ 1) ⊎ (place ≢ 1) → (1 < place → IsBefore counts (node present best 1) (node present best (place / 2)))
          → IsBefore counts (node present best 1) (node present best place)
      go (inl e) above = subst (λ (n : ℕ). IsBefore counts (node present best 1) (node present best n)) (sym e)
          (inr (refl, omega arith))
      go (inr d) above =
          let h : 1 < place = omega arith in
          let parent : node present best (place / 2) ≡ get_or best (place / 2) 0 = upper present best (place / 2) (omega arith) in
          before_trans counts (node present best 1) (node present best (place / 2)) (node present best place) (above h)
          (subst (λ (n : ℕ). IsBefore counts n (node present best place)) (sym parent)
          (child h (cases_eq place (2 * (place / 2)))))

  -- what stands at a node is a present number, or none
  abbrev IsHeld : ℕ → Type 0
  IsHeld number = (number ≡ no_number) ⊎ (slice_get present number ≡ Some true)

  held_last : (number : ℕ) → IsHeld (leaf present number)
  held_last number = go (slice_index_or present number false) refl
    where
      go : (b : Bool) → slice_index_or present number false ≡ b → IsHeld (leaf present number)
      go true e = inr (rw e (present_there present number e))
      go false e = inl (rw e)

  pub held : (place : ℕ) → 0 < place → IsHeld (node present best place)
  held place pos =
      each_node (λ _ number. IsHeld number) (λ p _. held_last (p - length best)) (λ p n h. h) (λ p n h. h)
      (2 * length best) place (omega arith) pos

  leaf_of : (other : ℕ) → slice_get present other ≡ Some true → leaf present other ≡ other
  leaf_of other is = let there : get_or present other false ≡ true = get_or_from_slice_get present other true false is in rw there

  -- so it comes before each present number
  before_present : (other : ℕ) → slice_get present other ≡ Some true → IsBefore counts (node present best 1) other
  before_present other is =
      let within : other < length present = slice_get_within present other true is in
      let place : length best + other - length best ≡ other = omega arith in
      let there : node present best (length best + other) ≡ other =
      lower present best (length best + other) (omega arith) ∙ ap (leaf present) place ∙ leaf_of other is in
      subst (IsBefore counts (node present best 1)) there
      (before_all (length best + other) (length best + other) (omega arith)
      (omega (arith, tree.present_length, tree.best_length)) (omega (arith, tree.present_length, tree.best_length)))

  pub greatest_there : node present best 1 ≢ no_number → IsGreatest (record { counts = counts; present = present })
      (node present best 1)
  greatest_there there = record { is_present = go (held 1 (omega arith)); first = before_present }
    where
      go : IsHeld (node present best 1) → slice_get present (node present best 1) ≡ Some true
      go (inl e) = absurd (there e)
      go (inr is) = is

  pub none_present : node present best 1 ≡ no_number → (other : ℕ) → slice_get present other ≡ Some true → ⊥
  none_present none other is = go (before_present other is)
    where
      within : other < length present
      within = slice_get_within present other true is

      go : IsBefore counts (node present best 1) other → ⊥
      go (inl h) =
          let zero_is : get_or counts (node present best 1) 0 ≡ 0 = ap (λ (n : ℕ). get_or counts n 0) none
          ∙ get_or_past counts no_number 0 tree.few in
          omega arith
      go (inr h) = omega (arith, h.1, none, within, tree.few, tree.present_length)
