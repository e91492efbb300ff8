-- A tree where a count is changed, or a number is made present or taken off.
use Rattle.std.proofs.Common.{◌≡◌, ◌≢◌, ◌⊎◌, ◌<◌, ◌≤◌, ◌+◌, ◌-◌, ◌*◌, ◌/◌, ◌∙◌, ℕ, suc, Bool, false, cond, List, Some, true, length, slice_get, get_or, slice_set, sym, ap, inl, inr, arith}
use Rattle.std.proofs.lemmas.Bool.{cases_cond, cases_eq, cases_lt}
use Rattle.std.proofs.lemmas.List.{get_or-set_other}
use Rattle.std.proofs.lemmas.Option.{get_or_from_slice_get}
use Rattle.count_tree.specs.Nodes.{AreRightBelow, AreRightBut, IsAbove, IsBefore, IsBetter, IsRight, IsTree, leaf, no_number, node}
use Rattle.count_tree.proofs.Orders.{each_node, held, lower, upper}
use Rattle.count_tree.proofs.Paths.{above_half}

-- what stands above one child stands above the other node's half
parent_above : (place child last : ℕ) → child / 2 ≡ place → IsAbove child last → IsAbove place last
parent_above place child last half is = record { steps = suc is.steps; is = sym half ∙ ap (λ (n : ℕ). n / 2) is.is }

step_above : (place child last : ℕ) → child / 2 ≡ place → IsAbove child last → IsAbove place (last / 2)
step_above place child last half is =
    record { steps = is.steps; is = sym half ∙ ap (λ (n : ℕ). n / 2) is.is ∙ sym (above_half is.steps last) }

-- the better one of two whose counts stay is so still
still_before : (counts : List ℕ) (number count a b : ℕ) → a ≢ number → b ≢ number → IsBefore counts a b
    → IsBefore (slice_set counts number count) a b
still_before counts number count a b d e h = rw (
  get_or-set_other counts number a count 0 d,
  get_or-set_other counts
      number b count 0 e,
) h

still_better : (counts : List ℕ) (number count left right better : ℕ) → left ≢ number → right ≢ number
    → IsBetter counts left right better
    → IsBetter (slice_set counts number count) left right better
still_better counts number count left right better d e is =
    record {
      one_of = is.one_of;
      before_left = still_before counts number count better left (other is.one_of) d is.before_left;
      before_right = still_before counts number count better right (other is.one_of) e is.before_right;
    }
  where
    other : (better ≡ left) ⊎ (better ≡ right) → better ≢ number
    other (inl s) t = d (sym s ∙ t)
    other (inr s) t = e (sym s ∙ t)

module _ (counts : List ℕ) (present : List Bool) (best : List ℕ) (tree : IsTree counts present best) (number : ℕ) where
  -- a number that is made present or taken off makes a difference to its own node
  other_node : (now : Bool) (place : ℕ) → place ≢ length best + number → node (slice_set present number now) best
      place ≡ node present best place
  other_node now place differ = go (cases_lt place (length best))
    where
      go : (place < length best) ⊎ (length best ≤ place) → node (slice_set present number now) best place ≡ node
          present best place
      go (inl h) = upper (slice_set present number now) best place h ∙ sym (upper present best place h)
      go (inr h) =
          let other : place - length best ≢ number = λ e. differ (omega arith) in
          let same : get_or (slice_set present number now) (place - length best) false ≡ get_or present
          (place - length best) false =
          get_or-set_other present number (place - length best) now false other in
          lower (slice_set present number now) best place h
          ∙ ap (λ (b : Bool). cond b (place - length best) no_number) same ∙ sym (lower present best place h)

  -- so only the node above its own may be wrong
  pub present_but : (now : Bool) → AreRightBut counts (slice_set present number now) best ((length best + number) / 2)
  present_but now place pos within differ =
      rw (
        other_node now (2 * place) (λ e. differ (omega arith)),
        other_node now (2 * place + 1) (λ e. differ (omega arith)),
      ) (tree.right place pos within)

  -- a number stands at its own node and above it
  stands : number < length best → (place : ℕ) → 0 < place → node present best place ≡ number → IsAbove place
      (length best + number)
  stands few place pos is = each_node counts present best tree (λ p n. n ≡ number → IsAbove p (length best + number)) last
      (λ p n h e. parent_above p (2 * p) (length best + number) (omega arith) (h e))
      (λ p n h e. parent_above p (2 * p + 1) (length best + number) (omega arith) (h e)) (2 * length best) place
      (omega arith) pos is
    where
      last : (p : ℕ) → length best ≤ p → leaf present (p - length best) ≡ number → IsAbove p (length best + number)
      last p h e = go (cases_cond (get_or present (p - length best) false) (p - length best) no_number number (sym e))
        where
          go : (number ≡ p - length best) ⊎ (number ≡ no_number) → IsAbove p (length best + number)
          go (inl same) = record { steps = 0; is = omega arith }
          go (inr none) = absurd (omega (arith, tree.few, tree.best_length))

  -- where its count is changed, only the nodes above it may be wrong
  pub count_below : number < length best → (count : ℕ) → AreRightBelow (slice_set counts number count) present best
      ((length best + number) / 2)
  count_below few count place pos within = go (cases_eq (node present best (2 * place)) number)
      (cases_eq (node present best (2 * place + 1)) number)
    where
      go : (node present best (2 * place) ≡ number) ⊎ (node present best (2 * place) ≢ number)
          → (node present best (2 * place + 1) ≡ number) ⊎ (node present best (2 * place + 1) ≢ number)
          → IsRight (slice_set counts number count) present best place ⊎ IsAbove place ((length best + number) / 2)
      go (inl e) right = inr (step_above place (2 * place) (length best + number) (omega arith)
          (stands few (2 * place) (omega arith) e))
      go (inr left) (inl e) = inr (step_above place (2 * place + 1) (length best + number) (omega arith)
          (stands few (2 * place + 1) (omega arith) e))
      go (inr left) (inr right) =
          inl (still_better counts number count (node present best (2 * place)) (node present best (2 * place + 1))
          (get_or best place 0) left right (tree.right place pos within))

  -- and where it is not present, none is
  pub count_right : number < length best → get_or present number false ≡ false → (count : ℕ)
      → (place : ℕ) → 0 < place → place < length best → IsRight (slice_set counts number count) present best place
  count_right few absent count place pos within =
      still_better counts number count (node present best (2 * place)) (node present best (2 * place + 1)) (get_or best place 0)
      (stands_not (2 * place) (omega arith)) (stands_not (2 * place + 1) (omega arith)) (tree.right place pos within)
    where
      stands_not : (child : ℕ) → 0 < child → node present best child ≢ number
      stands_not child pos_child e = go (held counts present best tree child pos_child)
        where
          go : (node present best child ≡ no_number) ⊎ (slice_get present (node present best child) ≡ Some true) → ⊥
          go (inl none) = let none_is : number ≡ no_number = sym e ∙ none in omega (arith, tree.few, tree.best_length)
          go (inr is) =
              let there : get_or present number false ≡ true = get_or_from_slice_get present number true false
              (ap (slice_get present) (sym e) ∙ is) in
              let both : true ≡ false = sym there ∙ absent in
              cc
