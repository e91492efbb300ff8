-- The lists of all owners, where a slot is put in front of one of them, or taken off one of them.
use Rattle.std.proofs.Common.{◌≡◌, ◌⊎◌, ◌<◌, ◌∙◌, ℕ, List, [], ◌∷◌, length, slice_set, refl, sym, ap, subst, inl, inr}
use Rattle.std.proofs.lemmas.Bool.{cases_eq}
use Rattle.std.proofs.lemmas.List.{get_or-set_same, get_or-set_other, length-set}
use Rattle.watch_links.specs.Links.{list_of, lists_with, lists_without, without, IsIn, IsFree, HasNoneTwice}
use Rattle.watch_links.proofs.SlotLists.{in_without, not_in_without, stays_in_without}

-- an owner's list is the new one, or as it was
pub changed_or_same : (lists : List (List ℕ)) (owner other : ℕ) (new : List ℕ) → owner < length lists
    → ((other ≡ owner) × (list_of (slice_set lists owner new) other ≡ new))
    ⊎ ((other ≡ owner → ⊥) × (list_of (slice_set lists owner new) other ≡ list_of lists other))
changed_or_same lists owner other new within = go (cases_eq other owner)
  where
    go : (other ≡ owner) ⊎ (other ≡ owner → ⊥)
        → ((other ≡ owner) × (list_of (slice_set lists owner new) other ≡ new))
        ⊎ ((other ≡ owner → ⊥) × (list_of (slice_set lists owner new) other ≡ list_of lists other))
    go (inl e) = inl (e, ap (list_of (slice_set lists owner new)) e ∙ get_or-set_same lists owner new [] within)
    go (inr d) = inr (d, get_or-set_other lists owner other new [] d)

module _ (lists : List (List ℕ)) (owner slot : ℕ) (within : owner < length lists) where
  -- a slot stands in a list then: it is the new one, in its owner's list, or it stood there before
  pub in_lists_with : (other y : ℕ) → IsIn y (list_of (lists_with lists owner slot) other) →
      ((other ≡ owner) × (y ≡ slot)) ⊎ IsIn y (list_of lists other)
  in_lists_with other y i = go (changed_or_same lists owner other (slot ∷ list_of lists owner) within)
    where
      in_new : other ≡ owner → IsIn y (slot ∷ list_of lists owner) → ((other ≡ owner) × (y ≡ slot)) ⊎ IsIn y (list_of lists other)
      in_new e (inl f) = inl (e, f)
      in_new e (inr j) = inr (rw e j)

      go : ((other ≡ owner) × (list_of (lists_with lists owner slot) other ≡ slot ∷ list_of lists owner))
          ⊎ ((other ≡ owner → ⊥) × (list_of (lists_with lists owner slot) other ≡ list_of lists other))
          → ((other ≡ owner) × (y ≡ slot)) ⊎ IsIn y (list_of lists other)
      go (inl h) = in_new h.0 (subst (IsIn y) h.1 i)
      go (inr h) = inr (subst (IsIn y) h.1 i)

  -- the new one stands in its owner's list, and what stood in a list stands there still
  pub lists_with_has : IsIn slot (list_of (lists_with lists owner slot) owner)
  lists_with_has = rw (get_or-set_same lists owner (slot ∷ list_of lists owner) [] within) (inl refl)

  pub lists_with_keeps : (other y : ℕ) → IsIn y (list_of lists other) → IsIn y (list_of (lists_with lists owner slot) other)
  lists_with_keeps other y i = go (changed_or_same lists owner other (slot ∷ list_of lists owner) within)
    where
      go : ((other ≡ owner) × (list_of (lists_with lists owner slot) other ≡ slot ∷ list_of lists owner))
          ⊎ ((other ≡ owner → ⊥) × (list_of (lists_with lists owner slot) other ≡ list_of lists other))
          → IsIn y (list_of (lists_with lists owner slot) other)
      go (inl h) = rw h.1 (inr (subst (λ (z : ℕ). IsIn y (list_of lists z)) h.0 i))
      go (inr h) = rw h.1 i

  -- another slot that stood in no list stands in none still
  pub free_in_lists_with : (y : ℕ) → IsFree lists y → (y ≡ slot → ⊥) → IsFree (lists_with lists owner slot) y
  free_in_lists_with y free differs other i = go (in_lists_with other y i)
    where
      go : ((other ≡ owner) × (y ≡ slot)) ⊎ IsIn y (list_of lists other) → ⊥
      go (inl h) = differs h.1
      go (inr h) = free other h

  -- a slot that stands in a list when another is off stood there before
  pub in_lists_without : (other y : ℕ) → IsIn y (list_of (lists_without lists owner slot) other) → IsIn y (list_of lists other)
  in_lists_without other y i = go (changed_or_same lists owner other (without slot (list_of lists owner)) within)
    where
      go : ((other ≡ owner) × (list_of (lists_without lists owner slot) other ≡ without slot (list_of lists owner)))
          ⊎ ((other ≡ owner → ⊥) × (list_of (lists_without lists owner slot) other ≡ list_of lists other))
          → IsIn y (list_of lists other)
      go (inl h) = rw h.0 (in_without slot y (list_of lists owner) (subst (IsIn y) h.1 i))
      go (inr h) = subst (IsIn y) h.1 i

  -- the others stay
  pub lists_without_keeps : (other y : ℕ) → IsIn y (list_of lists other) → (y ≡ slot → ⊥)
      → IsIn y (list_of (lists_without lists owner slot) other)
  lists_without_keeps other y i differs = go (changed_or_same lists owner other (without slot (list_of lists owner)) within)
    where
      go : ((other ≡ owner) × (list_of (lists_without lists owner slot) other ≡ without slot (list_of lists owner)))
          ⊎ ((other ≡ owner → ⊥) × (list_of (lists_without lists owner slot) other ≡ list_of lists other))
          → IsIn y (list_of (lists_without lists owner slot) other)
      go (inl h) = rw h.1 (stays_in_without slot y (list_of lists owner)
          (subst (λ (z : ℕ). IsIn y (list_of lists z)) h.0 i) differs)
      go (inr h) = rw h.1 i

  -- and the slot stands in its owner's list no more
  pub not_in_lists_without : HasNoneTwice (list_of lists owner) → IsIn slot (list_of (lists_without lists owner slot) owner) → ⊥
  not_in_lists_without once i =
      not_in_without slot (list_of lists owner) once
      (subst (IsIn slot) (get_or-set_same lists owner (without slot (list_of lists owner)) [] within) i)

  -- a slot that stood in no list stands in none still
  pub free_in_lists_without : (y : ℕ) → IsFree lists y → IsFree (lists_without lists owner slot) y
  free_in_lists_without y free other i = free other (in_lists_without other y i)

-- the lists where a slot has moved from one owner's list to another's
module _ (lists off on : List (List ℕ)) (owner target slot : ℕ) (is_off : off ≡ lists_without lists owner slot)
    (is_on : on ≡ lists_with off target slot) where
  -- they are as many
  pub length_moved : length on ≡ length lists
  length_moved =
      let first = ap length is_off ∙ length-set lists owner (without slot (list_of lists owner)) in
      ap length is_on ∙ length-set off target (slot ∷ list_of off target) ∙ first

  -- and the slot alone has left the one list
  pub list_moved : owner < length lists → (target ≡ owner → ⊥) → list_of on owner ≡ without slot (list_of lists owner)
  list_moved within differs =
      ap (λ (ls : List (List ℕ)). list_of ls owner) is_on
      ∙ get_or-set_other off target owner (slot ∷ list_of off target) [] (λ e. differs (sym e))
      ∙ ap (λ (ls : List (List ℕ)). list_of ls owner) is_off
      ∙ get_or-set_same lists owner (without slot (list_of lists owner)) [] within
