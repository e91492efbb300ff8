-- A free slot is put in front of an owner's list.
use Rattle.std.proofs.Common.{◌≡◌, ◌⊎◌, ◌<◌, ◌∙◌, ℕ, List, ◌∷◌, length, slice_index, slice_set, sym, ap, subst, inl, inr, arith}
use Rattle.std.proofs.lemmas.List.{get_or-set_same, get_or-set_other, length-set}
use Rattle.watch_links.specs.Links.{IsIn, IsFree, list_of, lists_with}
use Rattle.watch_links.specs.Chains.{IsChain, AreLinked}
use Rattle.watch_links.proofs.ListsChanged.{changed_or_same, in_lists_with}
use Rattle.watch_links.proofs.ChainFacts.{chain_kept}

module _ (firsts next owned : List ℕ) (lists : List (List ℕ)) (owner slot first : ℕ)
    (linked : AreLinked firsts next owned lists) (free : IsFree lists slot)
    (below : slot < length next) (inside : owner < length firsts) (is_first : first ≡ slice_index firsts owner) where
  within : owner < length lists
  within = omega (arith, inside, linked.per_owner)

  -- a slot of a list is not the free one
  not_slot : (other y : ℕ) → IsIn y (list_of lists other) → y ≡ slot → ⊥
  not_slot other y i e = free other (subst (λ (z : ℕ). IsIn z (list_of lists other)) e i)

  next_stays : (other y : ℕ) → IsIn y (list_of lists other) → slice_index (slice_set next slot first) y ≡ slice_index next y
  next_stays other y i = get_or-set_other next slot y first 0 (not_slot other y i)

  chain_on_owner : IsChain (slice_index (slice_set next slot first)) (length next)
      (slice_index (slice_set firsts owner slot) owner) (slot ∷ list_of lists owner)
  chain_on_owner =
      let was : IsChain (slice_index next) (length next) first (list_of lists owner) = rw is_first (linked.chains owner inside) in
      let kept = chain_kept (slice_index next) (slice_index (slice_set next slot first)) (length next) (length next) first
      (list_of lists owner) (omega arith) was (λ y i l. next_stays owner y i) in
      (get_or-set_same firsts owner slot 0 inside, below, rw (get_or-set_same next slot first 0 below) kept)

  chain_on_other : (other : ℕ) → (other ≡ owner → ⊥) → other < length firsts
      → IsChain (slice_index (slice_set next slot first)) (length next)
      (slice_index (slice_set firsts owner slot) other) (list_of lists other)
  chain_on_other other differs there = rw (get_or-set_other firsts owner other slot 0 differs)
      (chain_kept (slice_index next) (slice_index (slice_set next slot first)) (length next) (length next)
      (slice_index firsts other) (list_of lists other) (omega arith) (linked.chains other there)
      (λ y i l. next_stays other y i))

  -- the links are those of the lists where the slot is in front of the owner's
  pub linked_on : AreLinked (slice_set firsts owner slot) (slice_set next slot first) (slice_set owned slot owner)
      (lists_with lists owner slot)
  linked_on = record {
    per_owner = length-set lists owner (slot ∷ list_of lists owner) ∙ linked.per_owner ∙ sym (length-set firsts owner slot);
    few = rw (length-set next slot first) linked.few;
    as_many = length-set owned slot owner ∙ linked.as_many ∙ sym (length-set next slot first);
    chains = λ other there. rw (length-set next slot first)
        (chain other (omega (arith, there, length-set firsts owner slot))
        (changed_or_same lists owner other (slot ∷ list_of lists owner) within));
    copied = λ other y i. copied other y (in_lists_with lists owner slot within other y i);
  }
    where
      chain : (other : ℕ) → other < length firsts
          → ((other ≡ owner) × (list_of (lists_with lists owner slot) other ≡ slot ∷ list_of lists owner))
          ⊎ ((other ≡ owner → ⊥) × (list_of (lists_with lists owner slot) other ≡ list_of lists other))
          → IsChain (slice_index (slice_set next slot first)) (length next)
          (slice_index (slice_set firsts owner slot) other) (list_of (lists_with lists owner slot) other)
      chain other there (inl h) = rw h.1 (rw h.0 chain_on_owner)
      chain other there (inr h) = rw h.1 (chain_on_other other h.0 there)

      -- it is the new one, in its owner's list, or stood there before
      copied : (other y : ℕ) → ((other ≡ owner) × (y ≡ slot)) ⊎ IsIn y (list_of lists other)
          → slice_index (slice_set owned slot owner) y ≡ other
      copied other y (inl h) =
          ap (slice_index (slice_set owned slot owner)) h.1
          ∙ get_or-set_same owned slot owner 0 (omega (arith, below, linked.as_many)) ∙ sym h.0
      copied other y (inr i) = get_or-set_other owned slot y owner 0 (not_slot other y i) ∙ linked.copied other y i
