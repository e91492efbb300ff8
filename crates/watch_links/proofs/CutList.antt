-- A slot is cut out of its owner's list, behind the slot before it.
use Rattle.std.proofs.Common.{◌≡◌, ◌⊎◌, ◌<◌, ◌∙◌, ℕ, List, Option, Some, None, length, slice_index, slice_set, refl, sym, ap, subst, inl, inr, arith}
use Rattle.std.proofs.lemmas.List.{get_or-set_same, get_or-set_other, length-set}
use Rattle.watch_links.specs.Links.{IsIn, IsFree, HasNoneTwice, coming_after, without, lists_without, list_of}
use Rattle.watch_links.specs.Chains.{IsChain, AreLinked, nexts_led, firsts_led}
use Rattle.watch_links.proofs.SlotLists.{owner_within, before_in}
use Rattle.watch_links.proofs.ListsChanged.{changed_or_same, in_lists_without, not_in_lists_without}
use Rattle.watch_links.proofs.ChainFacts.{chain_once, chain_kept, chain_behind, chain_cut}

-- the links are as many as they were
pub length_nexts : (next : List ℕ) (before : Option ℕ) (after : ℕ) → length (nexts_led next before after) ≡ length next
length_nexts next None after = refl
length_nexts next (Some before) after = length-set next before after

pub length_firsts : (firsts : List ℕ) (owner : ℕ) (before : Option ℕ) (after : ℕ)
    → length (firsts_led firsts owner before after) ≡ length firsts
length_firsts firsts owner None after = length-set firsts owner after
length_firsts firsts owner (Some before) after = refl

module _ (firsts next owned : List ℕ) (lists : List (List ℕ)) (owner slot : ℕ)
    (linked : AreLinked firsts next owned lists) (stands : IsIn slot (list_of lists owner)) where
  pub owner_inside : owner < length firsts
  owner_inside = let within = owner_within lists owner slot stands in omega (arith, within, linked.per_owner)

  own_chain : IsChain (slice_index next) (length next) (slice_index firsts owner) (list_of lists owner)
  own_chain = linked.chains owner owner_inside

  pub own_once : HasNoneTwice (list_of lists owner)
  own_once = chain_once (slice_index next) (length next) (slice_index firsts owner) (list_of lists owner) linked.few own_chain

  -- its list is led past it
  chain_owner : (before : Option ℕ) → coming_after before (list_of lists owner) ≡ Some slot
      → IsChain (slice_index (nexts_led next before (slice_index next slot))) (length next)
      (slice_index (firsts_led firsts owner before (slice_index next slot)) owner) (without slot (list_of lists owner))
  chain_owner None comes = rw (get_or-set_same firsts owner (slice_index next slot) 0 owner_inside)
      (chain_behind (slice_index next) (length next) (slice_index firsts owner) slot (list_of lists owner) own_chain comes)
  chain_owner (Some before) comes =
      chain_cut (slice_index next) (slice_index (slice_set next before (slice_index next slot))) (length next)
      (slice_index firsts owner) before slot (list_of lists owner) own_chain own_once comes
      (λ below. get_or-set_same next before (slice_index next slot) 0 below)
      (λ y differs. get_or-set_other next before y (slice_index next slot) 0 differs)

  -- the slot before stands in no other list, so those stay
  chain_other : (before : Option ℕ) → coming_after before (list_of lists owner) ≡ Some slot
      → (other : ℕ) → (other ≡ owner → ⊥) → other < length firsts
      → IsChain (slice_index (nexts_led next before (slice_index next slot))) (length next)
      (slice_index (firsts_led firsts owner before (slice_index next slot)) other) (list_of lists other)
  chain_other None comes other differs inside = rw (get_or-set_other firsts owner other (slice_index next slot) 0 differs)
      (linked.chains other inside)
  chain_other (Some before) comes other differs inside =
      let there : IsIn before (list_of lists owner) = before_in before slot (list_of lists owner) comes in
      chain_kept (slice_index next) (slice_index (slice_set next before (slice_index next slot))) (length next)
      (length next) (slice_index firsts other) (list_of lists other) (omega arith) (linked.chains other inside)
      (λ y i l. get_or-set_other next before y (slice_index next slot) 0
      (λ e. differs (sym (linked.copied other y i) ∙ ap (slice_index owned) e ∙ linked.copied owner before there)))

  -- a slot of a list stood in it before
  stood : (other y : ℕ) → IsIn y (list_of (lists_without lists owner slot) other) → IsIn y (list_of lists other)
  stood = in_lists_without lists owner slot (owner_within lists owner slot stands)

  -- the links are those of the lists where the slot is off
  pub linked_cut : (before : Option ℕ) → coming_after before (list_of lists owner) ≡ Some slot
      → AreLinked (firsts_led firsts owner before (slice_index next slot))
      (nexts_led next before (slice_index next slot)) owned (lists_without lists owner slot)
  linked_cut before comes = record {
    per_owner = length-set lists owner (without slot (list_of lists owner)) ∙ linked.per_owner
        ∙ sym (length_firsts firsts owner before (slice_index next slot));
    few = rw (length_nexts next before (slice_index next slot)) linked.few;
    as_many = linked.as_many ∙ sym (length_nexts next before (slice_index next slot));
    chains = λ other inside. rw (length_nexts next before (slice_index next slot))
        (chain other (omega (arith, inside, length_firsts firsts owner before (slice_index next slot)))
        (changed_or_same lists owner other (without slot (list_of lists owner)) (owner_within lists owner slot stands)));
    copied = λ other y i. linked.copied other y (stood other y i);
  }
    where
      chain : (other : ℕ) → other < length firsts
          → ((other ≡ owner) × (list_of (lists_without lists owner slot) other ≡ without slot (list_of lists owner)))
          ⊎ ((other ≡ owner → ⊥) × (list_of (lists_without lists owner slot) other ≡ list_of lists other))
          → IsChain (slice_index (nexts_led next before (slice_index next slot))) (length next)
          (slice_index (firsts_led firsts owner before (slice_index next slot)) other)
          (list_of (lists_without lists owner slot) other)
      chain other inside (inl h) = rw h.1 (rw h.0 (chain_owner before comes))
      chain other inside (inr h) = rw h.1 (chain_other before comes other h.0 inside)

  -- and the slot is free
  pub free_cut : IsFree (lists_without lists owner slot) slot
  free_cut other i = go (sym (linked.copied other slot (stood other slot i)) ∙ linked.copied owner slot stands)
    where
      go : other ≡ owner → ⊥
      go e = not_in_lists_without lists owner slot (owner_within lists owner slot stands) own_once
          (subst (λ (z : ℕ). IsIn slot (list_of (lists_without lists owner slot) z)) e i)
