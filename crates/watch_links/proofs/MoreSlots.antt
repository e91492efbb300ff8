-- Watch lists with no slot, and with two slots more.
use Rattle.std.proofs.Common.{◌≡◌, ◌⊎◌, ◌+◌, ◌<◌, ◌≤◌, ◌∙◌, ℕ, List, [], ◌∷◌, ◌++◌, length, replicate, slice_index, refl, sym, subst, inl, inr, arith}
use Rattle.std.proofs.lemmas.Bool.{cases_lt}
use Rattle.std.proofs.lemmas.List.{get_or-replicate, get_or_past, length-replicate, length-append, get_or_append_left}
use Rattle.watch_links.specs.Links.{IsIn, IsFree, list_of}
use Rattle.watch_links.specs.Chains.{no_slot, AreLinked}
use Rattle.watch_links.proofs.SlotLists.{owner_within}
use Rattle.watch_links.proofs.ChainFacts.{chain_below, chain_kept}

no_list : (owners owner : ℕ) → list_of (replicate owners []) owner ≡ []
no_list owners owner = go (cases_lt owner owners)
  where
    go : (owner < owners) ⊎ (owners ≤ owner) → list_of (replicate owners []) owner ≡ []
    go (inl h) = get_or-replicate owners owner [] [] h
    go (inr h) = let none : List ℕ = [] in get_or_past (replicate owners []) owner none
        (omega (arith, h, length-replicate owners none))

-- no links are those of empty lists
pub linked_new : (owners : ℕ) → AreLinked (replicate owners no_slot) [] [] (replicate owners [])
linked_new owners =
    let none : List ℕ = [] in
    record {
      per_owner = length-replicate owners none ∙ sym (length-replicate owners no_slot);
      few = omega arith;
      as_many = refl;
      chains = λ owner inside.
          rw (no_list owners owner) (get_or-replicate owners owner no_slot 0
          (omega (arith, inside, length-replicate owners no_slot)));
      copied = λ owner slot i. let never : IsIn slot [] = subst (IsIn slot) (no_list owners owner) i in absurd never;
    }

module _ (firsts next owned : List ℕ) (lists : List (List ℕ)) (linked : AreLinked firsts next owned lists) where
  -- a slot of a list is one that there is
  pub stands_under : (owner slot : ℕ) → IsIn slot (list_of lists owner) → slot < length next
  stands_under owner slot i =
      let within = owner_within lists owner slot i in
      chain_below (slice_index next) (length next) (slice_index firsts owner) slot (list_of lists owner)
      (linked.chains owner (omega (arith, within, linked.per_owner))) i

  -- with two slots more, which lead nowhere, the links are those of the lists as they were
  pub linked_more : length next + 2 ≤ no_slot → AreLinked firsts (next ++ no_slot ∷ no_slot ∷ []) (owned ++ 0 ∷ 0 ∷ []) lists
  linked_more few =
      let more : List ℕ = no_slot ∷ no_slot ∷ [] in
      let others : List ℕ = 0 ∷ 0 ∷ [] in
      let nexts = length-append next more in
      let copies = length-append owned others in
      record {
        per_owner = linked.per_owner;
        few = omega (arith, few, nexts);
        as_many = omega (arith, nexts, copies, linked.as_many);
        chains = λ owner inside. chain_kept (slice_index next) (slice_index (next ++ more)) (length next)
            (length (next ++ more)) (slice_index firsts owner) (list_of lists owner) (omega (arith, nexts))
            (linked.chains owner inside) (λ y i l. get_or_append_left next more 0 y l);
        copied = λ owner slot i.
            get_or_append_left owned others 0 slot (omega (arith, stands_under owner slot i, linked.as_many))
            ∙ linked.copied owner slot i;
      }

  -- a slot past the last one stands in no list
  pub free_past : (slot : ℕ) → length next ≤ slot → IsFree lists slot
  free_past slot past owner i = omega (arith, stands_under owner slot i, past)
