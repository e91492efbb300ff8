-- What the calls on watch lists read and write, in terms of the lists that a caller sees.
use Rattle.std.proofs.Common.{◌≡◌, ◌⊎◌, ◌+◌, ◌<◌, ◌≤◌, ◌∙◌, ℕ, List, [], ◌∷◌, ◌++◌, Option, Some, IfSome, length, slice_index, slice_set, sym, ap, subst, inl, inr, arith}
use Rattle.std.proofs.lemmas.Bool.{cases_lt}
use Rattle.std.proofs.lemmas.List.{get_or_past, length-map}
use Rattle.watch_links.specs.Links.{Links, IsIn, IsFree, HasNoneTwice, coming_after, following, lists_with, lists_without, list_of, AreWhole}
use Rattle.watch_links.specs.Chains.{no_slot, slot_at, nexts, copies, walks, AreLinked, nexts_led, firsts_led}
use Rattle.watch_links.specs.declared.writes.Link.{Link}
use Rattle.watch_links.proofs.SlotLists.{coming_in, before_below}
use Rattle.watch_links.proofs.ChainFacts.{chain_once, chain_following}
use Rattle.watch_links.proofs.CutList.{owner_inside, linked_cut, free_cut}
use Rattle.watch_links.proofs.OnList.{linked_on}
use Rattle.watch_links.proofs.MoreSlots.{linked_more, free_past, stands_under}

-- a caller sees these links so
pub record IsSeen (firsts next owned : List ℕ) (links : Links) : Type 0 where
  pub linked : AreLinked firsts next owned (walks next firsts)
  pub slots_are : length next ≡ links.slots
  pub lists_are : walks next firsts ≡ links.lists

pub seen_of : (firsts : List ℕ) (slots : List Link) (room : ℕ) (links : Links) → AreLinked firsts (nexts slots)
    (copies slots) (walks (nexts slots) firsts)
    → ◌≡◌ {A = Links} (record { slots = length slots; lists = walks (nexts slots) firsts; room = room }) links
    → IsSeen firsts (nexts slots) (copies slots) links
seen_of firsts slots room links linked view = record {
  linked = linked;
  slots_are = length-map slots (λ l. l.next) ∙ ap (λ (v : Links). v.slots) view;
  lists_are = ap (λ (v : Links). v.lists) view;
}

-- the links are those of the lists that a caller sees
pub linked_seen : (firsts next owned : List ℕ) (links : Links) → IsSeen firsts next owned links → AreLinked firsts next
    owned links.lists
linked_seen firsts next owned links s = subst (AreLinked firsts next owned) s.lists_are s.linked

-- a slot that stands in a list has links
pub stands_below : (firsts : List ℕ) (slots : List Link) (links : Links) (owner slot : ℕ) → IsSeen firsts
    (nexts slots) (copies slots) links
    → IsIn slot (list_of links.lists owner) → slot < length slots
stands_below firsts slots links owner slot s stands =
    let below = stands_under firsts (nexts slots) (copies slots) links.lists
    (linked_seen firsts (nexts slots) (copies slots) links s) owner slot stands in
    omega (arith, below, length-map slots (λ l. l.next))

-- the link of a slot leads to the slot that follows in its list
pub seen_following : (firsts next owned : List ℕ) (links : Links) (owner slot link : ℕ) → IsSeen firsts next owned
    links → link ≡ slice_index next slot
    → IsIn slot (list_of links.lists owner) → slot_at link ≡ following slot (list_of links.lists owner)
seen_following firsts next owned links owner slot link s is stands =
    let linked = linked_seen firsts next owned links s in
    let inside = owner_inside firsts next owned links.lists owner slot linked stands in
    ap slot_at is ∙ chain_following (slice_index next) (length next) (slice_index firsts owner) slot
    (list_of links.lists owner) linked.few (linked.chains owner inside) stands

-- and the owner that it copies is that of its list
pub seen_owner_of : (firsts next owned : List ℕ) (links : Links) (owner slot copy : ℕ) → IsSeen firsts next owned links
    → copy ≡ slice_index owned slot → IsIn slot (list_of links.lists owner) → copy ≡ owner
seen_owner_of firsts next owned links owner slot copy s is stands =
    is ∙ (linked_seen firsts next owned links s).copied owner slot stands

-- the slot before one has links, too
pub comes_below : (firsts : List ℕ) (slots : List Link) (links : Links) (owner slot : ℕ) (before : Option ℕ) → IsSeen firsts
    (nexts slots) (copies slots) links → coming_after before (list_of links.lists owner) ≡ Some slot
    → IfSome before (λ b. b < length slots)
comes_below firsts slots links owner slot before s comes =
    before_below before slot (list_of links.lists owner) (length slots)
    (λ b i. stands_below firsts slots links owner b s i) comes

-- the links after a slot is cut out are those of the lists without it
pub seen_cut : (firsts next owned firsts' next' owned' : List ℕ) (links : Links) (owner slot after : ℕ) (before : Option ℕ)
    → IsSeen firsts next owned links
    → coming_after before (list_of links.lists owner) ≡ Some slot → after ≡ slice_index next slot
    → firsts' ≡ firsts_led firsts owner before after → next' ≡ nexts_led next before after → owned' ≡ owned
    → AreLinked firsts' next' owned' (lists_without links.lists owner slot)
seen_cut firsts next owned firsts' next' owned' links owner slot after before s comes is_after firsts_are next_is owned_is =
    rw (firsts_are, next_is, owned_is, is_after) (linked_cut firsts next owned links.lists owner slot
    (linked_seen firsts next owned links s) (coming_in before slot (list_of links.lists owner) comes) before comes)

pub seen_free : (firsts next owned : List ℕ) (links : Links) (owner slot : ℕ) → IsSeen firsts next owned links
    → IsIn slot (list_of links.lists owner) → IsFree (lists_without links.lists owner slot) slot
seen_free firsts next owned links owner slot s stands = free_cut firsts next owned links.lists owner slot
    (linked_seen firsts next owned links s) stands

-- an owner has a link to its first slot
pub seen_owner : (firsts next owned : List ℕ) (links : Links) (owner : ℕ) → IsSeen firsts next owned links
    → owner < length links.lists → owner < length firsts
seen_owner firsts next owned links owner s inside =
    let linked = linked_seen firsts next owned links s in
    omega (arith, inside, linked.per_owner)

-- the links after a free slot is put in front of a list are those of the lists with it
pub seen_on : (firsts next owned firsts' next' owned' : List ℕ) (links : Links) (owner slot first : ℕ)
    → IsSeen firsts next owned links
    → IsFree links.lists slot → slot < links.slots → owner < length links.lists → first ≡ slice_index firsts owner
    → next' ≡ slice_set next slot first → owned' ≡ slice_set owned slot owner
    → firsts' ≡ slice_set firsts owner slot
    → AreLinked firsts' next' owned' (lists_with links.lists owner slot)
seen_on firsts next owned firsts' next' owned' links owner slot first s free below inside is_first next_is owned_is firsts_are =
    let linked = linked_seen firsts next owned links s in
    let under : slot < length next = omega (arith, below, s.slots_are) in
    let on = linked_on firsts next owned links.lists owner slot first linked free under
    (seen_owner firsts next owned links owner s inside) is_first in
    rw (firsts_are, next_is, owned_is) on

-- the links after two slots are added are those of the lists as they were
pub seen_more : (firsts next owned next' owned' : List ℕ) (links : Links) → IsSeen firsts next owned links
    → links.slots + 2 ≤ no_slot
    → next' ≡ next ++ no_slot ∷ no_slot ∷ [] → owned' ≡ owned ++ 0 ∷ 0 ∷ [] → AreLinked firsts next' owned' links.lists
seen_more firsts next owned next' owned' links s few next_is owned_is =
    let linked = linked_seen firsts next owned links s in
    rw (next_is, owned_is) (linked_more firsts next owned links.lists linked (omega (arith, few, s.slots_are)))

-- slots that are not there yet are free
pub seen_past : (firsts next owned : List ℕ) (links : Links) → IsSeen firsts next owned links → IsFree links.lists
    links.slots × IsFree links.lists (links.slots + 1)
seen_past firsts next owned links s =
    let linked = linked_seen firsts next owned links s in (
      free_past firsts next owned links.lists linked links.slots (omega (arith, s.slots_are)),
      free_past firsts next owned links.lists linked (links.slots + 1) (omega (arith, s.slots_are)),
    )

-- what is true at any moment
pub seen_whole : (firsts next owned : List ℕ) (links : Links) → IsSeen firsts next owned links → AreWhole links
seen_whole firsts next owned links s =
    let linked = linked_seen firsts next owned links s in
    record {
      once = λ owner. once owner (cases_lt owner (length links.lists));
      within = λ owner slot stands. let below = stands_under firsts next owned links.lists linked owner slot
          stands in omega (arith, below, s.slots_are);
      apart = λ owner other slot i j. sym (linked.copied owner slot i) ∙ linked.copied other slot j;
      few = omega (arith, linked.few, s.slots_are);
    }
  where
    once : (owner : ℕ) → (owner < length links.lists) ⊎ (length links.lists ≤ owner) → HasNoneTwice (list_of links.lists owner)
    once owner (inl h) =
        let linked = linked_seen firsts next owned links s in
        chain_once (slice_index next) (length next) (slice_index firsts owner) (list_of links.lists owner) linked.few
        (linked.chains owner (seen_owner firsts next owned links owner s h))
    once owner (inr h) = let none : list_of links.lists owner ≡ [] = get_or_past links.lists owner [] h in rw none tt
