-- Lists that are linked through their slots. The links of a slot are half of its clause's head: the two slots of a clause
-- stand side by side.
use Rattle.std.specs.Prelude.{◌≡◌, ◌==◌, ◌<◌, ◌≤◌, ◌-◌, ◌/◌, min, ℕ, zero, suc, cond, List, [], ◌∷◌, Option, Some, None, length, map, slice_set, slice_index}
use Rattle.watch_links.specs.Links.{IsIn, list_of}
use Rattle.watch_links.specs.declared.writes.Link.{Link}

-- the link that leads to no slot
abbrev pub no_slot : ℕ
no_slot = 4294967295

-- the slot that a link leads to
abbrev pub slot_at : ℕ → Option ℕ
slot_at link = cond (link == no_slot) None (Some link)

-- of each slot, the link to the slot after it, and the owner that it copies
abbrev pub nexts : List Link → List ℕ
nexts links = map (λ l. l.next) links

abbrev pub copies : List Link → List ℕ
copies links = map (λ l. l.owner) links

-- at most so many slots that come one after another, by the links to the next one
unfoldable pub walk : List ℕ → ℕ → ℕ → List ℕ
walk next zero link = []
walk next (suc fuel) link = cond (link == no_slot) [] (link ∷ walk next fuel (slice_index next link))

-- the lists of all owners, by the links to their first slots. No list has more slots than there are
abbrev pub walks : List ℕ → List ℕ → List (List ℕ)
walks next firsts = map (walk next (length next)) firsts

-- a link leads to the first slot of a list, and from there on the links lead from slot to slot, to the end
abbrev pub IsChain : (next : ℕ → ℕ) (count link : ℕ) → List ℕ → Type 0
IsChain next count link [] = link ≡ no_slot
IsChain next count link (x ∷ xs) = (link ≡ x) × (x < count) × IsChain next count (next x) xs

-- the links are those of these lists, and each slot of a list copies the owner of that list
pub record AreLinked (firsts next owned : List ℕ) (lists : List (List ℕ)) : Type 0 where
  pub per_owner : length lists ≡ length firsts
  pub few : length next ≤ no_slot
  pub as_many : length owned ≡ length next
  pub chains : (owner : ℕ) → owner < length firsts
      → IsChain (slice_index next) (length next) (slice_index firsts owner) (list_of lists owner)
  pub copied : (owner slot : ℕ) → IsIn slot (list_of lists owner) → slice_index owned slot ≡ owner

-- the links to the slots after, and to the first slots, once an owner's list leads on from one slot to another; where no slot
-- comes before, the owner's link to its first slot leads there
abbrev pub nexts_led : List ℕ → Option ℕ → ℕ → List ℕ
nexts_led next None after = next
nexts_led next (Some before) after = slice_set next before after

abbrev pub firsts_led : List ℕ → ℕ → Option ℕ → ℕ → List ℕ
firsts_led firsts owner None after = slice_set firsts owner after
firsts_led firsts owner (Some before) after = firsts

-- for how many more clauses, of two slots each, there is room: in the vector of links, and in numbers
abbrev pub room_of : ℕ → ℕ → ℕ
room_of capacity slots = (min capacity no_slot - slots) / 2
