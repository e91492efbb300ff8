-- The links of slots, and the owners that they copy, as they are written and read.
use Rattle.std.proofs.Common.{◌≡◌, ◌<◌, ◌∙◌, ℕ, List, length, slice_index, slice_index_or, slice_set, sym, ap}
use Rattle.std.proofs.lemmas.List.{map-set, get_or-map}
use Rattle.std.proofs.Math.Seq.{map-set_same}
use Rattle.watch_links.specs.Chains.{nexts, copies}
use Rattle.watch_links.specs.declared.writes.Link.{Link}

-- the link to the slot after is set
pub nexts_set : (links : List Link) (slot : ℕ) (link : Link) → nexts (slice_set links slot link) ≡ slice_set
    (nexts links) slot link.next
nexts_set links slot link = map-set (λ (l : Link). l.next) links slot link

-- the owner is set
pub copies_set : (links : List Link) (slot : ℕ) (link : Link) → copies (slice_set links slot link) ≡ slice_set
    (copies links) slot link.owner
copies_set links slot link = map-set (λ (l : Link). l.owner) links slot link

-- the owner is as it was
pub copies_kept : (links : List Link) (slot : ℕ) (link was : Link) → was ≡ slice_index_or links slot was → link.owner ≡ was.owner
    → copies (slice_set links slot link) ≡ copies links
copies_kept links slot link was is same = map-set_same (λ (l : Link). l.owner) links slot link was
    (same ∙ ap (λ (l : Link). l.owner) is)

-- the link to the slot after is read
pub next_read : (links : List Link) (slot : ℕ) (link : Link) → slot < length links → link ≡ slice_index_or links slot
    link → link.next ≡ slice_index (nexts links) slot
next_read links slot link below is = ap (λ (l : Link). l.next) is
    ∙ sym (get_or-map (λ (l : Link). l.next) links slot link 0 below)

-- the owner is read
pub copy_read : (links : List Link) (slot : ℕ) (link : Link) → slot < length links → link ≡ slice_index_or links slot
    link → link.owner ≡ slice_index (copies links) slot
copy_read links slot link below is = ap (λ (l : Link). l.owner) is
    ∙ sym (get_or-map (λ (l : Link). l.owner) links slot link 0 below)
