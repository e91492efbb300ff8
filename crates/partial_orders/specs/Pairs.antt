-- Sets of given pairs, in the order of attribute, earlier row and later row.
use Rattle.std.specs.Prelude.{◌≡◌, ◌≢◌, ℕ, Bool, List, Option, Some, None, slice_get}
use Rattle.std.specs.List.{list_any}
use Rattle.std.specs.Ordering.{nat_cmp, on, then_cmp, is_eq}
use Rattle.std.specs.Set.{remove_key}
use Rattle.std.specs.declared.cmp.Ordering.{Ordering}
use Rattle.currency_base.specs.declared.pair.Pair.{Pair}
use Rattle.currency_base.specs.declared.row.Row.{Row}

-- the order of pairs: by attribute, then by the earlier row, then by the later
abbrev pub pair_cmp : Pair → Pair → Ordering
pair_cmp = then_cmp (on (λ p. p.attr.0) nat_cmp) (then_cmp (on (λ p. p.earlier.0) nat_cmp) (on (λ p. p.later.0) nat_cmp))

-- the pair stands among these
abbrev pub has_pair : List Pair → Pair → Bool
has_pair pairs p = list_any (λ q. is_eq (pair_cmp p q)) pairs

-- these pairs without that one
abbrev pub without_pair : List Pair → Pair → List Pair
without_pair pairs p = remove_key (λ q. is_eq (pair_cmp p q)) pairs

-- the entity that a row stands for, if there is such a row
abbrev pub entity_of : List Row → ℕ → Option ℕ
entity_of rows row = entity_at (slice_get rows row)
  where
    entity_at : Option Row → Option ℕ
    entity_at None = None
    entity_at (Some r) = Some r.entity.0

-- two different rows of one entity
abbrev pub AreOfOneEntity : List Row → Pair → Type 0
AreOfOneEntity rows p = (p.earlier ≢ p.later) × (entity_of rows p.earlier.0 ≡ entity_of rows p.later.0)
