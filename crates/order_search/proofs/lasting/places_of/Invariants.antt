use Rattle.std.proofs.Common.{◌≡◌, length, map, slice_index_or, take}
use Rattle.currency_base.specs.Literals.{var_of}
use Rattle.order_search.specs.Lasting.{next_place}
use Rattle.order_search.proofs.lasting.places_of.Given as goal

abbrev pub invariant-loop-lit : goal.invariant-loop-lit
invariant-loop-lit l = record {
  tops : l.places.top_places.items ≡ map (λ lit. slice_index_or l.tops (var_of lit) 0) (take l.lit-index l.lits);
  lasts : l.places.last_places.items ≡ map next_place l.places.top_places.items;
  thirds : length l.places.thirds.items ≡ l.lit-index;
  seconds : length l.places.seconds.items ≡ l.lit-index;
}
