use Rattle.std.proofs.Common.{◌≡◌, ◌+◌, length, ap, ◌∙◌, arith}
use Rattle.std.proofs.lemmas.List.{length-replicate}
use Rattle.entity_lists.specs.Index.{AreCounts, ArePlaces, AreSums, AreSlots}
use Rattle.entity_lists.proofs.Counts.{starts_from_sums}
use Rattle.entity_lists.proofs.Made.{numbers_below, numbers_inside, as_many_counts, few_in_all, index_made}
use Rattle.entity_lists.proofs.lists.EntityLists.new.Goals as goal

pub ranks-requires-clause-within : goal.ranks-requires-clause-within
ranks-requires-clause-within c =
    numbers_below c.args.rows.now c.deref.result.now c.args.entities _ (c.deref.ensures.value ∙ c.in_ok-numbers.ensures)
    (ap length c.in_ok-counts.ensures ∙ length-replicate c.args.entities 0) c.requires.within

pub front_sums-requires : goal.front_sums-requires
front_sums-requires c =
    let numbers = c.in_ok-numbers.numbers.items in
    let counts = c.ranks.new.counts.items in
    let counts_are : AreCounts numbers counts = rw c.deref.ensures.value at c.in_ok-places.ensures.counts in
    let few = few_in_all c.args.rows.now numbers counts c.in_ok-numbers.ensures counts_are in
    rw c.deref-2.ensures.value (record { few = omega arith })

pub rows_by_entity-requires-clause-within : goal.rows_by_entity-requires-clause-within
rows_by_entity-requires-clause-within c =
    let counts = c.ranks.new.counts.items in
    let starts = c.in_ok-starts.starts.items in
    let sums : AreSums counts starts = rw c.deref-2.ensures.value at c.in_ok-starts.ensures in
    let many : length counts ≡ c.args.entities = as_many_counts counts _ c.args.entities c.in_ok-places.ensures.many
    c.in_ok-counts.ensures in
    let starts_many : length c.deref-4.result.now ≡ c.args.entities + 1 = ap length c.deref-4.ensures.value
    ∙ sums.many ∙ ap (λ n. n + 1) many in
    numbers_inside c.args.rows.now c.deref-3.result.now c.args.entities _
    (c.deref-3.ensures.value ∙ c.in_ok-numbers.ensures) starts_many c.requires.within

pub rows_by_entity-requires-clause-starts : goal.rows_by_entity-requires-clause-starts
rows_by_entity-requires-clause-starts c =
    let numbers = c.in_ok-numbers.numbers.items in
    let counts = c.ranks.new.counts.items in
    let starts = c.in_ok-starts.starts.items in
    let counts_are : AreCounts numbers counts = rw c.deref.ensures.value at c.in_ok-places.ensures.counts in
    let sums : AreSums counts starts = rw c.deref-2.ensures.value at c.in_ok-starts.ensures in
    rw (c.deref-3.ensures.value, c.deref-4.ensures.value) (starts_from_sums numbers counts starts counts_are sums)

pub invariant_of-result : goal.invariant_of-result
invariant_of-result c =
    let numbers = c.in_ok-numbers.numbers.items in
    let counts = c.ranks.new.counts.items in
    let starts = c.in_ok-starts.starts.items in
    let places = c.in_ok-places.places.items in
    let rows = c.in_ok-rows.rows.items in
    let many : length counts ≡ c.args.entities = as_many_counts counts _ c.args.entities c.in_ok-places.ensures.many
    c.in_ok-counts.ensures in
    let counts_are : AreCounts numbers counts = rw c.deref.ensures.value at c.in_ok-places.ensures.counts in
    let places_are : ArePlaces numbers places = rw c.deref.ensures.value at c.in_ok-places.ensures.places in
    let sums : AreSums counts starts = rw c.deref-2.ensures.value at c.in_ok-starts.ensures in
    let slots : AreSlots numbers starts places rows = rw (
      c.deref-3.ensures.value,
      c.deref-4.ensures.value,
      c.deref-5.ensures.value,
    ) at c.in_ok-rows.ensures in
    index_made c.args.rows.now c.args.entities numbers counts starts places rows c.requires.few
    c.requires.few_entities c.requires.within
    c.in_ok-numbers.ensures many counts_are sums places_are slots
