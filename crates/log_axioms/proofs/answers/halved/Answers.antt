use Rattle.std.proofs.Common.{◌≡◌, ◌∙◌, rules, true, None, Some, List, slice_get, ap, sym, false}
use Rattle.std.specs.Cmp.Lexicographic.{slice_cmp}
use Rattle.std.specs.Ordering.{is_lt}
use Rattle.std.proofs.lemmas.List.Sorted.{IsPartitionPoint-from_clause}
use Rattle.std.proofs.lemmas.Option.{same_Some, none-some}
use Rattle.currency_base.specs.Values.{value_cmp}
use Rattle.currency_base.specs.declared.value.Value.{Value}
use Rattle.log_axioms.specs.Matches.{is_tuple}
use Rattle.log_axioms.proofs.Places.{lesser_first, first_by_cut, nowhere_by_cut}
use Rattle.log_axioms.proofs.answers.halved.Goals as goal

pub returns-then-is_eq : goal.returns-then-is_eq
returns-then-is_eq c =
    let tuples = c.args.tuples.now in
    let tuple = c.args.tuple.now in
    let cut = IsPartitionPoint-from_clause (λ y. is_lt (slice_cmp value_cmp y tuple)) tuples
    c.partition_point-place.result c.partition_point-place.ensures.partitioned
    (lesser_first c.laws_of_tuple_order.ensures.total tuples tuple c.requires) (λ a r q k. search rules) in
    let same : is_tuple c.in-Some.found.now tuple ≡ true = search rules in
    let at : slice_get tuples c.partition_point-place.result ≡ Some c.in-Some.found.now = sym c.in-Some.ensures in
    first_by_cut tuples tuple c.in-Some.found.now c.partition_point-place.result cut at same

pub returns-else-is_eq : goal.returns-else-is_eq
returns-else-is_eq c =
    let tuples = c.args.tuples.now in
    let tuple = c.args.tuple.now in
    let cut = IsPartitionPoint-from_clause (λ y. is_lt (slice_cmp value_cmp y tuple)) tuples
    c.partition_point-place.result c.partition_point-place.ensures.partitioned
    (lesser_first c.laws_of_tuple_order.ensures.total tuples tuple c.requires) (λ a r q k. search rules) in
    let other : is_tuple c.in-Some.found.now tuple ≡ false = search rules in
    let at : slice_get tuples c.partition_point-place.result ≡ Some c.in-Some.found.now = sym c.in-Some.ensures in
    nowhere_by_cut tuples tuple c.partition_point-place.result c.laws_of_tuple_order.ensures.equal c.requires cut
    (λ x here. ap (λ (z : List Value). is_tuple z tuple) (same_Some x c.in-Some.found.now (sym here ∙ at)) ∙ other)

pub returns-in-None : goal.returns-in-None
returns-in-None c =
    let tuples = c.args.tuples.now in
    let tuple = c.args.tuple.now in
    let cut = IsPartitionPoint-from_clause (λ y. is_lt (slice_cmp value_cmp y tuple)) tuples
    c.partition_point-place.result c.partition_point-place.ensures.partitioned
    (lesser_first c.laws_of_tuple_order.ensures.total tuples tuple c.requires) (λ a r q k. search rules) in
    let none : slice_get tuples c.partition_point-place.result ≡ None = sym c.in-None.ensures in
    nowhere_by_cut tuples tuple c.partition_point-place.result c.laws_of_tuple_order.ensures.equal c.requires cut
    (λ x here. absurd (none-some x (sym none ∙ here)))
