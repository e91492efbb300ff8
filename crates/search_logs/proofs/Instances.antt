-- Two rows that were copied together count as an instance of each place, so the places of their copy function are few.
use Rattle.std.proofs.Common.{◌≡◌, ◌==◌, ◌≤◌, ◌<◌, ◌*◌, ltb, ℕ, Bool, true, false, not, cond, List, [], Option, Some, None, if◌then◌else◌, length, slice_get, refl, ap, arith}
use Rattle.std.specs.List.{range_with_len}
use Rattle.std.specs.Option.{option_map_or}
use Rattle.std.proofs.lemmas.Bool.{and_from, ltb-false, eq-eqb, ne_eqb, not_from_false}
use Rattle.std.proofs.Math.Nat.{mul-le-mul_left}
use Rattle.currency_base.specs.declared.ids.CopyId.{CopyId}
use Rattle.currency_base.specs.declared.ids.RelId.{RelId}
use Rattle.currency_base.specs.declared.ids.RowId.{RowId}
use Rattle.currency_base.specs.declared.row.Row.{Row}
use Rattle.copy_functions.specs.Copies.{CopyFunction, source_at}
use Rattle.partial_orders.specs.Pairs.{entity_of}
use Rattle.spec_model.specs.Spec.{Spec}
use Rattle.spec_model.specs.declared.relation.Relation.{Relation}
use Rattle.spec_limits.specs.Instances.{is_one_entity, are_of_one_entity, are_sources_of_one, is_copy_instance, copy_partners, copy_pairs, rows_at, copy_instances, instances, too_many_instances}
use Rattle.order_literals.specs.Axioms.{AreTwo, IsCopyAxiom}
use Rattle.order_literals.specs.Said.{Said}
use Rattle.order_literals.proofs.Items.{in_at, range_in}
use Rattle.order_literals.proofs.RowLaws.{row_is}
use Rattle.order_clauses.proofs.Members.{row_within}
use Rattle.search_logs.proofs.Bounds.{one_of_sum}

two_pass : (rows : List Row) (a b : RowId) → AreTwo rows a b → are_of_one_entity rows a b ≡ true
two_pass rows a b two =
    and_from (not (a.0 == b.0)) (is_one_entity (entity_of rows a.0) (entity_of rows b.0))
    (not_from_false (a.0 == b.0) (ne_eqb a.0 b.0 (λ same. two.differ (row_is a b same))))
    (rw (two.a_of, two.b_of) (eq-eqb two.ent two.ent refl))

rows_are : (relations : List Relation) (rel : RelId) (r : Relation) → slice_get relations rel.0 ≡ Some r
    → rows_at relations rel ≡ r.rows
rows_are relations rel r at = ap (λ (o : Option Relation). option_map_or (λ (q : Relation). q.rows) o []) at

module _ (copy : CopyFunction) (target source : List Row) (first second first_source second_source : RowId) where
  is_instance : source_at copy first ≡ Some first_source → source_at copy second ≡ Some second_source → AreTwo target first second
      → AreTwo source first_source second_source → is_copy_instance copy target source first second ≡ true
  is_instance first_from second_from targets sources =
      and_from (are_of_one_entity target first second) (are_sources_of_one source (source_at copy first) (source_at copy second))
      (two_pass target first second targets)
      (rw (first_from, second_from) (two_pass source first_source second_source sources))

  -- the second of two such rows is counted with the first
  has_partner : is_copy_instance copy target source first second ≡ true → second.0 < length target
      → 1 ≤ copy_partners copy target source first.0
  unfolding copy_partners
  has_partner is within =
      let test : ℕ → Bool = λ n. is_copy_instance copy target source (record { 0 = first.0 }) (record { 0 = n }) in
      let one : ◌≡◌ {A = ℕ} (cond (test second.0) 1 0) 1 = ap (λ b. cond b 1 0) is in
      let counted =
      one_of_sum (λ n. cond (test n) 1 0) (range_with_len 0 (length target)) second.0
      (range_in 0 (length target) second.0 (omega arith) (omega (arith, within))) in
      omega (arith, one, counted)

  has_pairs : 1 ≤ copy_partners copy target source first.0 → first.0 < length target → 1 ≤ copy_pairs copy target source
  unfolding copy_pairs
  has_pairs some within =
      let counted =
      one_of_sum (copy_partners copy target source) (range_with_len 0 (length target)) first.0
      (range_in 0 (length target) first.0 (omega arith) (omega (arith, within))) in
      omega (arith, some, counted)

-- each place of a copy function counts where two rows do
places_count : (relations : List Relation) (copy : CopyFunction) → 1 ≤ copy_pairs copy
    (rows_at relations copy.target) (rows_at relations copy.source)
    → length copy.places ≤ copy_instances relations copy
unfolding copy_instances
places_count relations copy some = by (length copy.places) (copy_pairs copy (rows_at relations copy.target)
    (rows_at relations copy.source)) some
  where
    by : (n m : ℕ) → 1 ≤ m → n ≤ n * m
    by n m some = let more = mul-le-mul_left n some in omega (arith, more)

instances_count : (s : Spec) (k : CopyId) (copy : CopyFunction) → slice_get s.copies k.0 ≡ Some copy
    → copy_instances s.relations copy ≤ instances s
unfolding instances
instances_count s k copy at =
    let counted = one_of_sum (copy_instances s.relations) s.copies copy (in_at s.copies k.0 copy at) in
    omega (arith, counted)

few_instances : (s : Spec) → too_many_instances s ≡ None → instances s ≤ 8000000
unfolding too_many_instances
few_instances s none = by (ltb 8000000 (instances s)) refl none
  where
    by : (b : Bool) → ltb 8000000 (instances s) ≡ b → ◌≡◌ {A = Option ℕ} (if b then Some 11 else None) None
        → instances s ≤ 8000000
    by true is found = cc
    by false is found = ltb-false 8000000 (instances s) is

-- so a copy function whose place a label names has few places
pub few_places : (s : Spec) (k : CopyId) (copy : CopyFunction) (place : ℕ) (first second : RowId)
    (clause : List Said) → too_many_instances s ≡ None
    → slice_get s.copies k.0 ≡ Some copy → IsCopyAxiom s copy place first second clause → length copy.places ≤ 8000000
few_places s k copy place first second clause none at is =
    let target = is.target.rows in
    let source = is.source.rows in
    let counts =
    is_instance copy target source first second is.first_source is.second_source is.first_from is.second_from
    is.targets is.sources in
    let partner =
    has_partner copy target source first second is.first_source is.second_source counts
    (row_within target second.0 is.targets.ent is.targets.b_of) in
    let pairs : 1 ≤ copy_pairs copy target source =
    has_pairs copy target source first second is.first_source is.second_source partner
    (row_within target first.0 is.targets.ent is.targets.a_of) in
    let of_target = rows_are s.relations copy.target is.target is.is_target in
    let of_source = rows_are s.relations copy.source is.source is.is_source in
    let there : 1 ≤ copy_pairs copy (rows_at s.relations copy.target) (rows_at s.relations copy.source) =
    rw (of_target, of_source) pairs in
    let places = places_count s.relations copy there in
    let all = instances_count s k copy at in
    let few = few_instances s none in
    omega (arith, places, all, few)
