-- A part of a specification is no larger than the whole.
use Rattle.std.proofs.Common.{◌≡◌, ◌≤◌, ◌*◌, ◌^◌, ◌∙◌, ℕ, List, [], Option, Some, None, length, slice_get, refl, sym, ap, subst, arith}
use Rattle.std.specs.Prelude.{nat_lt}
use Rattle.std.specs.List.{list_any, sum_by}
use Rattle.std.specs.Option.{option_map_or}
use Rattle.std.proofs.lemmas.Nat.{mul-le}
use Rattle.std.proofs.lemmas.Option.{same_Some, slice_get_within}
use Rattle.currency_base.specs.declared.ids.RelId.{RelId}
use Rattle.currency_base.specs.declared.row.Row.{Row}
use Rattle.copy_functions.specs.Copies.{CopyFunction}
use Rattle.copy_functions.specs.declared.place.Place.{Place}
use Rattle.denial_rules.specs.declared.rule.Rule.{Rule}
use Rattle.spec_limits.specs.Limits.{is_crowded, is_long, entity_pairs, order_variables}
use Rattle.spec_limits.specs.Instances.{sum_by_entity, rule_instances, copy_pairs, rows_at, copy_instances, order_instances}
use Rattle.spec_model.specs.Spec.{Spec}
use Rattle.spec_model.specs.Facts.{IsSpecification, IsCopyAmong}
use Rattle.spec_model.specs.declared.relation.Relation.{Relation}
use Rattle.part_laws.specs.Parts.{Scope, Places, rows_in, entities_in, IsPartOf}
use Rattle.part_laws.proofs.Rows.{all_at, at_place, there}
use Rattle.item_limits.proofs.Sums.{sums_below, none_passes}
use Rattle.item_limits.proofs.Within.{IsWithin, exceeds_none}
use Rattle.part_limits.specs.Laws.{PartsAreWithin}
use Rattle.part_limits.proofs.Totals.{powers_grow}
use Rattle.part_limits.proofs.Placed.{Placed, IsPlaced}
use Rattle.part_limits.proofs.PartRows.{rows_below, not_crowded, by_entity_below, same_attrs, variables_below, orders_below}
use Rattle.part_limits.proofs.PartCopies.{Copying, IsCopying, copy_pairs_below}

-- a part of a specification
record Part : Type 0 where
  s : Spec
  scope : Scope
  n : Places
  part : Spec

record IsPart (p : Part) : Type 0 where
  facts : IsSpecification p.s
  of : IsPartOf p.s p.scope p.n p.part

-- ---- relations

abbrev placed_at : Part → ℕ → Relation → Relation → Placed
placed_at p rel new r = record { whole = r; part = new; rows = rows_in p.n rel; entities = entities_in p.n rel }

is_placed : (p : Part) (rel : ℕ) (new r : Relation) → IsPart p → slice_get p.part.relations rel ≡ Some new
    → slice_get p.s.relations rel ≡ Some r
    → IsPlaced (placed_at p rel new r)
is_placed p rel new r is at_new at =
    let places = is.of.places in
    record {
      of = is.of.relations rel r new at at_new;
      rows_ascend = places.rows_ascend rel;
      entities_ascend = places.entities_ascend rel;
      entities_below = λ i ent is_ent. ((places.entities rel r at ent).0 (at_place (entities_in p.n rel) i ent is_ent)).0;
    }

whole_at : (p : Part) (rel : ℕ) (new : Relation) → IsPart p → slice_get p.part.relations rel ≡ Some new
    → (r : Relation) × (slice_get p.s.relations rel ≡ Some r)
whole_at p rel new is at =
    let below = slice_get_within p.part.relations rel new at in
    let many = is.of.per_relation in
    there p.s.relations rel (omega (arith, below, many))

part_at : (p : Part) (rel : ℕ) (r : Relation) → IsPart p → slice_get p.s.relations rel ≡ Some r
    → (new : Relation) × (slice_get p.part.relations rel ≡ Some new)
part_at p rel r is at =
    let below = slice_get_within p.s.relations rel r at in
    let many = is.of.per_relation in
    there p.part.relations rel (omega (arith, below, many))

sum_part : (p : Part) (f : Relation → ℕ) → IsPart p → ((q : Placed) → IsPlaced q → f q.part ≤ f q.whole)
    → sum_by f p.part.relations ≤ sum_by f p.s.relations
sum_part p f is each =
    let many = is.of.per_relation in
    sums_below f f p.part.relations p.s.relations (omega (arith, many))
    (λ i x y at_x at_y. each (placed_at p i x y) (is_placed p i x y is at_x at_y))

variables_part : (p : Part) → IsPart p → order_variables p.part.relations ≤ order_variables p.s.relations
unfolding order_variables
variables_part p is = sum_part p (λ (r : Relation). length r.attrs * entity_pairs r.rows) is variables_below

-- ---- rules

rule_part : (p : Part) (rule : Rule) → IsPart p → rule_instances p.part.relations rule ≤ rule_instances p.s.relations rule
unfolding rule_instances
rule_part p rule is = go (slice_get p.part.relations rel) refl
  where
    rel : ℕ
    rel = rule.relation.0

    term : Relation → ℕ
    term = sum_by_entity (λ n. n ^ rule.vars)

    go : (o : Option Relation) → slice_get p.part.relations rel ≡ o
        → option_map_or term (slice_get p.part.relations rel) 0 ≤ option_map_or term (slice_get p.s.relations rel) 0
    go None e = let none = ap (λ (o : Option Relation). option_map_or term o 0) e in omega (arith, none)
    go (Some new) e =
        let r = whole_at p rel new is e in
        let below = by_entity_below (placed_at p rel new r.0) (λ n. n ^ rule.vars) (is_placed p rel new r.0 is e r.1)
        (powers_grow rule.vars) in
        let some = ap (λ (o : Option Relation). option_map_or term o 0) e in
        let whole = ap (λ (o : Option Relation). option_map_or term o 0) r.1 in
        omega (arith, below, some, whole)

-- ---- copy functions

copy_part : (p : Part) (i : ℕ) (new copy : CopyFunction) → IsPart p → slice_get p.part.copies i ≡ Some new
    → slice_get p.s.copies i ≡ Some copy
    → copy_instances p.part.relations new ≤ copy_instances p.s.relations copy
unfolding copy_instances
copy_part p i new copy is at_new at =
    let of = is.of.copies i copy new at at_new in
    let among = all_at (IsCopyAmong p.s.relations) p.s.copies i copy is.facts.copies.each at in
    let t = part_at p copy.target.0 among.target is among.is_target in
    let u = part_at p copy.source.0 among.source is among.is_source in
    let c : Copying = record {
      copy = copy;
      new = new;
      target = placed_at p copy.target.0 t.0 among.target;
      source = placed_at p copy.source.0 u.0 among.source;
    } in
    let copying : IsCopying c = record {
      of = of;
      target = is_placed p copy.target.0 t.0 among.target is t.1 among.is_target;
      source = is_placed p copy.source.0 u.0 among.source is u.1 among.is_source;
    } in
    let below = copy_pairs_below c copying in
    let rows = λ (o : Option Relation). option_map_or (λ (r : Relation). r.rows) o [] in
    let t_part : rows_at p.part.relations new.target ≡ t.0.rows =
    ap (λ (x : RelId). rows_at p.part.relations x) of.target ∙ ap rows t.1 in
    let u_part : rows_at p.part.relations new.source ≡ u.0.rows =
    ap (λ (x : RelId). rows_at p.part.relations x) of.source ∙ ap rows u.1 in
    let t_whole : rows_at p.s.relations copy.target ≡ among.target.rows = ap rows among.is_target in
    let u_whole : rows_at p.s.relations copy.source ≡ among.source.rows = ap rows among.is_source in
    let in_part : copy_pairs new (rows_at p.part.relations new.target) (rows_at p.part.relations new.source)
    ≡ copy_pairs new t.0.rows u.0.rows =
    ap (λ (l : List Row). copy_pairs new l (rows_at p.part.relations new.source)) t_part
    ∙ ap (λ (l : List Row). copy_pairs new t.0.rows l) u_part in
    let in_whole : copy_pairs copy (rows_at p.s.relations copy.target) (rows_at p.s.relations copy.source)
    ≡ copy_pairs copy among.target.rows among.source.rows =
    ap (λ (l : List Row). copy_pairs copy l (rows_at p.s.relations copy.source)) t_whole
    ∙ ap (λ (l : List Row). copy_pairs copy among.target.rows l) u_whole in
    let places = ap (λ (l : List Place). length l) of.places in
    mul-le (length new.places) (copy_pairs new (rows_at p.part.relations new.target) (rows_at p.part.relations new.source))
    (length copy.places) (copy_pairs copy (rows_at p.s.relations copy.target) (rows_at p.s.relations copy.source))
    (omega (arith, places)) (omega (arith, below, in_part, in_whole))

-- ---- all together

part_within : (p : Part) → IsPart p → IsWithin p.part p.s
part_within p is =
    let relations = is.of.per_relation in
    let rules = ap (λ (l : List Rule). length l) is.of.rules in
    let copies = is.of.per_copy in
    record {
      relations = omega (arith, relations);
      attrs = none_passes (λ r. nat_lt 32 (length r.attrs)) (λ r. nat_lt 32 (length r.attrs)) p.part.relations p.s.relations
          (omega (arith, relations))
          (λ i x y at_x at_y few. ap (nat_lt 32) (same_attrs (placed_at p i x y) (is_placed p i x y is at_x at_y)) ∙ few);
      rows = sum_part p (λ (r : Relation). length r.rows) is rows_below;
      of_one = none_passes (λ r. is_crowded r.rows) (λ r. is_crowded r.rows) p.part.relations p.s.relations
          (omega (arith, relations))
          (λ i x y at_x at_y. not_crowded (placed_at p i x y) (is_placed p i x y is at_x at_y));
      rules = omega (arith, rules);
      long = λ none. ap (list_any is_long) is.of.rules ∙ none;
      copies = omega (arith, copies);
      variables = variables_part p is;
      of_rules = sums_below (rule_instances p.part.relations) (rule_instances p.s.relations) p.part.rules p.s.rules
          (omega (arith, rules))
          (λ i x y at_x at_y.
          let same : x ≡ y = same_Some x y (sym at_x ∙ (ap (λ (l : List Rule). slice_get l i) is.of.rules ∙ at_y)) in
          subst (λ (rule : Rule). rule_instances p.part.relations x ≤ rule_instances p.s.relations rule) same (rule_part p x is));
      of_copies = sums_below (copy_instances p.part.relations) (copy_instances p.s.relations) p.part.copies p.s.copies
          (omega (arith, copies))
          (λ i x y at_x at_y. copy_part p i x y is at_x at_y);
      of_orders = sum_part p order_instances is orders_below;
    }

pub parts_within : PartsAreWithin
parts_within s scope n part facts of none =
    let p : Part = record { s = s; scope = scope; n = n; part = part } in
    exceeds_none part s (part_within p (record { facts = facts; of = of })) none
