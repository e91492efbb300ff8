-- A specification that is no larger than another, in each way in which limits measure it, exceeds no limit that it does not.
use Rattle.std.proofs.Common.{◌≡◌, ◌≤◌, ℕ, Bool, true, false, ltb, length, Some, None, refl, ap, arith}
use Rattle.std.specs.Prelude.{nat_lt, if◌then◌else◌}
use Rattle.std.specs.List.{list_any, sum_by}
use Rattle.std.proofs.lemmas.Bool.{le-ltb, ltb-false}
use Rattle.spec_limits.specs.Limits.{exceeded, is_crowded, is_long, rows_together, order_variables, too_many_variables}
use Rattle.spec_limits.specs.Instances.{rule_instances, copy_instances, order_instances, instances, too_many_instances}
use Rattle.spec_limits.proofs.Chain.{least, none_of}
use Rattle.spec_model.specs.Spec.{Spec}
use Rattle.item_limits.specs.Laws.{ExceedsNone}
use Rattle.item_limits.proofs.Sums.{or_none, or_false}

pub record IsWithin (new s : Spec) : Type 0 where
  pub relations : length new.relations ≤ length s.relations
  pub attrs : list_any (λ r. nat_lt 32 (length r.attrs)) s.relations ≡ false
      → list_any (λ r. nat_lt 32 (length r.attrs)) new.relations ≡ false
  pub rows : rows_together new.relations ≤ rows_together s.relations
  pub of_one : list_any (λ r. is_crowded r.rows) s.relations ≡ false → list_any (λ r. is_crowded r.rows) new.relations ≡ false
  pub rules : length new.rules ≤ length s.rules
  pub long : list_any is_long s.rules ≡ false → list_any is_long new.rules ≡ false
  pub copies : length new.copies ≤ length s.copies
  pub variables : order_variables new.relations ≤ order_variables s.relations
  pub of_rules : sum_by (rule_instances new.relations) new.rules ≤ sum_by (rule_instances s.relations) s.rules
  pub of_copies : sum_by (copy_instances new.relations) new.copies ≤ sum_by (copy_instances s.relations) s.copies
  pub of_orders : sum_by order_instances new.relations ≤ sum_by order_instances s.relations

-- a bound that is not passed
not_above : (bound n m : ℕ) → n ≤ m → ltb bound m ≡ false → ltb bound n ≡ false
not_above bound n m few is = let under = ltb-false bound m is in le-ltb bound n (omega (arith, few, under))

least_none : (a b c d e f : Bool) → a ≡ false → b ≡ false → c ≡ false → d ≡ false → e ≡ false → f ≡ false
    → least a b c d e f ≡ None
least_none a b c d e f p q r s t u = rw (p, q, r, s, t, u) refl

parts_within : (new s : Spec) → IsWithin new s → exceeded s ≡ None → exceeded new ≡ None
unfolding exceeded
parts_within new s is none =
    let f = none_of _ _ _ _ _ _ none in
    let rules = or_none (ltb 256 (length s.rules)) (list_any is_long s.rules) f.rules in
    least_none _ _ _ _ _ _
    (not_above 64 (length new.relations) (length s.relations) is.relations f.relations)
    (is.attrs f.attrs)
    (not_above 100000 (rows_together new.relations) (rows_together s.relations) is.rows f.rows)
    (is.of_one f.of_one)
    (or_false (ltb 256 (length new.rules)) (list_any is_long new.rules)
    (not_above 256 (length new.rules) (length s.rules) is.rules rules.0) (is.long rules.1))
    (not_above 64 (length new.copies) (length s.copies) is.copies f.copies)

-- a limit that is exceeded where a test says so
few_if : (above : Bool) (k : ℕ) → (if above then Some k else None) ≡ None → above ≡ false
few_if true k is = cc
few_if false k is = refl

none_if : (above : Bool) (k : ℕ) → above ≡ false → (if above then Some k else None) ≡ None
none_if above k is = ap (λ b. if b then Some k else None) is

variables_within : (new s : Spec) → IsWithin new s → too_many_variables s ≡ None → too_many_variables new ≡ None
unfolding too_many_variables
variables_within new s is none =
    none_if (ltb 4000000 (order_variables new.relations)) 10
    (not_above 4000000 (order_variables new.relations) (order_variables s.relations) is.variables
    (few_if (ltb 4000000 (order_variables s.relations)) 10 none))

instances_below : (new s : Spec) → IsWithin new s → instances new ≤ instances s
unfolding instances
instances_below new s is = omega (arith, is.of_rules, is.of_copies, is.of_orders)

instances_within : (new s : Spec) → IsWithin new s → too_many_instances s ≡ None → too_many_instances new ≡ None
unfolding too_many_instances
instances_within new s is none =
    none_if (ltb 8000000 (instances new)) 11
    (not_above 8000000 (instances new) (instances s) (instances_below new s is) (few_if (ltb 8000000 (instances s)) 11 none))

pub exceeds_none : (new s : Spec) → IsWithin new s → ExceedsNone s → ExceedsNone new
exceeds_none new s is none = record {
  parts = parts_within new s is none.parts;
  variables_few = variables_within new s is none.variables_few;
  instances_few = instances_within new s is none.instances_few;
}
