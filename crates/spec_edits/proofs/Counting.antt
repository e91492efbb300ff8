-- What edits make of the limits and of what is counted.
use Rattle.std.proofs.Common.{◌≡◌, ◌≤◌, ◌+◌, ◌-◌, ◌∙◌, ◌++◌, ◌∷◌, [], ℕ, Bool, false, ltb, zero, suc, List, length, length-set, Option, Some, None, Ok, Err, slice_get, refl, sym, ap, ap₂, subst, inl, inr, arith}
use Rattle.std.specs.Prelude.{◌||◌, if◌then◌else◌, IfSome}
use Rattle.std.specs.List.{list_any, remove}
use Rattle.std.proofs.lemmas.Bool.{cases_lt, ltb-false, le-ltb, or_parts}
use Rattle.std.proofs.lemmas.List.Folds.{list_any-append}
use Rattle.std.proofs.lemmas.List.Sums.{sum_by-remove, sum_by-set, sum_by_push}
use Rattle.std.proofs.lemmas.Option.{get_or_from_slice_get, none-some, slice_get_within}
use Rattle.copy_functions.specs.Copies.{CopyFunction}
use Rattle.currency_base.specs.declared.ids.RowId.{RowId}
use Rattle.currency_base.specs.declared.pair.Pair.{Pair}
use Rattle.denial_rules.specs.declared.rule.Rule.{Rule}
use Rattle.spec_limits.specs.Instances.{copy_instances, instances, rule_instances, too_many_instances}
use Rattle.spec_limits.specs.Left.{left_of}
use Rattle.spec_limits.specs.Limits.{exceeded, is_long, order_variables, too_many_variables}
use Rattle.spec_limits.proofs.Chain.{none_of, same_least}
use Rattle.spec_limits.proofs.GivenPairs.{exceeded_given, too_many_variables_given}
use Rattle.spec_limits.proofs.Leaving.{both, left_and, left_none, left_some}
use Rattle.spec_limits.proofs.OfSpec.{not_too_many, too_many}
use Rattle.spec_model.specs.Spec.{Spec}
use Rattle.spec_model.specs.declared.relation.Relation.{Relation}
use Rattle.spec_edits.specs.Counted.{IsCounted}
use Rattle.spec_edits.specs.Edits.{first_of_limits, limited, unless_above, with_copy_at, with_relation_at, with_rule, without_rule}
use Rattle.spec_edits.specs.declared.fault.EditFault.TheVariants.{Limit}
use Rattle.spec_edits.proofs.SameButGiven.{given_aside, instances_kept, lists_kept}

-- what is told of a value, where it is there
pub if_some : {A : Type 0} (P : A → Type 0) (o : Option A) (x : A) → o ≡ Some x → IfSome o P → P x
if_some {A} P o x is h = subst (λ (q : Option A). IfSome q P) is h

pub some_if : {A : Type 0} (P : A → Type 0) (o : Option A) (x : A) → o ≡ Some x → P x → IfSome o P
some_if {A} P o x is h = subst (λ (q : Option A). IfSome q P) (sym is) h

-- a specification is its parts
pub spec_is : (s t : Spec) → t.relations ≡ s.relations → t.rules ≡ s.rules → t.copies ≡ s.copies → t ≡ s
spec_is s t relations rules copies =
    ap (λ (x : List Relation). let u : Spec = record { relations = x; rules = t.rules; copies = t.copies } in u) relations
    ∙ ap (λ (x : List Rule). let u : Spec = record { relations = s.relations; rules = x; copies = t.copies } in u) rules
    ∙ ap (λ (x : List CopyFunction). let u : Spec = record { relations = s.relations; rules = s.rules; copies = x } in u) copies

-- ---- refusals by limits

pub limited_not : (s : Spec) → exceeded s ≡ None → too_many_instances s ≡ None → limited s ≡ Ok s
limited_not s parts many = ap₂ (λ (a b : Option ℕ). unless_above (first_of_limits a b) s) parts many

pub limited_by_parts : (s : Spec) (k : ℕ) → exceeded s ≡ Some k → limited s ≡ Err (Limit k)
limited_by_parts s k parts =
    ap (λ (a : Option ℕ). unless_above (first_of_limits a (too_many_instances s)) s) parts

pub limited_by_instances : (s : Spec) → exceeded s ≡ None → left_of 8000000 (instances s) ≡ None → limited s ≡ Err (Limit 11)
limited_by_instances s parts above =
    ap₂ (λ (a b : Option ℕ). unless_above (first_of_limits a b) s) parts (too_many s above)

pub within_limits : (s : Spec) (lists : List (List (List RowId))) (left : ℕ) → IsCounted s lists left → limited s ≡ Ok s
within_limits s lists left h = limited_not s h.parts (not_too_many s left h.instances)

-- ---- what is left

pub more_left : (n more left : ℕ) (rest : Option ℕ) → left_of 8000000 n ≡ Some left → left_of left more ≡ rest
    → left_of 8000000 (n + more) ≡ rest
more_left n more left rest is more_is = both 8000000 n more left is ∙ more_is

pub less_left : (n m less left : ℕ) → left_of 8000000 n ≡ Some left → m + less ≡ n
    → left_of 8000000 m ≡ Some (left + less)
less_left n m less left is parts = left_some 8000000 m (left + less) (omega (arith, left_and 8000000 n left is))

pub all_and_left : (s : Spec) (lists : List (List (List RowId))) (left : ℕ) → IsCounted s lists left
    → left + instances s ≡ 8000000
all_and_left s lists left h = left_and 8000000 (instances s) left h.instances

-- ---- given pairs

pub counted_given : (s : Spec) (rel : ℕ) (r : Relation) (given : List Pair) (lists : List (List (List RowId))) (left : ℕ)
    → slice_get s.relations rel ≡ Some r → IsCounted s lists left
    → IsCounted (with_relation_at s rel (record r { given = given })) lists left
counted_given s rel r given lists left at h =
    let t = with_relation_at s rel (record r { given = given }) in
    let same = given_aside s.relations rel r given at in
    record {
      parts = exceeded_given s rel r given at ∙ h.parts;
      variables = too_many_variables_given s rel r given at ∙ h.variables;
      rows = lists_kept s.relations t.relations lists same h.rows;
      instances = ap (left_of 8000000) (instances_kept s t same refl refl) ∙ h.instances;
    }

-- ---- the limits of other rules and copy functions

variables_of : (s t : Spec) → t.relations ≡ s.relations → too_many_variables t ≡ too_many_variables s
unfolding too_many_variables
variables_of s t same =
    ap (λ (rs : List Relation). let o : Option ℕ = if ltb 4000000 (order_variables rs) then Some 10 else None in o) same

parts_of_copy : (s : Spec) (copy : ℕ) (c : CopyFunction) → exceeded (with_copy_at s copy c) ≡ exceeded s
unfolding exceeded
parts_of_copy s copy c =
    same_least _ _ _ _ _ _ _ _ _ _ _ _ refl refl refl refl refl (ap (ltb 64) (length-set s.copies copy c))

any_without : {A : Type 0} (p : A → Bool) (xs : List A) (i : ℕ) → list_any p xs ≡ false → list_any p (remove xs i) ≡ false
any_without p [] zero none = refl
any_without p [] (suc i) none = refl
any_without p (x ∷ xs) zero none = (or_parts (p x) (list_any p xs) none).1
any_without p (x ∷ xs) (suc i) none =
    let parts = or_parts (p x) (list_any p xs) none in
    ap₂ (λ (a b : Bool). a || b) parts.0 (any_without p xs i parts.1)

few_without : {A : Type 0} (xs : List A) (i : ℕ) → length (remove xs i) ≤ length xs
few_without [] zero = omega arith
few_without [] (suc i) = omega arith
few_without (x ∷ xs) zero = omega arith
few_without (x ∷ xs) (suc i) = let rest = few_without xs i in omega arith

pub few_rules : (s : Spec) → exceeded s ≡ None → length s.rules ≤ 256
unfolding exceeded
few_rules s within = ltb-false 256 (length s.rules) (or_parts _ _ (none_of _ _ _ _ _ _ within).rules).0

-- one rule less exceeds no limit
parts_without_rule : (s : Spec) (rule : ℕ) → exceeded s ≡ None → exceeded (without_rule s rule) ≡ exceeded s
unfolding exceeded
parts_without_rule s rule within =
    let none = (none_of _ _ _ _ _ _ within).rules in
    let parts = or_parts (ltb 256 (length s.rules)) (list_any is_long s.rules) none in
    let few : length (remove s.rules rule) ≤ 256 = omega (
      arith,
      ltb-false 256 (length s.rules) parts.0,
      few_without s.rules rule,
    ) in
    same_least _ _ _ _ _ _ _ _ _ _ _ _ refl refl refl refl
    (ap₂ (λ (a b : Bool). a || b) (le-ltb 256 (length (remove s.rules rule)) few) (any_without is_long s.rules rule parts.1)
    ∙ sym none) refl

-- the last of the rules has few variables and few predicates
pub short_rule : (s : Spec) (rule : Rule) → exceeded (with_rule s rule) ≡ None → (rule.vars ≤ 4) × (length rule.predicates ≤ 16)
unfolding exceeded
short_rule s rule within =
    let any : list_any is_long (s.rules ++ rule ∷ []) ≡ false = (or_parts _ _ (none_of _ _ _ _ _ _ within).rules).1 in
    let last = or_parts _ _ (or_parts _ _ (sym (list_any-append is_long s.rules (rule ∷ [])) ∙ any)).1 in
    let parts = or_parts _ _ last.0 in
    (ltb-false 4 rule.vars parts.0, ltb-false 16 (length rule.predicates) parts.1)

-- ---- the instances of other rules and copy functions

instances_with_rule : (s : Spec) (rule : Rule) → instances (with_rule s rule) ≡ instances s + rule_instances s.relations rule
unfolding instances
instances_with_rule s rule = omega (arith, sum_by_push (rule_instances s.relations) s.rules rule)

instances_without_rule : (s : Spec) (i : ℕ) (rule : Rule) → slice_get s.rules i ≡ Some rule
    → instances (without_rule s i) + rule_instances s.relations rule ≡ instances s
unfolding instances
instances_without_rule s i rule at =
    omega (
      arith,
      sum_by-remove (rule_instances s.relations) s.rules i rule (slice_get_within s.rules i rule at),
      ap (rule_instances s.relations) (get_or_from_slice_get s.rules i rule rule at),
    )

instances_with_copy : (s : Spec) (i : ℕ) (old new : CopyFunction) → slice_get s.copies i ≡ Some old
    → instances (with_copy_at s i new) + copy_instances s.relations old ≡ instances s + copy_instances s.relations new
unfolding instances
instances_with_copy s i old new at =
    omega (
      arith,
      sum_by-set (copy_instances s.relations) s.copies i new old (slice_get_within s.copies i old at),
      ap (copy_instances s.relations) (get_or_from_slice_get s.copies i old old at),
    )

-- ---- what is counted then

pub counted_rule : (s : Spec) (rule : Rule) (lists : List (List (List RowId))) (left rest : ℕ) → IsCounted s lists left
    → exceeded (with_rule s rule) ≡ None → left_of left (rule_instances s.relations rule) ≡ Some rest
    → IsCounted (with_rule s rule) lists rest
counted_rule s rule lists left rest h parts more =
    record {
      parts = parts;
      variables = variables_of s (with_rule s rule) refl ∙ h.variables;
      rows = h.rows;
      instances = ap (left_of 8000000) (instances_with_rule s rule)
          ∙ more_left (instances s) (rule_instances s.relations rule) left (Some rest) h.instances more;
    }

pub above_with_rule : (s : Spec) (rule : Rule) (lists : List (List (List RowId))) (left : ℕ) → IsCounted s lists left
    → exceeded (with_rule s rule) ≡ None → left_of left (rule_instances s.relations rule) ≡ None
    → limited (with_rule s rule) ≡ Err (Limit 11)
above_with_rule s rule lists left h parts more =
    limited_by_instances (with_rule s rule) parts (ap (left_of 8000000) (instances_with_rule s rule)
    ∙ more_left (instances s) (rule_instances s.relations rule) left None h.instances more)

pub counted_without_rule : (s : Spec) (i : ℕ) (rule : Rule) (lists : List (List (List RowId))) (left : ℕ)
    → IsCounted s lists left → slice_get s.rules i ≡ Some rule
    → IsCounted (without_rule s i) lists (left + rule_instances s.relations rule)
counted_without_rule s i rule lists left h at =
    record {
      parts = parts_without_rule s i h.parts ∙ h.parts;
      variables = variables_of s (without_rule s i) refl ∙ h.variables;
      rows = h.rows;
      instances = less_left (instances s) (instances (without_rule s i)) (rule_instances s.relations rule) left h.instances
          (instances_without_rule s i rule at);
    }

-- the instances of a rule are among all
pub rule_within : (s : Spec) (i : ℕ) (rule : Rule) (lists : List (List (List RowId))) (left : ℕ) → IsCounted s lists left
    → slice_get s.rules i ≡ Some rule → left + rule_instances s.relations rule ≤ 8000000
rule_within s i rule lists left h at =
    omega (arith, all_and_left s lists left h, instances_without_rule s i rule at)

-- a copy function that has so many instances more
pub counted_copy : (s : Spec) (i : ℕ) (old new : CopyFunction) (more : ℕ) (lists : List (List (List RowId))) (left rest : ℕ)
    → IsCounted s lists left → slice_get s.copies i ≡ Some old
    → copy_instances s.relations new ≡ copy_instances s.relations old + more → left_of left more ≡ Some rest
    → IsCounted (with_copy_at s i new) lists rest
counted_copy s i old new more lists left rest h at is some =
    let all : instances (with_copy_at s i new) ≡ instances s + more = omega (arith, instances_with_copy s i old new at, is) in
    record {
      parts = parts_of_copy s i new ∙ h.parts;
      variables = variables_of s (with_copy_at s i new) refl ∙ h.variables;
      rows = h.rows;
      instances = ap (left_of 8000000) all ∙ more_left (instances s) more left (Some rest) h.instances some;
    }

pub above_with_copy : (s : Spec) (i : ℕ) (old new : CopyFunction) (more : ℕ) (lists : List (List (List RowId))) (left : ℕ)
    → IsCounted s lists left → slice_get s.copies i ≡ Some old
    → copy_instances s.relations new ≡ copy_instances s.relations old + more → left_of left more ≡ None
    → limited (with_copy_at s i new) ≡ Err (Limit 11)
above_with_copy s i old new more lists left h at is none =
    let all : instances (with_copy_at s i new) ≡ instances s + more = omega (arith, instances_with_copy s i old new at, is) in
    limited_by_instances (with_copy_at s i new) (parts_of_copy s i new ∙ h.parts)
    (ap (left_of 8000000) all ∙ more_left (instances s) more left None h.instances none)

-- a copy function that has so many instances less
pub counted_less_copy : (s : Spec) (i : ℕ) (old new : CopyFunction) (less : ℕ) (lists : List (List (List RowId))) (left : ℕ)
    → IsCounted s lists left → slice_get s.copies i ≡ Some old
    → copy_instances s.relations old ≡ copy_instances s.relations new + less
    → IsCounted (with_copy_at s i new) lists (left + less)
counted_less_copy s i old new less lists left h at is =
    let all : instances (with_copy_at s i new) + less ≡ instances s = omega (arith, instances_with_copy s i old new at, is) in
    record {
      parts = parts_of_copy s i new ∙ h.parts;
      variables = variables_of s (with_copy_at s i new) refl ∙ h.variables;
      rows = h.rows;
      instances = less_left (instances s) (instances (with_copy_at s i new)) less left h.instances all;
    }

-- they are among all
pub copy_within : (s : Spec) (i : ℕ) (old new : CopyFunction) (less : ℕ) (lists : List (List (List RowId))) (left : ℕ)
    → IsCounted s lists left → slice_get s.copies i ≡ Some old
    → copy_instances s.relations old ≡ copy_instances s.relations new + less → left + less ≤ 8000000
copy_within s i old new less lists left h at is =
    omega (arith, all_and_left s lists left h, instances_with_copy s i old new at)

-- ---- all instances

-- what they leave, where there are not too many
pub some_left : (s : Spec) → too_many_instances s ≡ None → left_of 8000000 (instances s) ≡ Some (8000000 - instances s)
some_left s few = elim (cases_lt 8000000 (instances s)) [
  | inl lt ↦ absurd (none-some 11 (sym few ∙ too_many s (left_none 8000000 (instances s) lt)))
  | inr le ↦ left_some 8000000 (instances s) (8000000 - instances s) (omega arith)
]
