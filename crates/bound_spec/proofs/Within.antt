-- What the limits say of a specification that exceeds none of them.
use Rattle.std.proofs.Common.{◌≡◌, ◌∙◌, ◌≤◌, ◌<◌, ◌+◌, ◌^◌, ◌++◌, ◌∷◌, [], ℕ, Bool, true, false, length, map, None, Contains, refl, sym, subst, arith}
use Rattle.std.specs.Prelude.{◌||◌}
use Rattle.std.specs.List.{list_any}
use Rattle.std.proofs.lemmas.Bool.{ltb-false}
use Rattle.std.proofs.lemmas.List.Folds.{list_any-append}
use Rattle.std.proofs.lemmas.List.Sums.{sum_by_push}
use Rattle.copy_functions.specs.Copies.{CopyFunction}
use Rattle.denial_rules.specs.declared.rule.Rule.{Rule}
use Rattle.spec_model.specs.Facts.{AreRelations, AreRules, AreCopies, IsRelation, IsRuleOf, IsCopyAmong, IsSpecification}
use Rattle.spec_model.specs.Spec.{Spec}
use Rattle.spec_model.specs.declared.relation.Relation.{Relation}
use Rattle.spec_names.specs.NameLists.{NameLists}
use Rattle.spec_limits.specs.Limits.{exceeded, is_long, rows_together}
use Rattle.spec_limits.proofs.Chain.{none_of}
use Rattle.bound_spec.specs.Growth.{nothing, relation_names, with_relation, with_rule}
use Rattle.bound_spec.specs.Known.{IsKnown}
use Rattle.bound_spec.proofs.Longer.{longer_relations, longer_rules, longer_copies}

-- nothing exceeds none
nothing_within : exceeded nothing ≡ None
unfolding exceeded
nothing_within = refl

pub nothing_known : (s : Spec) (names : NameLists) → s ≡ nothing
    → names ≡ record { relations = []; each = []; rules = []; copies = [] } → IsKnown s names 0
nothing_known s names is are = rw (is, are) (record { names_are = refl; rows_are = refl; within = nothing_within })

pub few_relations : (s : Spec) → exceeded s ≡ None → length s.relations ≤ 64
unfolding exceeded
few_relations s within = ltb-false 64 (length s.relations) (none_of _ _ _ _ _ _ within).relations

pub few_rows : (s : Spec) → exceeded s ≡ None → rows_together s.relations ≤ 100000
unfolding exceeded
few_rows s within = ltb-false 100000 (rows_together s.relations) (none_of _ _ _ _ _ _ within).rows

neither : (a b : Bool) → (a || b) ≡ false → (a ≡ false) × (b ≡ false)
neither true b is = cc
neither false b is = (refl, is)

pub few_rules : (s : Spec) → exceeded s ≡ None → length s.rules ≤ 256
unfolding exceeded
few_rules s within = ltb-false 256 (length s.rules) (neither _ _ (none_of _ _ _ _ _ _ within).rules).0

-- the last rule has few variables and few predicates
pub short_rule : (s : Spec) (rule : Rule) → exceeded (with_rule s rule) ≡ None → (rule.vars ≤ 4) × (length rule.predicates ≤ 16)
unfolding exceeded
short_rule s rule within =
    let any : list_any is_long (s.rules ++ rule ∷ []) ≡ false = (neither _ _ (none_of _ _ _ _ _ _ within).rules).1 in
    let last = neither _ _ (neither _ _ (sym (list_any-append is_long s.rules (rule ∷ [])) ∙ any)).1 in
    let parts = neither _ _ last.0 in
    (ltb-false 4 rule.vars parts.0, ltb-false 16 (length rule.predicates) parts.1)

-- the rows with those of one more relation
pub rows_more : (s : Spec) (r : Relation) → rows_together (with_relation s r).relations ≡ rows_together s.relations +
    length r.rows
rows_more s r = sum_by_push (λ (q : Relation). length q.rows) s.relations r

-- there is room for them in the count of rows
pub room : (s bound : Spec) (r : Relation) (rows more : ℕ) → s ≡ bound → rows ≡ rows_together s.relations → more ≡ length r.rows
    → exceeded (with_relation bound r) ≡ None → rows + more ≤ 100000
room s bound r rows more same so_far many within =
    let all = few_rows (with_relation bound r) within in
    let sum : rows + more ≡ rows_together bound.relations + length r.rows = cc (same, so_far, many) in
    omega (arith, all, sum, rows_more bound r)

-- a relation may follow, with which no limit is exceeded
pub relation_follows : (s bound : Spec) (r : Relation) → s ≡ bound → IsSpecification s → IsRelation r → exceeded s ≡ None
    → (Contains (relation_names bound) r.name → ⊥) → AreRelations (s.relations ++ r ∷ [])
relation_follows s bound r same spec relation within fresh =
    let few : length s.relations + 2 < 2 ^ 32 = omega (arith, few_relations s within) in
    let free : Contains (relation_names s) r.name → ⊥ = subst (λ (b : Spec). Contains (relation_names b) r.name → ⊥)
    (sym same) fresh in
    longer_relations s.relations r spec.relations relation few free

-- and a rule may
pub rule_follows : (s bound : Spec) (rule : Rule) → s ≡ bound → IsSpecification s → exceeded s ≡ None
    → exceeded (with_rule bound rule) ≡ None
    → (rule.vars ≤ 4 → length rule.predicates ≤ 16 → IsRuleOf bound.relations rule)
    → (Contains (map (λ r. r.name) bound.rules) rule.name → ⊥) → AreRules s.relations (s.rules ++ rule ∷ [])
rule_follows s bound rule same spec within above fits fresh =
    let few : length s.rules + 2 < 2 ^ 32 = omega (arith, few_rules s within) in
    let short = short_rule bound rule above in
    let fit : IsRuleOf s.relations rule = subst (λ (b : Spec). IsRuleOf b.relations rule) (sym same) (fits short.0 short.1) in
    let free : Contains (map (λ (r : Rule). r.name) s.rules) rule.name → ⊥ =
    subst (λ (b : Spec). Contains (map (λ (r : Rule). r.name) b.rules) rule.name → ⊥) (sym same) fresh in
    longer_rules s.relations s.rules rule spec.rules fit few free

few_copies : (s : Spec) → exceeded s ≡ None → length s.copies ≤ 64
unfolding exceeded
few_copies s within = ltb-false 64 (length s.copies) (none_of _ _ _ _ _ _ within).copies

-- and a copy function
pub copy_follows : (s bound : Spec) (copy : CopyFunction) → s ≡ bound → IsSpecification s → exceeded s ≡ None
    → IsCopyAmong bound.relations copy
    → (Contains (map (λ c. c.name) bound.copies) copy.name → ⊥) → AreCopies s.relations (s.copies ++ copy ∷ [])
copy_follows s bound copy same spec within fits fresh =
    let few : length s.copies + 2 < 2 ^ 32 = omega (arith, few_copies s within) in
    let fit : IsCopyAmong s.relations copy = subst (λ (b : Spec). IsCopyAmong b.relations copy) (sym same) fits in
    let free : Contains (map (λ (c : CopyFunction). c.name) s.copies) copy.name → ⊥ =
    subst (λ (b : Spec). Contains (map (λ (c : CopyFunction). c.name) b.copies) copy.name → ⊥) (sym same) fresh in
    longer_copies s.relations s.copies copy spec.copies fit few free
