-- The instances of each rule, copy function and relation of a specification, as they are counted.
use Rattle.std.proofs.Common.{◌≡◌, ◌<◌, ◌≤◌, ◌+◌, ◌*◌, ◌^◌, ◌&&◌, ◌∙◌, ℕ, Bool, true, false, not, eqb, All, List, [], length, get_or, slice_get, slice_index_or, Option, Some, None, refl, sym, ap, arith}
use Rattle.std.specs.List.{count_by, range_with_len, sum_by}
use Rattle.std.proofs.lemmas.Bool.{eqb-true, le-ltb, lt-ltb}
use Rattle.std.proofs.lemmas.List.Elements.{All-get_or}
use Rattle.std.proofs.lemmas.List.FromFn.{get_or-range_with_len, length-range_with_len}
use Rattle.std.proofs.lemmas.Option.{get_or_from_slice_get, slice_get_read, slice_get_within}
use Rattle.currency_base.specs.declared.ids.RelId.{RelId}
use Rattle.currency_base.specs.declared.ids.RowId.{RowId}
use Rattle.currency_base.specs.declared.row.Row.{Row}
use Rattle.copy_functions.specs.Copies.{CopyFunction, source_at}
use Rattle.denial_rules.specs.declared.rule.Rule.{Rule}
use Rattle.entity_rows.specs.Members.{members, AreEntityRows}
use Rattle.spec_model.specs.Facts.{AreCopies, AreRules, IsCopyAmong, IsRelation, IsRuleOf}
use Rattle.spec_model.specs.Pairs.{entity_of}
use Rattle.spec_model.specs.Spec.{Spec}
use Rattle.spec_model.specs.declared.relation.Relation.{Relation}
use Rattle.spec_limits.specs.Instances.{are_of_one_entity, are_sources_of_one, copy_instances, copy_pairs, copy_partners, instances, is_copy_instance, is_one_entity, order_instances, rule_instances, too_many_instances, two_for_each_three}
use Rattle.spec_limits.specs.Left.{left_of, AreEntityLists}
use Rattle.spec_limits.proofs.Leaving.{above, left_and, both, first_above}
use Rattle.spec_limits.proofs.PerEntity.{count_by-members, entity_sum, mul-sum_by}

-- ---- what stands at a place

pub rule_at : (relations : List Relation) (rules : List Rule) (i : ℕ) (rule : Rule) → AreRules relations rules
    → i < length rules → rule ≡ get_or rules i rule
    → IsRuleOf relations rule
rule_at relations rules i rule are lt is = rw (← is) at (All-get_or (IsRuleOf relations) rules i rule lt are.each)

pub copy_at : (relations : List Relation) (copies : List CopyFunction) (i : ℕ) (copy : CopyFunction)
    → AreCopies relations copies → i < length copies
    → copy ≡ get_or copies i copy → IsCopyAmong relations copy
copy_at relations copies i copy are lt is = rw (← is) at (All-get_or (IsCopyAmong relations) copies i copy lt are.each)

pub relation_at : (relations : List Relation) (i : ℕ) (r : Relation) → All IsRelation relations → slice_get relations
    i ≡ Some r → IsRelation r
relation_at relations i r all here =
    rw (get_or_from_slice_get relations i r r here) at
    (All-get_or IsRelation relations i r (slice_get_within relations i r here) all)

pub read_at : {X : Type 0} (xs : List X) (i j : ℕ) (x : X) → j ≡ i → i < length xs → x ≡ get_or xs j x → slice_get xs i ≡ Some x
read_at xs i j x same lt is = slice_get_read xs (length xs) i x refl lt (is ∙ ap (λ k. get_or xs k x) same)

pub entities_at : (relations : List Relation) (lists : List (List (List RowId))) (i j : ℕ) (r : Relation)
    (entities : List (List RowId))
    → AreEntityLists relations lists → slice_get relations i ≡ Some r → j ≡ i → slice_get lists j ≡ Some entities
    → AreEntityRows r.rows (length r.entities) entities
entities_at relations lists i j r entities are there same here =
    let is : slice_index_or lists i [] ≡ entities = ap (λ k. slice_index_or lists k []) (sym same)
    ∙ get_or_from_slice_get lists j entities [] here in
    rw is at (are.each i r there)

-- ---- rules

pub rule_sum : (relations : List Relation) (lists : List (List (List RowId))) (rule : Rule) (entities : List (List RowId))
    → AreEntityLists relations lists → IsRuleOf relations rule → slice_get lists rule.relation.0 ≡ Some entities
    → sum_by (λ (rows : List RowId). length rows ^ rule.vars) entities ≡ rule_instances relations rule
unfolding rule_instances
rule_sum relations lists rule entities are of here =
    rw of.is_relation
    (sym (entity_sum (λ n. n ^ rule.vars) of.relation entities
    (entities_at relations lists rule.relation.0 rule.relation.0 of.relation entities are of.is_relation refl here)))

-- ---- orders

pub order_sum : (relations : List Relation) (lists : List (List (List RowId))) (i : ℕ) (r : Relation)
    (entities : List (List RowId))
    → AreEntityLists relations lists → slice_get relations i ≡ Some r → slice_get lists i ≡ Some entities
    → sum_by (λ (rows : List RowId). length r.attrs * two_for_each_three (length rows)) entities ≡ order_instances r
unfolding order_instances
order_sum relations lists i r entities are there here =
    sym (mul-sum_by (length r.attrs) (λ (rows : List RowId). two_for_each_three (length rows)) entities)
    ∙ ap (λ n. length r.attrs * n)
    (sym (entity_sum two_for_each_three r entities (entities_at relations lists i i r entities are there refl here)))

-- ---- copy functions

and_first : (a b : Bool) → (a && b) ≡ true → a ≡ true
and_first true b is = refl
and_first false b is = cc

and_second : (a b : Bool) → (a && b) ≡ true → b ≡ true
and_second true b is = is
and_second false b is = cc

one_entity : (a b : Option ℕ) (ent : ℕ) → is_one_entity a b ≡ true → a ≡ Some ent → b ≡ Some ent
one_entity (Some x) (Some y) ent is of = sym (ap Some (eqb-true x y is)) ∙ of
one_entity (Some x) None ent is of = cc
one_entity None b ent is of = cc

-- a row that is in an instance with a row of an entity is of that entity
second_of : (copy : CopyFunction) (target source : List Row) (first second : RowId) (ent : ℕ) → is_copy_instance copy
    target source first second ≡ true
    → entity_of target first.0 ≡ Some ent → entity_of target second.0 ≡ Some ent
second_of copy target source first second ent is of =
    one_entity (entity_of target first.0) (entity_of target second.0) ent
    (and_second (not (eqb first.0 second.0)) (is_one_entity (entity_of target first.0) (entity_of target second.0))
    (and_first (are_of_one_entity target first second) (are_sources_of_one source (source_at copy first)
    (source_at copy second)) is)) of

-- the partners of a row stand in the list of its entity's rows
pub partners_sum : (copy : CopyFunction) (target source : List Row) (entities : List (List RowId)) (first : ℕ)
    (row : Row) (others : List RowId)
    → AreEntityRows target (length entities) entities → slice_get target first ≡ Some row → slice_get entities
    row.entity.0 ≡ Some others
    → count_by (is_copy_instance copy target source (record { 0 = first })) others ≡ copy_partners copy target source first
unfolding copy_partners
partners_sum copy target source entities first row others are here listed =
    let of : entity_of target first ≡ Some row.entity.0 = rw here refl in
    let within : row.entity.0 < length entities = slice_get_within entities row.entity.0 others listed in
    let mine : others ≡ members target row.entity.0 = sym (get_or_from_slice_get entities row.entity.0 others []
    listed) ∙ are.each row.entity.0 within in
    ap (count_by (is_copy_instance copy target source (record { 0 = first }))) mine
    ∙ sym (count_by-members (is_copy_instance copy target source (record { 0 = first })) 0 target row.entity.0
    (λ place passes.
    let number : 0 + place ≡ place = omega arith in
    let same : entity_of target (0 + place) ≡ entity_of target place = ap (entity_of target) number in
    sym same ∙ second_of copy target source (record { 0 = first }) (record { 0 = 0 + place }) row.entity.0 passes of))

pub pairs_sum : (copy : CopyFunction) (target source : List Row)
    → sum_by (λ first. length copy.places * copy_partners copy target source first) (range_with_len 0 (length target))
    ≡ length copy.places * copy_pairs copy target source
unfolding copy_pairs
pairs_sum copy target source = sym (mul-sum_by (length copy.places) (copy_partners copy target source)
    (range_with_len 0 (length target)))

pub copy_sum : (relations : List Relation) (copy : CopyFunction) (target source : Relation) (target_rows source_rows : List Row)
    → slice_get relations copy.target.0 ≡ Some target → slice_get relations copy.source.0 ≡ Some source
    → target_rows ≡ target.rows → source_rows ≡ source.rows
    → length copy.places * copy_pairs copy target_rows source_rows ≡ copy_instances relations copy
unfolding copy_instances
copy_sum relations copy target source target_rows source_rows is_target is_source are_target are_source =
    rw (is_target, is_source) (ap (λ rows. length copy.places * copy_pairs copy rows source_rows) are_target
    ∙ ap (λ rows. length copy.places * copy_pairs copy target.rows rows) are_source)

-- the rows that are read of a relation
pub rows_read : (relations given : List Relation) (rel read : RelId) (r d : Relation) (rows : List Row)
    → given ≡ relations → read ≡ rel
    → slice_get relations rel.0 ≡ Some r → rows ≡ (get_or given read.0 d).rows → rows ≡ r.rows
rows_read relations given rel read r d rows same here there is =
    is ∙ ap (λ (rs : List Relation). (get_or rs read.0 d).rows) same ∙ ap (λ (k : RelId). (get_or relations k.0 d).rows) here
    ∙ ap (λ (q : Relation). q.rows) (get_or_from_slice_get relations rel.0 r d there)

-- the lists of the entities of a relation, as lists by themselves
pub lists_of : (r : Relation) (rows : List Row) (lists : List (List RowId)) → AreEntityRows r.rows
    (length r.entities) lists → rows ≡ r.rows
    → AreEntityRows rows (length lists) lists
lists_of r rows lists are same = record {
  per_entity = refl;
  each = λ ent lt. (let below : ent < length r.entities = omega (arith, are.per_entity) in are.each ent below
      ∙ ap (λ rs. members rs ent) (sym same));
}

pub within_lists : (r : Relation) (rows : List Row) (lists : List (List RowId)) → AreEntityRows r.rows
    (length r.entities) lists → IsRelation r → rows ≡ r.rows
    → All (λ row. row.entity.0 < length lists) rows
within_lists r rows lists are is same = rw (same, are.per_entity) is.entities

-- a place among the numbers of rows
pub place : (n i : ℕ) → i < n → (i < length (range_with_len 0 n)) × (i ≡ get_or (range_with_len 0 n) i i)
place n i lt = (omega (arith, length-range_with_len 0 n), sym (get_or-range_with_len 0 n i i lt ∙ omega arith))

-- ---- all

pub rules_above : (s : Spec) → left_of 8000000 (sum_by (rule_instances s.relations) s.rules) ≡ None → left_of 8000000
    (instances s) ≡ None
unfolding instances
rules_above s none =
    first_above 8000000 (sum_by (rule_instances s.relations) s.rules + sum_by (copy_instances s.relations) s.copies)
    (sum_by order_instances s.relations)
    (first_above 8000000 (sum_by (rule_instances s.relations) s.rules) (sum_by (copy_instances s.relations) s.copies) none)

pub copies_above : (s : Spec) (left : ℕ) → left_of 8000000 (sum_by (rule_instances s.relations) s.rules) ≡ Some left
    → left_of left (sum_by (copy_instances s.relations) s.copies) ≡ None → left_of 8000000 (instances s) ≡ None
unfolding instances
copies_above s left some none =
    first_above 8000000 (sum_by (rule_instances s.relations) s.rules + sum_by (copy_instances s.relations) s.copies)
    (sum_by order_instances s.relations)
    (both 8000000 (sum_by (rule_instances s.relations) s.rules) (sum_by (copy_instances s.relations) s.copies) left some ∙ none)

pub left_by_orders : (s : Spec) (left rest : ℕ) → left_of 8000000 (sum_by (rule_instances s.relations) s.rules) ≡ Some left
    → left_of left (sum_by (copy_instances s.relations) s.copies) ≡ Some rest
    → left_of 8000000 (instances s) ≡ left_of rest (sum_by order_instances s.relations)
unfolding instances
left_by_orders s left rest some more =
    both 8000000 (sum_by (rule_instances s.relations) s.rules + sum_by (copy_instances s.relations) s.copies)
    (sum_by order_instances s.relations) rest
    (both 8000000 (sum_by (rule_instances s.relations) s.rules) (sum_by (copy_instances s.relations) s.copies) left some ∙ more)

pub too_many : (s : Spec) → left_of 8000000 (instances s) ≡ None → too_many_instances s ≡ Some 11
unfolding too_many_instances
too_many s none = rw (lt-ltb 8000000 (instances s) (above 8000000 (instances s) none)) refl

pub not_too_many : (s : Spec) (rest : ℕ) → left_of 8000000 (instances s) ≡ Some rest → too_many_instances s ≡ None
unfolding too_many_instances
not_too_many s rest some =
    let within : instances s ≤ 8000000 = omega (arith, left_and 8000000 (instances s) rest some) in
    rw (le-ltb 8000000 (instances s) within) refl
