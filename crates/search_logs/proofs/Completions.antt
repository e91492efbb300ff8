-- A completion of a specification within its limits can be written.
use Rattle.std.proofs.Common.{◌≡◌, inl, inr, ◌∙◌, ◌||◌, ◌<◌, ◌≤◌, ◌*◌, ltb, eqb, ℕ, zero, suc, Bool, true, false, List, [], ◌∷◌, All, Some, None, length, slice_get, slice_index_or, refl, sym, ap, subst, arith}
use Rattle.std.specs.List.{list_any}
use Rattle.std.proofs.lemmas.Bool.{ltb-false, cases_lt, eq-eqb, or_right, or_left}
use Rattle.std.proofs.lemmas.List.{get_or_past}
use Rattle.std.proofs.lemmas.List.Elements.{All-nil, Contains-get_or}
use Rattle.std.proofs.lemmas.Map.Steps.{le-length_from_below}
use Rattle.std.proofs.lemmas.Option.{none-some, same_Some, slice_get_within, get_or_from_slice_get}
use Rattle.std.proofs.Math.Nat.{suc-mul}
use Rattle.currency_base.specs.declared.ids.RowId.{RowId}
use Rattle.currency_base.specs.declared.row.Row.{Row}
use Rattle.entity_lists.specs.Lists.{entities_of}
use Rattle.spec_limits.specs.Limits.{exceeded}
use Rattle.spec_limits.proofs.Chain.{none_of, few_rows}
use Rattle.spec_model.specs.Completion.{Rankings, IsRanking, IsCompletion, lists_of, ranking_of}
use Rattle.spec_model.specs.Facts.{IsRelation}
use Rattle.spec_model.specs.Spec.{Spec}
use Rattle.spec_model.specs.declared.relation.Relation.{Relation}
use Rattle.refutation_log.specs.Writable.{AreFew}
use Rattle.report_model.specs.Writable.{ranked_lists, ranked_attrs, ranked_places, IsWritableCompletion}
use Rattle.order_literals.proofs.Items.{IsIn, in_at}
use Rattle.order_clauses.proofs.Members.{row_within}
use Rattle.order_clauses.proofs.Reading.{item_at}
use Rattle.search_logs.specs.SearchLogs.{IsWithin}
use Rattle.search_logs.proofs.Bounds.{one_of_sum}
use Rattle.search_logs.proofs.Numbered.{length_entities}
use Rattle.search_logs.proofs.OnceLists as once

-- ---- no more entities than rows

has_entity : (q : ℕ) (rows : List Row) (at : ℕ) (row : Row) → slice_get rows at ≡ Some row → row.entity.0 ≡ q
    → list_any (eqb q) (entities_of rows) ≡ true
has_entity q [] at row is of = absurd (none-some row is)
has_entity q (x ∷ rows) zero row is of =
    let same : q ≡ x.entity.0 = sym of ∙ ap (λ (r : Row). r.entity.0) (sym (same_Some x row is)) in
    or_left (eqb q x.entity.0) (list_any (eqb q) (entities_of rows)) (eq-eqb q x.entity.0 same)
has_entity q (x ∷ rows) (suc at) row is of =
    or_right (eqb q x.entity.0) (list_any (eqb q) (entities_of rows)) (has_entity q rows at row is of)

entities_few : (r : Relation) → IsRelation r → length r.entities ≤ length r.rows
entities_few r facts =
    let few =
    le-length_from_below (entities_of r.rows) (length r.entities) (λ q below.
    let one = facts.inhabited q below in
    has_entity q r.rows one.at one.row one.is_row one.is_of) in
    omega (arith, few, length_entities r.rows)

-- ---- limits

any_fails : {A : Type 0} (p : A → Bool) (xs : List A) (x : A) → list_any p xs ≡ false → IsIn xs x → p x ≡ false
any_fails p [] x none at = absurd at
any_fails {A} p (y ∷ xs) x none at = by (p y) refl none at (λ rest there. any_fails p xs x rest there)
  where
    by : (b : Bool) → p y ≡ b → (b || list_any p xs) ≡ false → IsIn (y ∷ xs) x → (list_any p xs ≡ false → IsIn xs x → p x ≡ false)
        → p x ≡ false
    by true e none at later = cc
    by false e none (inl same) later = ap p (sym same) ∙ e
    by false e none (inr there) later = later none there

few_relations : (s : Spec) → exceeded s ≡ None → length s.relations ≤ 64
unfolding exceeded
few_relations s within = ltb-false 64 (length s.relations) (none_of _ _ _ _ _ _ within).relations

few_attrs : (s : Spec) (r : Relation) → exceeded s ≡ None → IsIn s.relations r → length r.attrs ≤ 32
unfolding exceeded
few_attrs s r within at =
    ltb-false 32 (length r.attrs)
    (any_fails (λ (q : Relation). ltb 32 (length q.attrs)) s.relations r (none_of _ _ _ _ _ _ within).attrs at)

few_rows_of : (s : Spec) (r : Relation) → exceeded s ≡ None → IsIn s.relations r → length r.rows ≤ 100000
few_rows_of s r within at =
    let all = few_rows s within in
    let one = one_of_sum (λ (q : Relation). length q.rows) s.relations r at in
    omega (arith, all, one)

-- ---- how many lists have a row

few_lists : (lists : List (List RowId)) → ranked_lists lists ≤ length lists
few_lists [] = omega arith
few_lists ([] ∷ lists) = let rest = few_lists lists in omega (arith, rest)
few_lists ((row ∷ rows) ∷ lists) = let rest = few_lists lists in omega (arith, rest)

few_in_attrs : (m : ℕ) (attrs : List (List (List RowId))) →
    ((k : ℕ) (lists : List (List RowId)) → slice_get attrs k ≡ Some lists → length lists ≤ m)
    → ranked_attrs attrs ≤ length attrs * m
few_in_attrs m [] each = omega arith
few_in_attrs m (lists ∷ more) each =
    let here = few_lists lists in
    let small = each 0 lists refl in
    let rest = few_in_attrs m more (λ k other at. each (suc k) other at) in
    omega (arith, here, small, rest, suc-mul (length more) m)

few_in_all : (m : ℕ) (c : Rankings) → ((k : ℕ) (attrs : List (List (List RowId))) → slice_get c k ≡ Some attrs
    → ranked_attrs attrs ≤ m)
    → ranked_places c ≤ length c * m
few_in_all m [] each = omega arith
few_in_all m (attrs ∷ more) each =
    let here = each 0 attrs refl in
    let rest = few_in_all m more (λ k other at. each (suc k) other at) in
    omega (arith, here, rest, suc-mul (length more) m)

-- ---- the completion

module _ (s : Spec) (c : Rankings) (within : IsWithin s) (is : IsCompletion s.relations c) where
  facts_at : (rel : ℕ) (r : Relation) → slice_get s.relations rel ≡ Some r → IsRelation r
  facts_at rel r at = once.all_in IsRelation s.relations r within.specification.relations.each (in_at s.relations rel r at)

  attrs_ranked : (rel : ℕ) (attrs : List (List (List RowId))) → slice_get c rel ≡ Some attrs → ranked_attrs attrs ≤ 3200000
  attrs_ranked rel attrs at =
      let count = is.shape.per_relation in
      let one = item_at s.relations rel (omega (arith, count, slice_get_within c rel attrs at)) in
      let r = one.0 in
      let in_all = in_at s.relations rel r one.1 in
      let mine : slice_index_or c rel [] ≡ attrs = get_or_from_slice_get c rel attrs [] at in
      let long : length attrs ≡ length r.attrs = ap length (sym mine) ∙ is.shape.per_attr rel r one.1 in
      let lists_long : (attr : ℕ) (lists : List (List RowId)) → slice_get attrs attr ≡ Some lists → length lists ≤ 100000 =
      (λ attr lists there.
      let attr_in : attr < length r.attrs = omega (arith, long, slice_get_within attrs attr lists there) in
      let these : lists_of c rel attr ≡ lists = ap (λ a. slice_index_or a attr []) mine ∙ get_or_from_slice_get attrs
      attr lists [] there in
      let entities : length lists ≡ length r.entities = ap length (sym these) ∙ is.shape.per_entity rel r one.1 attr attr_in in
      omega (arith, entities, entities_few r (facts_at rel r one.1), few_rows_of s r within.parts in_all)) in
      let ranked = few_in_attrs 100000 attrs lists_long in
      omega (arith, ranked, long, few_attrs s r within.parts in_all)

  ranking_few : (r : Relation) (ent : ℕ) (list : List RowId) → length r.rows ≤ 100000 → IsRanking r.rows ent list
      → AreFew (λ (row : RowId). row.0 < length r.rows) list
  ranking_few r ent list few ranking =
      let each : All (λ (row : RowId). row.0 < length r.rows) list =
      (λ k d below. row_within r.rows _ ent (ranking.only _ (Contains-get_or list k d below))) in
      let count = once.few_rows list (length r.rows) ranking.once each in
      record { few = omega (arith, count, few); each = each }

  none_few : (r : Relation) (list : List RowId) → list ≡ [] → AreFew (λ (row : RowId). row.0 < length r.rows) list
  none_few r list none =
      let count = ap length none in
      record {
        few = omega (arith, count);
        each = subst (λ (rows : List RowId). All (λ (row : RowId). row.0 < length r.rows) rows) (sym none)
            (All-nil (λ (row : RowId). row.0 < length r.rows));
      }

  rows_few : (rel attr ent : ℕ) (r : Relation) → slice_get s.relations rel ≡ Some r
      → AreFew (λ (row : RowId). row.0 < length r.rows) (ranking_of c rel attr ent)
  rows_few rel attr ent r at =
      elim (cases_lt attr (length r.attrs)) [
        | inl attr_in ↦ elim (cases_lt ent (length r.entities)) [
          | inl ent_in ↦
              ranking_few r ent (ranking_of c rel attr ent) (few_rows_of s r within.parts (in_at s.relations rel r at))
              (is.ranked rel r at attr ent attr_in ent_in)
          | inr past ↦
              let long = is.shape.per_entity rel r at attr attr_in in
              none_few r (ranking_of c rel attr ent) (get_or_past (lists_of c rel attr) ent [] (omega (arith, long, past)))
        ]
        | inr past ↦
            let long = is.shape.per_attr rel r at in
            let none : lists_of c rel attr ≡ [] = get_or_past (slice_index_or c rel []) attr [] (omega (arith, long, past)) in
            none_few r (ranking_of c rel attr ent) (ap (λ lists. slice_index_or lists ent []) none)
      ]

  pub writable_completion : IsWritableCompletion s.relations c
  writable_completion =
      let ranked = few_in_all 3200000 c attrs_ranked in
      let count = is.shape.per_relation in
      record {
        shape = is.shape;
        few = omega (arith, ranked, count, few_relations s within.parts);
        rows = rows_few;
      }
