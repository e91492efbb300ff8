-- Which labels are listed, and that none is listed twice.
use Rattle.std.proofs.Common.{◌≡◌, ◌∙◌, ◌⊎◌, ◌<◌, ◌≤◌, ◌+◌, ◌==◌, ℕ, zero, suc, Bool, true, false, List, [], ◌∷◌, ◌++◌, Contains, Option, Some, None, if◌then◌else◌, length, slice_get, slice_index_or, refl, sym, ap, subst, inl, inr, ⊎_elim, add-one, arith}
use Rattle.std.specs.List.Sorted.{IsStrictlySortedBy}
use Rattle.std.specs.Cmp.{nat_cmp_is}
use Rattle.std.specs.Ordering.{nat_cmp}
use Rattle.std.specs.declared.cmp.Ordering.{Ordering}
use Rattle.std.specs.declared.cmp.Ordering.TheVariants.{Less, Equal}
use Rattle.std.proofs.lemmas.Bool.{eqb-true, eqb-false, eq-eqb, ne_eqb}
use Rattle.std.proofs.lemmas.List.Elements.{Contains-append_left, Contains-append_right, Contains-append_cases}
use Rattle.std.proofs.lemmas.Map.Views.{All-after_first}
use Rattle.std.proofs.lemmas.Map.Keys.{sorted_tail}
use Rattle.std.proofs.lemmas.Option.{same_Some, none-some, slice_get_within, get_or_from_slice_get}
use Rattle.currency_base.specs.Lists.{OnlyOnce}
use Rattle.currency_base.specs.declared.ids.AttrId.{AttrId}
use Rattle.currency_base.specs.declared.ids.CopyId.{CopyId}
use Rattle.currency_base.specs.declared.ids.RelId.{RelId}
use Rattle.currency_base.specs.declared.ids.RowId.{RowId}
use Rattle.currency_base.specs.declared.ids.RuleId.{RuleId}
use Rattle.currency_base.specs.declared.pair.Pair.{Pair}
use Rattle.copied_pairs.specs.declared.pairs.CopiedPair.{CopiedPair}
use Rattle.copy_functions.specs.Copies.{CopyFunction}
use Rattle.partial_orders.specs.Pairs.{entity_of, pair_cmp}
use Rattle.spec_model.specs.Spec.{Spec}
use Rattle.spec_model.specs.declared.relation.Relation.{Relation}
use Rattle.value_names.specs.Names.{name_of}
use Rattle.refutation_log.specs.declared.step.Label.{Label}
use Rattle.refutation_log.specs.declared.step.Label.TheVariants as label
use Rattle.order_literals.specs.Numbers.{is_wanted}
use Rattle.order_clauses.specs.Added.{below}
use Rattle.order_clauses.specs.Listing.{given_label, given_in, given_at, given_labels, ground_label, ground_labels, rule_at, rule_labels, copy_label, copy_place, copy_in, copy_at, copy_labels, members_of, above_label, above_labels, top_label, last_label, value_label, row_labels, entity_labels, attr_labels, relation_labels, wanted_in, wanted_at, wanted_labels, all_labels}
use Rattle.order_clauses.specs.Subject.{Subject, Attribute}
use Rattle.order_clauses.proofs.Listed.{at_of, once_both, once_none, once_one, in_one, in_none, in_below, below_in, once_below, in_flat, flat_in, once_flat}
use Rattle.order_clauses.proofs.Members.{member_is, member_there, members_once}
use Rattle.order_clauses.proofs.Reading.{all_at}
use Rattle.order_clauses.proofs.Saying.{contains_at, first_of}

-- the sections by the kinds of their labels
abbrev kind : Label → ℕ
kind (label.Given rel attr earlier later) = 0
kind (label.Transitive rel attr first second third) = 4
kind (label.Rule k rows) = 1
kind (label.Copy k place first second) = 2
kind (label.Above rel attr row other) = 3
kind (label.Top rel attr row) = 3
kind (label.Last rel attr row) = 3
kind (label.Value rel attr row) = 3
kind (label.Match disjunct entities values) = 5

-- ---- given pairs

pub record IsGivenLabel (s : Spec) (i : ℕ) (l : Label) : Type 0 where
  pub relation : Relation
  pub is_relation : slice_get s.relations i ≡ Some relation
  pub pair : Pair
  pub given : Contains relation.given pair
  pub is : l ≡ label.Given (record { 0 = i }) pair.attr pair.earlier pair.later

in_given_of : (s : Spec) (i : ℕ) (o : Option Relation) (l : Label) → slice_get s.relations i ≡ o
    → Contains (given_in (record { 0 = i }) o) l → IsGivenLabel s i l
in_given_of s i None l at h = absurd (in_none l h)
in_given_of s i (Some r) l at h =
    let m = in_flat (given_label (record { 0 = i })) r.given l h in
    record {
      relation = r;
      is_relation = at;
      pair = m.1;
      given = contains_at r.given m.0 m.1 m.2;
      is = sym (in_one (label.Given (record { 0 = i }) m.1.attr m.1.earlier m.1.later) l m.3);
    }

pub in_given : (s : Spec) (i : ℕ) (l : Label) → Contains (given_at s i) l → IsGivenLabel s i l
unfolding given_at
in_given s i l h = in_given_of s i (slice_get s.relations i) l refl h

given_there : (s : Spec) (rel : RelId) (r : Relation) (p : Pair) → slice_get s.relations rel.0 ≡ Some r → Contains r.given p
    → Contains (given_at s rel.0) (label.Given rel p.attr p.earlier p.later)
unfolding given_at
given_there s rel r p at h =
    let i = at_of r.given p h in
    rw at (flat_in (given_label rel) r.given i.0 p (label.Given rel p.attr p.earlier p.later) i.1
    (first_of (label.Given rel p.attr p.earlier p.later) []))

pub given_listed : (s : Spec) (rel : RelId) (r : Relation) (p : Pair) → slice_get s.relations rel.0 ≡ Some r → Contains r.given p
    → Contains (given_labels s) (label.Given rel p.attr p.earlier p.later)
unfolding given_labels
given_listed s rel r p at h = below_in (given_at s) (length s.relations) rel.0 (label.Given rel p.attr p.earlier p.later)
    (slice_get_within s.relations rel.0 r at) (given_there s rel r p at h)

given_kind : (s : Spec) (l : Label) → Contains (given_labels s) l → kind l ≡ 0
unfolding given_labels
given_kind s l h = let m = in_below (given_at s) (length s.relations) l h in ap kind (in_given s m.0 l m.2).is

-- given pairs ascend, so none stands twice
nat_itself : (a : ℕ) → nat_cmp a a ≡ Equal
nat_itself a = sym (nat_cmp_is a a Equal refl)

pair_itself : (p : Pair) → pair_cmp p p ≡ Less → ⊥
pair_itself p e =
    let same : pair_cmp p p ≡ Equal = rw (nat_itself p.attr.0, nat_itself p.earlier.0, nat_itself p.later.0) refl in
    cc

same_pair : (p q : Pair) → p.attr ≡ q.attr → p.earlier ≡ q.earlier → p.later ≡ q.later → p ≡ q
same_pair p q a e l = ap (λ (x : AttrId). let r : Pair = record { attr = x; earlier = p.earlier; later = p.later } in r) a
    ∙ ap (λ (x : RowId). let r : Pair = record { attr = q.attr; earlier = x; later = p.later } in r) e
    ∙ ap (λ (x : RowId). let r : Pair = record { attr = q.attr; earlier = q.earlier; later = x } in r) l

sorted_once : {A : Type 0} (c : A → A → Ordering) (xs : List A) → ((x : A) → c x x ≡ Less → ⊥) → IsStrictlySortedBy c
    xs → OnlyOnce xs
sorted_once c [] strict sorted i j x at_i at_j = absurd (none-some x at_i)
sorted_once c (y ∷ xs) strict sorted zero zero x at_i at_j = refl
sorted_once c (y ∷ xs) strict sorted zero (suc j) x at_i at_j =
    let above = all_at (λ z. c y z ≡ Less) xs j x (All-after_first c y xs sorted) at_j in
    absurd (strict x (subst (λ z. c z x ≡ Less) (same_Some y x at_i) above))
sorted_once c (y ∷ xs) strict sorted (suc i) zero x at_i at_j =
    let above = all_at (λ z. c y z ≡ Less) xs i x (All-after_first c y xs sorted) at_i in
    absurd (strict x (subst (λ z. c z x ≡ Less) (same_Some y x at_j) above))
sorted_once c (y ∷ xs) strict sorted (suc i) (suc j) x at_i at_j =
    ap suc (sorted_once c xs strict (sorted_tail c y xs sorted) i j x at_i at_j)

pub given_once : (pairs : List Pair) → IsStrictlySortedBy pair_cmp pairs → OnlyOnce pairs
given_once pairs sorted = sorted_once pair_cmp pairs pair_itself sorted

pub once_given_at : (s : Spec) (rel : RelId) (r : Relation) → slice_get s.relations rel.0 ≡ Some r
    → IsStrictlySortedBy pair_cmp r.given → OnlyOnce (given_at s rel.0)
unfolding given_at
once_given_at s rel r at sorted = rw at (once_flat (given_label rel) r.given (given_once r.given sorted)
    (λ i p at_p. once_one (label.Given rel p.attr p.earlier p.later))
    (λ p q l in_p in_q.
    let a : label.Given rel p.attr p.earlier p.later ≡ l = in_one (label.Given rel p.attr p.earlier p.later) l in_p in
    let b : label.Given rel q.attr q.earlier q.later ≡ l = in_one (label.Given rel q.attr q.earlier q.later) l in_q in
    let attrs : p.attr ≡ q.attr = cc in
    let earliers : p.earlier ≡ q.earlier = cc in
    let laters : p.later ≡ q.later = cc in
    same_pair p q attrs earliers laters))

-- the labels of two relations differ
pub given_apart : (s : Spec) (i j : ℕ) (l : Label) → Contains (given_at s i) l → Contains (given_at s j) l → i ≡ j
given_apart s i j l in_i in_j =
    let a = in_given s i l in_i in
    let b = in_given s j l in_j in
    let e : label.Given (record { 0 = i }) a.pair.attr a.pair.earlier a.pair.later ≡ label.Given (record { 0 = j })
    b.pair.attr b.pair.earlier b.pair.later = sym a.is ∙ b.is in
    let same : ◌≡◌ {A = RelId} (record { 0 = i }) (record { 0 = j }) = cc in
    ap (λ (rel : RelId). rel.0) same

pub once_given_none : (s : Spec) → OnlyOnce (below (given_at s) 0)
unfolding below
once_given_none s = once_none

pub once_given_more : (s : Spec) (n : ℕ) → OnlyOnce (below (given_at s) n) → OnlyOnce (given_at s n)
    → OnlyOnce (below (given_at s) (n + 1))
unfolding below
once_given_more s n once here = rw add-one (once_both (below (given_at s) n) (given_at s n) once here
    (λ l p q. let m = in_below (given_at s) n l p in let same = given_apart s m.0 n l m.2 q in absurd (omega (arith, m.1, same))))

-- ---- rules

pub record IsRuleLabel (grounds : List (List (List RowId))) (i : ℕ) (l : Label) : Type 0 where
  pub rows : List RowId
  pub ground : Contains (slice_index_or grounds i []) rows
  pub is : l ≡ label.Rule (record { 0 = i }) rows

pub in_rule : (grounds : List (List (List RowId))) (i : ℕ) (l : Label) → Contains (rule_at grounds i) l → IsRuleLabel grounds i l
unfolding rule_at ground_labels
in_rule grounds i l h =
    let m = in_flat (ground_label (record { 0 = i })) (slice_index_or grounds i []) l h in
    record {
      rows = m.1;
      ground = contains_at (slice_index_or grounds i []) m.0 m.1 m.2;
      is = sym (in_one (label.Rule (record { 0 = i }) m.1) l m.3);
    }

pub rule_listed : (grounds : List (List (List RowId))) (k : RuleId) (rows : List RowId) (all : List (List RowId))
    → slice_get grounds k.0 ≡ Some all → Contains all rows
    → Contains (rule_labels grounds) (label.Rule k rows)
unfolding rule_at ground_labels rule_labels
rule_listed grounds k rows all at h =
    let i = at_of all rows h in
    below_in (rule_at grounds) (length grounds) k.0 (label.Rule k rows) (slice_get_within grounds k.0 all at)
    (rw (get_or_from_slice_get grounds k.0 all [] at) (flat_in (ground_label k) all i.0 rows (label.Rule k rows) i.1
    (first_of (label.Rule k rows) [])))

rule_kind : (grounds : List (List (List RowId))) (l : Label) → Contains (rule_labels grounds) l → kind l ≡ 1
unfolding rule_labels
rule_kind grounds l h = let m = in_below (rule_at grounds) (length grounds) l h in ap kind (in_rule grounds m.0 l m.2).is

once_rule_at : (grounds : List (List (List RowId))) (i : ℕ) → OnlyOnce (slice_index_or grounds i [])
    → OnlyOnce (rule_at grounds i)
unfolding rule_at ground_labels
once_rule_at grounds i once = once_flat (ground_label (record { 0 = i })) (slice_index_or grounds i []) once
    (λ j rows at. once_one (label.Rule (record { 0 = i }) rows))
    (λ rows other l p q.
    let a : label.Rule (record { 0 = i }) rows ≡ l = in_one (label.Rule (record { 0 = i }) rows) l p in
    let b : label.Rule (record { 0 = i }) other ≡ l = in_one (label.Rule (record { 0 = i }) other) l q in
    let same : rows ≡ other = cc in same)

pub once_rules : (grounds : List (List (List RowId))) →
    ((i : ℕ) → i < length grounds → OnlyOnce (slice_index_or grounds i [])) → OnlyOnce (rule_labels grounds)
unfolding rule_labels
once_rules grounds once = once_below (rule_at grounds) (length grounds) (λ i within. once_rule_at grounds i (once i within))
    (λ i j l at_i at_j p q.
    let a = in_rule grounds i l p in
    let b = in_rule grounds j l q in
    let e : label.Rule (record { 0 = i }) a.rows ≡ label.Rule (record { 0 = j }) b.rows = sym a.is ∙ b.is in
    let same : ◌≡◌ {A = RuleId} (record { 0 = i }) (record { 0 = j }) = cc in
    ap (λ (k : RuleId). k.0) same)

-- ---- copy functions

pub record IsCopyLabel (s : Spec) (grounds : List (List CopiedPair)) (i : ℕ) (l : Label) : Type 0 where
  pub copy : CopyFunction
  pub is_copy : slice_get s.copies i ≡ Some copy
  pub place : ℕ
  pub within : place < length copy.places
  pub pair : CopiedPair
  pub ground : Contains (slice_index_or grounds i []) pair
  pub is : l ≡ label.Copy (record { 0 = i }) place pair.first pair.second

in_place : (k : CopyId) (pairs : List CopiedPair) (place : ℕ) (l : Label) → Contains (copy_place k pairs place) l
    → (p : CopiedPair) × Contains pairs p × (l ≡ label.Copy k place p.first p.second)
unfolding copy_place
in_place k pairs place l h =
    let m = in_flat (copy_label k place) pairs l h in
    (m.1, contains_at pairs m.0 m.1 m.2, sym (in_one (label.Copy k place m.1.first m.1.second) l m.3))

in_copy_of : (s : Spec) (grounds : List (List CopiedPair)) (i : ℕ) (o : Option CopyFunction) (l : Label)
    → slice_get s.copies i ≡ o
    → Contains (copy_in (record { 0 = i }) (slice_index_or grounds i []) o) l → IsCopyLabel s grounds i l
in_copy_of s grounds i None l at h = absurd (in_none l h)
in_copy_of s grounds i (Some copy) l at h =
    let m = in_below (copy_place (record { 0 = i }) (slice_index_or grounds i [])) (length copy.places) l h in
    let p = in_place (record { 0 = i }) (slice_index_or grounds i []) m.0 l m.2 in
    record { copy = copy; is_copy = at; place = m.0; within = m.1; pair = p.0; ground = p.1; is = p.2 }

pub in_copy : (s : Spec) (grounds : List (List CopiedPair)) (i : ℕ) (l : Label) → Contains (copy_at s grounds i) l
    → IsCopyLabel s grounds i l
unfolding copy_at
in_copy s grounds i l h = in_copy_of s grounds i (slice_get s.copies i) l refl h

place_there : (k : CopyId) (pairs : List CopiedPair) (place : ℕ) (p : CopiedPair) → Contains pairs p
    → Contains (copy_place k pairs place) (label.Copy k place p.first p.second)
unfolding copy_place
place_there k pairs place p h =
    let i = at_of pairs p h in
    flat_in (copy_label k place) pairs i.0 p (label.Copy k place p.first p.second) i.1
    (first_of (label.Copy k place p.first p.second) [])

pub copy_listed : (s : Spec) (grounds : List (List CopiedPair)) (k : CopyId) (copy : CopyFunction)
    (pairs : List CopiedPair) (place : ℕ) (p : CopiedPair)
    → slice_get s.copies k.0 ≡ Some copy → slice_get grounds k.0 ≡ Some pairs → place < length copy.places → Contains pairs p
    → Contains (copy_labels s grounds) (label.Copy k place p.first p.second)
unfolding copy_at copy_labels
copy_listed s grounds k copy pairs place p at at_pairs within h =
    below_in (copy_at s grounds) (length s.copies) k.0 (label.Copy k place p.first p.second)
    (slice_get_within s.copies k.0 copy at)
    (rw (at, get_or_from_slice_get grounds k.0 pairs [] at_pairs)
    (below_in (copy_place k pairs) (length copy.places) place (label.Copy k place p.first p.second) within
    (place_there k pairs place p h)))

copy_kind : (s : Spec) (grounds : List (List CopiedPair)) (l : Label) → Contains (copy_labels s grounds) l → kind l ≡ 2
unfolding copy_labels
copy_kind s grounds l h = let m = in_below (copy_at s grounds) (length s.copies) l h in ap kind (in_copy s grounds m.0 l m.2).is

same_copied : (p q : CopiedPair) → p.first ≡ q.first → p.second ≡ q.second → p ≡ q
same_copied p q e l = ap (λ (x : RowId). let r : CopiedPair = record { first = x; second = p.second } in r) e
    ∙ ap (λ (x : RowId). let r : CopiedPair = record { first = q.first; second = x } in r) l

once_place : (k : CopyId) (pairs : List CopiedPair) (place : ℕ) → OnlyOnce pairs → OnlyOnce (copy_place k pairs place)
unfolding copy_place
once_place k pairs place once = once_flat (copy_label k place) pairs once
    (λ i p at. once_one (label.Copy k place p.first p.second))
    (λ p q l in_p in_q.
    let a : label.Copy k place p.first p.second ≡ l = in_one (label.Copy k place p.first p.second) l in_p in
    let b : label.Copy k place q.first q.second ≡ l = in_one (label.Copy k place q.first q.second) l in_q in
    let firsts : p.first ≡ q.first = cc in
    let seconds : p.second ≡ q.second = cc in
    same_copied p q firsts seconds)

once_copy_in : (k : CopyId) (pairs : List CopiedPair) (o : Option CopyFunction) → OnlyOnce pairs → OnlyOnce (copy_in k pairs o)
once_copy_in k pairs None once = once_none
once_copy_in k pairs (Some copy) once = once_below (copy_place k pairs) (length copy.places)
    (λ i within. once_place k pairs i once)
    (λ i j l at_i at_j p q.
    let a = in_place k pairs i l p in
    let b = in_place k pairs j l q in
    let e : label.Copy k i a.0.first a.0.second ≡ label.Copy k j b.0.first b.0.second = sym a.2 ∙ b.2 in
    let same : i ≡ j = cc in same)

pub once_copies : (s : Spec) (grounds : List (List CopiedPair)) →
    ((i : ℕ) → i < length s.copies → OnlyOnce (slice_index_or grounds i [])) → OnlyOnce (copy_labels s grounds)
unfolding copy_labels copy_at
once_copies s grounds once = once_below (copy_at s grounds) (length s.copies)
    (λ i within. once_copy_in (record { 0 = i }) (slice_index_or grounds i []) (slice_get s.copies i) (once i within))
    (λ i j l at_i at_j p q.
    let a = in_copy s grounds i l p in
    let b = in_copy s grounds j l q in
    let e : label.Copy (record { 0 = i }) a.place a.pair.first a.pair.second ≡ label.Copy (record { 0 = j }) b.place
    b.pair.first b.pair.second = sym a.is ∙ b.is in
    let same : ◌≡◌ {A = CopyId} (record { 0 = i }) (record { 0 = j }) = cc in
    ap (λ (k : CopyId). k.0) same)

-- ---- the wanted relations

-- a label of a row of an attribute
pub record IsRowLabel (p : Attribute) (ent : ℕ) (row : RowId) (l : Label) : Type 0 where
  pub one_of : ((other : RowId) × (entity_of p.relation.rows other.0 ≡ Some ent) × (row.0 ≡ other.0 → ⊥) ×
      (l ≡ label.Above p.rel p.attr row other))
      ⊎ ((l ≡ label.Top p.rel p.attr row) ⊎ ((l ≡ label.Last p.rel p.attr row)
      ⊎ ((l ≡ label.Value p.rel p.attr row) × ((name_of p.relation.rows p.attr.0 row).0 ≡ row.0))))

in_above_test : (p : Attribute) (row other : RowId) (l : Label) (b : Bool) → row.0 == other.0 ≡ b
    → Contains (if b then [] else label.Above p.rel p.attr row other ∷ []) l → (row.0 ≡ other.0 → ⊥) ×
    (l ≡ label.Above p.rel p.attr row other)
in_above_test p row other l true e h = absurd (in_none l h)
in_above_test p row other l false e h = (eqb-false row.0 other.0 e, sym (in_one (label.Above p.rel p.attr row other) l h))

in_above : (p : Attribute) (row other : RowId) (l : Label) → Contains (above_label p row other) l →
    (row.0 ≡ other.0 → ⊥) × (l ≡ label.Above p.rel p.attr row other)
in_above p row other l h = in_above_test p row other l (row.0 == other.0) refl h

in_aboves : (p : Attribute) (ent : ℕ) (row : RowId) (l : Label) → Contains (above_labels p ent row) l
    → (other : RowId) × (entity_of p.relation.rows other.0 ≡ Some ent) × (row.0 ≡ other.0 → ⊥) ×
    (l ≡ label.Above p.rel p.attr row other)
unfolding above_labels
in_aboves p ent row l h =
    let m = in_flat (above_label p row) (members_of p.relation ent) l h in
    let a = in_above p row m.1 l m.3 in
    (m.1, member_is p.relation ent m.0 m.1 m.2, a.0, a.1)

in_value_test : (p : Attribute) (row : RowId) (l : Label) (b : Bool) → (name_of p.relation.rows p.attr.0 row).0 == row.0 ≡ b
    → Contains (if b then label.Value p.rel p.attr row ∷ [] else []) l → (l ≡ label.Value p.rel p.attr row) ×
    ((name_of p.relation.rows p.attr.0 row).0 ≡ row.0)
in_value_test p row l true e h = (
  sym (in_one (label.Value p.rel p.attr row) l h),
  eqb-true
      (name_of p.relation.rows p.attr.0 row).0 row.0 e,
)
in_value_test p row l false e h = absurd (in_none l h)

in_value : (p : Attribute) (row : RowId) (l : Label) → Contains (value_label p row) l →
    (l ≡ label.Value p.rel p.attr row) × ((name_of p.relation.rows p.attr.0 row).0 ≡ row.0)
in_value p row l h = in_value_test p row l ((name_of p.relation.rows p.attr.0 row).0 == row.0) refl h

pub in_row : (p : Attribute) (ent : ℕ) (row : RowId) (l : Label) → Contains (row_labels p ent row) l → IsRowLabel p ent row l
unfolding row_labels
in_row p ent row l h = record {
  one_of = ⊎_elim
      (λ (a : Contains (above_labels p ent row) l). inl (in_aboves p ent row l a))
      (λ (rest : Contains (top_label p row ++ (last_label p row ++ value_label p row)) l). inr (⊎_elim
      (λ (t : Contains (top_label p row) l). inl (sym (in_one (label.Top p.rel p.attr row) l t)))
      (λ (more : Contains (last_label p row ++ value_label p row) l). inr (⊎_elim
      (λ (t : Contains (last_label p row) l). inl (sym (in_one (label.Last p.rel p.attr row) l t)))
      (λ (v : Contains (value_label p row) l). inr (in_value p row l v))
      (Contains-append_cases (last_label p row) (value_label p row) l more)))
      (Contains-append_cases (top_label p row) (last_label p row ++ value_label p row) l rest)))
      (Contains-append_cases (above_labels p ent row) (top_label p row ++ (last_label p row ++ value_label p row)) l h);
}

-- what a label of a wanted relation speaks of
abbrev rel_of : Label → ℕ
rel_of (label.Given rel attr earlier later) = rel.0
rel_of (label.Transitive rel attr first second third) = rel.0
rel_of (label.Rule k rows) = 0
rel_of (label.Copy k place first second) = 0
rel_of (label.Above rel attr row other) = rel.0
rel_of (label.Top rel attr row) = rel.0
rel_of (label.Last rel attr row) = rel.0
rel_of (label.Value rel attr row) = rel.0
rel_of (label.Match disjunct entities values) = 0

abbrev attr_of : Label → ℕ
attr_of (label.Given rel attr earlier later) = attr.0
attr_of (label.Transitive rel attr first second third) = attr.0
attr_of (label.Rule k rows) = 0
attr_of (label.Copy k place first second) = 0
attr_of (label.Above rel attr row other) = attr.0
attr_of (label.Top rel attr row) = attr.0
attr_of (label.Last rel attr row) = attr.0
attr_of (label.Value rel attr row) = attr.0
attr_of (label.Match disjunct entities values) = 0

abbrev row_of : Label → ℕ
row_of (label.Given rel attr earlier later) = 0
row_of (label.Transitive rel attr first second third) = 0
row_of (label.Rule k rows) = 0
row_of (label.Copy k place first second) = 0
row_of (label.Above rel attr row other) = row.0
row_of (label.Top rel attr row) = row.0
row_of (label.Last rel attr row) = row.0
row_of (label.Value rel attr row) = row.0
row_of (label.Match disjunct entities values) = 0

-- which of the four it is
abbrev sort_of : Label → ℕ
sort_of (label.Given rel attr earlier later) = 4
sort_of (label.Transitive rel attr first second third) = 4
sort_of (label.Rule k rows) = 4
sort_of (label.Copy k place first second) = 4
sort_of (label.Above rel attr row other) = 0
sort_of (label.Top rel attr row) = 1
sort_of (label.Last rel attr row) = 2
sort_of (label.Value rel attr row) = 3
sort_of (label.Match disjunct entities values) = 4

record SpeaksOf (p : Attribute) (row : RowId) (l : Label) : Type 0 where
  kind_is : kind l ≡ 3
  rel_is : rel_of l ≡ p.rel.0
  attr_is : attr_of l ≡ p.attr.0
  row_is : row_of l ≡ row.0

speaks_if : (p : Attribute) (row : RowId) (l m : Label) → l ≡ m → SpeaksOf p row m → SpeaksOf p row l
speaks_if p row l m e speaks = subst (SpeaksOf p row) (sym e) speaks

speaks : (p : Attribute) (ent : ℕ) (row : RowId) (l : Label) → IsRowLabel p ent row l → SpeaksOf p row l
speaks p ent row l is = ⊎_elim
    (λ (a : (other : RowId) × (entity_of p.relation.rows other.0 ≡ Some ent) × (row.0 ≡ other.0 → ⊥) ×
    (l ≡ label.Above p.rel p.attr row other)).
    speaks_if p row l (label.Above p.rel p.attr row a.0) a.3
    (record { kind_is = refl; rel_is = refl; attr_is = refl; row_is = refl }))
    (λ (rest : (l ≡ label.Top p.rel p.attr row) ⊎ ((l ≡ label.Last p.rel p.attr row)
    ⊎ ((l ≡ label.Value p.rel p.attr row) × ((name_of p.relation.rows p.attr.0 row).0 ≡ row.0)))). ⊎_elim
    (λ (e : l ≡ label.Top p.rel p.attr row). speaks_if p row l (label.Top p.rel p.attr row) e
    (record { kind_is = refl; rel_is = refl; attr_is = refl; row_is = refl }))
    (λ (more : (l ≡ label.Last p.rel p.attr row) ⊎
    ((l ≡ label.Value p.rel p.attr row) × ((name_of p.relation.rows p.attr.0 row).0 ≡ row.0))). ⊎_elim
    (λ (e : l ≡ label.Last p.rel p.attr row). speaks_if p row l (label.Last p.rel p.attr row) e
    (record { kind_is = refl; rel_is = refl; attr_is = refl; row_is = refl }))
    (λ (v : (l ≡ label.Value p.rel p.attr row) × ((name_of p.relation.rows p.attr.0 row).0 ≡ row.0)).
    speaks_if p row l (label.Value p.rel p.attr row) v.0
    (record { kind_is = refl; rel_is = refl; attr_is = refl; row_is = refl }))
    more)
    rest)
    is.one_of

pub same_row : (a b : RowId) → a.0 ≡ b.0 → a ≡ b
same_row a b e = ap (λ (n : ℕ). let x : RowId = record { 0 = n } in x) e

in_entity : (p : Attribute) (ent : ℕ) (l : Label) → Contains (entity_labels p ent) l → (row : RowId) ×
    (entity_of p.relation.rows row.0 ≡ Some ent) × IsRowLabel p ent row l
unfolding entity_labels
in_entity p ent l h =
    let m = in_flat (row_labels p ent) (members_of p.relation ent) l h in
    (m.1, member_is p.relation ent m.0 m.1 m.2, in_row p ent m.1 l m.3)

abbrev pub attribute : Subject → Relation → RelId → ℕ → Attribute
attribute s r rel attr = record { subject = s; relation = r; rel = rel; attr = record { 0 = attr } }

-- a label of an attribute
record IsAttributeLabel (s : Subject) (r : Relation) (rel : RelId) (attr : ℕ) (l : Label) : Type 0 where
  ent : ℕ
  row : RowId
  of_entity : entity_of r.rows row.0 ≡ Some ent
  label : IsRowLabel (attribute s r rel attr) ent row l

in_attr : (s : Subject) (r : Relation) (rel : RelId) (attr : ℕ) (l : Label) → Contains (attr_labels s r rel attr) l
    → IsAttributeLabel s r rel attr l
unfolding attr_labels
in_attr s r rel attr l h =
    let m = in_below (entity_labels (attribute s r rel attr)) (length r.entities) l h in
    let e = in_entity (attribute s r rel attr) m.0 l m.2 in
    record { ent = m.0; row = e.0; of_entity = e.1; label = e.2 }

-- a label of a wanted relation
pub record IsWantedLabel (s : Subject) (i : ℕ) (l : Label) : Type 0 where
  pub relation : Relation
  pub is_relation : slice_get s.spec.relations i ≡ Some relation
  pub wanted : is_wanted s.wanted.currents i ≡ true
  pub attr : ℕ
  pub ent : ℕ
  pub row : RowId
  pub label : IsRowLabel (attribute s relation (record { 0 = i }) attr) ent row l

in_wanted_of : (s : Subject) (i : ℕ) (b : Bool) (o : Option Relation) (l : Label) → is_wanted s.wanted.currents i ≡ b
    → slice_get s.spec.relations i ≡ o
    → Contains (wanted_in s (record { 0 = i }) b o) l → IsWantedLabel s i l
unfolding relation_labels
in_wanted_of s i b None l wants at h = absurd (in_none l h)
in_wanted_of s i false (Some r) l wants at h = absurd (in_none l h)
in_wanted_of s i true (Some r) l wants at h =
    let m = in_below (attr_labels s r (record { 0 = i })) (length r.attrs) l h in
    let a = in_attr s r (record { 0 = i }) m.0 l m.2 in
    record { relation = r; is_relation = at; wanted = wants; attr = m.0; ent = a.ent; row = a.row; label = a.label }

pub in_wanted : (s : Subject) (i : ℕ) (l : Label) → Contains (wanted_at s i) l → IsWantedLabel s i l
unfolding wanted_at
in_wanted s i l h = in_wanted_of s i (is_wanted s.wanted.currents i) (slice_get s.spec.relations i) l refl refl h

wanted_kind : (s : Subject) (l : Label) → Contains (wanted_labels s) l → kind l ≡ 3
unfolding wanted_labels
wanted_kind s l h =
    let m = in_below (wanted_at s) (length s.spec.relations) l h in
    let w = in_wanted s m.0 l m.2 in
    (speaks (attribute s w.relation (record { 0 = m.0 }) w.attr) w.ent w.row l w.label).kind_is

above_there : (p : Attribute) (ent : ℕ) (row other : RowId) → entity_of p.relation.rows other.0 ≡ Some ent → (row.0 ≡ other.0 → ⊥)
    → Contains (above_labels p ent row) (label.Above p.rel p.attr row other)
unfolding above_labels
above_there p ent row other of differ =
    let at = member_there p.relation ent other of in
    let test = ne_eqb row.0 other.0 differ in
    flat_in (above_label p row) (members_of p.relation ent) at.0 other (label.Above p.rel p.attr row other) at.1
    (rw test (first_of (label.Above p.rel p.attr row other) []))

value_there : (p : Attribute) (row : RowId) → name_of p.relation.rows p.attr.0 row ≡ row
    → Contains (value_label p row) (label.Value p.rel p.attr row)
value_there p row e =
    let test = eq-eqb (name_of p.relation.rows p.attr.0 row).0 row.0 (ap (λ (x : RowId). x.0) e) in
    rw test (first_of (label.Value p.rel p.attr row) [])

pub above_in_row : (p : Attribute) (ent : ℕ) (row other : RowId) → entity_of p.relation.rows other.0 ≡ Some ent →
    (row.0 ≡ other.0 → ⊥)
    → Contains (row_labels p ent row) (label.Above p.rel p.attr row other)
unfolding row_labels
above_in_row p ent row other of differ = Contains-append_left (above_labels p ent row)
    (top_label p row ++ (last_label p row ++ value_label p row)) (label.Above p.rel p.attr row other)
    (above_there p ent row other of differ)

pub top_in_row : (p : Attribute) (ent : ℕ) (row : RowId) → Contains (row_labels p ent row) (label.Top p.rel p.attr row)
unfolding row_labels
top_in_row p ent row =
    let l = label.Top p.rel p.attr row in
    Contains-append_right (above_labels p ent row) (top_label p row ++ (last_label p row ++ value_label p row)) l
    (Contains-append_left (top_label p row) (last_label p row ++ value_label p row) l (first_of l []))

pub last_in_row : (p : Attribute) (ent : ℕ) (row : RowId) → Contains (row_labels p ent row) (label.Last p.rel p.attr row)
unfolding row_labels
last_in_row p ent row =
    let l = label.Last p.rel p.attr row in
    Contains-append_right (above_labels p ent row) (top_label p row ++ (last_label p row ++ value_label p row)) l
    (Contains-append_right (top_label p row) (last_label p row ++ value_label p row) l
    (Contains-append_left (last_label p row) (value_label p row) l (first_of l [])))

pub value_in_row : (p : Attribute) (ent : ℕ) (row : RowId) → name_of p.relation.rows p.attr.0 row ≡ row
    → Contains (row_labels p ent row) (label.Value p.rel p.attr row)
unfolding row_labels
value_in_row p ent row e =
    let l = label.Value p.rel p.attr row in
    Contains-append_right (above_labels p ent row) (top_label p row ++ (last_label p row ++ value_label p row)) l
    (Contains-append_right (top_label p row) (last_label p row ++ value_label p row) l
    (Contains-append_right (last_label p row) (value_label p row) l (value_there p row e)))

row_in_entity : (p : Attribute) (ent : ℕ) (row : RowId) (l : Label) → entity_of p.relation.rows row.0 ≡ Some ent
    → Contains (row_labels p ent row) l → Contains (entity_labels p ent) l
unfolding entity_labels
row_in_entity p ent row l of h = let at = member_there p.relation ent row of in flat_in (row_labels p ent)
    (members_of p.relation ent) at.0 row l at.1 h

pub row_listed : (s : Subject) (r : Relation) (rel : RelId) (attr : AttrId) (ent : ℕ) (row : RowId) (l : Label)
    → slice_get s.spec.relations rel.0 ≡ Some r
    → is_wanted s.wanted.currents rel.0 ≡ true → attr.0 < length r.attrs → ent < length r.entities
    → entity_of r.rows row.0 ≡ Some ent
    → Contains (row_labels (attribute s r rel attr.0) ent row) l → Contains (wanted_labels s) l
unfolding wanted_labels wanted_at relation_labels attr_labels
row_listed s r rel attr ent row l at wants attr_within ent_within of h =
    below_in (wanted_at s) (length s.spec.relations) rel.0 l (slice_get_within s.spec.relations rel.0 r at)
    (rw (at, wants) (below_in (attr_labels s r rel) (length r.attrs) attr.0 l attr_within
    (below_in (entity_labels (attribute s r rel attr.0)) (length r.entities) ent l ent_within
    (row_in_entity (attribute s r rel attr.0) ent row l of h))))

-- ---- none of theirs twice

once_above_test : (l : Label) (b : Bool) → OnlyOnce (if b then [] else l ∷ [])
once_above_test l true = once_none
once_above_test l false = once_one l

once_value_test : (l : Label) (b : Bool) → OnlyOnce (if b then l ∷ [] else [])
once_value_test l true = once_one l
once_value_test l false = once_none

once_aboves : (p : Attribute) (ent : ℕ) (row : RowId) → OnlyOnce (above_labels p ent row)
unfolding above_labels
once_aboves p ent row = once_flat (above_label p row) (members_of p.relation ent) (members_once p.relation ent)
    (λ i other at. once_above_test (label.Above p.rel p.attr row other) (row.0 == other.0))
    (λ x y l in_x in_y.
    let a = in_above p row x l in_x in
    let b = in_above p row y l in_y in
    let e : label.Above p.rel p.attr row x ≡ label.Above p.rel p.attr row y = sym a.1 ∙ b.1 in
    let same : x ≡ y = cc in same)

once_value : (p : Attribute) (row : RowId) → OnlyOnce (value_label p row)
once_value p row = once_value_test (label.Value p.rel p.attr row) ((name_of p.relation.rows p.attr.0 row).0 == row.0)

above_sort : (p : Attribute) (ent : ℕ) (row : RowId) (l : Label) → Contains (above_labels p ent row) l → sort_of l ≡ 0
above_sort p ent row l h = ap sort_of (in_aboves p ent row l h).3

top_sort : (p : Attribute) (row : RowId) (l : Label) → Contains (top_label p row) l → sort_of l ≡ 1
top_sort p row l h = ap sort_of (sym (in_one (label.Top p.rel p.attr row) l h))

last_sort : (p : Attribute) (row : RowId) (l : Label) → Contains (last_label p row) l → sort_of l ≡ 2
last_sort p row l h = ap sort_of (sym (in_one (label.Last p.rel p.attr row) l h))

value_sort : (p : Attribute) (row : RowId) (l : Label) → Contains (value_label p row) l → sort_of l ≡ 3
value_sort p row l h = ap sort_of (in_value p row l h).0

last_value_sort : (p : Attribute) (row : RowId) (l : Label) → Contains (last_label p row ++ value_label p row) l → 2 ≤ sort_of l
last_value_sort p row l h = ⊎_elim
    (λ (a : Contains (last_label p row) l). let e = last_sort p row l a in omega arith)
    (λ (a : Contains (value_label p row) l). let e = value_sort p row l a in omega arith)
    (Contains-append_cases (last_label p row) (value_label p row) l h)

rest_sort : (p : Attribute) (row : RowId) (l : Label)
    → Contains (top_label p row ++ (last_label p row ++ value_label p row)) l → 1 ≤ sort_of l
rest_sort p row l h = ⊎_elim
    (λ (a : Contains (top_label p row) l). let e = top_sort p row l a in omega arith)
    (λ (a : Contains (last_label p row ++ value_label p row) l). let e = last_value_sort p row l a in omega arith)
    (Contains-append_cases (top_label p row) (last_label p row ++ value_label p row) l h)

once_row : (p : Attribute) (ent : ℕ) (row : RowId) → OnlyOnce (row_labels p ent row)
unfolding row_labels
once_row p ent row = once_both (above_labels p ent row) (top_label p row ++ (last_label p row ++ value_label p row))
    (once_aboves p ent row)
    (once_both (top_label p row) (last_label p row ++ value_label p row) (once_one (label.Top p.rel p.attr row))
    (once_both (last_label p row) (value_label p row) (once_one (label.Last p.rel p.attr row)) (once_value p row)
    (λ l a b. let e = last_sort p row l a in let f = value_sort p row l b in absurd (omega arith)))
    (λ l a b. let e = top_sort p row l a in let f = last_value_sort p row l b in absurd (omega arith)))
    (λ l a b. let e = above_sort p ent row l a in let f = rest_sort p row l b in absurd (omega arith))

once_entity : (p : Attribute) (ent : ℕ) → OnlyOnce (entity_labels p ent)
unfolding entity_labels
once_entity p ent = once_flat (row_labels p ent) (members_of p.relation ent) (members_once p.relation ent)
    (λ i row at. once_row p ent row)
    (λ x y l in_x in_y. same_row x y (sym (speaks p ent x l (in_row p ent x l in_x)).row_is ∙
    (speaks p ent y l (in_row p ent y l in_y)).row_is))

once_attr : (s : Subject) (r : Relation) (rel : RelId) (attr : ℕ) → OnlyOnce (attr_labels s r rel attr)
unfolding attr_labels
once_attr s r rel attr = once_below (entity_labels (attribute s r rel attr)) (length r.entities)
    (λ i within. once_entity (attribute s r rel attr) i)
    (λ i j l at_i at_j in_i in_j.
    let a = in_entity (attribute s r rel attr) i l in_i in
    let b = in_entity (attribute s r rel attr) j l in_j in
    let rows : a.0.0 ≡ b.0.0 = sym (speaks (attribute s r rel attr) i a.0 l a.2).row_is ∙
    (speaks (attribute s r rel attr) j b.0 l b.2).row_is in
    same_Some i j (sym a.1 ∙ (ap (λ (n : ℕ). entity_of r.rows n) rows ∙ b.1)))

once_relation : (s : Subject) (r : Relation) (rel : RelId) → OnlyOnce (relation_labels s r rel)
unfolding relation_labels
once_relation s r rel = once_below (attr_labels s r rel) (length r.attrs) (λ i within. once_attr s r rel i)
    (λ i j l at_i at_j in_i in_j.
    let a = in_attr s r rel i l in_i in
    let b = in_attr s r rel j l in_j in
    sym (speaks (attribute s r rel i) a.ent a.row l a.label).attr_is ∙
    (speaks (attribute s r rel j) b.ent b.row l b.label).attr_is)

once_wanted_in : (s : Subject) (rel : RelId) (b : Bool) (o : Option Relation) → OnlyOnce (wanted_in s rel b o)
once_wanted_in s rel b None = once_none
once_wanted_in s rel true (Some r) = once_relation s r rel
once_wanted_in s rel false (Some r) = once_none

pub once_wanted : (s : Subject) → OnlyOnce (wanted_labels s)
unfolding wanted_labels wanted_at
once_wanted s = once_below (wanted_at s) (length s.spec.relations)
    (λ i within. once_wanted_in s (record { 0 = i }) (is_wanted s.wanted.currents i) (slice_get s.spec.relations i))
    (λ i j l at_i at_j in_i in_j.
    let a = in_wanted s i l in_i in
    let b = in_wanted s j l in_j in
    sym (speaks (attribute s a.relation (record { 0 = i }) a.attr) a.ent a.row l a.label).rel_is
    ∙ (speaks (attribute s b.relation (record { 0 = j }) b.attr) b.ent b.row l b.label).rel_is)

-- ---- all sections

record IsSection (labels : List Label) (k : ℕ) : Type 0 where
  once : OnlyOnce labels
  kinds : (l : Label) → Contains labels l → k ≤ kind l

more_of : (xs ys : List Label) (k : ℕ) → OnlyOnce xs → ((l : Label) → Contains xs l → kind l ≡ k) → IsSection ys
    (suc k) → IsSection (xs ++ ys) k
more_of xs ys k once kinds rest = record {
  once = once_both xs ys once rest.once (λ l a b. let e = kinds l a in let f = rest.kinds l b in absurd (omega arith));
  kinds = λ l h. ⊎_elim
      (λ (a : Contains xs l). let e = kinds l a in omega arith)
      (λ (b : Contains ys l). let f = rest.kinds l b in omega arith)
      (Contains-append_cases xs ys l h);
}

pub once_all : (s : Subject) (rules : List (List (List RowId))) (copies : List (List CopiedPair)) → OnlyOnce (given_labels s.spec)
    → ((i : ℕ) → i < length rules → OnlyOnce (slice_index_or rules i [])) →
    ((i : ℕ) → i < length s.spec.copies → OnlyOnce (slice_index_or copies i []))
    → OnlyOnce (all_labels s rules copies)
unfolding all_labels
once_all s rules copies once_given once_rule once_copy =
    (more_of (given_labels s.spec) (rule_labels rules ++ (copy_labels s.spec copies ++ wanted_labels s)) 0 once_given
    (given_kind s.spec)
    (more_of (rule_labels rules) (copy_labels s.spec copies ++ wanted_labels s) 1 (once_rules rules once_rule) (rule_kind rules)
    (more_of (copy_labels s.spec copies) (wanted_labels s) 2 (once_copies s.spec copies once_copy) (copy_kind s.spec copies)
    (record { once = once_wanted s; kinds = λ l h. let e = wanted_kind s l h in omega arith })))).once
