-- Places at which two completions differ.
use Rattle.std.proofs.Common.{◌≡◌, ◌⊎◌, inl, inr, ◌+◌, ◌<◌, ◌≤◌, ℕ, true, false, List, All, Contains, Some, get_or, length, take, slice_get, refl, ap, subst, sym, ◌∙◌, arith}
use Rattle.std.proofs.lemmas.Bool.{cases_eq, false≢true}
use Rattle.std.proofs.lemmas.List.{take_all}
use Rattle.std.proofs.lemmas.List.Elements.{All-contains, All-more, Contains-get_or}
use Rattle.std.proofs.lemmas.Cmp.{int_cmp_total, nat_list_cmp_total, tied_itself}
use Rattle.std.proofs.lemmas.Map.Lookups.{exact_bytes, exact_signed}
use Rattle.std.proofs.lemmas.Option.{same_Some}
use Rattle.std.specs.declared.cmp.Ordering.{Ordering}
use Rattle.std.specs.declared.cmp.Ordering.TheVariants.{Less, Equal, Greater}
use Rattle.currency_base.specs.Values.{holds_at, value_cmp, value_test}
use Rattle.currency_base.specs.declared.ids.AttrId.{AttrId}
use Rattle.currency_base.specs.declared.ids.EntId.{EntId}
use Rattle.currency_base.specs.declared.ids.RelId.{RelId}
use Rattle.currency_base.specs.declared.value.Cmp.TheVariants.{Ne}
use Rattle.currency_base.specs.declared.value.Value.{Value}
use Rattle.currency_base.specs.declared.value.Value.TheVariants.{Int, Text}
use Rattle.spec_model.specs.Completion.{Rankings}
use Rattle.spec_model.specs.Current.{current_value}
use Rattle.spec_model.specs.declared.relation.Relation.{Relation}
use Rattle.current_claims.specs.Claims.{IsDifference}
use Rattle.current_claims.proofs.Lists.{item_there}
use Rattle.current_claims.specs.Differing.{DiffersAt, IsOfEntity, NoneOfEntity, NoneOfRelation}

-- ---- the test of two values

tied_value : (v : Value) → value_cmp v v ≡ Equal
tied_value (Int n) = tied_itself int_cmp_total n
tied_value (Text bytes) = tied_itself nat_list_cmp_total bytes

exact_value : (a b : Value) → value_cmp a b ≡ Equal → a ≡ b
exact_value (Int a) (Int b) e = ap Int (exact_signed a b e)
exact_value (Int a) (Text b) e = cc
exact_value (Text a) (Int b) e = cc
exact_value (Text a) (Text b) e = ap Text (exact_bytes a b e)

equal_order : (o : Ordering) → holds_at Ne o ≡ false → o ≡ Equal
equal_order Less e = absurd (false≢true (sym e))
equal_order Equal e = refl
equal_order Greater e = absurd (false≢true (sym e))

-- values of which the test says that they differ
test_apart : (a b : Value) → value_test Ne a b ≡ true → a ≡ b → ⊥
test_apart a b told same =
    let tied : value_cmp a b ≡ Equal = subst (λ (v : Value). value_cmp a v ≡ Equal) same (tied_value a) in
    false≢true (ap (holds_at Ne) (sym tied) ∙ told)

-- values of which it does not
test_same : (a b : Value) → value_test Ne a b ≡ false → a ≡ b
test_same a b told = exact_value a b (equal_order (value_cmp a b) told)

-- ---- an entity

module _ (relations : List Relation) (c d : Rankings) (rel : RelId) where
  -- they differ at none of the first attributes of an entity
  abbrev pub NoneBelow : EntId → ℕ → Type 0
  NoneBelow ent count = (r : Relation) → slice_get relations rel.0 ≡ Some r → (attr : ℕ) → attr < count
      → DiffersAt r c d rel.0 attr ent.0 → ⊥

  -- the test says that the values of an attribute differ
  pub found : (ent : EntId) (attr : AttrId) (one other : Value) (q : Relation) → slice_get relations rel.0 ≡ Some q
      → attr.0 < length q.attrs → ent.0 < length q.entities
      → ((r : Relation) → slice_get relations rel.0 ≡ Some r → current_value c rel.0 r.rows attr.0 ent.0 ≡ Some one)
      → ((r : Relation) → slice_get relations rel.0 ≡ Some r → current_value d rel.0 r.rows attr.0 ent.0 ≡ Some other)
      → value_test Ne one other ≡ true → IsOfEntity relations c d rel ent attr
  found ent attr one other q there in_attrs in_entities is_one is_other told r at =
      let same : q ≡ r = same_Some q r (sym there ∙ at) in
      record {
        attr_within = subst (λ (p : Relation). attr.0 < length p.attrs) same in_attrs;
        ent_within = subst (λ (p : Relation). ent.0 < length p.entities) same in_entities;
        differ = λ e. test_apart one other told (same_Some one other (sym (is_one r at) ∙ e ∙ is_other r at));
      }

  -- the test says that they are the same
  pub none_more : (ent : EntId) (attr : AttrId) (one other : Value)
      → ((r : Relation) → slice_get relations rel.0 ≡ Some r → current_value c rel.0 r.rows attr.0 ent.0 ≡ Some one)
      → ((r : Relation) → slice_get relations rel.0 ≡ Some r → current_value d rel.0 r.rows attr.0 ent.0 ≡ Some other)
      → value_test Ne one other ≡ false → NoneBelow ent attr.0 → NoneBelow ent (attr.0 + 1)
  none_more ent attr one other is_one is_other told none r at k upto differs = by (cases_eq k attr.0)
    where
      by : (k ≡ attr.0) ⊎ (k ≡ attr.0 → ⊥) → ⊥
      by (inl is) =
          let here : DiffersAt r c d rel.0 attr.0 ent.0 = subst (λ n. DiffersAt r c d rel.0 n ent.0) is differs in
          here.differ (is_one r at ∙ ap Some (test_same one other told) ∙ sym (is_other r at))
      by (inr apart) = none r at k (omega arith) differs

  pub none_of_entity : (ent : EntId) (count : ℕ) → ((r : Relation) → slice_get relations rel.0 ≡ Some r → length r.attrs ≤ count)
      → NoneBelow ent count → NoneOfEntity relations c d rel ent
  none_of_entity ent count whole none r at attr differs =
      let h = whole r at in let within = differs.attr_within in none r at attr (omega arith) differs

  -- ---- a relation

  -- they differ at none of the first entities
  abbrev pub NoneBefore : ℕ → Type 0
  NoneBefore count = (r : Relation) → slice_get relations rel.0 ≡ Some r → (attr ent : ℕ) → ent < count
      → DiffersAt r c d rel.0 attr ent → ⊥

  pub before_more : (ent : EntId) → NoneOfEntity relations c d rel ent → NoneBefore ent.0 → NoneBefore (ent.0 + 1)
  before_more ent here none r at attr k upto differs = by (cases_eq k ent.0)
    where
      by : (k ≡ ent.0) ⊎ (k ≡ ent.0 → ⊥) → ⊥
      by (inl is) = here r at attr (subst (DiffersAt r c d rel.0 attr) is differs)
      by (inr apart) = none r at attr k (omega arith) differs

  pub none_of_relation : (count : ℕ) → ((r : Relation) → slice_get relations rel.0 ≡ Some r → length r.entities ≤
      count) → NoneBefore count
      → NoneOfRelation relations c d rel
  none_of_relation count whole none r at attr ent differs =
      let h = whole r at in let within = differs.ent_within in none r at attr ent (omega arith) differs

-- ---- all relations

-- a place of an asked relation
pub difference : (relations : List Relation) (rels read : List RelId) (c d : Rankings) (i : ℕ) (default rel : RelId)
    (attr : AttrId) (ent : EntId)
    → All (λ rel. rel.0 < length relations) rels → read ≡ rels → i < length read → rel ≡ get_or read i default
    → IsOfEntity relations c d (get_or read i default) ent attr → IsDifference relations rels c d rel attr ent
difference relations rels read c d i default rel attr ent there same below is differs =
    let asked : Contains rels rel =
    subst (λ (xs : List RelId). Contains xs rel) same (subst (Contains read) (sym is) (Contains-get_or read i default below)) in
    let found = item_there relations rel.0 (All-contains (λ (rel : RelId). rel.0 < length relations) rels rel there asked) in
    let here = subst (λ (one : RelId). IsOfEntity relations c d one ent attr) (sym is) differs found.0 found.1 in
    record {
      asked = asked;
      relation = found.0;
      is_relation = found.1;
      attr_within = here.attr_within;
      ent_within = here.ent_within;
      differ = here.differ;
    }

pub none_so_far : (relations : List Relation) (rels read : List RelId) (c d : Rankings) (i : ℕ) (default : RelId)
    → read ≡ rels → i < length read
    → NoneOfRelation relations c d (get_or read i default) → All (NoneOfRelation relations c d) (take i rels)
    → All (NoneOfRelation relations c d) (take (i + 1) rels)
none_so_far relations rels read c d i default same below here none =
    let within : i < length rels = omega (arith, ap length same) in
    All-more (NoneOfRelation relations c d) rels i default within none
    (subst (λ (xs : List RelId). NoneOfRelation relations c d (get_or xs i default)) same here)

pub no_difference : (relations : List Relation) (rels read : List RelId) (c d : Rankings) (i : ℕ) → read ≡ rels → length read ≤ i
    → All (NoneOfRelation relations c d) (take i rels)
    → (rel : RelId) (attr : AttrId) (ent : EntId) → IsDifference relations rels c d rel attr ent → ⊥
no_difference relations rels read c d i same whole none rel attr ent differs =
    let all : length rels ≤ i = omega (arith, ap length same) in
    let each : All (NoneOfRelation relations c d) rels =
    subst (All (NoneOfRelation relations c d)) (take_all i rels all) none in
    All-contains (NoneOfRelation relations c d) rels rel each differs.asked differs.relation differs.is_relation attr.0 ent.0
    (record { attr_within = differs.attr_within; ent_within = differs.ent_within; differ = differs.differ })
