-- Each completion has a current instance, and one only.
use Rattle.std.proofs.Common.{◌≡◌, ◌-◌, ◌<◌, ℕ, zero, suc, List, [], ◌∷◌, All, Option, Some, length, map, slice_get, slice_index_or, refl, sym, ap, ap₂, subst, ◌∙◌, arith}
use Rattle.std.proofs.lemmas.List.{length-map}
use Rattle.std.proofs.lemmas.Option.{same_Some, none-some, get_or_from_slice_get, slice_get_within}
use Rattle.currency_base.specs.Values.{kind_of}
use Rattle.currency_base.specs.declared.ids.RowId.{RowId}
use Rattle.currency_base.specs.declared.row.Row.{Row}
use Rattle.currency_base.specs.declared.value.Value.{Value}
use Rattle.currency_base.specs.declared.value.Value.TheVariants.{Text}
use Rattle.denial_rules.specs.Instances.{field_value, value_in}
use Rattle.partial_orders.specs.Pairs.{entity_of}
use Rattle.spec_model.specs.Completion.{Rankings, IsCompletion, ranking_of}
use Rattle.spec_model.specs.Current.{IsCurrentTuple, AreCurrentTuples, IsCurrentInstance, current_value, last_row}
use Rattle.spec_model.specs.Facts.{IsRelation, kinds_of}
use Rattle.spec_model.specs.declared.relation.Relation.{Relation}
use Rattle.answer_laws.proofs.Places.{item_at, all_at, at_place, is_in}

-- ---- lists that are made place by place

record IsMade {A : Type 0} (n : ℕ) (P : ℕ → A → Type 0) : Type 0 where
  items : List A
  as_many : length items ≡ n
  each : (i : ℕ) (x : A) → slice_get items i ≡ Some x → P i x

each_more : {A : Type 0} (P : ℕ → A → Type 0) (x : A) (xs : List A) → P 0 x
    → ((i : ℕ) (y : A) → slice_get xs i ≡ Some y → P (suc i) y) → (i : ℕ) (y : A) → slice_get (x ∷ xs) i ≡ Some y → P i y
each_more P x xs first rest zero y at = subst (P 0) (same_Some x y at) first
each_more P x xs first rest (suc i) y at = rest i y at

-- where there is an item for each place, there is a list of them
made : {A : Type 0} (n : ℕ) (P : ℕ → A → Type 0) → ((i : ℕ) → i < n → (x : A) × P i x) → IsMade n P
made zero P item = record { items = []; as_many = refl; each = λ i x at. absurd (none-some x at) }
made (suc n) P item =
    let first = item 0 (omega arith) in
    let rest = made n (λ i. P (suc i)) (λ i below. item (suc i) (omega (arith, below))) in
    record {
      items = first.0 ∷ rest.items;
      as_many = ap (λ k. suc k) rest.as_many;
      each = each_more P first.0 rest.items first.1 rest.each;
    }

-- ---- current values

-- a row stands for its entity
row_entity : (rows : List Row) (at : ℕ) (row : Row) → slice_get rows at ≡ Some row → entity_of rows at ≡ Some row.entity.0
row_entity [] at row is = absurd (none-some row is)
row_entity (r ∷ rows) zero row is = ap (λ (q : Row). Some q.entity.0) (same_Some r row is)
row_entity (r ∷ rows) (suc at) row is = row_entity rows at row is

row_within : (rows : List Row) (row ent : ℕ) → entity_of rows row ≡ Some ent → row < length rows
row_within [] row ent e = absurd (none-some ent e)
row_within (r ∷ rows) zero ent e = omega arith
row_within (r ∷ rows) (suc row) ent e = omega (arith, row_within rows row ent e)

-- each row has a value of each attribute
some_field : (r : Relation) (at : ℕ) (row : Row) (attr : ℕ) → IsRelation r → slice_get r.rows at ≡ Some row
    → attr < length r.attrs
    → (v : Value) × (slice_get row.values attr ≡ Some v)
some_field r at row attr is is_row below =
    let kinds : map kind_of row.values ≡ kinds_of r = all_at (λ q. map kind_of q.values ≡ kinds_of r) r.rows at row
    is.values is_row in
    let many : length row.values ≡ length r.attrs =
    sym (length-map row.values kind_of) ∙ ap length kinds ∙ length-map r.attrs (λ a. a.kind) in
    item_at row.values attr (omega (arith, below, many))

field_read : (rows : List Row) (o : Option RowId) (id : RowId) (row : Row) (attr : ℕ) (v : Value) → o ≡ Some id
    → slice_get rows id.0 ≡ Some row
    → slice_get row.values attr ≡ Some v → field_value rows o attr ≡ Some v
field_read rows o id row attr v is at value = ap (λ p. field_value rows p attr) is ∙ ap (λ p. value_in p attr) at ∙ value

-- each attribute of each entity has a current value
some_value : (relations : List Relation) (c : Rankings) → IsCompletion relations c → (rel : ℕ) (r : Relation)
    → slice_get relations rel ≡ Some r
    → IsRelation r → (ent : ℕ) → ent < length r.entities → (attr : ℕ) → attr < length r.attrs
    → (v : Value) × (current_value c rel r.rows attr ent ≡ Some v)
some_value relations c completion rel r at is ent in_entities attr in_attrs =
    let list = ranking_of c rel attr ent in
    let ranking = completion.ranked rel r at attr ent in_attrs in_entities in
    let has = is.inhabited ent in_entities in
    let found = ranking.all (record { 0 = has.at }) (row_entity r.rows has.at has.row has.is_row ∙ ap Some has.is_of) in
    let last = item_at list (length list - 1) (omega (arith, found.1)) in
    let of : entity_of r.rows last.0.0 ≡ Some ent = ranking.only last.0 (is_in list (length list - 1) last.0 last.1) in
    let row = item_at r.rows last.0.0 (row_within r.rows last.0.0 ent of) in
    let value = some_field r last.0.0 row.0 attr is row.1 in_attrs in
    (value.0, field_read r.rows (last_row list) last.0 row.0 attr value.0 last.1 row.1 value.1)

-- ---- an instance

some_tuple : (relations : List Relation) (c : Rankings) → IsCompletion relations c → (rel : ℕ) (r : Relation)
    → slice_get relations rel ≡ Some r
    → IsRelation r → (ent : ℕ) → ent < length r.entities → (tuple : List Value) × IsCurrentTuple c rel r ent tuple
some_tuple relations c completion rel r at is ent in_entities =
    let name = item_at r.entities ent in_entities in
    let values =
    made (length r.attrs) (λ attr (v : Value). current_value c rel r.rows attr ent ≡ Some v)
    (some_value relations c completion rel r at is ent in_entities) in (
      Text name.0 ∷ values.items,
      record {
        name = name.0;
        values = values.items;
        is_name = name.1;
        tuple_is = refl;
        per_attr = values.as_many;
        current = λ attr below.
            let value = item_at values.items attr (omega (arith, below, values.as_many)) in
            value.1 ∙ sym (values.each attr value.0 value.1);
      },
    )

some_tuples : (relations : List Relation) (c : Rankings) → IsCompletion relations c → (rel : ℕ) (r : Relation)
    → slice_get relations rel ≡ Some r
    → IsRelation r → (tuples : List (List Value)) × AreCurrentTuples c rel r tuples
some_tuples relations c completion rel r at is =
    let tuples = made (length r.entities) (IsCurrentTuple c rel r) (some_tuple relations c completion rel r at is) in
    (tuples.items, record { per_entity = tuples.as_many; each = tuples.each })

pub some_instance : (relations : List Relation) → All IsRelation relations → (c : Rankings) → IsCompletion relations c
    → (instance : List (List (List Value))) × IsCurrentInstance relations c instance
some_instance relations are c completion =
    let tables = made (length relations) AreOf table in (
      tables.items,
      record {
        per_relation = tables.as_many;
        each = λ rel r at.
            let tuples = item_at tables.items rel (omega (arith, slice_get_within relations rel r at, tables.as_many)) in
            at_place (AreCurrentTuples c rel r) tables.items rel [] tuples.0 tuples.1 (tables.each rel tuples.0 tuples.1 r at);
      },
    )
  where
    AreOf : ℕ → List (List Value) → Type 0
    AreOf rel tuples = (r : Relation) → slice_get relations rel ≡ Some r → AreCurrentTuples c rel r tuples

    table : (rel : ℕ) → rel < length relations → (tuples : List (List Value)) × AreOf rel tuples
    table rel below =
        let r = item_at relations rel below in
        let tuples = some_tuples relations c completion rel r.0 r.1 (all_at IsRelation relations rel r.0 are r.1) in
        (tuples.0, λ q at. subst (λ (p : Relation). AreCurrentTuples c rel p tuples.0) (same_Some r.0 q (sym r.1 ∙ at)) tuples.1)

-- ---- one instance only

-- lists of one length with the same items are equal
same_items : {A : Type 0} (xs ys : List A) → length xs ≡ length ys
    → ((i : ℕ) (x y : A) → slice_get xs i ≡ Some x → slice_get ys i ≡ Some y → x ≡ y) → xs ≡ ys
same_items [] [] many same = refl
same_items [] (y ∷ ys) many same = absurd (omega (arith, many))
same_items (x ∷ xs) [] many same = absurd (omega (arith, many))
same_items (x ∷ xs) (y ∷ ys) many same =
    ap₂ (λ z zs. z ∷ zs) (same zero x y refl refl) (same_items xs ys (omega arith) (λ i. same (suc i)))

one_tuple : (c : Rankings) (rel : ℕ) (r : Relation) (ent : ℕ) (one other : List Value)
    → IsCurrentTuple c rel r ent one → IsCurrentTuple c rel r ent other → one ≡ other
one_tuple c rel r ent one other first second =
    let name : first.name ≡ second.name = same_Some first.name second.name (sym first.is_name ∙ second.is_name) in
    let values : first.values ≡ second.values =
    same_items first.values second.values (first.per_attr ∙ sym second.per_attr)
    (λ i x y at at'.
    let below : i < length r.attrs = omega (arith, slice_get_within first.values i x at, first.per_attr) in
    same_Some x y (sym at ∙ first.current i below ∙ sym (second.current i below) ∙ at')) in
    first.tuple_is ∙ ap₂ (λ n vs. Text n ∷ vs) name values ∙ sym second.tuple_is

one_table : (c : Rankings) (rel : ℕ) (r : Relation) (one other : List (List Value))
    → AreCurrentTuples c rel r one → AreCurrentTuples c rel r other → one ≡ other
one_table c rel r one other first second =
    same_items one other (first.per_entity ∙ sym second.per_entity)
    (λ ent t u at at'. one_tuple c rel r ent t u (first.each ent t at) (second.each ent u at'))

pub one_instance : (relations : List Relation) (c : Rankings) (one other : List (List (List Value)))
    → IsCurrentInstance relations c one → IsCurrentInstance relations c other → one ≡ other
one_instance relations c one other first second =
    same_items one other (first.per_relation ∙ sym second.per_relation)
    (λ rel t u at at'.
    let r = item_at relations rel (omega (arith, slice_get_within one rel t at, first.per_relation)) in
    let tables : slice_index_or one rel [] ≡ slice_index_or other rel [] =
    one_table c rel r.0 _ _ (first.each rel r.0 r.1) (second.each rel r.0 r.1) in
    sym (get_or_from_slice_get one rel t [] at) ∙ tables ∙ get_or_from_slice_get other rel u [] at')
