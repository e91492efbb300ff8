-- The last row of an entity, and its current value.
use Rattle.std.proofs.Common.{◌≡◌, ◌==◌, ◌&&◌, ◌-◌, ◌<◌, ℕ, zero, suc, true, not, cond, List, [], ◌∷◌, All, Option, Some, None, length, map, slice_get, refl, sym, ap, ap₂, ◌∙◌, subst, inl, inr, ⊎_elim, arith}
use Rattle.std.proofs.lemmas.Bool.{and_parts}
use Rattle.std.proofs.lemmas.List.{length-map}
use Rattle.std.proofs.lemmas.List.Elements.{All-head, All-tail}
use Rattle.std.proofs.lemmas.Option.{same_Some, none-some, slice_get_cases}
use Rattle.currency_base.specs.Values.{kind_of}
use Rattle.currency_base.specs.declared.ids.AttrId.{AttrId}
use Rattle.currency_base.specs.declared.ids.RelId.{RelId}
use Rattle.currency_base.specs.declared.ids.RowId.{RowId}
use Rattle.currency_base.specs.declared.row.Row.{Row}
use Rattle.currency_base.specs.declared.value.Cmp.TheVariants.{Eq}
use Rattle.currency_base.specs.declared.value.ValueKind.{ValueKind}
use Rattle.currency_base.specs.declared.value.Value.{Value}
use Rattle.denial_rules.specs.Instances.{value_in, field_value, is_compared}
use Rattle.entity_rows.specs.Members.{members}
use Rattle.entity_rows.proofs.Membership.{entity_member}
use Rattle.partial_orders.specs.Pairs.{entity_of}
use Rattle.spec_model.specs.Completion.{Rankings, ranking_of}
use Rattle.spec_model.specs.Current.{last_row, current_value}
use Rattle.spec_model.specs.Facts.{AreRelations, kinds_of}
use Rattle.spec_model.specs.declared.relation.Relation.{Relation}
use Rattle.refutation_log.specs.declared.statement.Statement.TheVariants as says
use Rattle.log_axioms.specs.Axioms.{before, not_before, top, not_top, last, not_last, is_attr, same_entity, are_two, same_value, others, alike, above_clause, top_clause, last_clause, value_clause}
use Rattle.log_axioms.specs.declared.signed.Signed.{Signed}
use Rattle.log_axioms.specs.Truth.{rows_in, IsTop, IsLast, IsTrueIn}
use Rattle.axiom_laws.proofs.Chosen.{HasTrue, IsCase, true_first, true_later, true_mapped, filtered_at, given_if, some_if, attr_in, relation_facts, rows_are, differ_not, two_are}
use Rattle.axiom_laws.proofs.Decisions.{Decided, row_is, same_or, value_itself}
use Rattle.axiom_laws.proofs.Standing.{AreTwo, at_contains, contains_at, entity_in, either_before, has_last, last_of_all}
use Rattle.axiom_laws.proofs.Truths.{last_or, top_or}

-- ---- what stands last

-- an entity's last row
record IsLastOf (r : Relation) (c : Rankings) (rel attr ent : ℕ) (z : RowId) : Type 0 where
  of_entity : entity_of r.rows z.0 ≡ Some ent
  is_last : last_row (ranking_of c rel attr ent) ≡ Some z

last_there : (relations : List Relation) (c : Rankings) (rel attr ent : ℕ) (r : Relation) (row : RowId) → IsCase relations c
    → slice_get relations rel ≡ Some r
    → attr < length r.attrs → entity_of r.rows row.0 ≡ Some ent → (z : RowId) × IsLastOf r c rel attr ent z
last_there relations c rel attr ent r row is at inside of =
    let facts = relation_facts relations rel r is.facts at in
    let ent_in = entity_in r.rows (length r.entities) row.0 ent facts.entities of in
    let ranking = is.completion.ranked rel r at attr ent inside ent_in in
    let found = at_contains (ranking_of c rel attr ent) row (ranking.all row of) in
    let z = has_last (ranking_of c rel attr ent) found.0 row found.1 in
    let listed = contains_at (ranking_of c rel attr ent) (length (ranking_of c rel attr ent) - 1) z.0 z.1 in
    (z.0, record { of_entity = ranking.only z.0 listed; is_last = z.1 })

-- that a row stands last, said of the rows of its relation
top_of : (relations : List Relation) (c : Rankings) (rel attr ent : ℕ) (r : Relation) (z : RowId)
    → slice_get relations rel ≡ Some r → IsLastOf r c rel attr ent z
    → IsTop c rel attr (rows_in (slice_get relations rel)) z
top_of relations c rel attr ent r z at l =
    subst (λ rows. IsTop c rel attr rows z) (sym (rows_are relations rel r at))
    record { ent = ent; of_entity = l.of_entity; is_last = l.is_last }

-- ---- above

pub above_true : (relations : List Relation) (c : Rankings) (answers : ℕ → Type 0) (rel : RelId) (attr : AttrId)
    (row another : RowId) (r : Relation)
    (clause : List Signed) → IsCase relations c
    → slice_get relations rel.0 ≡ Some r → above_clause rel attr row another r ≡ Some clause → HasTrue relations c answers clause
above_true relations c answers rel attr row another r clause is at e =
    let parts = some_if (is_attr r attr && are_two r.rows row another) all clause e in
    let both = and_parts (is_attr r attr) (are_two r.rows row another) parts.0 in
    subst (HasTrue relations c answers) parts.1
    (by (two_are relations rel.0 r attr.0 row another is.facts at (attr_in r attr both.0) both.1)
    (top_or c rel.0 attr.0 (rows_in (slice_get relations rel.0)) row))
  where
    all : List Signed
    all = not_top rel attr row ∷ before rel attr another row ∷ []

    rows : List Row
    rows = rows_in (slice_get relations rel.0)

    by : AreTwo relations rel.0 attr.0 row another → Decided (IsTrueIn relations c answers (says.Top rel attr row))
        → HasTrue relations c answers all
    by two (inr n) = true_first tt n
    by two (inl t) =
        let either = either_before relations c rel.0 attr.0 row another is.completion two in
        true_later (true_first tt
        (⊎_elim (λ s. absurd (last_of_all relations c rel.0 attr.0 rows row another is.completion t s)) (λ s. s) either))

-- ---- top

top_all : RelId → AttrId → RowId → Relation → ℕ → List Signed
top_all rel attr row r ent = top rel attr row ∷ map (λ x. not_before rel attr x row) (others r.rows ent row)

top_by : (relations : List Relation) (c : Rankings) (answers : ℕ → Type 0) (rel : RelId) (attr : AttrId)
    (row : RowId) (r : Relation) (ent : ℕ)
    → IsCase relations c
    → slice_get relations rel.0 ≡ Some r → attr.0 < length r.attrs → entity_of r.rows row.0 ≡ Some ent
    → (z : RowId) → IsLastOf r c rel.0 attr.0 ent z → Decided (z ≡ row) → HasTrue relations c answers (top_all rel attr row r ent)
unfolding top_all
top_by relations c answers rel attr row r ent is at inside of z l (inl same) =
    let here = top_of relations c rel.0 attr.0 ent r z at l in
    true_first tt (subst (IsTop c rel.0 attr.0 (rows_in (slice_get relations rel.0))) same here)
top_by relations c answers rel attr row r ent is at inside of z l (inr n) =
    let facts = relation_facts relations rel.0 r is.facts at in
    let differ : z.0 ≡ row.0 → ⊥ = λ e. n (row_is z row e) in
    let place = entity_member r.rows ent z l.of_entity in
    let passes = differ_not row.0 z.0 (λ e. differ (sym e)) in
    let among = filtered_at (λ (x : RowId). not (row.0 == x.0)) (members r.rows ent) place.0 z place.1 passes in
    let two : AreTwo relations rel.0 attr.0 z row = record {
      relation = r;
      is_relation = at;
      attr_in = inside;
      ent = ent;
      ent_in = entity_in r.rows (length r.entities) row.0 ent facts.entities of;
      first_of = l.of_entity;
      second_of = of;
      differ = differ;
    } in
    let here = top_of relations c rel.0 attr.0 ent r z at l in
    true_later (true_mapped relations c answers (λ x. not_before rel attr x row) (others r.rows ent row) z among two
    (last_of_all relations c rel.0 attr.0 (rows_in (slice_get relations rel.0)) z row is.completion here))

pub top_true : (relations : List Relation) (c : Rankings) (answers : ℕ → Type 0) (rel : RelId) (attr : AttrId)
    (row : RowId) (r : Relation)
    (clause : List Signed) → IsCase relations c
    → slice_get relations rel.0 ≡ Some r → top_clause rel attr row r ≡ Some clause → HasTrue relations c answers clause
unfolding top_all
top_true relations c answers rel attr row r clause is at e = by (entity_of r.rows row.0) refl e
  where
    by : (o : Option ℕ) → entity_of r.rows row.0 ≡ o → top_clause rel attr row r ≡ Some clause → HasTrue relations c
        answers clause
    by None of e =
        let none : cond (is_attr r attr) None None ≡ Some clause = rw of at e in
        absurd (none-some clause (given_if (is_attr r attr) None clause none).1)
    by (Some ent) of e =
        let here : cond (is_attr r attr) (Some (top_all rel attr row r ent)) None ≡ Some clause = rw of at e in
        let parts = some_if (is_attr r attr) (top_all rel attr row r ent) clause here in
        let inside = attr_in r attr parts.0 in
        let z = last_there relations c rel.0 attr.0 ent r row is at inside of in
        subst (HasTrue relations c answers) parts.1 (top_by relations c answers rel attr row r ent is at inside of
        z.0 z.1 (same_or z.0 row))

-- ---- values

-- a row has a value of each attribute
value_there : (rows : List Row) (kinds : List ValueKind) (n attr ent : ℕ) → All (λ row. map kind_of row.values ≡ kinds) rows
    → entity_of rows n ≡ Some ent → attr < length kinds
    → (v : Value) × (value_in (slice_get rows n) attr ≡ Some v)
value_there [] kinds n attr ent all of below = absurd (none-some ent of)
value_there (r ∷ rows) kinds zero attr ent all of below =
    let own : map kind_of r.values ≡ kinds = All-head (λ row. map kind_of row.values ≡ kinds) r rows all in
    let long : length r.values ≡ length kinds = sym (length-map r.values kind_of) ∙ ap length own in
    ⊎_elim (λ p. (p.0, p.2)) (λ p. absurd (omega (arith, p.0, long, below))) (slice_get_cases r.values attr).1
value_there (r ∷ rows) kinds (suc n) attr ent all of below =
    value_there rows kinds n attr ent (All-tail (λ row. map kind_of row.values ≡ kinds) r rows all) of below

field_there : (relations : List Relation) (rel : ℕ) (r : Relation) (attr ent : ℕ) (row : RowId) → AreRelations relations
    → slice_get relations rel ≡ Some r → attr < length r.attrs
    → entity_of r.rows row.0 ≡ Some ent → (v : Value) × (field_value r.rows (Some row) attr ≡ Some v)
field_there relations rel r attr ent row are at inside of =
    let long = length-map r.attrs (λ a. a.kind) in
    value_there r.rows (kinds_of r) row.0 attr ent (relation_facts relations rel r are at).values of (omega (arith, long, inside))

-- ---- last

pub last_true : (relations : List Relation) (c : Rankings) (answers : ℕ → Type 0) (rel : RelId) (attr : AttrId)
    (row : RowId) (r : Relation)
    (clause : List Signed) → IsCase relations c
    → slice_get relations rel.0 ≡ Some r → last_clause rel attr row r ≡ Some clause → HasTrue relations c answers clause
last_true relations c answers rel attr row r clause is at e =
    let parts = some_if (is_attr r attr && same_entity r.rows row row) all clause e in
    let both = and_parts (is_attr r attr) (same_entity r.rows row row) parts.0 in
    subst (HasTrue relations c answers) parts.1
    (by (attr_in r attr both.0) (top_or c rel.0 attr.0 (rows_in (slice_get relations rel.0)) row))
  where
    all : List Signed
    all = not_top rel attr row ∷ last rel attr row ∷ []

    by : attr.0 < length r.attrs → Decided (IsTrueIn relations c answers (says.Top rel attr row))
        → HasTrue relations c answers all
    by inside (inr n) = true_first tt n
    by inside (inl t) =
        let here : IsTop c rel.0 attr.0 r.rows row =
        subst (λ rows. IsTop c rel.0 attr.0 rows row) (rows_are relations rel.0 r at) t in
        let v = field_there relations rel.0 r attr.0 here.ent row is.facts at inside here.of_entity in
        let is_last : IsLast c rel.0 attr.0 r.rows row = record {
          ent = here.ent;
          of_entity = here.of_entity;
          value = v.0;
          of_row = v.1;
          current = ap (λ o. field_value r.rows o attr.0) here.is_last ∙ v.1;
        } in
        let told = subst (λ rows. IsLast c rel.0 attr.0 rows row) (sym (rows_are relations rel.0 r at)) is_last in
        true_later (true_first tt told)

-- ---- value

value_all : RelId → AttrId → RowId → Relation → ℕ → List Signed
value_all rel attr row r ent = not_last rel attr row ∷ map (top rel attr) (alike r.rows attr.0 ent row)

-- the entity's last row has its current value
value_of_last : (c : Rankings) (rel attr ent : ℕ) (r : Relation) (row z : RowId) → IsLastOf r c rel attr ent z
    → entity_of r.rows row.0 ≡ Some ent → IsLast c rel attr r.rows row
    → same_value r.rows attr row z ≡ true
value_of_last c rel attr ent r row z l of t =
    let here : t.ent ≡ ent = same_Some t.ent ent (sym t.of_entity ∙ of) in
    let of_z : field_value r.rows (Some z) attr ≡ Some t.value =
    sym (ap (λ o. field_value r.rows o attr) l.is_last) ∙ (sym (ap (current_value c rel r.rows attr) here) ∙ t.current) in
    ap₂ (λ a b. is_compared a Eq b) t.of_row of_z ∙ value_itself t.value

value_by : (relations : List Relation) (c : Rankings) (answers : ℕ → Type 0) (rel : RelId) (attr : AttrId)
    (row : RowId) (r : Relation) (ent : ℕ)
    → slice_get relations rel.0 ≡ Some r
    → entity_of r.rows row.0 ≡ Some ent → (z : RowId) → IsLastOf r c rel.0 attr.0 ent z
    → Decided (IsTrueIn relations c answers (says.Last rel attr row))
    → HasTrue relations c answers (value_all rel attr row r ent)
unfolding value_all
value_by relations c answers rel attr row r ent at of z l (inr n) = true_first tt n
value_by relations c answers rel attr row r ent at of z l (inl t) =
    let said : IsLast c rel.0 attr.0 r.rows row =
    subst (λ rows. IsLast c rel.0 attr.0 rows row) (rows_are relations rel.0 r at) t in
    let place = entity_member r.rows ent z l.of_entity in
    let passes = value_of_last c rel.0 attr.0 ent r row z l of said in
    let among = filtered_at (same_value r.rows attr.0 row) (members r.rows ent) place.0 z place.1 passes in
    let here = top_of relations c rel.0 attr.0 ent r z at l in
    true_later (true_mapped relations c answers (top rel attr) (alike r.rows attr.0 ent row) z among tt here)

pub value_true : (relations : List Relation) (c : Rankings) (answers : ℕ → Type 0) (rel : RelId) (attr : AttrId)
    (row : RowId) (r : Relation)
    (clause : List Signed) → IsCase relations c
    → slice_get relations rel.0 ≡ Some r → value_clause rel attr row r ≡ Some clause → HasTrue relations c answers clause
unfolding value_all
value_true relations c answers rel attr row r clause is at e = by (entity_of r.rows row.0) refl e
  where
    by : (o : Option ℕ) → entity_of r.rows row.0 ≡ o → value_clause rel attr row r ≡ Some clause
        → HasTrue relations c answers clause
    by None of e =
        let none : cond (is_attr r attr) None None ≡ Some clause = rw of at e in
        absurd (none-some clause (given_if (is_attr r attr) None clause none).1)
    by (Some ent) of e =
        let here : cond (is_attr r attr) (Some (value_all rel attr row r ent)) None ≡ Some clause = rw of at e in
        let parts = some_if (is_attr r attr) (value_all rel attr row r ent) clause here in
        let z = last_there relations c rel.0 attr.0 ent r row is at (attr_in r attr parts.0) of in
        subst (HasTrue relations c answers) parts.1
        (value_by relations c answers rel attr row r ent at of z.0 z.1
        (last_or c rel.0 attr.0 (rows_in (slice_get relations rel.0)) row))
