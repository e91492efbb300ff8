-- A clause of which one holds, and whether a statement on rows is true.
use Rattle.std.proofs.Common.{◌≡◌, ◌⊎◌, ◌∙◌, ◌++◌, ℕ, List, [], ◌∷◌, All, Contains, Option, Some, None, map, slice_get, refl, sym, subst, inl, inr, ⊎_elim}
use Rattle.std.proofs.lemmas.List.Elements.{All-nil, All-cons, Contains-append_left, Contains-append_right}
use Rattle.std.proofs.lemmas.Option.{none-some}
use Rattle.currency_base.specs.declared.ids.RowId.{RowId}
use Rattle.currency_base.specs.declared.value.Value.{Value}
use Rattle.denial_rules.specs.Instances.{field_value}
use Rattle.order_literals.specs.Said.{Said}
use Rattle.order_literals.specs.Truth.{StandsLast, IsCurrent, Holds, OneHolds}
use Rattle.partial_orders.specs.Pairs.{entity_of}
use Rattle.spec_model.specs.Completion.{Rankings, ranking_of}
use Rattle.spec_model.specs.Current.{last_row, current_value}
use Rattle.spec_model.specs.declared.relation.Relation.{Relation}
use Rattle.order_adequacy.proofs.Decided.{Decided, some_row_or, some_value_or}
use Rattle.order_adequacy.proofs.Lists.{here, there, mapped_in}
use Rattle.order_adequacy.proofs.Orders.{one_relation, one_entity, IsLastOf}

-- ---- one of a clause

pub first_holds : {relations : List Relation} {c : Rankings} {answers : ℕ → Type 0} {s : Said} {rest : List Said}
    → Holds relations c answers s → OneHolds relations c answers (s ∷ rest)
first_holds {relations} {c} {answers} {s} {rest} holds = record { said = s; is_in = here s rest; holds = holds }

pub later_holds : {relations : List Relation} {c : Rankings} {answers : ℕ → Type 0} {s : Said} {rest : List Said}
    → OneHolds relations c answers rest → OneHolds relations c answers (s ∷ rest)
later_holds {relations} {c} {answers} {s} {rest} one = record {
  said = one.said;
  is_in = there s one.said rest
      one.is_in;
  holds = one.holds;
}

pub mapped_holds : {A : Type 0} (relations : List Relation) (c : Rankings) (answers : ℕ → Type 0) (f : A → Said)
    (xs : List A) (x : A) → Contains xs x
    → Holds relations c answers (f x) → OneHolds relations c answers (map f xs)
mapped_holds relations c answers f xs x at holds = record { said = f x; is_in = mapped_in f xs x at; holds = holds }

pub front_holds : (relations : List Relation) (c : Rankings) (answers : ℕ → Type 0) (front back : List Said)
    → OneHolds relations c answers front
    → OneHolds relations c answers (front ++ back)
front_holds relations c answers front back one =
    record { said = one.said; is_in = Contains-append_left front back one.said one.is_in; holds = one.holds }

pub back_holds : (relations : List Relation) (c : Rankings) (answers : ℕ → Type 0) (front back : List Said)
    → OneHolds relations c answers back
    → OneHolds relations c answers (front ++ back)
back_holds relations c answers front back one =
    record { said = one.said; is_in = Contains-append_right front back one.said one.is_in; holds = one.holds }

-- each item has a property that is decided, or one has it not
pub all_or : {A : Type 0} (P : A → Type 0) (xs : List A) → ((x : A) → Decided (P x)) → All P xs ⊎
    ((x : A) × Contains xs x × (P x → ⊥))
all_or P [] each = inl (All-nil P)
all_or {A} P (x ∷ xs) each = by (each x) (all_or P xs each)
  where
    by : Decided (P x) → All P xs ⊎ ((y : A) × Contains xs y × (P y → ⊥)) → All P (x ∷ xs) ⊎
        ((y : A) × Contains (x ∷ xs) y × (P y → ⊥))
    by (inr never) more = inr (x, here x xs, never)
    by (inl holds) (inl all) = inl (All-cons P x xs holds all)
    by (inl holds) (inr one) = inr (one.0, there x one.0 xs one.1, one.2)

-- ---- a row stands last

pub stands_if : (relations : List Relation) (c : Rankings) (rel attr ent : ℕ) (r : Relation) (row : RowId)
    → slice_get relations rel ≡ Some r
    → IsLastOf r c rel attr ent row → StandsLast relations c rel attr row
stands_if relations c rel attr ent r row at last =
    record { relation = r; is_relation = at; ent = ent; of_entity = last.of_entity; is_last = last.is_last }

pub stands_of : (relations : List Relation) (c : Rankings) (rel attr : ℕ) (r : Relation) (row : RowId)
    → slice_get relations rel ≡ Some r
    → StandsLast relations c rel attr row → (ent : ℕ) × IsLastOf r c rel attr ent row
stands_of relations c rel attr r row at t =
    let same = one_relation relations rel t.relation r t.is_relation at in (
      t.ent,
      record {
        of_entity = subst (λ (q : Relation). entity_of q.rows row.0 ≡ Some t.ent) same t.of_entity;
        is_last = t.is_last;
      },
    )

pub stands_in : (relations : List Relation) (c : Rankings) (rel attr ent : ℕ) (r : Relation) (row : RowId)
    → slice_get relations rel ≡ Some r
    → entity_of r.rows row.0 ≡ Some ent → StandsLast relations c rel attr row → IsLastOf r c rel attr ent row
stands_in relations c rel attr ent r row at of t =
    let last = stands_of relations c rel attr r row at t in
    subst (λ k. IsLastOf r c rel attr k row) (one_entity r.rows row.0 last.0 ent last.1.of_entity of) last.1

last_or : (relations : List Relation) (c : Rankings) (rel attr : ℕ) (r : Relation) (row : RowId)
    → slice_get relations rel ≡ Some r
    → (o : Option ℕ) → entity_of r.rows row.0 ≡ o → Decided (StandsLast relations c rel attr row)
last_or relations c rel attr r row at None of =
    inr (λ t. let last = stands_of relations c rel attr r row at t in none-some last.0 (sym of ∙ last.1.of_entity))
last_or relations c rel attr r row at (Some ent) of =
    ⊎_elim
    (λ (h : last_row (ranking_of c rel attr ent) ≡ Some row). inl
    (stands_if relations c rel attr ent r row at record { of_entity = of; is_last = h }))
    (λ (n : last_row (ranking_of c rel attr ent) ≡ Some row → ⊥). inr
    (λ t. n (stands_in relations c rel attr ent r row at of t).is_last))
    (some_row_or (last_row (ranking_of c rel attr ent)) row)

-- whether a row stands last is decided
pub stands_or : (relations : List Relation) (c : Rankings) (rel attr : ℕ) (row : RowId)
    → Decided (StandsLast relations c rel attr row)
stands_or relations c rel attr row = by (slice_get relations rel) refl
  where
    by : (o : Option Relation) → slice_get relations rel ≡ o → Decided (StandsLast relations c rel attr row)
    by None at = inr (λ t. none-some t.relation (sym at ∙ t.is_relation))
    by (Some r) at = last_or relations c rel attr r row at (entity_of r.rows row.0) refl

-- ---- a value is current

-- the value of a row of an entity is current
pub record HasCurrent (r : Relation) (c : Rankings) (rel attr ent : ℕ) (row : RowId) : Type 0 where
  pub of_entity : entity_of r.rows row.0 ≡ Some ent
  pub value : Value
  pub of_row : field_value r.rows (Some row) attr ≡ Some value
  pub current : current_value c rel r.rows attr ent ≡ Some value

pub current_if : (relations : List Relation) (c : Rankings) (rel attr ent : ℕ) (r : Relation) (row : RowId)
    → slice_get relations rel ≡ Some r
    → HasCurrent r c rel attr ent row → IsCurrent relations c rel attr row
current_if relations c rel attr ent r row at has = record {
  relation = r;
  is_relation = at;
  ent = ent;
  of_entity = has.of_entity;
  value = has.value;
  of_row = has.of_row;
  current = has.current;
}

pub current_of : (relations : List Relation) (c : Rankings) (rel attr : ℕ) (r : Relation) (row : RowId)
    → slice_get relations rel ≡ Some r
    → IsCurrent relations c rel attr row → (ent : ℕ) × HasCurrent r c rel attr ent row
current_of relations c rel attr r row at t =
    let same = one_relation relations rel t.relation r t.is_relation at in (
      t.ent,
      record {
        of_entity = subst (λ (q : Relation). entity_of q.rows row.0 ≡ Some t.ent) same t.of_entity;
        value = t.value;
        of_row = subst (λ (q : Relation). field_value q.rows (Some row) attr ≡ Some t.value) same t.of_row;
        current = subst (λ (q : Relation). current_value c rel q.rows attr t.ent ≡ Some t.value) same t.current;
      },
    )

pub current_in : (relations : List Relation) (c : Rankings) (rel attr ent : ℕ) (r : Relation) (row : RowId)
    → slice_get relations rel ≡ Some r
    → entity_of r.rows row.0 ≡ Some ent → IsCurrent relations c rel attr row → HasCurrent r c rel attr ent row
current_in relations c rel attr ent r row at of t =
    let has = current_of relations c rel attr r row at t in
    subst (λ k. HasCurrent r c rel attr k row) (one_entity r.rows row.0 has.0 ent has.1.of_entity of) has.1

value_or : (relations : List Relation) (c : Rankings) (rel attr : ℕ) (r : Relation) (row : RowId)
    → slice_get relations rel ≡ Some r
    → (o : Option ℕ) (v : Option Value) → entity_of r.rows row.0 ≡ o → field_value r.rows (Some row) attr ≡ v
    → Decided (IsCurrent relations c rel attr row)
value_or relations c rel attr r row at None v of has =
    inr (λ t. let h = current_of relations c rel attr r row at t in none-some h.0 (sym of ∙ h.1.of_entity))
value_or relations c rel attr r row at (Some ent) None of has =
    inr (λ t. let h = current_of relations c rel attr r row at t in none-some h.1.value (sym has ∙ h.1.of_row))
value_or relations c rel attr r row at (Some ent) (Some v) of has =
    ⊎_elim
    (λ (h : current_value c rel r.rows attr ent ≡ Some v).
    inl (current_if relations c rel attr ent r row at record { of_entity = of; value = v; of_row = has; current = h }))
    (λ (n : current_value c rel r.rows attr ent ≡ Some v → ⊥).
    inr (λ t. let h = current_in relations c rel attr ent r row at of t in n (h.current ∙ (sym h.of_row ∙ has))))
    (some_value_or (current_value c rel r.rows attr ent) v)

-- whether the value of a row is current is decided
pub current_or : (relations : List Relation) (c : Rankings) (rel attr : ℕ) (row : RowId)
    → Decided (IsCurrent relations c rel attr row)
current_or relations c rel attr row = by (slice_get relations rel) refl
  where
    by : (o : Option Relation) → slice_get relations rel ≡ o → Decided (IsCurrent relations c rel attr row)
    by None at = inr (λ t. none-some t.relation (sym at ∙ t.is_relation))
    by (Some r) at = value_or relations c rel attr r row at (entity_of r.rows row.0)
        (field_value r.rows (Some row) attr) refl refl
