-- What values an entity has at a place.
use Rattle.std.proofs.Common.{◌≡◌, ◌==◌, ◌-◌, ◌+◌, ◌<◌, ◌≤◌, inl, inr, ℕ, Bool, true, false, cond, List, [], ◌∷◌, length, map, Option, None, Some, option_map, slice_get, refl, sym, ap, subst, ◌∙◌, arith}
use Rattle.std.specs.List.{All, Contains, find}
use Rattle.std.specs.Option.{is_some}
use Rattle.std.proofs.lemmas.Bool.{false≢true, ne_eqb}
use Rattle.std.proofs.lemmas.List.Elements.{All-cons, All-contains, All-contains_itself, All-head, All-nil, All-tail, All-weaker}
use Rattle.std.proofs.lemmas.Option.{slice_get-map}
use Rattle.currency_base.specs.declared.ids.EntId.{EntId}
use Rattle.currency_base.specs.declared.ids.RowId.{RowId}
use Rattle.currency_base.specs.declared.row.Row.{Row}
use Rattle.currency_base.specs.declared.value.Value.{Value}
use Rattle.currency_base.specs.declared.value.Value.TheVariants.{Text}
use Rattle.denial_rules.specs.Instances.{field_value}
use Rattle.entity_rows.specs.Members.{members, members_from}
use Rattle.match_premises.specs.Premises.{has_value}
use Rattle.spec_model.specs.declared.relation.Relation.{Relation}
use Rattle.match_candidates.specs.Places.{has_in, is_name}
use Rattle.match_candidates.specs.Tables.{AreOfRows, HaveSame, one_of}
use Rattle.match_candidates.specs.Ways.{AreChoices}
use Rattle.match_candidates.proofs.Among.{Among, from_contains, to_contains}
use Rattle.match_candidates.proofs.Values.{compared_is, is_itself, same_test, tested_same}

-- ---- an item that passes a test

pub found_one : {A : Type 0} (p : A → Bool) (xs : List A) → is_some (find p xs) ≡ true → (x : A) × Contains xs x × (p x ≡ true)
found_one p [] is = absurd (false≢true is)
found_one {A} p (y ∷ ys) is = by (p y) refl is (found_one p ys)
  where
    later : (x : A) × Contains ys x × (p x ≡ true) → (x : A) × Contains (y ∷ ys) x × (p x ≡ true)
    later more = (more.0, to_contains (y ∷ ys) more.0 (inr (from_contains ys more.0 more.1)), more.2)

    by : (b : Bool) → p y ≡ b → is_some (cond b (Some y) (find p ys)) ≡ true → (is_some (find p ys) ≡ true
        → (x : A) × Contains ys x × (p x ≡ true))
        → (x : A) × Contains (y ∷ ys) x × (p x ≡ true)
    by true passes is more = (y, to_contains (y ∷ ys) y (inl refl), passes)
    by false fails is more = later (more is)

find_among : {A : Type 0} (p : A → Bool) (xs : List A) (x : A) → Among xs x → p x ≡ true → is_some (find p xs) ≡ true
find_among p [] x is passes = absurd is
find_among p (y ∷ ys) x (inl same) passes = let here : p y ≡ true = ap p same ∙ passes in rw here refl
find_among p (y ∷ ys) x (inr more) passes = by (p y) (find_among p ys x more passes)
  where
    by : (b : Bool) → is_some (find p ys) ≡ true → is_some (cond b (Some y) (find p ys)) ≡ true
    by true rest = refl
    by false rest = rest

pub find_one : {A : Type 0} (p : A → Bool) (xs : List A) (x : A) → Contains xs x → p x ≡ true → is_some (find p xs) ≡ true
find_one p xs x is passes = find_among p xs x (from_contains xs x is) passes

-- ---- the values at a place

at_attr : (r : Relation) (ent : EntId) (place : ℕ) (x : Value) → (place ≡ 0 → ⊥)
    → has_in r ent place x ≡ is_some (find (has_value r.rows (record { 0 = place - 1 }) x) (members r.rows ent.0))
at_attr r ent place x apart = let other : (place == 0) ≡ false = ne_eqb place 0 apart in rw other refl

at_name : (r : Relation) (ent : EntId) (place : ℕ) (x : Value) → place ≡ 0
    → has_in r ent place x ≡ is_name (slice_get r.entities ent.0) x
at_name r ent place x first = rw first refl

pub rows_choices : (r : Relation) (ent : EntId) (place : ℕ) (list : List Value) → (place ≡ 0 → ⊥)
    → AreOfRows r.rows (members r.rows ent.0) (place - 1) list → AreChoices (Some r) ent place list
rows_choices r ent place list apart are = record {
  each = All-weaker _ (λ x. has_in r ent place x ≡ true) had list are.each;
  all = λ x is. all x (found_one _ (members r.rows ent.0) (sym (at_attr r ent place x apart) ∙ is));
}
  where
    had : (x : Value) → (row : RowId) × Contains (members r.rows ent.0) row × (field_value r.rows (Some row) (place - 1) ≡ Some x)
        → has_in r ent place x ≡ true
    had x is = at_attr r ent place x apart
        ∙ find_one (has_value r.rows (record { 0 = place - 1 }) x) (members r.rows ent.0) is.0 is.1
        (is_itself (field_value r.rows (Some is.0) (place - 1)) x is.2)

    all : (x : Value) → (row : RowId) × Contains (members r.rows ent.0) row
        × (has_value r.rows (record { 0 = place - 1 }) x row ≡ true)
        → Contains list x
    all x is = are.all is.0 x is.1 (compared_is (field_value r.rows (Some is.0) (place - 1)) x is.2)

pub name_choices : (r : Relation) (names : List Value) (ent : EntId) (place : ℕ) (list : List Value) → place ≡ 0
    → names ≡ map (λ name. Text name) r.entities → list ≡ one_of (slice_get names ent.0) → AreChoices (Some r) ent place list
name_choices r names ent place list first same is = record {
  each = subst (All (λ x. has_in r ent place x ≡ true)) (sym only) (each (slice_get r.entities ent.0) refl);
  all = λ x had. subst (λ l. Contains l x) (sym only) (all x (slice_get r.entities ent.0) (sym
      (at_name r ent place x first) ∙ had));
}
  where
    named : Option (List ℕ) → List Value
    named None = []
    named (Some name) = Text name ∷ []

    cases : (o : Option (List ℕ)) (p : Option Value) → p ≡ option_map (λ name. Text name) o → one_of p ≡ named o
    cases None p e = rw e refl
    cases (Some name) p e = rw e refl

    only : list ≡ named (slice_get r.entities ent.0)
    only = is ∙ cases (slice_get r.entities ent.0) (slice_get names ent.0)
        (ap (λ l. slice_get l ent.0) same ∙ slice_get-map (λ name. Text name) r.entities ent.0)

    each : (o : Option (List ℕ)) → slice_get r.entities ent.0 ≡ o → All (λ x. has_in r ent place x ≡ true) (named o)
    each None e = All-nil _
    each (Some name) e = All-cons (λ x. has_in r ent place x ≡ true) (Text name) []
        (at_name r ent place (Text name) first ∙ ap (λ o. is_name o (Text name)) e ∙ same_test (Text name)) (All-nil _)

    all : (x : Value) (o : Option (List ℕ)) → is_name o x ≡ true → Contains (named o) x
    all x None had = absurd (false≢true had)
    all x (Some name) had = to_contains (Text name ∷ []) x (inl (sym (tested_same x (Text name) had)))

-- the same, as they are read from a table

pub choices_by_name : (own r : Relation) (values names : List Value) (ent : EntId) (place : ℕ) (list : List Value)
    → own ≡ r → names ≡ values
    → place ≡ 0 → values ≡ map (λ name. Text name) own.entities → list ≡ one_of (slice_get names ent.0)
    → AreChoices (Some r) ent place list
choices_by_name own r values names ent place list same read first are is =
    subst (λ q. AreChoices (Some q) ent place list) same
    (name_choices own values ent place list first are (is ∙ ap (λ l. one_of (slice_get l ent.0)) read))

of_same : (rows : List Row) (ids : List RowId) (attr : ℕ) (list once : List Value) → AreOfRows rows ids attr list
    → HaveSame list once → AreOfRows rows ids attr once
of_same rows ids attr list once are same = record {
  each = All-weaker (Contains once) IsHad (λ x is. All-contains IsHad list x are.each (same.each x is)) once
      (All-contains_itself once);
  all = λ row x is at. same.all x (are.all row x is at);
}
  where
    IsHad : Value → Type 0
    IsHad x = (row : RowId) × Contains ids row × (field_value rows (Some row) attr ≡ Some x)

pub choices_by_rows : (own r : Relation) (rows : List Row) (ids : List RowId) (ent : EntId) (place : ℕ)
    (found list : List Value) → own ≡ r
    → rows ≡ own.rows → ids ≡ members r.rows ent.0 → (place ≡ 0 → ⊥) → AreOfRows rows ids (place - 1) found → HaveSame found list
    → AreChoices (Some r) ent place list
choices_by_rows own r rows ids ent place found list same read are apart of once =
    rows_choices r ent place list apart
    (subst (λ l. AreOfRows l (members r.rows ent.0) (place - 1) list) (read ∙ ap (λ (q : Relation). q.rows) same)
    (subst (λ l. AreOfRows rows l (place - 1) list) are (of_same rows ids (place - 1) found list of once)))

-- ---- entities that are not there

none_from : (first : ℕ) (rows : List Row) (ent count : ℕ) → All (λ row. row.entity.0 < count) rows → count ≤ ent
    → members_from first rows ent ≡ []
none_from first [] ent count all past = refl
none_from first (row ∷ rows) ent count all past =
    let low = All-head (λ (row : Row). row.entity.0 < count) row rows all in
    let other : (row.entity.0 == ent) ≡ false = ne_eqb row.entity.0 ent (λ same. absurd (omega (arith, low, past, same))) in
    rw other (none_from (first + 1) rows ent count (All-tail (λ (row : Row). row.entity.0 < count) row rows all) past)

-- an entity past the last one has no rows
pub no_members : (r : Relation) (ent : ℕ) → All (λ row. row.entity.0 < length r.entities) r.rows → length r.entities ≤ ent
    → members r.rows ent ≡ []
no_members r ent all past = none_from 0 r.rows ent (length r.entities) all past
