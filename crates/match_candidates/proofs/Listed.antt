-- Items that are listed one after another.
use Rattle.std.proofs.Common.{◌≡◌, ◌+◌, ◌<◌, ◌≤◌, ◌⊎◌, inl, inr, ℕ, List, [], ◌∷◌, ◌++◌, None, Some, sym, ap, subst, ◌∙◌, arith}
use Rattle.std.specs.List.{All, Contains}
use Rattle.std.proofs.lemmas.Bool.{cases_lt}
use Rattle.std.proofs.lemmas.List.Elements.{All-nil, All-push, All-weaker, Contains-append_left, Contains-push, Contains-push_cases}
use Rattle.std.proofs.lemmas.Option.{none-some, same_Some}
use Rattle.currency_base.specs.declared.ids.EntId.{EntId}
use Rattle.currency_base.specs.declared.ids.RowId.{RowId}
use Rattle.currency_base.specs.declared.row.Row.{Row}
use Rattle.currency_base.specs.declared.value.Value.{Value}
use Rattle.denial_rules.specs.Instances.{field_value}
use Rattle.match_candidates.specs.Tables.{AreOfRows}
use Rattle.match_candidates.proofs.Among.{from_contains}

-- ---- entities by their numbers

-- just those with a number below this
pub record AreBelow (n : ℕ) (ents : List EntId) : Type 0 where
  pub within : All (λ ent. ent.0 < n) ents
  pub each : (ent : EntId) → ent.0 < n → Contains ents ent

pub below_more : (n : ℕ) (ents now : List EntId) (one : EntId) → one.0 ≡ n → now ≡ ents ++ one ∷ [] → AreBelow n ents
    → AreBelow (n + 1) now
below_more n ents now one same after are = record {
  within = subst (All (λ ent. ent.0 < n + 1)) (sym after)
      (All-push (λ ent. ent.0 < n + 1) ents one (All-weaker (λ ent. ent.0 < n) (λ ent. ent.0 < n + 1)
      (λ ent low. omega arith) ents are.within) (omega arith));
  each = λ ent low. subst (λ l. Contains l ent) (sym after) (by ent low (cases_lt ent.0 n));
}
  where
    by : (ent : EntId) → ent.0 < n + 1 → (ent.0 < n) ⊎ (n ≤ ent.0) → Contains (ents ++ one ∷ []) ent
    by ent low (inl before) = Contains-append_left ents (one ∷ []) ent (are.each ent before)
    by ent low (inr high) =
        let here : one.0 ≡ ent.0 = omega arith in
        let equal : one ≡ ent = ap (λ n. record { 0 = n }) here in
        subst (λ e. Contains (ents ++ one ∷ []) e) equal (Contains-push ents one)

-- ---- values of rows

pub no_values : (rows : List Row) (attr : ℕ) → AreOfRows rows [] attr []
no_values rows attr = record {
  each = All-nil _;
  all = λ row x is at. absurd (from_contains [] row is);
}

module _ (rows : List Row) (members now : List RowId) (attr : ℕ) (list : List Value) (row : RowId)
    (after : now ≡ members ++ row ∷ [])
    (are : AreOfRows rows members attr list) where
  abbrev IsHad : List RowId → Value → Type 0
  IsHad ids x = (id : RowId) × Contains ids id × (field_value rows (Some id) attr ≡ Some x)

  still : (x : Value) → IsHad members x → IsHad now x
  still x is = (is.0, subst (λ l. Contains l is.0) (sym after) (Contains-append_left members (row ∷ []) is.0 is.1), is.2)

  cases : (id : RowId) → Contains now id → Contains members id ⊎ (row ≡ id)
  cases id is = Contains-push_cases members row id (subst (λ l. Contains l id) after is)

  -- a row that has no value
  pub row_without : field_value rows (Some row) attr ≡ None → AreOfRows rows now attr list
  row_without none = record {
    each = All-weaker _ (IsHad now) still list are.each;
    all = λ id x is at. by id x at (cases id is);
  }
    where
      by : (id : RowId) (x : Value) → field_value rows (Some id) attr ≡ Some x → Contains members id ⊎ (row ≡ id)
          → Contains list x
      by id x at (inl before) = are.all id x before at
      by id x at (inr same) = absurd (none-some x (sym none ∙ ap (λ i. field_value rows (Some i) attr) same ∙ at))

  -- a row that has one
  pub row_with : (value : Value) (more : List Value) → field_value rows (Some row) attr ≡ Some value
      → more ≡ list ++ value ∷ [] → AreOfRows rows now attr more
  row_with value more one pushed = record {
    each = subst (All (IsHad now)) (sym pushed) (All-push (IsHad now) list value (All-weaker _ (IsHad now) still list are.each)
        (row, subst (λ l. Contains l row) (sym after) (Contains-push members row), one));
    all = λ id x is at. subst (λ l. Contains l x) (sym pushed) (by id x at (cases id is));
  }
    where
      by : (id : RowId) (x : Value) → field_value rows (Some id) attr ≡ Some x → Contains members id ⊎ (row ≡ id)
          → Contains (list ++ value ∷ []) x
      by id x at (inl before) = Contains-append_left list (value ∷ []) x (are.all id x before at)
      by id x at (inr same) =
          let equal : value ≡ x = same_Some value x (sym one ∙ ap (λ i. field_value rows (Some i) attr) same ∙ at) in
          subst (λ y. Contains (list ++ value ∷ []) y) equal (Contains-push list value)
