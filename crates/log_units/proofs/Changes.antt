-- What a set and a map of rows have after one more.
use Rattle.std.proofs.Common.{◌≡◌, ◌⊎◌, inl, inr, Bool, true, false, cond, List, [], ◌∷◌, ◌++◌, Contains, Option, Some, None, refl, sym, ap, ◌∙◌, subst, ⊎_elim}
use Rattle.std.proofs.lemmas.Bool.{cases_Bool}
use Rattle.std.proofs.lemmas.List.Elements.{Contains-append_left, Contains-push, Contains-push_cases}
use Rattle.std.proofs.lemmas.Map.Keys.{any_passes_from_place}
use Rattle.std.proofs.lemmas.Map.Views.{Contains-from_any}
use Rattle.std.proofs.lemmas.Option.{none-some, same_Some, slice_get-get_or}
use Rattle.std.specs.List.{list_any}
use Rattle.std.specs.Map.{lookup}
use Rattle.std.specs.Option.{unwrap_or}
use Rattle.std.specs.Ordering.{is_eq}
use Rattle.std.specs.declared.cmp.Ordering.{Ordering}
use Rattle.currency_base.specs.declared.ids.RowId.{RowId}
use Rattle.log_units.specs.Said.{Adds, has_row, place_cmp, rows_at}
use Rattle.log_units.specs.declared.said.Place.{Place}
use Rattle.log_units.specs.declared.said.SaidPair.{SaidPair}
use Rattle.log_units.specs.declared.said.SaidRow.{SaidRow}
use Rattle.log_units.proofs.Keys.{pair_cmp, pair_is, pair_itself, place_is, place_itself}

-- ---- nothing more

pub adds_nothing : {K : Type 0} (has : K → Type 0) → Adds has has None
adds_nothing has = record { kept = λ k h. h; there = λ k e. absurd (none-some k e); only = λ k h. inl h }

-- ---- sets

-- a set that an order looks through, which is equal for equal items alone
module _ {K : Type 0} (cmp : K → K → Ordering) (is_same : (x y : K) → is_eq (cmp x y) ≡ true → x ≡ y)
    (itself : (x : K) → is_eq (cmp x x) ≡ true) where
  -- the item is found
  abbrev finds : List K → K → Bool
  finds items k = list_any (λ q. is_eq (cmp k q)) items

  pub item_in : (items : List K) (k : K) → finds items k ≡ true → Contains items k
  item_in items k e = Contains-from_any {eq = λ x y. is_eq (cmp x y)} is_same k items e

  pub item_found : (items : List K) (k : K) → Contains items k → finds items k ≡ true
  item_found items k is =
      any_passes_from_place (λ q. is_eq (cmp k q)) items is.0 k (slice_get-get_or items is.0 k is.1 ∙ ap Some is.2) (itself k)

  pub adds_item : (old new : List K) (k : K)
      → ((q : K) → finds new q ≡ cond (is_eq (cmp k q)) true (finds old q))
      → Adds (Contains old) (Contains new) (Some k)
  adds_item old new k updates = record {
    kept = λ q is. item_in new q (kept q (is_eq (cmp k q)) (updates q) (item_found old q is));
    there = λ q e. item_in new q (updates q ∙ there q (same_Some k q e));
    only = λ q is. only q (is_eq (cmp k q)) refl (sym (updates q) ∙ item_found new q is);
  }
    where
      kept : (q : K) (b : Bool) → finds new q ≡ cond b true (finds old q) → finds old q ≡ true → finds new q ≡ true
      kept q true e was = e
      kept q false e was = e ∙ was

      there : (q : K) → k ≡ q → cond (is_eq (cmp k q)) true (finds old q) ≡ true
      there q same =
          let here : is_eq (cmp k q) ≡ true = ap (λ r. is_eq (cmp k r)) (sym same) ∙ itself k in
          ap (λ b. cond b true (finds old q)) here

      only : (q : K) (b : Bool) → is_eq (cmp k q) ≡ b → cond b true (finds old q) ≡ true
          → Contains old q ⊎ (Some k ≡ Some q)
      only q true here e = inr (ap Some (is_same k q here))
      only q false here e = inl (item_in old q e)

-- ---- pairs

pub pair_in : (pairs : List SaidPair) (p : SaidPair) → finds pair_cmp pair_is pair_itself pairs p ≡ true → Contains pairs p
pair_in = item_in pair_cmp pair_is pair_itself

pub pair_found : (pairs : List SaidPair) (p : SaidPair) → Contains pairs p → finds pair_cmp pair_is pair_itself pairs p ≡ true
pair_found = item_found pair_cmp pair_is pair_itself

pub adds_pair : (old new : List SaidPair) (p : SaidPair)
    → ((q : SaidPair) → finds pair_cmp pair_is pair_itself new q ≡ cond (is_eq (pair_cmp p q)) true
    (finds pair_cmp pair_is pair_itself old q))
    → Adds (Contains old) (Contains new) (Some p)
adds_pair = adds_item pair_cmp pair_is pair_itself

-- ---- rows

-- what a map has at a place
abbrev pub found_at : List (Place × List RowId) → Place → Option (List RowId)
found_at entries place = lookup (λ p. is_eq (place_cmp place p)) entries

-- what was found at a place, or nothing
pub some_found : (entries : List (Place × List RowId)) (place : Place) (o : Option (List RowId)) (rows found : List RowId)
    → o ≡ found_at entries place → o ≡ Some found → rows ≡ found → rows ≡ rows_at entries place
some_found entries place o rows found is here same = same ∙ ap (λ (p : Option (List RowId)). unwrap_or p []) (sym here ∙ is)

pub none_found : (entries : List (Place × List RowId)) (place : Place) (o : Option (List RowId)) (rows : List RowId)
    → o ≡ found_at entries place → o ≡ None → rows ≡ [] → rows ≡ rows_at entries place
none_found entries place o rows is here same = same ∙ ap (λ (p : Option (List RowId)). unwrap_or p []) (sym here ∙ is)

-- what is put where it was taken out
pub put_back : (b : Bool) (now was out : Option (List RowId)) (rows : List RowId) → now ≡ cond b (Some rows) out
    → out ≡ cond b None was
    → now ≡ cond b (Some rows) was
put_back true now was out rows e f = e
put_back false now was out rows e f = e ∙ f

module _ (old new : List (Place × List RowId)) (place : Place) (row : RowId) (rows : List RowId)
    (are : rows ≡ rows_at old place ++ row ∷ [])
    (updates : (q : Place) → found_at new q ≡ cond (is_eq (place_cmp place q)) (Some rows) (found_at old q)) where
  -- at the place itself
  here : (q : Place) → is_eq (place_cmp place q) ≡ true → rows_at new q ≡ rows_at old q ++ row ∷ []
  here q at =
      let same = place_is place q at in
      let now : found_at new q ≡ Some rows = updates q ∙ ap (λ b. cond b (Some rows) (found_at old q)) at in
      ap (λ (o : Option (List RowId)). unwrap_or o []) now ∙ are ∙ ap (λ p. rows_at old p ++ row ∷ []) same

  -- at each other place
  elsewhere : (q : Place) → is_eq (place_cmp place q) ≡ false → rows_at new q ≡ rows_at old q
  elsewhere q apart =
      ap (λ (o : Option (List RowId)). unwrap_or o [])
      (updates q ∙ ap (λ b. cond b (Some rows) (found_at old q)) apart)

  abbrev added : SaidRow
  added = record { place = place; row = row }

  pub adds_row : Adds (has_row old) (has_row new) (Some record { place = place; row = row })
  adds_row = record {
    kept = λ said is. ⊎_elim
        (λ e. subst (λ rs. Contains rs said.row) (sym (here said.place e))
        (Contains-append_left (rows_at old said.place) (row ∷ []) said.row is))
        (λ e. subst (λ rs. Contains rs said.row) (sym (elsewhere said.place e)) is)
        (cases_Bool (is_eq (place_cmp place said.place)));
    there = λ said e. subst (has_row new) (same_Some added said e)
        (subst (λ rs. Contains rs row) (sym (here place (place_itself place))) (Contains-push (rows_at old place) row));
    only = λ said is. ⊎_elim (λ e. only said e is) (λ e. inl (subst (λ rs. Contains rs said.row) (elsewhere said.place e) is))
        (cases_Bool (is_eq (place_cmp place said.place)));
  }
    where
      only : (said : SaidRow) → is_eq (place_cmp place said.place) ≡ true → has_row new said
          → has_row old said ⊎ (Some added ≡ Some said)
      only said e is =
          ⊎_elim
          (λ (was : Contains (rows_at old said.place) said.row). inl was)
          (λ (same : row ≡ said.row). inr (ap Some (said_is place said.place row said.row (place_is place said.place e) same)))
          (Contains-push_cases (rows_at old said.place) row said.row (subst (λ rs. Contains rs said.row) (here said.place e) is))
        where
          said_is : (p q : Place) (a b : RowId) → p ≡ q → a ≡ b
              → (let x : SaidRow = record { place = p; row = a } in x) ≡ (let y : SaidRow = record { place = q; row = b } in y)
          said_is p q a b e f = rw (e, f) refl
