-- Lists with the same rows in the same order are one, and so are completions.
use Rattle.std.proofs.Common.{◌≡◌, ◌∙◌, ◌<◌, ℕ, zero, suc, List, [], ◌∷◌, Some, length, get_or, slice_get, slice_index_or, refl, sym, ap, ap₂, subst, inl, inr, ⊎_elim, arith}
use Rattle.std.proofs.lemmas.List.{same_lists}
use Rattle.std.proofs.lemmas.Option.{same_Some, none-some, get_or_from_slice_get, slice_get-get_or, slice_get_cases}
use Rattle.currency_base.specs.Lists.{OnlyOnce}
use Rattle.currency_base.specs.declared.ids.RowId.{RowId}
use Rattle.partial_orders.specs.Pairs.{entity_of}
use Rattle.spec_model.specs.Completion.{Rankings, lists_of, ranking_of, IsCompletion, Before}
use Rattle.spec_model.specs.declared.relation.Relation.{Relation}
use Rattle.order_adequacy.proofs.Decided.{Decided, same_or}
use Rattle.order_adequacy.proofs.Lists.{place_of, at_place}
use Rattle.order_adequacy.proofs.Orders.{before_in}

-- a row stands in a list
abbrev IsIn : List RowId → RowId → Type 0
IsIn list row = (i : ℕ) × (slice_get list i ≡ Some row)

-- two rows stand in a list, the first at the smaller place
record StandIn (list : List RowId) (a b : RowId) : Type 0 where
  low : ℕ
  high : ℕ
  below : low < high
  first : slice_get list low ≡ Some a
  second : slice_get list high ≡ Some b

-- what stands in one list stands in another, and in the same order
record IsWithin (xs ys : List RowId) : Type 0 where
  rows : (row : RowId) → IsIn xs row → IsIn ys row
  back : (row : RowId) → IsIn ys row → IsIn xs row
  order : (a b : RowId) → StandIn xs a b → StandIn ys a b

one_number : (i j : ℕ) → suc i ≡ suc j → i ≡ j
one_number i j e = omega (arith, e)

once_behind : (x : RowId) (xs : List RowId) → OnlyOnce (x ∷ xs) → OnlyOnce xs
once_behind x xs once i j row at at' = one_number i j (once (suc i) (suc j) row at at')

-- a row that stands behind the first is not the first
not_first : (x : RowId) (xs : List RowId) (i : ℕ) (row : RowId) → OnlyOnce (x ∷ xs) → slice_get xs i ≡ Some row → x ≡ row → ⊥
not_first x xs i row once at same = absurd (let e : 0 ≡ suc i = once 0 (suc i) row (ap Some same) at in omega (arith, e))

-- a row that is not the first stands behind it
behind : (y : RowId) (ys : List RowId) (row : RowId) → (y ≡ row → ⊥) → IsIn (y ∷ ys) row → IsIn ys row
behind y ys row differ (zero, at) = absurd (differ (same_Some y row at))
behind y ys row differ (suc i, at) = (i, at)

-- the first rows are one
same_first : (x : RowId) (xs : List RowId) (y : RowId) (ys : List RowId) → OnlyOnce (x ∷ xs) → OnlyOnce (y ∷ ys)
    → IsWithin (x ∷ xs) (y ∷ ys) → x ≡ y
same_first x xs y ys once once' is = by (same_or x y)
  where
    by : Decided (x ≡ y) → x ≡ y
    by (inl same) = same
    by (inr differ) =
        let later = behind x xs y differ (is.back y (0, refl)) in
        let there = is.order x y record { low = 0; high = suc later.0; below = omega arith; first = refl; second = later.1 } in
        let place : there.high ≡ 0 = once' there.high 0 y there.second refl in
        absurd (omega (arith, place, there.below))

-- and what stands behind them is the same
same_behind : (x : RowId) (xs : List RowId) (y : RowId) (ys : List RowId) → OnlyOnce (x ∷ xs) → OnlyOnce (y ∷ ys) → x ≡ y
    → IsWithin (x ∷ xs) (y ∷ ys) → IsWithin xs ys
same_behind x xs y ys once once' same is = record {
  rows = λ row at. behind y ys row (λ e. not_first x xs at.0 row once at.1 (same ∙ e)) (is.rows row (suc at.0, at.1));
  back = λ row at. behind x xs row (λ e. not_first y ys at.0 row once' at.1 (sym same ∙ e)) (is.back row (suc at.0, at.1));
  order = λ a b s. in_order a b s
      (is.order a b record {
        low = suc s.low;
        high = suc s.high;
        below = omega (arith, s.below);
        first =
            s.first;
        second = s.second;
      });
}
  where
    at_places : (a b : RowId) → StandIn xs a b → (low high : ℕ) → low < high → slice_get (y ∷ ys) low ≡ Some a
        → slice_get (y ∷ ys) high ≡ Some b
        → StandIn ys a b
    at_places a b s zero high below first second = absurd (not_first x xs s.low a once s.first (same ∙ same_Some y a first))
    at_places a b s (suc low) zero below first second = absurd (omega (arith, below))
    at_places a b s (suc low) (suc high) below first second =
        record { low = low; high = high; below = omega (arith, below); first = first; second = second }

    in_order : (a b : RowId) → StandIn xs a b → StandIn (y ∷ ys) a b → StandIn ys a b
    in_order a b s t = at_places a b s t.low t.high t.below t.first t.second

same_orders : (xs ys : List RowId) → OnlyOnce xs → OnlyOnce ys → IsWithin xs ys → xs ≡ ys
same_orders [] [] once once' is = refl
same_orders [] (y ∷ ys) once once' is = absurd (none-some y (is.back y (0, refl)).1)
same_orders (x ∷ xs) [] once once' is = absurd (none-some x (is.rows x (0, refl)).1)
same_orders (x ∷ xs) (y ∷ ys) once once' is =
    let same = same_first x xs y ys once once' is in
    let rest = same_orders xs ys (once_behind x xs once) (once_behind y ys once') (same_behind x xs y ys once once' same is) in
    ap₂ (λ a l. a ∷ l) same rest

-- ---- completions

-- what stands before a row in one completion stands before it in another
abbrev pub KeepsOrder : List Relation → Rankings → Rankings → Type 0
KeepsOrder relations c d = (rel attr : ℕ) (a b : RowId) → Before (lists_of c rel attr) a b → Before (lists_of d rel attr) a b

same_ranking : (relations : List Relation) (c d : Rankings) (rel attr ent : ℕ) (r : Relation)
    → IsCompletion relations c → IsCompletion relations d
    → KeepsOrder relations c d → slice_get relations rel ≡ Some r → attr < length r.attrs → ent < length r.entities
    → ranking_of c rel attr ent ≡ ranking_of d rel attr ent
same_ranking relations c d rel attr ent r is other keeps at inside ent_in =
    let here = is.ranked rel r at attr ent inside ent_in in
    let there = other.ranked rel r at attr ent inside ent_in in
    let xs = ranking_of c rel attr ent in
    let ys = ranking_of d rel attr ent in
    same_orders xs ys here.once there.once
    record {
      rows = λ row p. place_of ys row (there.all row (here.only row (at_place xs p.0 row p.1)));
      back = λ row p. place_of xs row (here.all row (there.only row (at_place ys p.0 row p.1)));
      order = λ a b s.
          in_list a b (here.only a (at_place xs s.low a s.first))
          (keeps rel attr a b record {
            ent = ent;
            low = s.low;
            high = s.high;
            below = s.below;
            first =
                s.first;
            second = s.second;
          });
    }
  where
    in_list : (a b : RowId) → entity_of r.rows a.0 ≡ Some ent → Before (lists_of d rel attr) a b
        → StandIn (ranking_of d rel attr ent) a b
    in_list a b of s =
        let same = before_in relations d rel attr ent r a b other at of s in
        record {
          low = s.low;
          high = s.high;
          below = s.below;
          first = ap (λ k. slice_get (ranking_of d rel attr k) s.low) (sym same) ∙ s.first;
          second = ap (λ k. slice_get (ranking_of d rel attr k) s.high) (sym same) ∙ s.second;
        }

-- lists that are as long, and have the same at each place, are one
lists_agree : {A : Type 0} (xs ys : List A) (d : A) → length xs ≡ length ys
    → ((k : ℕ) → k < length xs → slice_index_or xs k d ≡ slice_index_or ys k d) → xs ≡ ys
lists_agree xs ys d long each =
    same_lists xs ys long
    (λ k e below.
    let below' : k < length ys = subst (λ n. k < n) long below in
    get_or_from_slice_get xs k (get_or xs k d) e (slice_get-get_or xs k d below)
    ∙ (each k below ∙ sym (get_or_from_slice_get ys k (get_or ys k d) e (slice_get-get_or ys k d below'))))

same_attr : (relations : List Relation) (c d : Rankings) (rel attr : ℕ) (r : Relation) → IsCompletion relations c
    → IsCompletion relations d
    → KeepsOrder relations c d → slice_get relations rel ≡ Some r → attr < length r.attrs → lists_of c rel attr ≡
    lists_of d rel attr
same_attr relations c d rel attr r is other keeps at inside =
    let long = is.shape.per_entity rel r at attr inside in
    let long' = other.shape.per_entity rel r at attr inside in
    lists_agree (lists_of c rel attr) (lists_of d rel attr) [] (long ∙ sym long')
    (λ ent below. same_ranking relations c d rel attr ent r is other keeps at inside (subst (λ n. ent < n) long below))

same_relation : (relations : List Relation) (c d : Rankings) (rel : ℕ) (r : Relation) → IsCompletion relations c
    → IsCompletion relations d
    → KeepsOrder relations c d → slice_get relations rel ≡ Some r → slice_index_or c rel [] ≡ slice_index_or d rel []
same_relation relations c d rel r is other keeps at =
    let long = is.shape.per_attr rel r at in
    let long' = other.shape.per_attr rel r at in
    lists_agree (slice_index_or c rel []) (slice_index_or d rel []) [] (long ∙ sym long')
    (λ attr below. same_attr relations c d rel attr r is other keeps at (subst (λ n. attr < n) long below))

-- completions of which one keeps the order of the other are one
pub same_completion : (relations : List Relation) (c d : Rankings) → IsCompletion relations c
    → IsCompletion relations d → KeepsOrder relations c d → c ≡ d
same_completion relations c d is other keeps =
    lists_agree c d [] (is.shape.per_relation ∙ sym other.shape.per_relation) (λ rel below. at_relation rel below)
  where
    at_relation : (rel : ℕ) → rel < length c → slice_index_or c rel [] ≡ slice_index_or d rel []
    at_relation rel below =
        let within : rel < length relations = subst (λ n. rel < n) is.shape.per_relation below in
        ⊎_elim
        (λ p. same_relation relations c d rel p.0 is other keeps p.2)
        (λ p. absurd (omega (arith, p.0, within)))
        (slice_get_cases relations rel).1
