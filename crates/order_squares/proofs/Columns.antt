-- Squares listed attribute by attribute and relation by relation.
use Rattle.std.proofs.Common.{◌≡◌, ◌⊎◌, ◌+◌, ◌<◌, ◌≤◌, ◌∙◌, ℕ, List, [], ◌∷◌, ◌++◌, Option, Some, None, All, length, get_or, slice_get, refl, sym, ap, subst, inl, inr, ⊎_elim, zero-add, arith}
use Rattle.std.specs.List.{range_with_len}
use Rattle.std.specs.Option.{option_map_or}
use Rattle.std.proofs.lemmas.List.{length_push, append_assoc}
use Rattle.std.proofs.lemmas.List.FromFn.{map-range_with_len_more, get_or-range_with_len, length-range_with_len}
use Rattle.std.proofs.lemmas.Option.{same_Some, none-some, slice_get-get_or, slice_get_within}
use Rattle.spec_model.specs.declared.relation.Relation.{Relation}
use Rattle.order_squares.specs.Entities.{count_of}
use Rattle.order_squares.specs.Squares.{attrs_of, square_at, column_of, StartsAt, IsNumbered, AreSquares, AreListed, GoesOn}
use Rattle.order_squares.specs.declared.square.Square.{Square}
use Rattle.order_squares.proofs.Places.{get_old, get_new, get_last, get_cases, get_only, get_mapped, get_map, item_at}

-- ---- the squares of an attribute

pub column_more : (rel attr n : ℕ) → column_of rel attr (n + 1) ≡ column_of rel attr n ++ square_at rel attr n ∷ []
column_more rel attr n = map-range_with_len_more (square_at rel attr) 0 n n (zero-add n)

pub add_more : (old mid new : List Square) (rel attr n : ℕ) → mid ≡ old ++ column_of rel attr n → new ≡ mid
    ++ square_at rel attr n ∷ []
    → new ≡ old ++ column_of rel attr (n + 1)
add_more old mid new rel attr n so_far pushed =
    pushed ∙ (ap (λ xs. xs ++ square_at rel attr n ∷ []) so_far
    ∙ (append_assoc old (column_of rel attr n) (square_at rel attr n ∷ []) ∙ ap (λ xs. old ++ xs) (sym (column_more rel attr n))))

number_at : (n i : ℕ) → i < n → slice_get (range_with_len 0 n) i ≡ Some i
number_at n i below =
    let within : i < length (range_with_len 0 n) = omega (arith, length-range_with_len 0 n, below) in
    slice_get-get_or (range_with_len 0 n) i 0 within ∙ ap Some (get_or-range_with_len 0 n i 0 below ∙ zero-add i)

column_has : (rel attr n i : ℕ) → i < n → slice_get (column_of rel attr n) i ≡ Some (square_at rel attr i)
column_has rel attr n i below = get_map (square_at rel attr) (range_with_len 0 n) i i (number_at n i below)

column_at : (rel attr n i : ℕ) (q : Square) → slice_get (column_of rel attr n) i ≡ Some q → (i < n) × (square_at rel attr i ≡ q)
column_at rel attr n i q at =
    let m = get_mapped (square_at rel attr) (range_with_len 0 n) i q at in
    let below : i < n = omega (arith, length-range_with_len 0 n, slice_get_within (range_with_len 0 n) i m.0 m.1) in
    (below, same_Some (square_at rel attr i) q (sym (column_has rel attr n i below) ∙ at))

-- ---- starts

pub start_one : (starts : List (List ℕ)) (rel attr a b : ℕ) → StartsAt starts rel attr a → StartsAt starts rel attr b → a ≡ b
start_one starts rel attr a b s t =
    let same = same_Some s.column t.column (sym s.is_column ∙ t.is_column) in
    same_Some a b (sym s.is_start ∙ (ap (λ column. slice_get column attr) same ∙ t.is_start))

start_old : (starts more : List (List ℕ)) (rel attr start : ℕ) → StartsAt starts rel attr start
    → StartsAt (starts ++ more) rel attr start
start_old starts more rel attr start s =
    record { column = s.column; is_column = get_old starts more rel s.column s.is_column; is_start = s.is_start }

start_new : (starts : List (List ℕ)) (column : List ℕ) (rel attr start : ℕ) → rel ≡ length starts
    → slice_get column attr ≡ Some start
    → StartsAt (starts ++ column ∷ []) rel attr start
start_new starts column rel attr start last at =
    record { column = column; is_column = ap (slice_get (starts ++ column ∷ [])) last ∙ get_last starts column; is_start = at }

start_cases : (starts : List (List ℕ)) (column : List ℕ) (rel attr start : ℕ) → StartsAt (starts ++ column ∷ []) rel attr start
    → StartsAt starts rel attr start ⊎ ((rel ≡ length starts) × (slice_get column attr ≡ Some start))
start_cases starts column rel attr start s = by (get_cases starts (column ∷ []) rel s.column s.is_column)
  where
    by : (slice_get starts rel ≡ Some s.column) ⊎
        ((j : ℕ) × (rel ≡ length starts + j) × (slice_get (column ∷ []) j ≡ Some s.column))
        → StartsAt starts rel attr start ⊎ ((rel ≡ length starts) × (slice_get column attr ≡ Some start))
    by (inl old) = inl (record { column = s.column; is_column = old; is_start = s.is_start })
    by (inr (j, e, at)) =
        let only = get_only column j s.column at in
        inr (omega (arith, e, only.0), ap (λ c. slice_get c attr) only.1 ∙ s.is_start)

start_grows : (starts : List (List ℕ)) (column more : List ℕ) (rel attr start : ℕ) → StartsAt (starts ++ column ∷ [])
    rel attr start
    → StartsAt (starts ++ (column ++ more) ∷ []) rel attr start
start_grows starts column more rel attr start s = by (start_cases starts column rel attr start s)
  where
    by : StartsAt starts rel attr start ⊎ ((rel ≡ length starts) × (slice_get column attr ≡ Some start))
        → StartsAt (starts ++ (column ++ more) ∷ []) rel attr start
    by (inl old) = start_old starts ((column ++ more) ∷ []) rel attr start old
    by (inr (last, at)) = start_new starts (column ++ more) rel attr start last (get_old column more attr start at)

-- ---- one attribute more

pub count_at : (relations : List Relation) (rel : ℕ) (r : Relation) → slice_get relations rel ≡ Some r
    → count_of relations rel ≡ length r.entities
count_at relations rel r at = ap (λ (o : Option Relation). option_map_or (λ (q : Relation). length q.entities) o 0) at

pub attrs_at : (relations : List Relation) (rel : ℕ) (r : Relation) → slice_get relations rel ≡ Some r
    → attrs_of relations rel ≡ length r.attrs
attrs_at relations rel r at = ap (λ (o : Option Relation). option_map_or (λ (q : Relation). length q.attrs) o 0) at

none_more : (relations : List Relation) (starts : List (List ℕ)) (old : List Square) → AreSquares relations starts old
    → AreSquares relations (starts ++ [] ∷ []) old
none_more relations starts old are = record {
  each = λ k q at.
      let n = are.each k q at in
      record {
        start = n.start;
        starts_at = start_old starts ([] ∷ []) q.rel.0 q.attr.0 n.start n.starts_at;
        within =
            n.within;
        number = n.number;
      };
  all = λ rel attr start ent s within.
      ⊎_elim (λ (o : StartsAt starts rel attr start). are.all rel attr start ent o within)
      (λ (h : (rel ≡ length starts) × (slice_get {X = ℕ} [] attr ≡ Some start)). absurd (none-some start h.1))
      (start_cases starts [] rel attr start s);
}

pub goes_none : (relation : Relation) (rel : ℕ) (old : List Square) → GoesOn relation rel old [] old
goes_none relation rel old = record { goes = λ relations starts many at are. none_more relations starts old are }

-- the squares of one attribute more of the last relation
module _ (relations : List Relation) (starts : List (List ℕ)) (column : List ℕ) (mid : List Square) (rel attr count : ℕ)
    (last : rel ≡ length starts) (many : attr ≡ length column) (counted : count_of relations rel ≡ count)
    (are : AreSquares relations (starts ++ column ∷ []) mid) where
  abbrev grown : List (List ℕ)
  grown = starts ++ (column ++ length mid ∷ []) ∷ []

  numbered_new : (k j : ℕ) (q : Square) → k ≡ length mid + j → (j < count) × (square_at rel attr j ≡ q)
      → IsNumbered relations grown q k
  numbered_new k j q e (below, is) = subst (λ (s : Square). IsNumbered relations grown s k) is (record {
    start = length mid;
    starts_at = start_new starts (column ++ length mid ∷ []) rel attr (length mid) last
        (ap (slice_get (column ++ length mid ∷ [])) many ∙ get_last column (length mid));
    within = omega (arith, counted, below);
    number = e;
  })

  each_more : (k : ℕ) (q : Square) → slice_get (mid ++ column_of rel attr count) k ≡ Some q → IsNumbered relations grown q k
  each_more k q at = by (get_cases mid (column_of rel attr count) k q at)
    where
      by : (slice_get mid k ≡ Some q) ⊎
          ((j : ℕ) × (k ≡ length mid + j) × (slice_get (column_of rel attr count) j ≡ Some q)) → IsNumbered relations grown q k
      by (inl old) =
          let n = are.each k q old in
          record {
            start = n.start;
            starts_at = start_grows starts column (length mid ∷ []) q.rel.0 q.attr.0 n.start n.starts_at;
            within = n.within;
            number = n.number;
          }
      by (inr (j, e, new)) = numbered_new k j q e (column_at rel attr count j q new)

  all_last : (rel' attr' start ent : ℕ) → rel' ≡ length starts → ent < count_of relations rel'
      → (slice_get column attr' ≡ Some start) ⊎ ((j : ℕ) × (attr' ≡ length column + j) ×
      (slice_get (length mid ∷ []) j ≡ Some start))
      → slice_get (mid ++ column_of rel attr count) (start + ent) ≡ Some (square_at rel' attr' ent)
  all_last rel' attr' start ent is_last within (inl at) =
      get_old mid (column_of rel attr count) (start + ent) (square_at rel' attr' ent)
      (are.all rel' attr' start ent (start_new starts column rel' attr' start is_last at) within)
  all_last rel' attr' start ent is_last within (inr (j, e, at)) =
      let only = get_only (length mid) j start at in
      let same_rel : rel ≡ rel' = omega (arith, last, is_last) in
      let same_attr : attr ≡ attr' = omega (arith, many, e, only.0) in
      let below : ent < count = subst (λ n. ent < n) (ap (count_of relations) (sym same_rel) ∙ counted) within in
      let stands = get_new mid (column_of rel attr count) ent (square_at rel attr ent) (column_has rel attr count ent below) in
      ap (λ n. slice_get (mid ++ column_of rel attr count) (n + ent)) (sym only.1)
      ∙ (stands ∙ ap Some (ap (λ n. square_at n attr ent) same_rel ∙ ap (λ n. square_at rel' n ent) same_attr))

  all_more : (rel' attr' start ent : ℕ) → StartsAt grown rel' attr' start → ent < count_of relations rel'
      → slice_get (mid ++ column_of rel attr count) (start + ent) ≡ Some (square_at rel' attr' ent)
  all_more rel' attr' start ent s within = by (start_cases starts (column ++ length mid ∷ []) rel' attr' start s)
    where
      by : StartsAt starts rel' attr' start ⊎
          ((rel' ≡ length starts) × (slice_get (column ++ length mid ∷ []) attr' ≡ Some start))
          → slice_get (mid ++ column_of rel attr count) (start + ent) ≡ Some (square_at rel' attr' ent)
      by (inl old) =
          get_old mid (column_of rel attr count) (start + ent) (square_at rel' attr' ent)
          (are.all rel' attr' start ent (start_old starts (column ∷ []) rel' attr' start old) within)
      by (inr (is_last, at)) = all_last rel' attr' start ent is_last within (get_cases column (length mid ∷ []) attr' start at)

  squares_more : AreSquares relations grown (mid ++ column_of rel attr count)
  squares_more = record { each = each_more; all = all_more }

pub goes_more : (relation : Relation) (rel attr : ℕ) (old mid : List Square) (column : List ℕ) → attr ≡ length column
    → GoesOn relation rel old column mid
    → GoesOn relation rel old (column ++ length mid ∷ []) (mid ++ column_of rel attr (length relation.entities))
goes_more relation rel attr old mid column many on = record {
  goes = λ relations starts last at are.
      squares_more relations starts column mid rel attr (length relation.entities) (sym last) many
      (count_at relations rel relation at)
      (on.goes relations starts last at are);
}

-- ---- all relations

-- the squares of the first relations
pub record AreListedTo (relations : List Relation) (starts : List (List ℕ)) (squares : List Square) (count : ℕ) : Type 0 where
  pub are_squares : AreSquares relations starts squares
  pub many : length starts ≡ count
  pub attrs : (rel : ℕ) (r : Relation) (column : List ℕ) → slice_get relations rel ≡ Some r → slice_get starts rel ≡ Some column
      → length column ≡ length r.attrs

pub listed_none : (relations : List Relation) → AreListedTo relations [] [] 0
listed_none relations = record {
  are_squares = record {
    each = λ k q at. absurd (none-some q at);
    all = λ rel attr start ent s within. absurd (none-some s.column s.is_column);
  };
  many = refl;
  attrs = λ rel r column at at_column. absurd (none-some column at_column);
}

pub listed_more : (relations : List Relation) (starts : List (List ℕ)) (old new : List Square) (rel : ℕ)
    (r : Relation) (column : List ℕ)
    → AreListedTo relations starts old rel → slice_get relations rel ≡ Some r → GoesOn r rel old column new
    → length column ≡ length r.attrs
    → AreListedTo relations (starts ++ column ∷ []) new (rel + 1)
listed_more relations starts old new rel r column are at on per_attr = record {
  are_squares = on.goes relations starts are.many at are.are_squares;
  many = length_push starts column ∙ ap (λ n. n + 1) are.many;
  attrs = λ k q c at_q at_c. by k q c at_q (get_cases starts (column ∷ []) k c at_c);
}
  where
    by : (k : ℕ) (q : Relation) (c : List ℕ) → slice_get relations k ≡ Some q
        → (slice_get starts k ≡ Some c) ⊎ ((j : ℕ) × (k ≡ length starts + j) × (slice_get (column ∷ []) j ≡ Some c))
        → length c ≡ length q.attrs
    by k q c at_q (inl old) = are.attrs k q c at_q old
    by k q c at_q (inr (j, e, at_c)) =
        let only = get_only column j c at_c in
        let same : k ≡ rel = omega (arith, e, only.0, are.many) in
        let one : r ≡ q = same_Some r q (sym at ∙ (ap (slice_get relations) (sym same) ∙ at_q)) in
        ap length (sym only.1) ∙ (per_attr ∙ ap (λ (x : Relation). length x.attrs) one)

pub listed_all : (relations : List Relation) (starts : List (List ℕ)) (squares : List Square) (count : ℕ)
    → length relations ≤ count
    → AreListedTo relations starts squares count → AreListed relations starts squares
listed_all relations starts squares count all are = record {
  are_squares = are.are_squares;
  has_start = λ rel attr below. by rel attr below (slice_get relations rel) refl;
}
  where
    by : (rel attr : ℕ) → attr < attrs_of relations rel → (o : Option Relation) → slice_get relations rel ≡ o →
        (start : ℕ) × StartsAt starts rel attr start
    by rel attr below None e =
        absurd (omega (arith, below, ap (λ (o : Option Relation). option_map_or (λ (q : Relation). length q.attrs) o 0) e))
    by rel attr below (Some r) e =
        let there : rel < length starts = omega (arith, slice_get_within relations rel r e, all, are.many) in
        let column = item_at starts rel there in
        let in_column : attr < length column.0 = omega (
          arith,
          are.attrs rel r column.0 e column.1,
          attrs_at relations rel r e,
          below,
        ) in
        let start = item_at column.0 attr in_column in
        (start.0, record { column = column.0; is_column = column.1; is_start = start.1 })

-- each square that is listed is of an entity of its relation
pub listed_within : (relations : List Relation) (starts : List (List ℕ)) (squares : List Square)
    → AreListed relations starts squares
    → All (λ q. q.ent.0 < count_of relations q.rel.0) squares
listed_within relations starts squares are k d below =
    (are.are_squares.each k (get_or squares k d) (slice_get-get_or squares k d below)).within

-- one attribute more, as the lists are told
pub record GoesNext (relation : Relation) (rel attr : ℕ) (old new : List Square) (column : List ℕ) : Type 0 where
  pub many : attr + 1 ≡ length column
  pub goes : GoesOn relation rel old column new

pub goes_next : (relation : Relation) (rel attr : ℕ) (old mid new : List Square) (column column' : List ℕ)
    → attr ≡ length column → GoesOn relation rel old column mid
    → column' ≡ column ++ length mid ∷ [] → new ≡ mid ++ column_of rel attr (length relation.entities)
    → GoesNext relation rel attr old new column'
goes_next relation rel attr old mid new column column' many on e e' = record {
  many = ap (λ n. n + 1) many ∙ (sym (length_push column (length mid)) ∙ ap length (sym e));
  goes = subst (λ (c : List ℕ). GoesOn relation rel old c new) (sym e)
      (subst (GoesOn relation rel old (column ++ length mid ∷ [])) (sym e') (goes_more relation rel attr old mid column many on));
}
