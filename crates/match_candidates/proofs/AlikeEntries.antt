-- Entities of one value among entities that stand by their values.
use Rattle.std.proofs.Common.{◌≡◌, ◌-◌, ◌<◌, ◌≤◌, ◌⊎◌, inl, inr, ℕ, zero, suc, true, Bor, List, [], ◌∷◌, ◌++◌, length, map, drop, get_or, slice_range, Some, refl, sym, ap, subst, ◌∙◌, arith}
use Rattle.std.specs.Cmp.{IsStrictWeakOrder}
use Rattle.std.specs.List.{Contains}
use Rattle.std.specs.List.Sorted.{IsNonDecreasingBy, IsPermutation}
use Rattle.std.specs.Ordering.{ordering_index}
use Rattle.std.proofs.lemmas.Bool.{cases_lt, ltb-true, leb-false}
use Rattle.std.proofs.lemmas.List.Elements.{All-contains, All-contains_itself, All-drop, All-take, All-weaker, Contains-append_left, Contains-push, Contains-push_cases}
use Rattle.std.proofs.lemmas.List.Sorted.{All-permutation, Contains-permutation, ranks_by, searchable_from_sorted}
use Rattle.currency_base.specs.Values.{value_cmp}
use Rattle.currency_base.specs.declared.ids.EntId.{EntId}
use Rattle.currency_base.specs.declared.value.Value.{Value}
use Rattle.spec_model.specs.declared.relation.Relation.{Relation}
use Rattle.ucq_answers.specs.TupleOrder.{value_total}
use Rattle.match_candidates.specs.Entries.{AddsEntries, AreAlike, AreEntries, EndsAt, HasEntry, IsByValue, StartsAt, is_lower, rank_to}
use Rattle.match_candidates.specs.Places.{has_in}
use Rattle.match_candidates.specs.Tables.{AreEntities}
use Rattle.match_candidates.specs.Ways.{AreChoices}
use Rattle.match_candidates.specs.declared.place_index.Entry.{Entry}
use Rattle.match_candidates.proofs.Among.{Among, from_contains, to_contains}
use Rattle.match_candidates.proofs.Values.{value_same}

pub lower_orders : IsStrictWeakOrder is_lower
lower_orders = ranks_by value_total (λ (e : Entry). e.value.now)

pub ranks_rise : (r : Relation) (place : ℕ) (entries : List Entry) (value : Value) → IsByValue r place entries
    → IsNonDecreasingBy (rank_to value) entries
ranks_rise r place entries value is = searchable_from_sorted value_total (λ (e : Entry). e.value.now) entries value is.sorted

-- ---- where the entities of a value start and end

ordered : (value : Value) (entries : List Entry) (start end : ℕ) (any : Entry) → start ≤ length entries
    → StartsAt value entries start
    → EndsAt value entries end → start ≤ end
ordered value entries start end any inside starts ends = by (cases_lt end start)
  where
    by : (end < start) ⊎ (start ≤ end) → start ≤ end
    by (inr is) = is
    by (inl crossed) =
        let low = ltb-true _ 1 (starts.0 end any (omega arith) crossed) in
        let high = leb-false _ 1 (ends.1 end any (omega arith) (omega (arith, crossed, inside))) in
        absurd (omega (arith, low, high))

pub in_order : (value : Value) (entries : List Entry) (start end : ℕ) → start ≤ length entries → StartsAt value entries start
    → EndsAt value entries end → start ≤ end
in_order value [] start end inside starts ends = omega (arith, inside)
in_order value (any ∷ entries) start end inside starts ends = ordered value (any ∷ entries) start end any inside starts ends

-- an item from a first place on, and before a last one
read_range : {A : Type 0} (xs : List A) (start end k : ℕ) (x : A) → start ≤ k → k < end → end ≤ length xs
    → get_or xs k x ≡ x → Contains (slice_range xs start end) x
read_range [] start end k x from below inside at = absurd (omega (arith, from, below, inside))
read_range (y ∷ xs) zero zero k x from below inside at = absurd (omega (arith, below))
read_range (y ∷ xs) zero (suc end) zero x from below inside at = let more : suc end - 0 ≡ suc (end - 0) =
    omega arith in rw more (0, omega arith, at)
read_range (y ∷ xs) zero (suc end) (suc k) x from below inside at =
    let more : suc end - 0 ≡ suc (end - 0) = omega arith in
    let rest = read_range xs zero end k x (omega arith) (omega (arith, below)) (omega (arith, inside)) at in
    rw more (suc rest.0, omega (arith, rest.1), rest.2)
read_range (y ∷ xs) (suc start) zero k x from below inside at = absurd (omega (arith, below))
read_range (y ∷ xs) (suc start) (suc end) zero x from below inside at = absurd (omega (arith, from))
read_range (y ∷ xs) (suc start) (suc end) (suc k) x from below inside at =
    let less : suc end - suc start ≡ end - start = omega arith in
    rw less (read_range xs start end k x (omega (arith, from)) (omega (arith, below)) (omega (arith, inside)) at)

pub alike_entries : (r : Relation) (place : ℕ) (value : Value) (entries : List Entry) (start end : ℕ) → IsByValue r place entries
    → start ≤ length entries → end ≤ length entries → StartsAt value entries start → EndsAt value entries end
    → AreAlike r place value (slice_range entries start end)
alike_entries r place value entries start end is inside within starts ends = record {
  within = All-take (λ (e : Entry). e.ent.0 < length r.entities) (end - start) (drop start entries)
      (All-drop (λ (e : Entry). e.ent.0 < length r.entities) start entries is.are.within);
  all = λ ent low has. at ent (is.are.all ent value low has);
}
  where
    at : (ent : EntId) → HasEntry entries ent value → HasEntry (slice_range entries start end) ent value
    at ent found = record {
      entry = found.entry;
      is_in = read_range entries start end found.is_in.0 found.entry (from (cases_lt found.is_in.0 start)) (before
          (cases_lt found.is_in.0 end)) within found.is_in.2;
      of = found.of;
      has = found.has;
    }
      where
        rank : rank_to value (get_or entries found.is_in.0 found.entry) ≡ 1
        rank = ap (rank_to value) found.is_in.2 ∙ ap (λ v. ordering_index (value_cmp v value)) found.has
            ∙ ap ordering_index (value_same value)

        from : (found.is_in.0 < start) ⊎ (start ≤ found.is_in.0) → start ≤ found.is_in.0
        from (inr is) = is
        from (inl low) = let below = ltb-true _ 1 (starts.0 found.is_in.0 found.entry (omega arith) low) in
            absurd (omega (arith, below, rank))

        before : (found.is_in.0 < end) ⊎ (end ≤ found.is_in.0) → found.is_in.0 < end
        before (inl is) = is
        before (inr high) = let above = leb-false _ 1 (ends.1 found.is_in.0 found.entry high found.is_in.1) in
            absurd (omega (arith, above, rank))

-- ---- entities that are put one after another

pub in_order_still : (r : Relation) (place : ℕ) (xs ys : List Entry) → IsPermutation xs ys → AreEntries r place xs
    → AreEntries r place ys
in_order_still r place xs ys same are = record {
  within = All-permutation (λ (e : Entry). e.ent.0 < length r.entities) xs ys same are.within;
  all = λ ent x low has.
      let found = are.all ent x low has in
      record {
        entry = found.entry;
        is_in = Contains-permutation xs ys found.entry same found.is_in;
        of = found.of;
        has =
            found.has;
      };
}

among_front : {A : Type 0} (xs ys : List A) (x : A) → Among xs x → Among (xs ++ ys) x
among_front [] ys x is = absurd is
among_front (z ∷ xs) ys x (inl same) = inl same
among_front (z ∷ xs) ys x (inr more) = inr (among_front xs ys x more)

among_back : {A : Type 0} (xs ys : List A) (x : A) → Among ys x → Among (xs ++ ys) x
among_back [] ys x is = is
among_back (z ∷ xs) ys x is = inr (among_back xs ys x is)

among_either : {A : Type 0} (xs ys : List A) (x : A) → Among (xs ++ ys) x → Among xs x ⊎ Among ys x
among_either [] ys x is = inr is
among_either (z ∷ xs) ys x (inl same) = inl (inl same)
among_either {A} (z ∷ xs) ys x (inr more) = by (among_either xs ys x more)
  where
    by : Among xs x ⊎ Among ys x → Among (z ∷ xs) x ⊎ Among ys x
    by (inl is) = inl (inr is)
    by (inr is) = inr is

-- an item of a list that was mapped, and what it was made of
pub unmapped : {A B : Type 0} (f : A → B) (xs : List A) (y : B) → Among (map f xs) y → (x : A) × Among xs x × (f x ≡ y)
unmapped f [] y is = absurd is
unmapped f (x ∷ xs) y (inl same) = (x, inl refl, same)
unmapped f (x ∷ xs) y (inr more) = let rest = unmapped f xs y more in (rest.0, inr rest.1, rest.2)

pub mapped : {A B : Type 0} (f : A → B) (xs : List A) (x : A) → Among xs x → Among (map f xs) (f x)
mapped f [] x is = is
mapped f (y ∷ ys) x (inl same) = inl (ap f same)
mapped f (y ∷ ys) x (inr more) = inr (mapped f ys x more)

abbrev pub entry_of : EntId → Bor Value → Entry
entry_of ent v = record { value = v; ent = ent }

pub added_entries : (r : Relation) (place : ℕ) (ent : EntId) (values : List (Bor Value)) (old new : List Entry)
    → AreChoices (Some r) ent place (map (λ (v : Bor Value). v.now) values) → new ≡ old ++ map (entry_of ent) values
    → AddsEntries r place ent old new
added_entries r place ent values old new are pushed = record {
  kept = λ e is. subst (λ l. Contains l e) (sym pushed) (to_contains _ e (among_front old (map (entry_of ent) values) e
      (from_contains old e is)));
  each = λ e is. each e (among_either old (map (entry_of ent) values) e (from_contains _ e (subst
      (λ l. Contains l e) pushed is)));
  all = λ x has. all x (unmapped (λ (v : Bor Value). v.now) values x (from_contains _ x (are.all x has)));
}
  where
    each : (e : Entry) → Among old e ⊎ Among (map (entry_of ent) values) e → Contains old e ⊎ (e.ent ≡ ent)
    each e (inl was) = inl (to_contains old e was)
    each e (inr is) = let from = unmapped (entry_of ent) values e is in inr (ap (λ (f : Entry). f.ent) (sym from.2))

    all : (x : Value) → (v : Bor Value) × Among values v × (v.now ≡ x) → HasEntry new ent x
    all x v = record {
      entry = entry_of ent v.0;
      is_in = subst (λ l. Contains l (entry_of ent v.0)) (sym pushed)
          (to_contains _ (entry_of ent v.0) (among_back old (map (entry_of ent) values) (entry_of ent v.0) (mapped
          (entry_of ent) values v.0 v.1)));
      of = refl;
      has = v.2;
    }

-- those of some entities
pub record AreOfEntities (r : Relation) (place : ℕ) (ents : List EntId) (entries : List Entry) : Type 0 where
  pub each : (e : Entry) → Contains entries e → Contains ents e.ent
  pub all : (ent : EntId) (x : Value) → Contains ents ent → has_in r ent place x ≡ true → HasEntry entries ent x

pub none_of : (r : Relation) (place : ℕ) → AreOfEntities r place [] []
none_of r place = record {
  each = λ e is. absurd (from_contains [] e is);
  all = λ ent x is has. absurd (from_contains [] ent is);
}

pub more_of : (r : Relation) (place : ℕ) (ents now : List EntId) (ent : EntId) (old new : List Entry) → now ≡ ents ++ ent ∷ []
    → AddsEntries r place ent old new → AreOfEntities r place ents old → AreOfEntities r place now new
more_of r place ents now ent old new after adds are = record {
  each = λ e is. subst (λ l. Contains l e.ent) (sym after) (each e (adds.each e is));
  all = λ one x is has. all one x (Contains-push_cases ents ent one (subst (λ l. Contains l one) after is)) has;
}
  where
    each : (e : Entry) → Contains old e ⊎ (e.ent ≡ ent) → Contains (ents ++ ent ∷ []) e.ent
    each e (inl was) = Contains-append_left ents (ent ∷ []) e.ent (are.each e was)
    each e (inr same) = subst (Contains (ents ++ ent ∷ [])) (sym same) (Contains-push ents ent)

    all : (one : EntId) (x : Value) → Contains ents one ⊎ (ent ≡ one) → has_in r one place x ≡ true → HasEntry new one x
    all one x (inl before) has =
        let found = are.all one x before has in
        record { entry = found.entry; is_in = adds.kept found.entry found.is_in; of = found.of; has = found.has }
    all one x (inr same) has = subst (λ e. HasEntry new e x) same (adds.all x (ap (λ e. has_in r e place x) same ∙ has))

pub all_of : (r : Relation) (place : ℕ) (all : List EntId) (entries : List Entry) → AreEntities r all
    → AreOfEntities r place all entries
    → AreEntries r place entries
all_of r place all entries are of = record {
  within = All-weaker (Contains entries) (λ (e : Entry). e.ent.0 < length r.entities)
      (λ e is. All-contains (λ (ent : EntId). ent.0 < length r.entities) all e.ent are.within (of.each e is)) entries
      (All-contains_itself entries);
  all = λ ent x low has. of.all ent x (are.each ent low) has;
}
