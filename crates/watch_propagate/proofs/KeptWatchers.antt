-- The watched clauses of an arena that gets one more clause.
use Rattle.std.proofs.Common.{◌≡◌, ◌⊎◌, ◌<◌, ◌≤◌, ◌∙◌, ℕ, List, [], ◌∷◌, ◌++◌, Some, length, slice_get, refl, sym, ap, subst, inl, inr, arith}
use Rattle.std.proofs.lemmas.Bool.{cases_lt}
use Rattle.std.proofs.lemmas.List.{length-set, set_past, length_push}
use Rattle.std.proofs.lemmas.Option.{same_Some, slice_get_within}
use Rattle.currency_base.specs.declared.lit.Lit.{Lit}
use Rattle.watch_links.specs.Links.{IsIn, list_of, lists_with}
use Rattle.watch_links.proofs.ListsChanged.{in_lists_with, lists_with_has, lists_with_keeps}
use Rattle.clause_arena.specs.Arenas.{Arena, AreWithin, IsWatched, place_of, watchers_of, watching}
use Rattle.watch_propagate.specs.WatchRule.{HasAdded}
use Rattle.watch_propagate.proofs.KeptLists.{get_end, get_front, get_left, same_get}

-- ---- one clause

-- a clause of a number has the same literals, and the same first two, however it is told that it is watched
pub same_lits : (a : Arena) (clause : ℕ) (w v : IsWatched a clause) → w.lits ≡ v.lits
same_lits a clause w v = same_get a.clauses clause w.lits v.lits w.is_clause v.is_clause

pub same_first : (a : Arena) (clause : ℕ) (w v : IsWatched a clause) → w.first ≡ v.first
same_first a clause w v =
    same_get v.lits 0 w.first v.first (ap (λ (ls : List Lit). slice_get ls 0) (sym (same_lits a clause w v))
    ∙ w.is_first) v.is_first

pub same_second : (a : Arena) (clause : ℕ) (w v : IsWatched a clause) → w.second ≡ v.second
same_second a clause w v =
    same_get v.lits 1 w.second v.second (ap (λ (ls : List Lit). slice_get ls 1) (sym (same_lits a clause w v))
    ∙ w.is_second) v.is_second

-- ---- one more clause

-- what stood in a list stands there with one number more
keeps_with : (lists : List (List ℕ)) (owner slot other y : ℕ) → IsIn y (list_of lists other)
    → IsIn y (list_of (lists_with lists owner slot) other)
keeps_with lists owner slot other y i = go (cases_lt owner (length lists))
  where
    go : (owner < length lists) ⊎ (length lists ≤ owner) → IsIn y (list_of (lists_with lists owner slot) other)
    go (inl within) = lists_with_keeps lists owner slot within other y i
    go (inr past) = rw (set_past lists owner (slot ∷ list_of lists owner) past) i

-- and nothing else but that number
from_with : (lists : List (List ℕ)) (owner slot other y : ℕ) → (y ≡ slot → ⊥)
    → IsIn y (list_of (lists_with lists owner slot) other) → IsIn y (list_of lists other)
from_with lists owner slot other y differs i = go (cases_lt owner (length lists))
  where
    there : ((other ≡ owner) × (y ≡ slot)) ⊎ IsIn y (list_of lists other) → IsIn y (list_of lists other)
    there (inl h) = absurd (differs h.1)
    there (inr j) = j

    go : (owner < length lists) ⊎ (length lists ≤ owner) → IsIn y (list_of lists other)
    go (inl within) = there (in_lists_with lists owner slot within other y i)
    go (inr past) = subst (λ (ls : List (List ℕ)). IsIn y (list_of ls other))
        (set_past lists owner (slot ∷ list_of lists owner) past) i

keeps_watching : (lists : List (List ℕ)) (lits : List Lit) (slot other y : ℕ) → IsIn y (list_of lists other)
    → IsIn y (list_of (watching lists lits slot) other)
keeps_watching lists [] slot other y i = i
keeps_watching lists (first ∷ []) slot other y i = i
keeps_watching lists (first ∷ second ∷ rest) slot other y i =
    keeps_with (lists_with lists (place_of first) slot) (place_of second) slot other y
    (keeps_with lists (place_of first) slot other y i)

from_watching : (lists : List (List ℕ)) (lits : List Lit) (slot other y : ℕ) → (y ≡ slot → ⊥)
    → IsIn y (list_of (watching lists lits slot) other)
    → IsIn y (list_of lists other)
from_watching lists [] slot other y differs i = i
from_watching lists (first ∷ []) slot other y differs i = i
from_watching lists (first ∷ second ∷ rest) slot other y differs i =
    from_with lists (place_of first) slot other y differs
    (from_with (lists_with lists (place_of first) slot) (place_of second) slot other y differs i)

-- a watched clause is watched still
pub watched_added : (old new : Arena) (lits : List Lit) (clause : ℕ) → HasAdded old new lits → IsWatched old clause
    → IsWatched new clause
watched_added old new lits clause added w =
    record {
      lits = w.lits;
      is_clause = ap (λ (cs : List (List Lit)). slice_get cs clause) added.clauses ∙ get_left old.clauses (lits ∷ [])
          clause w.lits w.is_clause;
      first = w.first;
      second = w.second;
      is_first = w.is_first;
      is_second = w.is_second;
      by_first = by w.first w.by_first;
      by_second = by w.second w.by_second;
    }
  where
    by : (lit : Lit) → IsIn clause (watchers_of old lit) → IsIn clause (watchers_of new lit)
    by lit i =
        subst (λ (ls : List (List ℕ)). IsIn clause (list_of ls (place_of lit))) (sym added.watchers)
        (keeps_watching old.watchers lits (length old.clauses) (place_of lit) clause i)

-- a watched clause of an arena, which the other arena has with the same literals and first two
pub record WasWatched (old : Arena) (clause : ℕ) (lits : List Lit) (first second : Lit) : Type 0 where
  pub watched : IsWatched old clause
  pub is_lits : watched.lits ≡ lits
  pub is_first : watched.first ≡ first
  pub is_second : watched.second ≡ second

-- a watched clause is the added one, or was watched before
pub watched_before : (old new : Arena) (lits : List Lit) (clause : ℕ) → HasAdded old new lits →
    (clause ≡ length old.clauses → ⊥) → (w : IsWatched new clause)
    → WasWatched old clause w.lits w.first w.second
watched_before old new lits clause added differs w =
    record {
      watched = record {
        lits = w.lits;
        is_clause = get_front old.clauses (lits ∷ []) clause w.lits
            (omega (arith, differs, within, length_push old.clauses lits)) there;
        first = w.first;
        second = w.second;
        is_first = w.is_first;
        is_second = w.is_second;
        by_first = by w.first w.by_first;
        by_second = by w.second w.by_second;
      };
      is_lits = refl;
      is_first = refl;
      is_second = refl;
    }
  where
    there : slice_get (old.clauses ++ lits ∷ []) clause ≡ Some w.lits
    there = ap (λ (cs : List (List Lit)). slice_get cs clause) (sym added.clauses) ∙ w.is_clause

    within : clause < length (old.clauses ++ lits ∷ [])
    within = slice_get_within (old.clauses ++ lits ∷ []) clause w.lits there

    by : (lit : Lit) → IsIn clause (watchers_of new lit) → IsIn clause (watchers_of old lit)
    by lit i =
        from_watching old.watchers lits (length old.clauses) (place_of lit) clause differs
        (subst (λ (ls : List (List ℕ)). IsIn clause (list_of ls (place_of lit))) added.watchers i)

-- the literals of the added clause
pub added_lits : (old new : Arena) (lits : List Lit) → HasAdded old new lits → slice_get new.clauses
    (length old.clauses) ≡ Some lits
added_lits old new lits added =
    ap (λ (cs : List (List Lit)). slice_get cs (length old.clauses)) added.clauses ∙ get_end old.clauses lits

-- a list with an item at place 1 has two or more
pub record HasTwo (lits : List Lit) (first second : Lit) : Type 0 where
  pub rest : List Lit
  pub is : lits ≡ first ∷ second ∷ rest

pub two_at : (lits : List Lit) (first second : Lit) → slice_get lits 0 ≡ Some first → slice_get lits 1 ≡ Some second
    → HasTwo lits first second
two_at [] first second one other = let no : ⊥ = cc in absurd no
two_at (x ∷ []) first second one other = let no : ⊥ = cc in absurd no
two_at (x ∷ y ∷ rest) first second one other =
    let x_is : x ≡ first = same_Some x first one in
    let y_is : y ≡ second = same_Some y second other in
    record { rest = rest; is = ap (λ (z : Lit). z ∷ y ∷ rest) x_is ∙ ap (λ (z : Lit). first ∷ z ∷ rest) y_is }

-- the lists once the added clause watches its first literal
abbrev one_with : Arena → Lit → List (List ℕ)
one_with old first = lists_with old.watchers (place_of first) (length old.clauses)

-- the added clause watches its first two literals, where it has two or more
watched_last : (old new : Arena) (first second : Lit) (rest : List Lit) → HasAdded old new (first ∷ second ∷ rest)
    → place_of first < length old.watchers → place_of second < length old.watchers → IsWatched new (length old.clauses)
watched_last old new first second rest added first_within second_within =
    record {
      lits = first ∷ second ∷ rest;
      is_clause = added_lits old new (first ∷ second ∷ rest) added;
      first = first;
      second = second;
      is_first = refl;
      is_second = refl;
      by_first = seen first (keeps_with (one_with old first) (place_of second) (length old.clauses) (place_of first)
          (length old.clauses)
          (lists_with_has old.watchers (place_of first) (length old.clauses) first_within));
      by_second = seen second (lists_with_has (one_with old first) (place_of second) (length old.clauses)
          (omega (arith, second_within, as_many)));
    }
  where
    as_many : length (one_with old first) ≡ length old.watchers
    as_many = length-set old.watchers (place_of first) (length old.clauses ∷ list_of old.watchers (place_of first))

    seen : (lit : Lit) → IsIn (length old.clauses)
        (list_of (lists_with (one_with old first) (place_of second) (length old.clauses)) (place_of lit))
        → IsIn (length old.clauses) (watchers_of new lit)
    seen lit i = subst (λ (ls : List (List ℕ)). IsIn (length old.clauses) (list_of ls (place_of lit))) (sym added.watchers) i

pub added_is_watched : (old new : Arena) (lits : List Lit) (first second : Lit) (rest : List Lit)
    → HasAdded old new lits → lits ≡ first ∷ second ∷ rest
    → AreWithin old lits → IsWatched new (length old.clauses)
added_is_watched old new lits first second rest added is within =
    let here : HasAdded old new (first ∷ second ∷ rest) = subst (HasAdded old new) is added in
    let there : AreWithin old (first ∷ second ∷ rest) = subst (AreWithin old) is within in
    watched_last old new first second rest here (there 0 first (omega arith)) (there 1 first (omega arith))
