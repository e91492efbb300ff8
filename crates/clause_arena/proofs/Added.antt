-- One more clause, and its two slots in front of the lists of its first two literals.
use Rattle.std.proofs.Common.{◌≡◌, ◌⊎◌, ◌<◌, ◌+◌, ◌*◌, ◌∙◌, ℕ, zero, suc, List, [], ◌∷◌, ◌++◌, Some, All, length, slice_get, refl, sym, ap, subst, inl, inr, arith}
use Rattle.std.proofs.lemmas.List.{length-set, length_push}
use Rattle.std.proofs.lemmas.List.Elements.{All-push}
use Rattle.currency_base.specs.Lists.{OnlyOnce}
use Rattle.currency_base.specs.declared.lit.Lit.{Lit}
use Rattle.watch_links.specs.Links.{IsIn, list_of, lists_with}
use Rattle.watch_links.proofs.ListsChanged.{in_lists_with, lists_with_has, lists_with_keeps}
use Rattle.clause_arena.specs.Arenas.{place_of, watching}
use Rattle.clause_arena.specs.Slots.{AreSlots, IsLinked, IsSide, clause_of, clauses_of, linking}
use Rattle.clause_arena.proofs.Changed.{all_at}
use Rattle.clause_arena.proofs.Halves.{lists_with_map}
use Rattle.clause_arena.proofs.Sides.{half, side_of}

get_more : {A : Type 0} (xs : List A) (y : A) (i : ℕ) (x : A) → slice_get xs i ≡ Some x → slice_get (xs ++ y ∷ []) i ≡ Some x
get_more [] y i x is = let no : ⊥ = cc in absurd no
get_more (z ∷ xs) y zero x is = is
get_more (z ∷ xs) y (suc i) x is = get_more xs y i x is

get_end : {A : Type 0} (xs : List A) (y : A) → slice_get (xs ++ y ∷ []) (length xs) ≡ Some y
get_end [] y = refl
get_end (z ∷ xs) y = get_end xs y

module _ (clauses : List (List Lit)) (slots : ℕ) (lists : List (List ℕ)) (are : AreSlots clauses slots lists) where
  -- where each list holds what it held, the clauses are watched as they were
  linked_still : (lits : List Lit) (lists' : List (List ℕ)) → ((owner y : ℕ) → IsIn y (list_of lists owner)
      → IsIn y (list_of lists' owner)) → (clause : ℕ)
      → IsLinked clauses lists clause → IsLinked (clauses ++ lits ∷ []) lists' clause
  linked_still lits lists' keeps clause l =
      record {
        lits = l.lits;
        is_clause = get_more clauses lits clause l.lits l.is_clause;
        long = l.long;
        by = λ side lit few is. keeps (place_of lit) (2 * clause + side) (l.by side lit few is);
      }

  side_still : (lits : List Lit) (lists' : List (List ℕ)) → ((owner y : ℕ) → IsIn y (list_of lists owner)
      → IsIn y (list_of lists' owner)) → (owner slot : ℕ)
      → IsIn slot (list_of lists owner) → IsSide (clauses ++ lits ∷ []) lists' owner slot
  side_still lits lists' keeps owner slot i =
      let s = are.sides owner slot i in
      side_of (clauses ++ lits ∷ []) lists' owner slot s.clause s.side s.linked.lits s.lit s.first_or_second
      s.is_slot (linked_still lits lists' keeps s.clause s.linked)
      (get_more clauses lits s.clause s.linked.lits s.linked.is_clause) s.is_lit s.is_owner

  two_more : (lits : List Lit) → slots + 2 ≡ 2 * length (clauses ++ lits ∷ [])
  two_more lits = omega (arith, length_push clauses lits, are.two_each)

  within_more : (lits : List Lit) (n : ℕ) → n ≡ length lists → All (λ (l : Lit). place_of l < length lists) lits
      → All (All (λ (l : Lit). place_of l < n)) (clauses ++ lits ∷ [])
  within_more lits n same within =
      subst (λ (k : ℕ). All (All (λ (l : Lit). place_of l < k)) (clauses ++ lits ∷ [])) (sym same)
      (All-push (All (λ (l : Lit). place_of l < length lists)) clauses lits are.within within)

  unwatched : (lits : List Lit) → OnlyOnce lits → All (λ (l : Lit). place_of l < length lists) lits
      → AreSlots (clauses ++ lits ∷ []) (slots + 2) lists
  unwatched lits once within =
      record {
        two_each = two_more lits;
        sides = side_still lits lists (λ owner y i. i);
        distinct = All-push OnlyOnce clauses lits are.distinct once;
        within = within_more lits (length lists) refl within;
      }

  module _ (first second : Lit) (rest : List Lit) (within : All (λ (l : Lit). place_of l < length lists)
      (first ∷ second ∷ rest)) where
    abbrev one : List (List ℕ)
    one = lists_with lists (place_of first) slots

    abbrev both : List (List ℕ)
    both = lists_with one (place_of second) (slots + 1)

    first_within : place_of first < length lists
    first_within = all_at (λ (l : Lit). place_of l < length lists) (first ∷ second ∷ rest) 0 first within refl

    one_length : length one ≡ length lists
    one_length = length-set lists (place_of first) (slots ∷ list_of lists (place_of first))

    second_within : place_of second < length one
    second_within = omega (
      arith,
      one_length,
      all_at (λ (l : Lit). place_of l < length lists) (first ∷ second ∷ rest)
          1 second within refl,
    )

    keeps : (owner y : ℕ) → IsIn y (list_of lists owner) → IsIn y (list_of both owner)
    keeps owner y i =
        lists_with_keeps one (place_of second) (slots + 1) second_within owner y
        (lists_with_keeps lists (place_of first) slots first_within owner y i)

    new_linked : IsLinked (clauses ++ (first ∷ second ∷ rest) ∷ []) both (length clauses)
    new_linked =
        record {
          lits = first ∷ second ∷ rest;
          is_clause = get_end clauses (first ∷ second ∷ rest);
          long = omega arith;
          by = by;
        }
      where
        by : (side : ℕ) (lit : Lit) → side < 2 → slice_get (first ∷ second ∷ rest) side ≡ Some lit
            → IsIn (2 * length clauses + side) (list_of both (place_of lit))
        by zero lit few is =
            let same : first ≡ lit = cc in
            let here : IsIn slots (list_of both (place_of first)) =
            lists_with_keeps one (place_of second) (slots + 1) second_within (place_of first) slots
            (lists_with_has lists (place_of first) slots first_within) in
            let slot : slots ≡ 2 * length clauses + 0 = omega (arith, are.two_each) in
            let there : IsIn (2 * length clauses + 0) (list_of both (place_of first)) =
            subst (λ (z : ℕ). IsIn z (list_of both (place_of first))) slot here in
            subst (λ (l : Lit). IsIn (2 * length clauses + 0) (list_of both (place_of l))) same there
        by (suc zero) lit few is =
            let same : second ≡ lit = cc in
            let here : IsIn (slots + 1) (list_of both (place_of second)) = lists_with_has one (place_of second)
            (slots + 1) second_within in
            let slot : slots + 1 ≡ 2 * length clauses + 1 = omega (arith, are.two_each) in
            let there : IsIn (2 * length clauses + 1) (list_of both (place_of second)) =
            subst (λ (z : ℕ). IsIn z (list_of both (place_of second))) slot here in
            subst (λ (l : Lit). IsIn (2 * length clauses + 1) (list_of both (place_of l))) same there
        by (suc (suc side)) lit few is = absurd (omega arith)

    new_sides : (owner slot : ℕ) → IsIn slot (list_of both owner) → IsSide (clauses ++ (first ∷ second ∷ rest) ∷ [])
        both owner slot
    new_sides owner slot i = go (in_lists_with one (place_of second) (slots + 1) second_within owner slot i)
      where
        lower : ((owner ≡ place_of first) × (slot ≡ slots)) ⊎ IsIn slot (list_of lists owner)
            → IsSide (clauses ++ (first ∷ second ∷ rest) ∷ []) both owner slot
        lower (inl h) =
            side_of (clauses ++ (first ∷ second ∷ rest) ∷ []) both owner slot (length clauses) 0
            (first ∷ second ∷ rest) first (omega arith) (omega (arith, h.1, are.two_each))
            new_linked (get_end clauses (first ∷ second ∷ rest)) refl h.0
        lower (inr j) = side_still (first ∷ second ∷ rest) both keeps owner slot j

        go : ((owner ≡ place_of second) × (slot ≡ slots + 1)) ⊎ IsIn slot (list_of one owner)
            → IsSide (clauses ++ (first ∷ second ∷ rest) ∷ []) both owner slot
        go (inl h) =
            side_of (clauses ++ (first ∷ second ∷ rest) ∷ []) both owner slot (length clauses) 1
            (first ∷ second ∷ rest) second (omega arith) (omega (arith, h.1, are.two_each))
            new_linked (get_end clauses (first ∷ second ∷ rest)) refl h.0
        go (inr j) = lower (in_lists_with lists (place_of first) slots first_within owner slot j)

    watched : OnlyOnce (first ∷ second ∷ rest) → AreSlots (clauses ++ (first ∷ second ∷ rest) ∷ []) (slots + 2) both
    watched once =
        let long : length both ≡ length lists = length-set one (place_of second)
        ((slots + 1) ∷ list_of one (place_of second)) ∙ one_length in
        record {
          two_each = two_more (first ∷ second ∷ rest);
          sides = new_sides;
          distinct = All-push OnlyOnce clauses (first ∷ second ∷ rest) are.distinct once;
          within = within_more (first ∷ second ∷ rest) (length both) long within;
        }

  -- the lists with the slots of one more clause are those of the clauses with it
  pub added : (lits : List Lit) → OnlyOnce lits → All (λ (l : Lit). place_of l < length lists) lits
      → AreSlots (clauses ++ lits ∷ []) (slots + 2) (linking lists lits slots)
  added [] once within = unwatched [] once within
  added (first ∷ []) once within = unwatched (first ∷ []) once within
  added (first ∷ second ∷ rest) once within = watched first second rest within once

  pub added_length : (lits : List Lit) → length (linking lists lits slots) ≡ length lists
  added_length [] = refl
  added_length (first ∷ []) = refl
  added_length (first ∷ second ∷ rest) =
      length-set (lists_with lists (place_of first) slots) (place_of second)
      ((slots + 1) ∷ list_of (lists_with lists (place_of first) slots) (place_of second))
      ∙ length-set lists (place_of first) (slots ∷ list_of lists (place_of first))

  -- and a caller sees one more watcher of each of its first two literals
  pub added_watchers : (lits : List Lit) → clauses_of (linking lists lits slots) ≡ watching (clauses_of lists) lits
      (length clauses)
  added_watchers [] = refl
  added_watchers (first ∷ []) = refl
  added_watchers (first ∷ second ∷ rest) =
      let zeroth : clause_of slots ≡ length clauses = ap clause_of (omega (arith, are.two_each))
      ∙ half (length clauses) 0 (omega arith) in
      let next : clause_of (slots + 1) ≡ length clauses = ap clause_of (omega (arith, are.two_each))
      ∙ half (length clauses) 1 (omega arith) in
      lists_with_map clause_of (lists_with lists (place_of first) slots) (place_of second) (slots + 1)
      ∙ ap (lists_with (clauses_of (lists_with lists (place_of first) slots)) (place_of second)) next
      ∙ ap (λ (ls : List (List ℕ)). lists_with ls (place_of second) (length clauses))
      (lists_with_map clause_of lists (place_of first) slots ∙ ap (lists_with (clauses_of lists) (place_of first)) zeroth)
