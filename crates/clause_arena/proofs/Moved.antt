-- A slot of a clause moves from the list of one literal to that of another, with which it changes places.
use Rattle.std.proofs.Common.{◌≡◌, ◌≢◌, ◌⊎◌, ◌<◌, ◌≤◌, ◌+◌, ◌*◌, ◌∙◌, ℕ, List, ◌∷◌, Option, Some, IfSome, None, All, length, get_or, map, slice_get, slice_set, refl, sym, ap, subst, inl, inr, arith}
use Rattle.std.specs.Prelude.{option_map}
use Rattle.std.proofs.lemmas.Bool.{cases_eq}
use Rattle.std.proofs.lemmas.List.{length-set}
use Rattle.std.proofs.lemmas.List.Elements.{All-set}
use Rattle.std.proofs.lemmas.Option.{none-some, same_Some, slice_get_within, slice_get-get_or}
use Rattle.currency_base.specs.Lists.{OnlyOnce}
use Rattle.currency_base.specs.declared.lit.Lit.{Lit}
use Rattle.watch_links.specs.Links.{IsIn, IsFree, coming_after, list_of, lists_with, lists_without, without}
use Rattle.watch_links.proofs.SlotLists.{owner_within, coming_in}
use Rattle.watch_links.proofs.ListsChanged.{in_lists_with, lists_with_has, lists_with_keeps, in_lists_without, lists_without_keeps}
use Rattle.clause_arena.specs.Arenas.{Arena, IsWatched, place_of}
use Rattle.clause_arena.specs.Slots.{AreSlots, IsLinked, IsSide, clause_of, clauses_of}
use Rattle.clause_arena.proofs.Changed.{get_same, get_other, all_at, exchanged_length, exchanged_from, exchanged_other, exchanged_once, exchanged_all}
use Rattle.clause_arena.proofs.Halves.{IsAlone, coming_map, list_map, lists_with_map, lists_without_map}
use Rattle.clause_arena.proofs.Sides.{half, same_lits, side_of, alone, linked_clause, arena_of, seen_in, seen_clauses}

-- the literals of a watched clause that are to change places
pub record CanMove (clauses : List (List Lit)) (slots : ℕ) (lists : List (List ℕ)) (clause from to : ℕ)
    (lits : List Lit) (left taken : Lit) : Type 0 where
  pub are : AreSlots clauses slots lists
  pub linked : IsLinked clauses lists clause
  pub is_clause : slice_get clauses clause ≡ Some lits
  pub is_left : slice_get lits from ≡ Some left
  pub is_taken : slice_get lits to ≡ Some taken
  pub low : from < 2
  pub high : 2 ≤ to

module _ (clauses : List (List Lit)) (slots : ℕ) (lists : List (List ℕ)) (clause from to : ℕ) (lits : List Lit) (left taken : Lit)
    (can : CanMove clauses slots lists clause from to lits left taken) where
  abbrev slot : ℕ
  slot = 2 * clause + from

  abbrev off : List (List ℕ)
  off = lists_without lists (place_of left) (2 * clause + from)

  abbrev on : List (List ℕ)
  on = lists_with off (place_of taken) (2 * clause + from)

  abbrev after : List Lit
  after = slice_set (slice_set lits from taken) to left

  same : lits ≡ can.linked.lits
  same = same_lits clauses clause clause lits can.linked.lits can.is_clause can.linked.is_clause refl

  linked_by : (side : ℕ) (lit : Lit) → side < 2 → slice_get lits side ≡ Some lit → IsIn (2 * clause + side)
      (list_of lists (place_of lit))
  linked_by side lit few is = can.linked.by side lit few (ap (λ (ls : List Lit). slice_get ls side) (sym same) ∙ is)

  -- the slot stands in the list that it is to leave
  pub stands_left : IsIn slot (list_of lists (place_of left))
  stands_left = linked_by from left can.low can.is_left

  -- behind the one before it, by the clause that a caller sees there
  pub comes_left : (behind : Option ℕ) → IfSome behind (λ s. IsIn s (list_of lists (place_of left)))
      → coming_after (option_map clause_of behind) (list_of (clauses_of lists) (place_of left)) ≡ Some clause
      → coming_after behind (list_of lists (place_of left)) ≡ Some slot
  comes_left behind stands comes = go (coming_after behind xs) refl
    where
      xs : List ℕ
      xs = list_of lists (place_of left)

      all_alone : (o : Option ℕ) → IfSome o (λ s. IsIn s xs) → IfSome o (λ s. IsAlone clause_of s xs)
      all_alone None i = tt
      all_alone (Some s) i = alone clauses slots lists can.are (place_of left) s i

      clauses_come : option_map clause_of (coming_after behind xs) ≡ Some clause
      clauses_come =
          sym (coming_map clause_of behind xs (all_alone behind stands))
          ∙ ap (coming_after (option_map clause_of behind)) (sym (list_map (map clause_of) refl lists (place_of left))) ∙ comes

      go : (o : Option ℕ) → coming_after behind xs ≡ o → coming_after behind xs ≡ Some slot
      go None e = absurd (none-some clause (sym (ap (option_map clause_of) e) ∙ clauses_come))
      go (Some s) e =
          let same : clause_of s ≡ clause = same_Some (clause_of s) clause (sym (ap (option_map clause_of) e) ∙ clauses_come) in
          let there : clause_of s ≡ clause_of slot = same ∙ sym (half clause from can.low) in
          let is_slot : s ≡ slot = alone clauses slots lists can.are (place_of left) slot stands_left s
          (coming_in behind s xs e) there in
          e ∙ ap (λ (n : ℕ). Some n) is_slot

  left_within : place_of left < length lists
  left_within = owner_within lists (place_of left) slot stands_left

  taken_within : place_of taken < length lists
  taken_within =
      let all = all_at (All (λ (l : Lit). place_of l < length lists)) clauses clause lits can.are.within can.is_clause in
      all_at (λ (l : Lit). place_of l < length lists) lits to taken all can.is_taken

  off_length : length off ≡ length lists
  off_length = length-set lists (place_of left) (without slot (list_of lists (place_of left)))

  -- and there is the list that it is to come to
  pub taken_inside : place_of taken < length off
  taken_inside = omega (arith, off_length, taken_within)

  pub moved_length : length on ≡ length lists
  moved_length = length-set off (place_of taken) (slot ∷ list_of off (place_of taken)) ∙ off_length

  differ : from ≢ to
  differ e = absurd (omega (arith, e, can.low, can.high))

  keeps : (owner y : ℕ) → IsIn y (list_of lists owner) → y ≢ slot → IsIn y (list_of on owner)
  keeps owner y i other =
      lists_with_keeps off (place_of taken) slot taken_inside owner y
      (lists_without_keeps lists (place_of left) slot left_within owner y i other)

  after_clause : slice_get (slice_set clauses clause after) clause ≡ Some after
  after_clause = get_same clauses clause after (slice_get_within clauses clause lits can.is_clause)

  linked_here : IsLinked (slice_set clauses clause after) on clause
  linked_here =
      record {
        lits = after;
        is_clause = after_clause;
        long = omega (
          arith,
          can.high,
          slice_get_within lits to taken can.is_taken,
          exchanged_length lits from to
              left taken can.is_left can.is_taken differ,
        );
        by = λ side lit few is. go side lit few is (cases_eq side from);
      }
    where
      go : (side : ℕ) (lit : Lit) → side < 2 → slice_get after side ≡ Some lit → (side ≡ from) ⊎ (side ≢ from)
          → IsIn (2 * clause + side) (list_of on (place_of lit))
      go side lit few is (inl e) =
          let there : slice_get after side ≡ Some taken = ap (slice_get after) e ∙ exchanged_from lits from to left
          taken can.is_left can.is_taken differ in
          let is_taken : taken ≡ lit = cc in
          let here : IsIn slot (list_of on (place_of taken)) = lists_with_has off (place_of taken) slot taken_inside in
          let at : IsIn (2 * clause + side) (list_of on (place_of taken)) =
          subst (λ (z : ℕ). IsIn (2 * clause + z) (list_of on (place_of taken))) (sym e) here in
          subst (λ (l : Lit). IsIn (2 * clause + side) (list_of on (place_of l))) is_taken at
      go side lit few is (inr d) =
          let high : side ≢ to = λ e. absurd (omega (arith, e, few, can.high)) in
          let was : slice_get lits side ≡ Some lit = sym (exchanged_other lits from to left taken can.is_left
          can.is_taken differ side d high) ∙ is in
          keeps (place_of lit) (2 * clause + side) (linked_by side lit few was) (λ e. d (omega (arith, e)))

  linked_other : (other : ℕ) → other ≢ clause → IsLinked clauses lists other → IsLinked (slice_set clauses clause after) on other
  linked_other other d l =
      record {
        lits = l.lits;
        is_clause = get_other clauses clause other after d ∙ l.is_clause;
        long = l.long;
        by = λ side lit few is. keeps (place_of lit) (2 * other + side) (l.by side lit few is)
            (λ e. d (omega (arith, e, few, can.low)));
      }

  sides : IsFree off slot → (owner y : ℕ) → IsIn y (list_of on owner) → IsSide (slice_set clauses clause after) on owner y
  sides free owner y i = go (in_lists_with off (place_of taken) slot taken_inside owner y i)
    where
      by_clause : (s : IsSide clauses lists owner y) → y ≢ slot → (s.clause ≡ clause) ⊎ (s.clause ≢ clause)
          → IsSide (slice_set clauses clause after) on owner y
      by_clause s other (inl e) =
          let d : s.side ≢ from = λ f. other (omega (arith, s.is_slot, e, f)) in
          let high : s.side ≢ to = λ f. absurd (omega (arith, f, s.first_or_second, can.high)) in
          let here : lits ≡ s.linked.lits = same_lits clauses clause s.clause lits s.linked.lits can.is_clause
          s.linked.is_clause (sym e) in
          let was : slice_get lits s.side ≡ Some s.lit = ap (λ (ls : List Lit). slice_get ls s.side) here ∙ s.is_lit in
          let now : slice_get after s.side ≡ Some s.lit = exchanged_other lits from to left taken can.is_left
          can.is_taken differ s.side d high ∙ was in
          side_of (slice_set clauses clause after) on owner y clause s.side after s.lit s.first_or_second
          (s.is_slot ∙ ap (λ (n : ℕ). 2 * n + s.side) e)
          linked_here after_clause now s.is_owner
      by_clause s other (inr d) =
          side_of (slice_set clauses clause after) on owner y s.clause s.side s.linked.lits s.lit s.first_or_second
          s.is_slot (linked_other s.clause d s.linked)
          (get_other clauses clause s.clause after d ∙ s.linked.is_clause) s.is_lit s.is_owner

      go : ((owner ≡ place_of taken) × (y ≡ slot)) ⊎ IsIn y (list_of off owner)
          → IsSide (slice_set clauses clause after) on owner y
      go (inl h) =
          side_of (slice_set clauses clause after) on owner y clause from after taken can.low h.1 linked_here after_clause
          (exchanged_from lits from to left taken can.is_left can.is_taken differ) h.0
      go (inr j) =
          let other : y ≢ slot = λ e. free owner (subst (λ (z : ℕ). IsIn z (list_of off owner)) e j) in
          let s = can.are.sides owner y (in_lists_without lists (place_of left) slot left_within owner y j) in
          by_clause s other (cases_eq s.clause clause)

  -- then the lists are those of the clauses with these literals in each other's places
  pub moved : IsFree off slot → AreSlots (slice_set clauses clause after) slots on
  moved free =
      let lits_within = all_at (All (λ (l : Lit). place_of l < length lists)) clauses clause lits can.are.within can.is_clause in
      let after_within = exchanged_all lits from to left taken can.is_left can.is_taken differ
      (λ (l : Lit). place_of l < length lists) lits_within in
      let lits_once = all_at OnlyOnce clauses clause lits can.are.distinct can.is_clause in
      let within = All-set (All (λ (l : Lit). place_of l < length lists)) clauses clause after after_within can.are.within in
      record {
        two_each = omega (arith, can.are.two_each, length-set clauses clause after);
        sides = sides free;
        distinct = All-set OnlyOnce clauses clause after (exchanged_once lits from to left taken can.is_left
            can.is_taken differ lits_once) can.are.distinct;
        within = subst (λ (n : ℕ). All (All (λ (l : Lit). place_of l < n)) (slice_set clauses clause after))
            (sym moved_length) within;
      }

  -- and a caller sees the watcher moved
  pub moved_watchers : clauses_of on ≡ lists_with (lists_without (clauses_of lists) (place_of left) clause)
      (place_of taken) clause
  moved_watchers =
      let here : clause_of slot ≡ clause = half clause from can.low in
      let alone_there = alone clauses slots lists can.are (place_of left) slot stands_left in
      lists_with_map clause_of off (place_of taken) slot
      ∙ ap (lists_with (clauses_of off) (place_of taken)) here
      ∙ ap (λ (ls : List (List ℕ)). lists_with ls (place_of taken) clause)
      (lists_without_map clause_of lists (place_of left) slot alone_there
      ∙ ap (lists_without (clauses_of lists) (place_of left)) here)

-- what a caller says of the arena is enough
pub can_move : (clauses : List (List Lit)) (slots : ℕ) (lists : List (List ℕ)) (clauses_left lits_left : ℕ)
    (a : Arena) (clause from to : ℕ) (lits : List Lit) (some : Lit)
    → AreSlots clauses slots lists → arena_of clauses lists clauses_left lits_left ≡ a → IsWatched a clause
    → slice_get clauses clause ≡ Some lits → from < 2 → 2 ≤ to
    → IfSome (slice_get a.clauses clause) (λ (ls : List Lit). to < length ls)
    → CanMove clauses slots lists clause from to lits (get_or lits from some) (get_or lits to some)
can_move clauses slots lists clauses_left lits_left a clause from to lits some are view w is low high within =
    let watcher = seen_in clauses slots lists are clauses_left lits_left a view (place_of w.first) clause w.by_first in
    let there : slice_get a.clauses clause ≡ Some lits =
    ap (λ (ls : List (List Lit)). slice_get ls clause)
    (sym (seen_clauses clauses slots lists are clauses_left lits_left a view)) ∙ is in
    let inside : to < length lits = subst (λ (o : Option (List Lit)). IfSome o (λ (ls : List Lit). to < length ls))
    there within in
    record {
      are = are;
      linked = linked_clause clauses slots lists are (place_of w.first) clause watcher;
      is_clause = is;
      is_left = slice_get-get_or lits from some (omega (arith, low, high, inside));
      is_taken = slice_get-get_or lits to some inside;
      low = low;
      high = high;
    }
