-- What is true of clauses and of the lists of their slots.
use Rattle.std.proofs.Common.{◌≡◌, ◌==◌, ◌⊎◌, ◌<◌, ◌+◌, ◌*◌, ◌/◌, ◌%◌, ◌∙◌, ℕ, zero, suc, cond, List, Option, Some, None, IfSome, All, length, get_or, map, slice_get, refl, sym, ap, subst, inl, inr, arith}
use Rattle.std.specs.Prelude.{option_map}
use Rattle.std.proofs.lemmas.List.{length-map}
use Rattle.std.proofs.lemmas.Bool.Decides.{eqb_tells}
use Rattle.std.proofs.lemmas.Option.{same_Some, slice_get-get_or, slice_get_within}
use Rattle.std.proofs.lemmas.List.Elements.{All-weaker}
use Rattle.currency_base.specs.Lists.{OnlyOnce}
use Rattle.currency_base.specs.declared.lit.Lit.{Lit}
use Rattle.watch_links.specs.Links.{IsIn, HasNoneTwice, coming_after, head_of, following, list_of}
use Rattle.watch_links.proofs.SlotLists.{Tells, before_in}
use Rattle.clause_arena.specs.declared.clause.ClauseNo.{ClauseNo}
use Rattle.clause_arena.specs.Arenas.{Arena, AreWatchers, AreWithin, IsWatched, place_of}
use Rattle.clause_arena.specs.Slots.{AreSlots, IsLinked, IsSide, IsWatching, clause_of, clauses_of}
use Rattle.clause_arena.proofs.Changed.{all_at}
use Rattle.clause_arena.proofs.Halves.{IsAlone, list_map, in_map, from_map, head_map, following_map, once_map}

-- the place of a literal is its number
place_is : (lit : Lit) → place_of lit ≡ lit.0
place_is lit = go (eqb_tells (lit.0 % 2) 1)
  where
    go : Tells (lit.0 % 2) 1 → 2 * (lit.0 / 2) + cond (lit.0 % 2 == 1) 1 0 ≡ lit.0
    go (inl h) = rw h.0 (omega (arith, h.1))
    go (inr h) = rw h.0 (omega (arith, h.1))

-- so two literals have two places
pub same_place : (a b : Lit) → place_of a ≡ place_of b → a ≡ b
same_place a b e =
    let literal : ℕ → Lit = λ n. record { 0 = n } in
    let same : a.0 ≡ b.0 = sym (place_is a) ∙ e ∙ place_is b in
    ap literal same

-- the clause of a slot
pub half : (clause side : ℕ) → side < 2 → clause_of (2 * clause + side) ≡ clause
half clause side few = omega (arith, few)

pub first_or_second : (side : ℕ) → side < 2 → (side ≡ 0) ⊎ (side ≡ 1)
first_or_second zero few = inl refl
first_or_second (suc zero) few = inr refl
first_or_second (suc (suc side)) few = absurd (omega arith)

-- the clause in two ways
pub same_lits : (clauses : List (List Lit)) (a b : ℕ) (xs ys : List Lit) → slice_get clauses a ≡ Some xs
    → slice_get clauses b ≡ Some ys → a ≡ b → xs ≡ ys
same_lits clauses a b xs ys x y e =
    let z : slice_get clauses a ≡ slice_get clauses b = ap (slice_get clauses) e in
    cc

-- a slot of a watched clause, in the list of the literal there
pub side_of : (clauses : List (List Lit)) (lists : List (List ℕ)) (owner slot clause side : ℕ) (lits : List Lit)
    (lit : Lit) → side < 2 → slot ≡ 2 * clause + side
    → IsLinked clauses lists clause → slice_get clauses clause ≡ Some lits → slice_get lits side ≡ Some lit
    → owner ≡ place_of lit → IsSide clauses lists owner slot
side_of clauses lists owner slot clause side lits lit few is_slot linked is_clause is_lit is_owner =
    let same : lits ≡ linked.lits = same_lits clauses clause clause lits linked.lits is_clause linked.is_clause refl in
    record {
      clause = clause;
      side = side;
      first_or_second = few;
      is_slot = is_slot;
      linked = linked;
      lit = lit;
      is_lit = ap (λ (ls : List Lit). slice_get ls side) (sym same) ∙ is_lit;
      is_owner = is_owner;
    }

-- what a caller sees of them
abbrev pub arena_of : List (List Lit) → List (List ℕ) → ℕ → ℕ → Arena
arena_of clauses lists clauses_left lits_left =
    record { clauses = clauses; watchers = clauses_of lists; clauses_left = clauses_left; lits_left = lits_left }

module _ (clauses : List (List Lit)) (slots : ℕ) (lists : List (List ℕ)) (are : AreSlots clauses slots lists) where
  -- no other slot of the list is of the same clause
  pub alone : (owner slot : ℕ) → IsIn slot (list_of lists owner) → IsAlone clause_of slot (list_of lists owner)
  alone owner slot i y j e =
      let a = are.sides owner slot i in
      let b = are.sides owner y j in
      let of_a : clause_of slot ≡ a.clause = ap clause_of a.is_slot ∙ half a.clause a.side a.first_or_second in
      let of_b : clause_of y ≡ b.clause = ap clause_of b.is_slot ∙ half b.clause b.side b.first_or_second in
      let same : b.clause ≡ a.clause = sym of_b ∙ e ∙ of_a in
      let lits : b.linked.lits ≡ a.linked.lits = same_lits clauses b.clause a.clause b.linked.lits a.linked.lits
      b.linked.is_clause a.linked.is_clause same in
      let lit : b.lit ≡ a.lit = same_place b.lit a.lit (sym b.is_owner ∙ a.is_owner) in
      let there : slice_get a.linked.lits b.side ≡ Some a.lit =
      ap (λ (ls : List Lit). slice_get ls b.side) (sym lits) ∙ b.is_lit ∙ ap (λ (l : Lit). Some l) lit in
      let once : OnlyOnce a.linked.lits = all_at OnlyOnce clauses a.clause a.linked.lits are.distinct a.linked.is_clause in
      let sides : b.side ≡ a.side = once b.side a.side a.lit there a.is_lit in
      b.is_slot ∙ ap (λ (c : ℕ). 2 * c + b.side) same ∙ ap (λ (s : ℕ). 2 * a.clause + s) sides ∙ sym a.is_slot

  -- a clause among the watchers of a literal has a slot in its list
  pub side_of_clause : (owner clause : ℕ) → IsIn clause (list_of (clauses_of lists) owner)
      → (slot : ℕ) × IsIn slot (list_of lists owner) × (s : IsSide clauses lists owner slot) × (s.clause ≡ clause)
  side_of_clause owner clause i =
      let j : IsIn clause (map clause_of (list_of lists owner)) = subst (IsIn clause)
      (list_map (map clause_of) refl lists owner) i in
      let r = from_map clause_of clause (list_of lists owner) j in
      let s = are.sides owner r.0 r.1 in
      let same : s.clause ≡ clause = sym (half s.clause s.side s.first_or_second) ∙ ap clause_of (sym s.is_slot) ∙ sym r.2 in
      (r.0, r.1, s, same)

  -- so it is watched
  pub linked_clause : (owner clause : ℕ) → IsIn clause (list_of (clauses_of lists) owner) → IsLinked clauses lists clause
  linked_clause owner clause i =
      let r = side_of_clause owner clause i in
      subst (IsLinked clauses lists) r.3 r.2.linked

  -- a slot of a clause in a list says that the clause is among its watchers
  pub clause_in : (owner clause side : ℕ) → side < 2 → IsIn (2 * clause + side) (list_of lists owner) → IsIn clause
      (list_of (clauses_of lists) owner)
  clause_in owner clause side few i =
      let j = in_map clause_of (2 * clause + side) (list_of lists owner) i in
      let k : IsIn clause (map clause_of (list_of lists owner)) =
      subst (λ (z : ℕ). IsIn z (map clause_of (list_of lists owner))) (half clause side few) j in
      subst (IsIn clause) (sym (list_map (map clause_of) refl lists owner)) k

  -- which clause follows a clause among the watchers of a literal
  pub following_seen : (owner clause side : ℕ) → side < 2 → IsIn (2 * clause + side) (list_of lists owner)
      → following clause (list_of (clauses_of lists) owner) ≡ option_map clause_of
      (following (2 * clause + side) (list_of lists owner))
  following_seen owner clause side few i =
      ap (following clause) (list_map (map clause_of) refl lists owner)
      ∙ ap (λ (z : ℕ). following z (map clause_of (list_of lists owner))) (sym (half clause side few))
      ∙ following_map clause_of (2 * clause + side) (list_of lists owner) (alone owner (2 * clause + side) i)

  -- and which is the first
  pub first_seen : (owner : ℕ) → head_of (list_of (clauses_of lists) owner) ≡ option_map clause_of (head_of (list_of lists owner))
  first_seen owner = ap head_of (list_map (map clause_of) refl lists owner) ∙ head_map clause_of (list_of lists owner)

  is_watched : (clauses_left lits_left owner clause : ℕ) → IsIn clause (list_of (clauses_of lists) owner)
      → IsWatched (arena_of clauses lists clauses_left lits_left) clause
  is_watched clauses_left lits_left owner clause i =
      let r = side_of_clause owner clause i in
      let linked : IsLinked clauses lists clause = linked_clause owner clause i in
      let some : Lit = r.2.lit in
      let first : Lit = get_or linked.lits 0 some in
      let second : Lit = get_or linked.lits 1 some in
      let is_first : slice_get linked.lits 0 ≡ Some first = slice_get-get_or linked.lits 0 some (omega (arith, linked.long)) in
      let is_second : slice_get linked.lits 1 ≡ Some second = slice_get-get_or linked.lits 1 some (omega (arith, linked.long)) in
      record {
        lits = linked.lits;
        is_clause = linked.is_clause;
        first = first;
        second = second;
        is_first = is_first;
        is_second = is_second;
        by_first = clause_in (place_of first) clause 0 (omega arith) (linked.by 0 first (omega arith) is_first);
        by_second = clause_in (place_of second) clause 1 (omega arith) (linked.by 1 second (omega arith) is_second);
      }

  is_among : (clauses_left lits_left : ℕ) (lit : Lit) (clause : ℕ)
      (w : IsWatched (arena_of clauses lists clauses_left lits_left) clause)
      → IsIn clause (list_of (clauses_of lists) (place_of lit)) → (lit ≡ w.first) ⊎ (lit ≡ w.second)
  is_among clauses_left lits_left lit clause w i =
      let r = side_of_clause (place_of lit) clause i in
      let s = r.2 in
      let lits : s.linked.lits ≡ w.lits = same_lits clauses s.clause clause s.linked.lits w.lits s.linked.is_clause
      w.is_clause r.3 in
      let same : lit ≡ s.lit = same_place lit s.lit s.is_owner in
      let there : slice_get w.lits s.side ≡ Some lit =
      ap (λ (ls : List Lit). slice_get ls s.side) (sym lits) ∙ s.is_lit ∙ ap (λ (l : Lit). Some l) (sym same) in
      go s.side there (first_or_second s.side s.first_or_second)
    where
      go : (side : ℕ) → slice_get w.lits side ≡ Some lit → (side ≡ 0) ⊎ (side ≡ 1) → (lit ≡ w.first) ⊎ (lit ≡ w.second)
      go side there (inl e) =
          let at : slice_get w.lits 0 ≡ Some lit = ap (slice_get w.lits) (sym e) ∙ there in
          let first = w.is_first in
          let same : lit ≡ w.first = cc in
          inl same
      go side there (inr e) =
          let at : slice_get w.lits 1 ≡ Some lit = ap (slice_get w.lits) (sym e) ∙ there in
          let second = w.is_second in
          let same : lit ≡ w.second = cc in
          inr same

  -- what a caller sees is true at any moment
  pub seen_watchers : (clauses_left lits_left : ℕ) → ((owner : ℕ) → HasNoneTwice (list_of lists owner))
      → AreWatchers (arena_of clauses lists clauses_left lits_left)
  seen_watchers clauses_left lits_left once =
      record {
        once = λ lit. subst HasNoneTwice (sym (list_map (map clause_of) refl lists (place_of lit)))
            (once_map clause_of (list_of lists (place_of lit)) (once (place_of lit)) (alone (place_of lit)));
        watched = λ lit clause i. is_watched clauses_left lits_left (place_of lit) clause i;
        among = λ lit clause w i. is_among clauses_left lits_left lit clause w i;
        distinct = are.distinct;
        within = All-weaker (All (λ (l : Lit). place_of l < length lists))
            (All (λ (l : Lit). place_of l < length (clauses_of lists)))
            (λ lits all. All-weaker (λ (l : Lit). place_of l < length lists) (λ (l : Lit). place_of l < length (clauses_of lists))
            (λ l h. omega (arith, h, length-map lists (map clause_of))) lits all) clauses are.within;
      }

-- what a caller says of the arena is true of its clauses and links
module _ (clauses : List (List Lit)) (slots : ℕ) (lists : List (List ℕ)) (are : AreSlots clauses slots lists)
    (clauses_left lits_left : ℕ) (a : Arena)
    (view : arena_of clauses lists clauses_left lits_left ≡ a) where
  pub seen_clauses : clauses ≡ a.clauses
  seen_clauses = ap (λ (v : Arena). v.clauses) view

  pub seen_lists : clauses_of lists ≡ a.watchers
  seen_lists = ap (λ (v : Arena). v.watchers) view

  pub seen_within : (lits : List Lit) → AreWithin a lits → All (λ (l : Lit). place_of l < length lists) lits
  seen_within lits within =
      let long : length a.watchers ≡ length lists = ap length (sym seen_lists) ∙ length-map lists (map clause_of) in
      subst (λ (n : ℕ). All (λ (l : Lit). place_of l < n) lits) long within

  pub seen_in : (owner clause : ℕ) → IsIn clause (list_of a.watchers owner) → IsIn clause (list_of (clauses_of lists) owner)
  seen_in owner clause i = subst (λ (ls : List (List ℕ)). IsIn clause (list_of ls owner)) (sym seen_lists) i

  -- a watcher of a literal: its clause, and the slot in the literal's list
  pub watcher_within : (owner clause : ℕ) → IsIn clause (list_of a.watchers owner) → clause < length clauses
  watcher_within owner clause i =
      let linked = linked_clause clauses slots lists are owner clause (seen_in owner clause i) in
      slice_get_within clauses clause linked.lits linked.is_clause

  pub watcher_watching : (lit : Lit) (clause : ℕ) → IsIn clause (list_of a.watchers (place_of lit))
      → IsWatching lists (place_of lit) clause
  watcher_watching lit clause i =
      let r = side_of_clause clauses slots lists are (place_of lit) clause (seen_in (place_of lit) clause i) in
      let s = r.2 in
      let linked = s.linked in
      let first = get_or linked.lits 0 s.lit in
      let second = get_or linked.lits 1 s.lit in
      let is_first = slice_get-get_or linked.lits 0 s.lit (omega (arith, linked.long)) in
      let is_second = slice_get-get_or linked.lits 1 s.lit (omega (arith, linked.long)) in
      let by_first : IsIn (2 * s.clause + 0) (list_of lists (place_of first)) = linked.by 0 first (omega arith) is_first in
      subst (IsWatching lists (place_of lit)) r.3
      (record {
        first_owner = place_of first;
        second_owner = place_of second;
        by_first = subst (λ (n : ℕ). IsIn n (list_of lists (place_of first))) (omega arith) by_first;
        by_second = linked.by 1 second (omega arith) is_second;
        is_one = one_of s.lit first second s.side s.linked.lits s.is_owner s.is_lit is_first is_second
            (first_or_second s.side s.first_or_second);
      })
    where
      one_of : (l first second : Lit) (side : ℕ) (lits : List Lit) → place_of lit ≡ place_of l → slice_get lits side ≡ Some l
          → slice_get lits 0 ≡ Some first → slice_get lits 1 ≡ Some second → (side ≡ 0) ⊎ (side ≡ 1)
          → (place_of lit ≡ place_of first) ⊎ (place_of lit ≡ place_of second)
      one_of l first second side lits same at is_first is_second (inl e) =
          inl (same ∙ ap place_of (same_Some l first (sym at ∙ ap (slice_get lits) e ∙ is_first)))
      one_of l first second side lits same at is_first is_second (inr e) =
          inr (same ∙ ap place_of (same_Some l second (sym at ∙ ap (slice_get lits) e ∙ is_second)))

-- the literal of a slot that stands in a list, whose place is its owner
pub slot_lit : (clauses : List (List Lit)) (slots : ℕ) (lists : List (List ℕ)) (owner clause side : ℕ) (lits : List Lit)
    → AreSlots clauses slots lists → side < 2 → IsIn (2 * clause + side) (list_of lists owner)
    → slice_get clauses clause ≡ Some lits
    → (lit : Lit) × (slice_get lits side ≡ Some lit) × (owner ≡ place_of lit)
slot_lit clauses slots lists owner clause side lits are few i is =
    let s = are.sides owner (2 * clause + side) i in
    let same : s.clause ≡ clause = omega (arith, s.is_slot, few, s.first_or_second) in
    let sides : s.side ≡ side = omega (arith, s.is_slot, few, s.first_or_second) in
    let here : s.linked.lits ≡ lits = same_lits clauses s.clause clause s.linked.lits lits s.linked.is_clause is same in (
      s.lit,
      ap (slice_get lits) (sym sides) ∙ ap (λ (ls : List Lit). slice_get ls s.side) (sym here) ∙ s.is_lit,
      s.is_owner,
    )

-- both slots of a watching clause are there
pub watching_below : (lists : List (List ℕ)) (slots owner clause : ℕ) → ((o s : ℕ) → IsIn s (list_of lists o) → s < slots)
    → IsWatching lists owner clause → 2 * clause + 1 < slots
watching_below lists slots owner clause within w = within w.second_owner (2 * clause + 1) w.by_second

-- the clause before one among the watchers of a literal watches it, too
pub before_watching : (clauses : List (List Lit)) (slots : ℕ) (lists : List (List ℕ)) (are : AreSlots clauses slots lists)
    (clauses_left lits_left : ℕ) (a : Arena) (view : arena_of clauses lists clauses_left lits_left ≡ a)
    (before : Option ClauseNo) (lit : Lit) (clause : ℕ)
    → coming_after (option_map (λ (no : ClauseNo). no.0) before) (list_of a.watchers (place_of lit)) ≡ Some clause
    → IfSome before (λ (no : ClauseNo). IsWatching lists (place_of lit) no.0)
before_watching clauses slots lists are clauses_left lits_left a view None lit clause comes = tt
before_watching clauses slots lists are clauses_left lits_left a view (Some earlier) lit clause comes =
    watcher_watching clauses slots lists are clauses_left lits_left a view lit earlier.0
    (before_in earlier.0 clause (list_of a.watchers (place_of lit)) comes)

-- a watched clause stands in the list of each of its first two literals
pub watched_slot : (clauses : List (List Lit)) (slots : ℕ) (lists : List (List ℕ)) (are : AreSlots clauses slots lists)
    (clauses_left lits_left : ℕ) (a : Arena) (view : arena_of clauses lists clauses_left lits_left ≡ a)
    (clause side : ℕ) (lits : List Lit) → IsWatched a clause → slice_get a.clauses clause ≡ Some lits → side < 2
    → (lit : Lit) × (slice_get lits side ≡ Some lit) × IsIn (2 * clause + side) (list_of lists (place_of lit))
watched_slot clauses slots lists are clauses_left lits_left a view clause side lits w is few =
    let watcher = seen_in clauses slots lists are clauses_left lits_left a view (place_of w.first) clause w.by_first in
    let linked = linked_clause clauses slots lists are (place_of w.first) clause watcher in
    let there = ap (λ (ls : List (List Lit)). slice_get ls clause)
    (seen_clauses clauses slots lists are clauses_left lits_left a view) ∙ is in
    let same = same_lits clauses clause clause linked.lits lits linked.is_clause there refl in
    let lit = get_or linked.lits side w.first in
    let at = slice_get-get_or linked.lits side w.first (omega (arith, linked.long, few)) in
    (lit, ap (λ (ls : List Lit). slice_get ls side) (sym same) ∙ at, linked.by side lit few at)
