-- The slots of a clause are taken off the lists.
use Rattle.std.proofs.Common.{◌≡◌, ◌≢◌, ◌==◌, ◌⊎◌, ◌<◌, ◌≤◌, ◌+◌, ◌*◌, ◌∙◌, ℕ, Bool, true, false, not, cond, List, [], ◌∷◌, Option, Some, IfSome, None, All, length, get_or, map, slice_get, slice_set, refl, sym, ap, subst, inl, inr, arith}
use Rattle.std.specs.List.{filter}
use Rattle.std.proofs.lemmas.List.{length-map, length-set, set-set, set-get_or, get_or-set_same, ext_get_or}
use Rattle.std.proofs.lemmas.Option.{same_Some, slice_get-get_or}
use Rattle.std.proofs.lemmas.Bool.{cases_eq, ne_eqb}
use Rattle.std.proofs.lemmas.Bool.Decides.{eqb_tells}
use Rattle.currency_base.specs.declared.lit.Lit.{Lit}
use Rattle.watch_links.specs.Links.{IsIn, HasNoneTwice, coming_after, head_of, following, without, rest_from, list_of, lists_without}
use Rattle.watch_links.proofs.SlotLists.{Tells, coming_in, cut_follows, in_without, not_in_without, rest_at_head, rest_at_end, rest_is, rest_without}
use Rattle.watch_links.proofs.ListsChanged.{changed_or_same}
use Rattle.clause_arena.specs.Arenas.{Arena, place_of}
use Rattle.clause_arena.specs.Slots.{AreSlots, IsLinked, IsSide, clause_of, is_of_other}
use Rattle.clause_arena.proofs.Changed.{all_at}
use Rattle.clause_arena.proofs.Halves.{list_map, in_filter, stays_in_filter}
use Rattle.clause_arena.proofs.Sides.{arena_of, first_or_second, half, same_lits, seen_clauses, side_of}

-- the lists without the slots of clauses that fail a test
module _ (clauses : List (List Lit)) (slots : ℕ) (lists : List (List ℕ)) (are : AreSlots clauses slots lists) (p : ℕ → Bool) where
  abbrev left : List (List ℕ)
  left = map (filter (λ (slot : ℕ). p (clause_of slot))) lists

  left_list : (owner : ℕ) → list_of left owner ≡ filter (λ (slot : ℕ). p (clause_of slot)) (list_of lists owner)
  left_list owner = list_map (filter (λ (slot : ℕ). p (clause_of slot))) refl lists owner

  linked_left : (clause : ℕ) → IsLinked clauses lists clause → p clause ≡ true → IsLinked clauses left clause
  linked_left clause l passes =
      record {
        lits = l.lits;
        is_clause = l.is_clause;
        long = l.long;
        by = λ side lit few is.
            let at : p (clause_of (2 * clause + side)) ≡ true = ap p (half clause side few) ∙ passes in
            subst (IsIn (2 * clause + side)) (sym (left_list (place_of lit)))
            (stays_in_filter (λ (slot : ℕ). p (clause_of slot)) (2 * clause + side) (list_of lists (place_of lit))
            (l.by side lit few is) at);
      }

  sides : (owner slot : ℕ) → IsIn slot (list_of left owner) → IsSide clauses left owner slot
  sides owner slot i =
      let r = in_filter (λ (y : ℕ). p (clause_of y)) slot (list_of lists owner) (subst (IsIn slot) (left_list owner) i) in
      let s = are.sides owner slot r.0 in
      let passes : p s.clause ≡ true = ap p (sym (half s.clause s.side s.first_or_second) ∙ ap clause_of (sym s.is_slot)) ∙ r.1 in
      side_of clauses left owner slot s.clause s.side s.linked.lits s.lit s.first_or_second s.is_slot
      (linked_left s.clause s.linked passes)
      s.linked.is_clause s.is_lit s.is_owner

  pub dropped : AreSlots clauses slots left
  dropped =
      record {
        two_each = are.two_each;
        sides = sides;
        distinct = are.distinct;
        within = subst (λ (n : ℕ). All (All (λ (l : Lit). place_of l < n)) clauses)
            (sym (length-map lists (filter (λ (slot : ℕ). p (clause_of slot))))) are.within;
      }

-- a slot that fails the test makes no difference to what passes
filter_without : (p : ℕ → Bool) (slot : ℕ) (xs : List ℕ) → p slot ≡ false → filter p (without slot xs) ≡ filter p xs
unfolding without
filter_without p slot [] fails = refl
filter_without p slot (x ∷ xs) fails = go (eqb_tells slot x) (filter_without p slot xs fails)
  where
    step : (b : Bool) → filter p (without slot xs) ≡ filter p xs → cond b (x ∷ filter p (without slot xs))
        (filter p (without slot xs)) ≡ cond b (x ∷ filter p xs) (filter p xs)
    step true more = ap (λ (ys : List ℕ). x ∷ ys) more
    step false more = more

    go : Tells slot x → filter p (without slot xs) ≡ filter p xs
        → filter p (cond (slot == x) xs (x ∷ without slot xs)) ≡ cond (p x) (x ∷ filter p xs) (filter p xs)
    go (inl h) more =
        let fails_here : p x ≡ false = ap p (sym h.1) ∙ fails in
        rw (h.0, fails_here) refl
    go (inr h) more = rw h.0 (step (p x) more)

-- where all pass, the filter leaves all
filter_all : (p : ℕ → Bool) (xs : List ℕ) → ((y : ℕ) → IsIn y xs → p y ≡ true) → filter p xs ≡ xs
filter_all p [] all = refl
filter_all p (x ∷ xs) all =
    let here : p x ≡ true = all x (inl refl) in
    rw here (ap (λ (ys : List ℕ). x ∷ ys) (filter_all p xs (λ y i. all y (inr i))))

-- a walk over an owner's list takes off what fails the test: it is at a slot, or at the end, and knows the slot before
pub record IsDropping (p : ℕ → Bool) (before at : Option ℕ) (owner : ℕ) (now was : List (List ℕ)) : Type 0 where
  pub comes : coming_after before (list_of now owner) ≡ at
  pub others : now ≡ slice_set was owner (list_of now owner)
  pub same : filter p (list_of now owner) ≡ filter p (list_of was owner)
  pub passed : (y : ℕ) → IsIn y (list_of now owner) → IsIn y (rest_from at (list_of now owner)) ⊎ (p y ≡ true)
  pub owners : owner < length now

set_itself : (lists : List (List ℕ)) (owner : ℕ) → slice_set lists owner (list_of lists owner) ≡ lists
set_itself lists owner = set-get_or lists owner []

pub drop_begins : (p : ℕ → Bool) (at : Option ℕ) (owner : ℕ) (lists : List (List ℕ)) → owner < length lists
    → at ≡ head_of (list_of lists owner)
    → IsDropping p None at owner lists lists
drop_begins p at owner lists within first =
    rw first (record {
      comes = refl;
      others = sym (set_itself lists owner);
      same = refl;
      passed = λ y i. inl (rw (rest_at_head (list_of lists owner)) i);
      owners = within;
    })

pub drop_comes : (p : ℕ → Bool) (before at : Option ℕ) (owner : ℕ) (now was : List (List ℕ)) (slot : ℕ)
    → IsDropping p before at owner now was → at ≡ Some slot
    → coming_after before (list_of now owner) ≡ Some slot
drop_comes p before at owner now was slot d is = d.comes ∙ is

pub drop_stands : (p : ℕ → Bool) (before at : Option ℕ) (owner : ℕ) (now was : List (List ℕ)) (slot : ℕ)
    → IsDropping p before at owner now was → at ≡ Some slot
    → IsIn slot (list_of now owner)
drop_stands p before at owner now was slot d is = coming_in before slot (list_of now owner) (d.comes ∙ is)

rest_now : (p : ℕ → Bool) (before at : Option ℕ) (owner : ℕ) (now was : List (List ℕ)) (slot : ℕ)
    → IsDropping p before at owner now was → at ≡ Some slot → HasNoneTwice (list_of now owner)
    → rest_from at (list_of now owner) ≡ slot ∷ rest_from (following slot (list_of now owner)) (list_of now owner)
rest_now p before at owner now was slot d is once =
    ap (λ (o : Option ℕ). rest_from o (list_of now owner)) is ∙ rest_is slot (list_of now owner) once
    (drop_stands p before at owner now was slot d is)

-- the slot where the walk is passes, and stays
drop_keeps : (p : ℕ → Bool) (before at : Option ℕ) (owner : ℕ) (now was : List (List ℕ)) (slot : ℕ)
    → IsDropping p before at owner now was → at ≡ Some slot
    → HasNoneTwice (list_of now owner) → p slot ≡ true
    → IsDropping p (Some slot) (following slot (list_of now owner)) owner now was
drop_keeps p before at owner now was slot d is once passes =
    record {
      comes = refl;
      others = d.others;
      same = d.same;
      passed = λ y i. go y (d.passed y i);
      owners = d.owners;
    }
  where
    later : (y : ℕ) → IsIn y (slot ∷ rest_from (following slot (list_of now owner)) (list_of now owner))
        → IsIn y (rest_from (following slot (list_of now owner)) (list_of now owner)) ⊎ (p y ≡ true)
    later y (inl e) = inr (ap p e ∙ passes)
    later y (inr j) = inl j

    go : (y : ℕ) → IsIn y (rest_from at (list_of now owner)) ⊎ (p y ≡ true)
        → IsIn y (rest_from (following slot (list_of now owner)) (list_of now owner)) ⊎ (p y ≡ true)
    go y (inl i) = later y (subst (IsIn y) (rest_now p before at owner now was slot d is once) i)
    go y (inr h) = inr h

-- it fails, and is taken off
drop_takes : (p : ℕ → Bool) (before at : Option ℕ) (owner : ℕ) (now was : List (List ℕ)) (slot : ℕ)
    → IsDropping p before at owner now was → at ≡ Some slot
    → HasNoneTwice (list_of now owner) → p slot ≡ false
    → (left : List (List ℕ)) → left ≡ lists_without now owner slot → list_of left owner ≡ without slot (list_of now owner)
    → IsDropping p before (following slot (list_of now owner)) owner left was
drop_takes p before at owner now was slot d is once fails left is_left there =
    record {
      comes = rw there (cut_follows before slot (list_of now owner) once (d.comes ∙ is));
      others = others;
      same = ap (filter p) there ∙ filter_without p slot (list_of now owner) fails ∙ d.same;
      passed = λ y i. passed y (subst (IsIn y) there i);
      owners = omega (arith, d.owners, ap length is_left, length-set now owner (without slot (list_of now owner)));
    }
  where
    others : left ≡ slice_set was owner (list_of left owner)
    others =
        is_left ∙ ap (λ (ls : List (List ℕ)). slice_set ls owner (without slot (list_of now owner))) d.others
        ∙ set-set was owner (list_of now owner) (without slot (list_of now owner)) ∙ ap (slice_set was owner) (sym there)

    later : (y : ℕ) → IsIn y (without slot (list_of now owner))
        → IsIn y (slot ∷ rest_from (following slot (list_of now owner)) (list_of now owner))
        → IsIn y (rest_from (following slot (list_of now owner)) (list_of left owner)) ⊎ (p y ≡ true)
    later y i (inl e) = absurd (not_in_without slot (list_of now owner) once
        (subst (λ (z : ℕ). IsIn z (without slot (list_of now owner))) e i))
    later y i (inr j) = inl (rw (there, rest_without slot (list_of now owner) once) j)

    go : (y : ℕ) → IsIn y (without slot (list_of now owner)) → IsIn y (rest_from at (list_of now owner)) ⊎ (p y ≡ true)
        → IsIn y (rest_from (following slot (list_of now owner)) (list_of left owner)) ⊎ (p y ≡ true)
    go y i (inl r) = later y i (subst (IsIn y) (rest_now p before at owner now was slot d is once) r)
    go y i (inr h) = inr h

    passed : (y : ℕ) → IsIn y (without slot (list_of now owner))
        → IsIn y (rest_from (following slot (list_of now owner)) (list_of left owner)) ⊎ (p y ≡ true)
    passed y i = go y i (d.passed y (in_without slot y (list_of now owner) i))

left_there : (owner : ℕ) (now others : List (List ℕ)) (slot : ℕ) → owner < length now → others ≡ lists_without now owner slot
    → list_of others owner ≡ without slot (list_of now owner)
left_there owner now others slot within is_left =
    ap (λ (ls : List (List ℕ)). list_of ls owner) is_left ∙ get_or-set_same now owner (without slot (list_of now owner)) [] within

-- so it goes on to the slot that follows, behind the slot where it was, if that one stays
pub drop_goes_on : (p : ℕ → Bool) (before at next : Option ℕ) (owner : ℕ) (now left was : List (List ℕ)) (slot : ℕ)
    → IsDropping p before at owner now was → at ≡ Some slot
    → HasNoneTwice (list_of now owner) → next ≡ following slot (list_of now owner) → left ≡ cond (p slot) now
    (lists_without now owner slot) → (stays : Bool) → stays ≡ p slot
    → IsDropping p (cond stays (Some slot) before) next owner left was
drop_goes_on p before at next owner now left was slot d is once on changed stays same = go stays same (rw same changed)
  where
    go : (b : Bool) → b ≡ p slot → left ≡ cond b now (lists_without now owner slot)
        → IsDropping p (cond b (Some slot) before) next owner left was
    go true passes same = rw (on, same) (drop_keeps p before at owner now was slot d is once (sym passes))
    go false fails taken = rw on (drop_takes p before at owner now was slot d is once (sym fails) left taken
        (left_there owner now left slot d.owners taken))

-- and what is before it grows shorter
pub drop_falls : (p : ℕ → Bool) (before at next : Option ℕ) (owner : ℕ) (now left was : List (List ℕ)) (slot : ℕ)
    → IsDropping p before at owner now was → at ≡ Some slot
    → HasNoneTwice (list_of now owner) → next ≡ following slot (list_of now owner) → left ≡ cond (p slot) now
    (lists_without now owner slot)
    → length (rest_from next (list_of left owner)) < length (rest_from at (list_of now owner))
drop_falls p before at next owner now left was slot d is once on changed = go (p slot) changed
  where
    shorter : length (rest_from (following slot (list_of now owner)) (list_of now owner)) < length
        (rest_from at (list_of now owner))
    shorter = rw (rest_now p before at owner now was slot d is once) (omega arith)

    go : (b : Bool) → left ≡ cond b now (lists_without now owner slot) → length (rest_from next (list_of left owner))
        < length (rest_from at (list_of now owner))
    go true same = rw (on, same) shorter
    go false taken = rw (on, left_there owner now left slot d.owners taken, rest_without slot (list_of now owner) once) shorter

-- at its end the list is that of what passes
pub drop_ends : (p : ℕ → Bool) (before at : Option ℕ) (owner : ℕ) (now was : List (List ℕ)) → IsDropping p before at owner now was
    → at ≡ None
    → now ≡ slice_set was owner (filter p (list_of was owner))
drop_ends p before at owner now was d is =
    d.others ∙ ap (slice_set was owner) (sym (filter_all p (list_of now owner) (λ y i. all y (d.passed y i))) ∙ d.same)
  where
    rest : rest_from at (list_of now owner) ≡ []
    rest = ap (λ (o : Option ℕ). rest_from o (list_of now owner)) is ∙ rest_at_end (list_of now owner)

    all : (y : ℕ) → IsIn y (rest_from at (list_of now owner)) ⊎ (p y ≡ true) → p y ≡ true
    all y (inl i) = let none : ⊥ = subst (IsIn y) rest i in absurd none
    all y (inr h) = h

-- ---- both lists of a clause

-- what passes twice is what passes
filter_twice : (p : ℕ → Bool) (xs : List ℕ) → filter p (filter p xs) ≡ filter p xs
filter_twice p xs = filter_all p (filter p xs) (λ y i. (in_filter p y xs i).1)

module _ (clauses : List (List Lit)) (slots : ℕ) (lists : List (List ℕ)) (are : AreSlots clauses slots lists)
    (clause : ℕ) (lits : List Lit) (first second : Lit) (is_clause : slice_get clauses clause ≡ Some lits)
    (is_first : slice_get lits 0 ≡ Some first) (is_second : slice_get lits 1 ≡ Some second) where
  -- a slot of the clause stands in no list but those of its first two literals
  passes : (owner slot : ℕ) → (owner ≡ place_of first → ⊥) → (owner ≡ place_of second → ⊥) → IsIn slot (list_of lists owner)
      → is_of_other clause slot ≡ true
  passes owner slot not_first not_second i = go (cases_eq (clause_of slot) clause)
    where
      s : IsSide clauses lists owner slot
      s = are.sides owner slot i

      at : (side : ℕ) → clause_of slot ≡ clause → s.side ≡ side → slice_get lits side ≡ Some s.lit
      at side e is =
          let same : s.clause ≡ clause = sym (half s.clause s.side s.first_or_second) ∙ ap clause_of (sym s.is_slot) ∙ e in
          let here : s.linked.lits ≡ lits = same_lits clauses s.clause clause s.linked.lits lits s.linked.is_clause is_clause same in
          ap (slice_get lits) (sym is) ∙ ap (λ (ls : List Lit). slice_get ls s.side) (sym here) ∙ s.is_lit

      none : clause_of slot ≡ clause → (s.side ≡ 0) ⊎ (s.side ≡ 1) → ⊥
      none e (inl is) = not_first (s.is_owner ∙ ap place_of (same_Some s.lit first (sym (at 0 e is) ∙ is_first)))
      none e (inr is) = not_second (s.is_owner ∙ ap place_of (same_Some s.lit second (sym (at 1 e is) ∙ is_second)))

      go : (clause_of slot ≡ clause) ⊎ (clause_of slot ≢ clause) → is_of_other clause slot ≡ true
      go (inl e) = absurd (none e (first_or_second s.side s.first_or_second))
      go (inr d) = ap not (ne_eqb (clause_of slot) clause d)

  -- so where both lists are without its slots, all are
  pub both_filtered : (one two : List (List ℕ)) → place_of first < length lists → place_of second < length lists
      → one ≡ slice_set lists (place_of first) (filter (is_of_other clause) (list_of lists (place_of first)))
      → two ≡ slice_set one (place_of second) (filter (is_of_other clause) (list_of one (place_of second)))
      → two ≡ map (filter (is_of_other clause)) lists
  both_filtered one two first_within second_within is_one is_two =
      ext_get_or [] two (map (filter (is_of_other clause)) lists)
      (ap length is_two ∙ length-set one (place_of second) (filter (is_of_other clause) (list_of one (place_of second)))
      ∙ as_many ∙ sym (length-map lists (filter (is_of_other clause))))
      (λ k h. at k (changed_or_same one (place_of second) k (filter (is_of_other clause) (list_of one (place_of second)))
      (omega (arith, second_within, as_many)))
      ∙ sym (list_map (filter (is_of_other clause)) refl lists k))
    where
      as_many : length one ≡ length lists
      as_many = ap length is_one ∙ length-set lists (place_of first) (filter (is_of_other clause) (list_of lists (place_of first)))

      -- in one of them
      once : (k : ℕ) → ((k ≡ place_of first) × (list_of one k ≡ filter (is_of_other clause) (list_of lists k)))
          ⊎ ((k ≡ place_of first → ⊥) × (list_of one k ≡ list_of lists k))
      once k =
          elim (changed_or_same lists (place_of first) k (filter (is_of_other clause) (list_of lists (place_of first))) first_within) [
            | inl h ↦ inl (
              h.0,
              ap (λ (ls : List (List ℕ)). list_of ls k) is_one ∙ h.1
                  ∙ ap (λ (i : ℕ). filter (is_of_other clause) (list_of lists i)) (sym h.0),
            )
            | inr h ↦ inr (h.0, ap (λ (ls : List (List ℕ)). list_of ls k) is_one ∙ h.1)
          ]

      again : (k : ℕ) → filter (is_of_other clause) (list_of one k) ≡ filter (is_of_other clause) (list_of lists k)
      again k =
          elim (once k) [
            | inl h ↦ ap (filter (is_of_other clause)) h.1 ∙ filter_twice (is_of_other clause) (list_of lists k)
            | inr h ↦ ap (filter (is_of_other clause)) h.1
          ]

      other : (k : ℕ) → (k ≡ place_of second → ⊥) → list_of one k ≡ filter (is_of_other clause) (list_of lists k)
      other k differs =
          elim (once k) [
            | inl h ↦ h.1
            | inr h ↦ h.1 ∙ sym (filter_all (is_of_other clause) (list_of lists k) (λ y i. passes k y h.0 differs i))
          ]

      at : (k : ℕ) → ((k ≡ place_of second) × (list_of (slice_set one (place_of second)
          (filter (is_of_other clause) (list_of one (place_of second)))) k
          ≡ filter (is_of_other clause) (list_of one (place_of second))))
          ⊎ ((k ≡ place_of second → ⊥) × (list_of (slice_set one (place_of second)
          (filter (is_of_other clause) (list_of one (place_of second)))) k ≡ list_of one k))
          → list_of two k ≡ filter (is_of_other clause) (list_of lists k)
      at k (inl h) = ap (λ (ls : List (List ℕ)). list_of ls k) is_two ∙ h.1
          ∙ ap (λ (i : ℕ). filter (is_of_other clause) (list_of one i)) (sym h.0) ∙ again k
      at k (inr h) = ap (λ (ls : List (List ℕ)). list_of ls k) is_two ∙ h.1 ∙ other k h.0

-- the two literals that a clause of two or more watches, if it is watched
pub record HasTwo (lists : List (List ℕ)) (lits : List Lit) (first second : Lit) : Type 0 where
  pub is_first : slice_get lits 0 ≡ Some first
  pub is_second : slice_get lits 1 ≡ Some second
  pub first_within : place_of first < length lists
  pub second_within : place_of second < length lists

-- what a caller says of the clause is enough
pub has_two : (clauses : List (List Lit)) (slots : ℕ) (lists : List (List ℕ)) (clauses_left lits_left : ℕ) (a : Arena)
    (clause : ℕ) (lits : List Lit) (some : Lit)
    → AreSlots clauses slots lists → arena_of clauses lists clauses_left lits_left ≡ a → slice_get clauses clause ≡ Some lits
    → IfSome (slice_get a.clauses clause) (λ (ls : List Lit). 2 ≤ length ls)
    → HasTwo lists lits (get_or lits 0 some) (get_or lits 1 some)
has_two clauses slots lists clauses_left lits_left a clause lits some are view is long =
    record {
      is_first = is_first;
      is_second = is_second;
      first_within = all_at (λ (l : Lit). place_of l < length lists) lits 0 (get_or lits 0 some) within is_first;
      second_within = all_at (λ (l : Lit). place_of l < length lists) lits 1 (get_or lits 1 some) within is_second;
    }
  where
    there : slice_get a.clauses clause ≡ Some lits
    there =
        ap (λ (ls : List (List Lit)). slice_get ls clause)
        (sym (seen_clauses clauses slots lists are clauses_left lits_left a view)) ∙ is

    two : 2 ≤ length lits
    two = subst (λ (o : Option (List Lit)). IfSome o (λ (ls : List Lit). 2 ≤ length ls)) there long

    is_first : slice_get lits 0 ≡ Some (get_or lits 0 some)
    is_first = slice_get-get_or lits 0 some (omega (arith, two))

    is_second : slice_get lits 1 ≡ Some (get_or lits 1 some)
    is_second = slice_get-get_or lits 1 some (omega (arith, two))

    within : All (λ (l : Lit). place_of l < length lists) lits
    within = all_at (All (λ (l : Lit). place_of l < length lists)) clauses clause lits are.within is
