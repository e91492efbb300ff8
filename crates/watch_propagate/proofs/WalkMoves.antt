-- A watch that is moved from a false literal to one that is not false.
use Rattle.std.proofs.Common.{◌≡◌, ◌≢◌, ◌⊎◌, ◌-◌, ◌<◌, ◌≤◌, ◌∙◌, ℕ, List, Some, Contains, length, take, slice_get, slice_set, refl, sym, ap, subst, inl, inr, arith}
use Rattle.std.proofs.lemmas.Bool.{cases_eq}
use Rattle.std.proofs.lemmas.List.{length-set}
use Rattle.std.proofs.lemmas.Option.{same_Some, slice_get_within}
use Rattle.currency_base.specs.Lists.{OnlyOnce}
use Rattle.currency_base.specs.Literals.{negation}
use Rattle.currency_base.specs.declared.lit.Lit.{Lit}
use Rattle.watch_links.specs.Links.{IsIn, list_of, lists_with, lists_without, without}
use Rattle.clause_arena.specs.Arenas.{Arena, AreWatchers, AreWithin, IsWatched, place_of, watchers_of}
use Rattle.search_trail.specs.Trails.{Trail, lits_of}
use Rattle.watch_propagate.specs.WatchRule.{AreGuarded, AreReordered, AreSameLits, IsGuarded, IsRewatched, KeepsWatch}
use Rattle.watch_propagate.specs.Walks.{IsSeenTo}
use Rattle.watch_propagate.proofs.WalkLits.{same_lit_place}
use Rattle.watch_propagate.proofs.WalkItems.{get_same, get_other, all_at, taken_in, swap_from, swap_other, swap_length, swap_keeps, swap_adds_none, with_other, here_in_with, stays_in_with, in_with, without_same, without_other, in_lists_without, stays_in_lists_without}

-- the first literal or the second
pub low_cases : (n : ℕ) → n < 2 → (n ≡ 0) ⊎ (n ≡ 1)
low_cases n h = go (cases_eq n 0)
  where
    go : (n ≡ 0) ⊎ (n ≢ 0) → (n ≡ 0) ⊎ (n ≡ 1)
    go (inl e) = inl e
    go (inr d) = inr (omega (arith, h, d))

-- the literals of a clause are those of its watch
pub watch_lits : (a : Arena) (clause : ℕ) (w : IsWatched a clause) (lits : List Lit) → slice_get a.clauses clause ≡
    Some lits → w.lits ≡ lits
watch_lits a clause w lits is = same_Some w.lits lits (sym w.is_clause ∙ is)

pub watch_first : (a : Arena) (clause : ℕ) (w : IsWatched a clause) (lits : List Lit) (first : Lit)
    → slice_get a.clauses clause ≡ Some lits
    → slice_get lits 0 ≡ Some first → w.first ≡ first
watch_first a clause w lits first is at =
    same_Some w.first first (sym w.is_first ∙ ap (λ (ls : List Lit). slice_get ls 0) (watch_lits a clause w lits is) ∙ at)

pub watch_second : (a : Arena) (clause : ℕ) (w : IsWatched a clause) (lits : List Lit) (second : Lit)
    → slice_get a.clauses clause ≡ Some lits
    → slice_get lits 1 ≡ Some second → w.second ≡ second
watch_second a clause w lits second is at =
    same_Some w.second second (sym w.is_second ∙ ap (λ (ls : List Lit). slice_get ls 1) (watch_lits a clause w lits is) ∙ at)

-- the clause that is looked at: it watches the literal on one side, and another on the other
pub record IsFacing (a : Arena) (clause : ℕ) (lits : List Lit) (from : ℕ) (lit other : Lit) : Type 0 where
  pub are : AreWatchers a
  pub stands : IsIn clause (watchers_of a lit)
  pub is_clause : slice_get a.clauses clause ≡ Some lits
  pub low : from < 2
  pub here : slice_get lits from ≡ Some lit
  pub there : slice_get lits (1 - from) ≡ Some other

pub facing : (a : Arena) (clause : ℕ) (lits : List Lit) (from : ℕ) (lit other : Lit) → AreWatchers a → IsIn clause
    (watchers_of a lit) → slice_get a.clauses clause ≡ Some lits
    → from < 2 → slice_get lits from ≡ Some lit → slice_get lits (1 - from) ≡ Some other → IsFacing a clause lits from lit other
facing a clause lits from lit other are stands is_clause low here there =
    record { are = are; stands = stands; is_clause = is_clause; low = low; here = here; there = there }

-- which side it is
pub facing_cases : (a : Arena) (clause : ℕ) (lits : List Lit) (from : ℕ) (lit other : Lit) → IsFacing a clause lits from lit other
    → ((from ≡ 0) × (slice_get lits 0 ≡ Some lit) × (slice_get lits 1 ≡ Some other)) ⊎
    ((from ≡ 1) × (slice_get lits 0 ≡ Some other) × (slice_get lits 1 ≡ Some lit))
facing_cases a clause lits from lit other f = go (low_cases from f.low)
  where
    go : (from ≡ 0) ⊎ (from ≡ 1)
        → ((from ≡ 0) × (slice_get lits 0 ≡ Some lit) × (slice_get lits 1 ≡ Some other)) ⊎
        ((from ≡ 1) × (slice_get lits 0 ≡ Some other) × (slice_get lits 1 ≡ Some lit))
    go (inl e) =
        inl (
          e,
          subst (λ (k : ℕ). slice_get lits k ≡ Some lit) e f.here,
          subst (λ (k : ℕ). slice_get lits (1 - k) ≡ Some other) e f.there,
        )
    go (inr e) =
        inr (
          e,
          subst (λ (k : ℕ). slice_get lits (1 - k) ≡ Some other) e f.there,
          subst (λ (k : ℕ). slice_get lits k ≡ Some lit) e f.here,
        )

-- the clause watches the other literal too
pub facing_other : (a : Arena) (clause : ℕ) (lits : List Lit) (from : ℕ) (lit other : Lit) → IsFacing a clause lits
    from lit other → IsIn clause (watchers_of a other)
facing_other a clause lits from lit other f = go (facing_cases a clause lits from lit other f)
  where
    w : IsWatched a clause
    w = f.are.watched lit clause f.stands

    go : ((from ≡ 0) × (slice_get lits 0 ≡ Some lit) × (slice_get lits 1 ≡ Some other)) ⊎
        ((from ≡ 1) × (slice_get lits 0 ≡ Some other) × (slice_get lits 1 ≡ Some lit))
        → IsIn clause (watchers_of a other)
    go (inl h) = subst (λ (l : Lit). IsIn clause (watchers_of a l))
        (watch_second a clause w lits other f.is_clause h.2) w.by_second
    go (inr h) = subst (λ (l : Lit). IsIn clause (watchers_of a l)) (watch_first a clause w lits other f.is_clause h.1) w.by_first

-- ---- a guard stays, where a false literal gives way to one that is not false

guard_first : (found truths all : List Lit) (left taken other : Lit) → IsGuarded found truths left other
    → ((l : Lit) → Contains found l → Contains all l) → ((l : Lit) → Contains truths l → Contains all l)
    → (Contains all left → ⊥) → (Contains all (negation taken) → ⊥) → IsGuarded found truths taken other
guard_first found truths all left taken other g sub sub' not_left not_taken =
    record {
      first_false = λ c. absurd (not_taken (sub (negation taken) c));
      second_false = λ c. absurd (not_left (sub' left (g.second_false c)));
    }

guard_second : (found truths all : List Lit) (left taken other : Lit) → IsGuarded found truths other left
    → ((l : Lit) → Contains found l → Contains all l) → ((l : Lit) → Contains truths l → Contains all l)
    → (Contains all left → ⊥) → (Contains all (negation taken) → ⊥) → IsGuarded found truths other taken
guard_second found truths all left taken other g sub sub' not_left not_taken =
    record {
      first_false = λ c. absurd (not_left (sub' left (g.first_false c)));
      second_false = λ c. absurd (not_taken (sub (negation taken) c));
    }

guards_first : (t : Trail) (left taken other : Lit) → AreGuarded t left other → (Contains (lits_of t) left → ⊥) →
    (Contains (lits_of t) (negation taken) → ⊥) → AreGuarded t taken other
guards_first t left taken other g not_left not_taken =
    record {
      at_present = guard_first (take t.gone (lits_of t)) (lits_of t) (lits_of t) left taken other g.at_present
          (taken_in t.gone (lits_of t)) (λ l c. c) not_left not_taken;
      at_starts = λ i start is.
          guard_first (take start (lits_of t)) (take start (lits_of t)) (lits_of t) left taken other (g.at_starts i start is)
          (taken_in start (lits_of t)) (taken_in start (lits_of t)) not_left not_taken;
    }

guards_second : (t : Trail) (left taken other : Lit) → AreGuarded t other left → (Contains (lits_of t) left → ⊥) →
    (Contains (lits_of t) (negation taken) → ⊥) → AreGuarded t other taken
guards_second t left taken other g not_left not_taken =
    record {
      at_present = guard_second (take t.gone (lits_of t)) (lits_of t) (lits_of t) left taken other g.at_present
          (taken_in t.gone (lits_of t)) (λ l c. c) not_left not_taken;
      at_starts = λ i start is.
          guard_second (take start (lits_of t)) (take start (lits_of t)) (lits_of t) left taken other (g.at_starts i start is)
          (taken_in start (lits_of t)) (taken_in start (lits_of t)) not_left not_taken;
    }

pub guards_are : (t : Trail) (first second first' second' : Lit) → first ≡ first' → second ≡ second'
    → AreGuarded t first second → AreGuarded t first' second'
guards_are t first second first' second' e e' g = subst (λ (l : Lit). AreGuarded t first' l) e'
    (subst (λ (l : Lit). AreGuarded t l second) e g)

-- ---- the arena after the move

-- the watch of the clause moves from the literal to another one
pub record IsMoved (a b : Arena) (clause : ℕ) (lits : List Lit) (from to : ℕ) (left taken : Lit) : Type 0 where
  pub high : 2 ≤ to
  pub is_taken : slice_get lits to ≡ Some taken
  pub clauses : b.clauses ≡ slice_set a.clauses clause (slice_set (slice_set lits from taken) to left)
  pub watchers : b.watchers ≡ lists_with (lists_without a.watchers (place_of left) clause) (place_of taken) clause
  pub clauses_left : b.clauses_left ≡ a.clauses_left
  pub lits_left : b.lits_left ≡ a.lits_left

module _ (a b : Arena) (clause : ℕ) (lits : List Lit) (from to : ℕ) (left other taken : Lit)
    (f : IsFacing a clause lits from left other)
    (m : IsMoved a b clause lits from to left taken) where
  abbrev after : List Lit
  after = slice_set (slice_set lits from taken) to left

  abbrev off : List (List ℕ)
  off = lists_without a.watchers (place_of left) clause

  once : OnlyOnce lits
  once = all_at OnlyOnce a.clauses clause lits f.are.distinct f.is_clause

  within : (k : ℕ) (x : Lit) → slice_get lits k ≡ Some x → place_of x < length a.watchers
  within k x is = all_at (λ (l : Lit). place_of l < length a.watchers) lits k x
      (all_at (AreWithin a) a.clauses clause lits f.are.within f.is_clause) is

  differ : from ≢ to
  differ e = omega (arith, e, f.low, m.high)

  left_within : place_of left < length a.watchers
  left_within = within from left f.here

  taken_within : place_of taken < length off
  taken_within = omega (
    arith,
    within to taken m.is_taken,
    length-set a.watchers (place_of left)
        (without clause (list_of a.watchers (place_of left))),
  )

  left_taken : place_of left ≢ place_of taken
  left_taken e =
      let same : left ≡ taken = same_lit_place left taken e in
      differ (once from to taken (f.here ∙ ap Some same) m.is_taken)

  left_other : place_of other ≢ place_of left
  left_other e =
      let same : left ≡ other = same_lit_place left other (sym e) in
      let sides : from ≡ 1 - from = once from (1 - from) other (f.here ∙ ap Some same) f.there in
      omega (arith, sides, f.low)

  -- the watchers of the literal are without the clause
  pub moved_watchers : watchers_of b left ≡ without clause (watchers_of a left)
  moved_watchers =
      ap (λ (ls : List (List ℕ)). list_of ls (place_of left)) m.watchers
      ∙ with_other off (place_of taken) clause (place_of left) left_taken
      ∙ without_same a.watchers (place_of left) clause left_within

  back : (c : ℕ) (l : Lit) → c ≢ clause → IsIn c (watchers_of b l) → IsIn c (watchers_of a l)
  back c l d i = go (in_with off (place_of taken) clause (place_of l) c taken_within
      (subst (λ (ls : List (List ℕ)). IsIn c (list_of ls (place_of l))) m.watchers i))
    where
      go : (c ≡ clause) ⊎ IsIn c (list_of off (place_of l)) → IsIn c (watchers_of a l)
      go (inl e) = absurd (d e)
      go (inr j) = in_lists_without a.watchers (place_of left) clause (place_of l) c left_within j

  forth : (c : ℕ) (l : Lit) → c ≢ clause → IsIn c (watchers_of a l) → IsIn c (watchers_of b l)
  forth c l d i =
      subst (λ (ls : List (List ℕ)). IsIn c (list_of ls (place_of l))) (sym m.watchers)
      (stays_in_with off (place_of taken) clause (place_of l) c taken_within
      (stays_in_lists_without a.watchers (place_of left) clause (place_of l) c left_within d i))

  watches_taken : IsIn clause (watchers_of b taken)
  watches_taken = subst (λ (ls : List (List ℕ)). IsIn clause (list_of ls (place_of taken))) (sym m.watchers)
      (here_in_with off (place_of taken) clause taken_within)

  watches_other : IsIn clause (watchers_of b other)
  watches_other =
      let stood : IsIn clause (list_of off (place_of other)) =
      subst (IsIn clause) (sym (without_other a.watchers (place_of left) clause (place_of other) left_other))
      (facing_other a clause lits from left other f) in
      subst (λ (ls : List (List ℕ)). IsIn clause (list_of ls (place_of other))) (sym m.watchers)
      (stays_in_with off (place_of taken) clause (place_of other) clause taken_within stood)

  clause_after : slice_get b.clauses clause ≡ Some after
  clause_after =
      ap (λ (cs : List (List Lit)). slice_get cs clause) m.clauses ∙ get_same a.clauses clause after
      (slice_get_within a.clauses clause lits f.is_clause)

  clause_other : (c : ℕ) → c ≢ clause → slice_get b.clauses c ≡ slice_get a.clauses c
  clause_other c d = ap (λ (cs : List (List Lit)). slice_get cs c) m.clauses ∙ get_other a.clauses clause c after d

  after_other : (k : ℕ) → k ≢ from → k < 2 → slice_get after k ≡ slice_get lits k
  after_other k d low = swap_other lits from to left taken f.here m.is_taken differ k d (λ e. omega (arith, e, low, m.high))

  after_from : slice_get after from ≡ Some taken
  after_from = swap_from lits from to left taken f.here m.is_taken differ

  -- the sides of the clause afterwards
  pub after_sides : ((from ≡ 0) × (slice_get after 0 ≡ Some taken) × (slice_get after 1 ≡ Some other)) ⊎
      ((from ≡ 1) × (slice_get after 0 ≡ Some other) × (slice_get after 1 ≡ Some taken))
  after_sides = go (facing_cases a clause lits from left other f)
    where
      go : ((from ≡ 0) × (slice_get lits 0 ≡ Some left) × (slice_get lits 1 ≡ Some other)) ⊎
          ((from ≡ 1) × (slice_get lits 0 ≡ Some other) × (slice_get lits 1 ≡ Some left))
          → ((from ≡ 0) × (slice_get after 0 ≡ Some taken) × (slice_get after 1 ≡ Some other)) ⊎
          ((from ≡ 1) × (slice_get after 0 ≡ Some other) × (slice_get after 1 ≡ Some taken))
      go (inl h) =
          inl (
            h.0,
            subst (λ (k : ℕ). slice_get after k ≡ Some taken) h.0 after_from,
            after_other 1
                (λ e. omega (arith, e, h.0)) (omega arith) ∙ h.2,
          )
      go (inr h) =
          inr (
            h.0,
            after_other 0 (λ e. omega (arith, e, h.0)) (omega arith) ∙ h.1,
            subst (λ (k : ℕ). slice_get after k ≡ Some taken) h.0 after_from,
          )

  -- the clause is watched afterwards
  moved_clause : IsWatched b clause
  moved_clause = go after_sides
    where
      go : ((from ≡ 0) × (slice_get after 0 ≡ Some taken) × (slice_get after 1 ≡ Some other)) ⊎
          ((from ≡ 1) × (slice_get after 0 ≡ Some other) × (slice_get after 1 ≡ Some taken)) → IsWatched b clause
      go (inl h) =
          record {
            lits = after;
            is_clause = clause_after;
            first = taken;
            second = other;
            is_first = h.1;
            is_second =
                h.2;
            by_first = watches_taken;
            by_second = watches_other;
          }
      go (inr h) =
          record {
            lits = after;
            is_clause = clause_after;
            first = other;
            second = taken;
            is_first = h.1;
            is_second =
                h.2;
            by_first = watches_other;
            by_second = watches_taken;
          }

  -- another clause watches what it did
  pub other_forth : (c : ℕ) → c ≢ clause → IsWatched a c → IsWatched b c
  other_forth c d w =
      record {
        lits = w.lits;
        is_clause = clause_other c d ∙ w.is_clause;
        first = w.first;
        second = w.second;
        is_first = w.is_first;
        is_second = w.is_second;
        by_first = forth c w.first d w.by_first;
        by_second = forth c w.second d w.by_second;
      }

  pub other_back : (c : ℕ) → c ≢ clause → (w : IsWatched b c) → (v : IsWatched a c) × (v.first ≡ w.first) × (v.second ≡ w.second)
  other_back c d w = (
    record {
      lits = w.lits;
      is_clause = sym (clause_other c d) ∙ w.is_clause;
      first = w.first;
      second = w.second;
      is_first = w.is_first;
      is_second = w.is_second;
      by_first = back c w.first d w.by_first;
      by_second = back c w.second d w.by_second;
    },
    refl,
    refl,
  )

  same_after : AreSameLits lits after
  same_after =
      record {
        none_lost = swap_keeps lits from to left taken f.here m.is_taken differ;
        none_new = swap_adds_none lits from to left taken f.here m.is_taken differ;
        as_many = swap_length lits from to left taken f.here m.is_taken differ;
      }

  reordered : AreReordered a.clauses b.clauses
  reordered =
      record {
        as_many = ap length m.clauses ∙ length-set a.clauses clause after;
        same = λ c xs ys is is'. go c xs ys is is' (cases_eq c clause);
      }
    where
      go : (c : ℕ) (xs ys : List Lit) → slice_get a.clauses c ≡ Some xs → slice_get b.clauses c ≡ Some ys →
          (c ≡ clause) ⊎ (c ≢ clause) → AreSameLits xs ys
      go c xs ys is is' (inl e) =
          let before : lits ≡ xs = same_Some lits xs (sym f.is_clause ∙ ap (slice_get a.clauses) (sym e) ∙ is) in
          let behind : after ≡ ys = same_Some after ys (sym clause_after ∙ ap (slice_get b.clauses) (sym e) ∙ is') in
          subst (λ (zs : List Lit). AreSameLits xs zs) behind (subst (λ (zs : List Lit). AreSameLits zs after) before same_after)
      go c xs ys is is' (inr d) =
          let same : xs ≡ ys = same_Some xs ys (sym is ∙ sym (clause_other c d) ∙ is') in
          subst (λ (zs : List Lit). AreSameLits xs zs) same (record { none_lost = λ l i. i; none_new = λ l i. i; as_many = refl })

  pub moved_rewatched : IsRewatched a b
  moved_rewatched =
      record {
        clauses = reordered;
        still = λ c w. forth_all c w (cases_eq c clause);
        no_more = λ c w. back_all c w (cases_eq c clause);
        lists = ap length m.watchers ∙ length-set off (place_of taken) _ ∙ length-set a.watchers (place_of left) _;
        clauses_left = m.clauses_left;
        lits_left = m.lits_left;
      }
    where
      forth_all : (c : ℕ) → IsWatched a c → (c ≡ clause) ⊎ (c ≢ clause) → IsWatched b c
      forth_all c w (inl e) = subst (IsWatched b) (sym e) moved_clause
      forth_all c w (inr d) = other_forth c d w

      back_all : (c : ℕ) → IsWatched b c → (c ≡ clause) ⊎ (c ≢ clause) → IsWatched a c
      back_all c w (inl e) = subst (IsWatched a) (sym e) (f.are.watched left clause f.stands)
      back_all c w (inr d) = (other_back c d w).0

  -- the watch rule is kept
  module _ (t : Trail) (rule : KeepsWatch a t) (not_left : Contains (lits_of t) left → ⊥)
      (not_taken : Contains (lits_of t) (negation taken) → ⊥) where
    guarded_here : (w : IsWatched b clause) → AreGuarded t w.first w.second
    guarded_here w = go (facing_cases a clause lits from left other f) after_sides
      where
        v : IsWatched a clause
        v = f.are.watched left clause f.stands

        go : ((from ≡ 0) × (slice_get lits 0 ≡ Some left) × (slice_get lits 1 ≡ Some other)) ⊎
            ((from ≡ 1) × (slice_get lits 0 ≡ Some other) × (slice_get lits 1 ≡ Some left))
            → ((from ≡ 0) × (slice_get after 0 ≡ Some taken) × (slice_get after 1 ≡ Some other)) ⊎
            ((from ≡ 1) × (slice_get after 0 ≡ Some other) × (slice_get after 1 ≡ Some taken))
            → AreGuarded t w.first w.second
        go (inl h) (inl h') =
            let was : AreGuarded t left other =
            guards_are t v.first v.second left other (watch_first a clause v lits left f.is_clause h.1)
            (watch_second a clause v lits other f.is_clause h.2) (rule.guarded clause v) in
            guards_are t taken other w.first w.second (sym (watch_first b clause w after taken clause_after h'.1))
            (sym (watch_second b clause w after other clause_after h'.2))
            (guards_first t left taken other was not_left not_taken)
        go (inr h) (inr h') =
            let was : AreGuarded t other left =
            guards_are t v.first v.second other left (watch_first a clause v lits other f.is_clause h.1)
            (watch_second a clause v lits left f.is_clause h.2) (rule.guarded clause v) in
            guards_are t other taken w.first w.second (sym (watch_first b clause w after other clause_after h'.1))
            (sym (watch_second b clause w after taken clause_after h'.2))
            (guards_second t left taken other was not_left not_taken)
        go (inl h) (inr h') = absurd (omega (arith, h.0, h'.0))
        go (inr h) (inl h') = absurd (omega (arith, h.0, h'.0))

    pub moved_rule : KeepsWatch b t
    moved_rule = record { passed = rule.passed; guarded = λ c w. go c w (cases_eq c clause) }
      where
        go : (c : ℕ) (w : IsWatched b c) → (c ≡ clause) ⊎ (c ≢ clause) → AreGuarded t w.first w.second
        go c w (inl e) =
            let at : (k : ℕ) → k ≡ clause → (u : IsWatched b k) → AreGuarded t u.first u.second =
            λ k is u. guarded_here (record {
              lits = u.lits;
              is_clause = ap (slice_get b.clauses) (sym is)
                  ∙ u.is_clause;
              first = u.first;
              second = u.second;
              is_first = u.is_first;
              is_second =
                  u.is_second;
              by_first = subst (λ (n : ℕ). IsIn n (watchers_of b u.first)) is u.by_first;
              by_second = subst (λ (n : ℕ). IsIn n (watchers_of b u.second)) is u.by_second;
            }) in
            at c e w
        go c w (inr d) =
            let v = other_back c d w in
            guards_are t (v.0).first (v.0).second w.first w.second v.1 v.2 (rule.guarded c v.0)

  -- and other clauses that were seen to still are
  pub moved_others : (t : Trail) (lit : Lit) (c : ℕ) → c ≢ clause → IsSeenTo a t lit c → IsSeenTo b t lit c
  moved_others t lit c d s =
      record {
        first = λ w e. let v = other_back c d w in subst (Contains (lits_of t)) v.2 (s.first v.0 (v.1 ∙ e));
        second = λ w e. let v = other_back c d w in subst (Contains (lits_of t)) v.1 (s.second v.0 (v.2 ∙ e));
      }
