-- The learned clause: its literals, what is open in it, and to which level it leads back.
use Rattle.std.proofs.Common.{◌≡◌, ◌≢◌, ◌⊎◌, ◌<◌, ◌≤◌, ◌-◌, ◌∙◌, ℕ, suc, List, [], ◌∷◌, Contains, Some, length, map, take, slice_get, refl, sym, ap, subst, inl, inr, arith}
use Rattle.std.proofs.lemmas.Bool.{cases_eq, cases_lt}
use Rattle.std.proofs.lemmas.Option.{same_Some, get_or_from_slice_get}
use Rattle.currency_base.specs.Lists.{OnlyOnce}
use Rattle.currency_base.specs.Literals.{var_of, negation}
use Rattle.currency_base.specs.declared.lit.Lit.{Lit}
use Rattle.search_trail.specs.Trails.{AreEntries, Entry, Trail, level_at, lits_of, undone}
use Rattle.refutation_log.specs.Counted.{IsOpen, IsUnit}
use Rattle.watch_propagate.specs.WatchRule.{IsDueTo}
use Rattle.conflict_analysis.specs.Analyses.{lits_below}
use Rattle.conflict_analysis.specs.Steps.{IsWritten, lit_at, negated, without}
use Rattle.conflict_analysis.specs.Steps.IsWritten.{alone, followed}
use Rattle.conflict_analysis.proofs.Entries.{get_take, negation_twice, negation_var, take_get}
use Rattle.conflict_analysis.proofs.Deriving.{inside}
use Rattle.conflict_analysis.proofs.Members.{cons_cases, contains_at, in_none, place_in}
use Rattle.conflict_analysis.proofs.Spelled.{filter_once, get_lit, here_in, in_filter, is_out, later_in, map_take, in_map, not_out, once_cons, one_place}
use Rattle.conflict_analysis.proofs.Starts.{begun_counts, counts_begun, start_there}

-- ---- what was written

-- the negations at a point and at these other places
pub record Spells (t : Trail) (point : ℕ) (leaves : List ℕ) (lits : List Lit) : Type 0 where
  pub others : List ℕ
  pub lits_are : lits ≡ map (negated t.entries) (point ∷ others)
  pub from : (q : ℕ) → Contains others q → Contains leaves q
  pub has : (q : ℕ) → Contains leaves q → Contains others q
  pub once : OnlyOnce leaves → OnlyOnce others

pub spells : (t : Trail) (point : ℕ) (leaves : List ℕ) (lits : List Lit) (back : ℕ) → IsWritten t point leaves lits
    back → Spells t point leaves lits
spells t point leaves lits back (alone none is level) =
    record {
      others = [];
      lits_are = is;
      from = λ q there. absurd (in_none q there);
      has = λ q there. subst (λ ps. Contains ps q) none there;
      once = λ once i j x a b. absurd (cc);
    }
spells t point leaves lits back (followed second h is level) =
    record {
      others = second ∷ without second leaves;
      lits_are = is;
      from = λ q there. from q (cons_cases second (without second leaves) q there);
      has = λ q there. has q there (cases_eq q second);
      once = λ once. once_cons second (without second leaves) (filter_once _ leaves once) (is_out second leaves);
    }
  where
    from : (q : ℕ) → (second ≡ q) ⊎ Contains (without second leaves) q → Contains leaves q
    from q (inl same) = subst (λ p. Contains leaves p) same h.is_in
    from q (inr there) = (in_filter _ leaves q there).0

    has : (q : ℕ) → Contains leaves q → (q ≡ second) ⊎ (q ≡ second → ⊥) → Contains (second ∷ without second leaves) q
    has q there (inl same) = subst (λ p. Contains (second ∷ without second leaves) p) (sym same)
        (here_in second (without second leaves))
    has q there (inr differs) = later_in second (without second leaves) q (not_out second leaves q there differs)

-- ---- what is open

module _ (t : Trail) (are : AreEntries t) where
  -- before a place that is not after a point, no literal of its variable is true
  none_before : (n point : ℕ) (l : Lit) → n ≤ point → point < length t.entries → var_of l ≡ var_of
      (lit_at t.entries point) → Contains (take n (lits_of t)) l → ⊥
  none_before n point l low within var there =
      let at = place_in (take n (lits_of t)) l there in
      let taken = get_take n at.0 (lits_of t) l at.1 in
      let same = one_place t are point at.0 l within taken.1 var in
      omega (arith, same, taken.0, low)

  pub open_before : (n point : ℕ) → n ≤ point → point < length t.entries → IsOpen (take n (lits_of t)) (negated t.entries point)
  open_before n point low within =
      record {
        not_true = λ there. none_before n point (negated t.entries point) low within
            (negation_var (lit_at t.entries point)) there;
        not_false = λ there. none_before n point (negation (negated t.entries point)) low within
            (negation_var (negated t.entries point) ∙ negation_var (lit_at t.entries point)) there;
      }

  pub unit_before : (n point : ℕ) (others : List ℕ) (lits : List Lit) → lits ≡ map (negated t.entries)
      (point ∷ others) → n ≤ point → point < length t.entries
      → ((q : ℕ) → Contains others q → q < n) → IsUnit (take n (lits_of t)) lits (negated t.entries point)
  unit_before n point others lits is low within below =
      record {
        is_in = subst (λ ls. Contains ls (negated t.entries point)) (sym is)
            (here_in (negated t.entries point) (map (negated t.entries) others));
        is_open = open_before n point low within;
        others = λ o there differs. other o (in_map (negated t.entries) (point ∷ others) o
            (subst (λ ls. Contains ls o) is there)) differs;
      }
    where
      other : (o : Lit) → ((q : ℕ) × Contains (point ∷ others) q × (negated t.entries q ≡ o)) → o ≢ negated t.entries
          point → Contains (take n (lits_of t)) (negation o)
      other o q differs = by (cons_cases point others q.0 q.1)
        where
          by : (point ≡ q.0) ⊎ Contains others q.0 → Contains (take n (lits_of t)) (negation o)
          by (inl same) = absurd (differs (sym q.2 ∙ ap (negated t.entries) (sym same)))
          by (inr there) =
              let less = below q.0 there in
              let at = take_get n q.0 (lits_of t) (lit_at t.entries q.0) less
              (get_lit t are q.0 (omega (arith, less, low, within))) in
              subst (λ l. Contains (take n (lits_of t)) l) (sym (negation_twice (lit_at t.entries q.0))
              ∙ ap negation q.2) (contains_at (take n (lits_of t)) q.0 (lit_at t.entries q.0) at)

  -- the literals up to where a level begins
  up_to : (level start : ℕ) → slice_get t.starts level ≡ Some start → lits_of (undone t level) ≡ take start (lits_of t)
  up_to level start is =
      ap (λ n. map (λ (e : Entry). e.lit) (take n t.entries)) (get_or_from_slice_get t.starts level start (length t.entries) is)
      ∙ map_take (λ (e : Entry). e.lit) start t.entries

  -- levels begin in order
  in_order : (i j low high : ℕ) → i ≤ j → slice_get t.starts i ≡ Some low → slice_get t.starts j ≡ Some high → low ≤ high
  in_order i j low high h a b = by (cases_eq i j)
    where
      by : (i ≡ j) ⊎ (i ≡ j → ⊥) → low ≤ high
      by (inl same) = let e : low ≡ high = same_Some _ _ (sym a ∙ ap (slice_get t.starts) same ∙ b) in omega (arith, e)
      by (inr differs) = let less = are.ascend i j low high (omega (arith, h, differs)) a b in omega (arith, less)

-- ---- the level to which it leads back

module _ (t : Trail) (are : AreEntries t) (point : ℕ) (leaves : List ℕ) (lits : List Lit) (back level : ℕ)
    (deep : 0 < length t.starts) (begins : slice_get t.starts (length t.starts - 1) ≡ Some level)
    (within : point < length t.entries) (above : level ≤ point) (below : (q : ℕ) → Contains leaves q → q < level) where
  pub lower : IsWritten t point leaves lits back → back < length t.starts
  lower (alone none is b) = omega (arith, b, deep)
  lower (followed second h is b) = by (cases_lt (length t.starts - 1) (level_at t second))
    where
      by : (length t.starts - 1 < level_at t second) ⊎ (level_at t second ≤ length t.starts - 1) → back < length t.starts
      by (inl late) =
          let low = counts_begun t.starts (length t.starts - 1) level second are.ascend begins late in
          let high = below second h.is_in in
          absurd (omega (arith, low, high))
      by (inr early) = omega (arith, early, b, deep)

  -- where the next level begins
  next : (w : IsWritten t point leaves lits back) → (start : ℕ) × (slice_get t.starts back ≡ Some start)
  next w = start_there t.starts back (lower w)

  next_low : (w : IsWritten t point leaves lits back) → (next w).0 ≤ point
  next_low w =
      let low = in_order t are back (length t.starts - 1) (next w).0 level (let l = lower w in omega (arith, l))
      (next w).1 begins in
      omega (arith, low, above)

  -- the others are before it
  next_high : (w : IsWritten t point leaves lits back) (q : ℕ) → Contains leaves q → q < (next w).0
  next_high w q there = by w (next w).0 (next w).1
    where
      by : IsWritten t point leaves lits back → (start : ℕ) → slice_get t.starts back ≡ Some start → q < start
      by (alone none is b) start begun = absurd (in_none q (subst (λ ps. Contains ps q) none there))
      by (followed second h is b) start begun = which (cases_lt second start)
        where
          which : (second < start) ⊎ (start ≤ second) → q < start
          which (inl less) = let most = h.highest q there in omega (arith, most, less)
          which (inr late) = let counts = begun_counts t.starts back start second are.ascend begun late in absurd
              (omega (arith, counts, b))

  pub unit_back : (w : IsWritten t point leaves lits back) → IsUnit (lits_of (undone t back)) lits (negated t.entries point)
  unit_back w =
      let s = spells t point leaves lits back w in
      subst (λ ls. IsUnit ls lits (negated t.entries point)) (sym (up_to t are back (next w).0 (next w).1))
      (unit_before t are (next w).0 point s.others lits s.lits_are (next_low w) within
      (λ q there. next_high w q (s.from q there)))

  pub unit_below : (w : IsWritten t point leaves lits back) → IsUnit (lits_below t) lits (negated t.entries point)
  unit_below w =
      let s = spells t point leaves lits back w in
      subst (λ n. IsUnit (take n (lits_of t)) lits (negated t.entries point))
      (sym (get_or_from_slice_get t.starts (length t.starts - 1) level (length t.entries) begins))
      (unit_before t are level point s.others lits s.lits_are above within (λ q there. below q (s.from q there)))

  -- the second literal is of the level to which it leads back
  not_sooner : (second start : ℕ) → back ≡ level_at t second → second < length t.entries → (i : ℕ)
      → slice_get (take back t.starts) i ≡ Some start
      → Contains (take start (lits_of (undone t back))) (lit_at t.entries second) → (next_start : ℕ)
      → slice_get t.starts back ≡ Some next_start → ⊥
  not_sooner second start b inside i begun there next_start after =
      let taken = get_take back i t.starts start begun in
      let low = counts_begun t.starts i start second are.ascend taken.1 (omega (arith, taken.0, b)) in
      let at = place_in (take start (lits_of (undone t back))) (lit_at t.entries second) there in
      let first = get_take start at.0 (lits_of (undone t back)) (lit_at t.entries second) at.1 in
      let all = get_take next_start at.0 (lits_of t) (lit_at t.entries second)
      (ap (λ ls. slice_get ls at.0) (sym (up_to t are back next_start after)) ∙ first.1) in
      let same = one_place t are second at.0 (lit_at t.entries second) inside all.1 refl in
      omega (arith, same, first.0, low)

  pub due : IsWritten t point leaves lits back → IsDueTo (undone t back) lits
  due (alone none is b) first second rest two = absurd (short (sym is ∙ two))
    where
      short : negated t.entries point ∷ [] ≡ first ∷ second ∷ rest → ⊥
      short e = let long = ap length e in omega (arith, long, length_two rest)
        where
          length_two : (ls : List Lit) → length (first ∷ second ∷ ls) ≡ suc (suc (length ls))
          length_two ls = refl
  due (followed place h is b) first second rest two = (
    subst (λ l. IsOpen (lits_of (undone t back)) l) head (unit_back (followed place h is b)).is_open,
    λ i start begun there. not_sooner place start b (let low = below place h.is_in in omega (arith, low, above, within)) i begun
        (subst (λ l. Contains (take start (lits_of (undone t back))) l) (ap negation (sym tail) ∙ negation_twice
        (lit_at t.entries place)) there) (next (followed place h is b)).0 (next (followed place h is b)).1,
  )
    where
      head : negated t.entries point ≡ first
      head = same_Some _ _ (ap (λ ls. slice_get ls 0) (sym is ∙ two))

      tail : negated t.entries place ≡ second
      tail = same_Some _ _ (ap (λ ls. slice_get ls 1) (sym is ∙ two))
