-- What is learned from a conflict, and how a conflict and a literal are explained.
use Rattle.std.proofs.Common.{◌≡◌, ◌⊎◌, ◌<◌, ◌≤◌, ◌+◌, ◌-◌, ◌∙◌, ◌++◌, All, unwrap_or, ℕ, get_or, List, [], ◌∷◌, Contains, Some, None, length, map, slice_get, refl, sym, ap, subst, inl, inr, arith}
use Rattle.std.proofs.lemmas.Bool.{cases_eq}
use Rattle.std.proofs.lemmas.List.Elements.{All-cons, All-nil, Contains-get_or}
use Rattle.std.proofs.lemmas.Option.{same_Some, slice_get_within}
use Rattle.currency_base.specs.Lists.{OnlyOnce}
use Rattle.currency_base.specs.Literals.{var_of, negation}
use Rattle.currency_base.specs.declared.lit.Lit.{Lit}
use Rattle.search_trail.specs.Trails.{AreEntries, Entry, StandsAt, Trail, lits_of}
use Rattle.clause_arena.specs.Arenas.{Arena}
use Rattle.watch_propagate.specs.WatchRule.{AreReasons}
use Rattle.conflict_analysis.specs.Analyses.{AreOfAssumed, IsAssumed, IsDerived, IsFalsified, IsLearned}
use Rattle.conflict_analysis.specs.Steps.{Fate, HasSeen, IsAssigned, IsEnded, IsEndedFor, IsLed, IsSeen, IsWritten, State, lit_at, negated, number_of, reason_of, without}
use Rattle.conflict_analysis.specs.Steps.Fate.{is_kept, is_resolved, is_leaf, waits}
use Rattle.conflict_analysis.proofs.Beginnings.{true_at}
use Rattle.conflict_analysis.proofs.Clause.{due, lower, spells, unit_back, unit_below}
use Rattle.conflict_analysis.proofs.Deriving.{Derives, derived, inside, no_reason, one_reason}
use Rattle.conflict_analysis.proofs.Entries.{before, entry_there, negation_twice, negation_var, reason_here, same_place}
use Rattle.conflict_analysis.proofs.Literals.{var_inside}
use Rattle.conflict_analysis.proofs.Members.{cons_cases, contains_at, in_none}
use Rattle.conflict_analysis.proofs.Spelled.{consistent, filter_once, get_lit, here_in, in_filter, later_in, lit_there, negated_var, not_out, once_cons, same_lits, says_false, says_from, says_has, says_once, says_within}

-- places of lists are those of entries
pub all_below : (xs : List ℕ) (n : ℕ) → ((q : ℕ) → Contains xs q → q < n) → All (λ q. q < n) xs
all_below xs n below k d within = below (get_or xs k d) (Contains-get_or xs k d within)

-- a literal that is true stands where its variable does
pub true_assigned : (t : Trail) (lit : Lit) → Contains (lits_of t) lit → IsAssigned t lit
true_assigned t lit holds = let at_lit =
    true_at t lit holds in (at_lit.0, record { entry = at_lit.1; is_entry = at_lit.2; is_of = ap var_of at_lit.3 })

pub stands_true : (t : Trail) (lit : Lit) (place : ℕ) → AreEntries t → (s : StandsAt t (var_of lit) place)
    → Contains (lits_of t) lit → s.entry.lit ≡ lit
stands_true t lit place are s holds =
    let at_lit = true_at t lit holds in
    let same = same_place t.entries are.once place at_lit.0 s.entry at_lit.1 s.is_entry at_lit.2
    (s.is_of ∙ ap var_of (sym at_lit.3)) in
    ap (λ (e : Entry). e.lit) (same_Some _ _ (sym s.is_entry ∙ ap (slice_get t.entries) same ∙ at_lit.2)) ∙ at_lit.3

module _ (a : Arena) (t : Trail) (are : AreEntries t) (reasons : AreReasons a t.entries) where
  pub resolved_inside : (base level at : ℕ) (s : State) → IsEnded a t.entries base level at s → (q : ℕ)
      → Contains s.resolved q → q < length t.entries
  resolved_inside base level at s e q there = inside a t are reasons s.seen 0 q (e.closed q there)

  -- a clause of negations follows from a conflict
  derives_conflict : (base level at clause : ℕ) (s : State) (e : IsEndedFor a t.entries base level at clause s)
      (f : IsFalsified a t clause)
      (lits : List Lit) (places : List ℕ) (is : lits ≡ map (negated t.entries) places) →
      ((q : ℕ) → Contains places q → q < length t.entries) → OnlyOnce places
      → ((q : ℕ) → IsSeen s.seen q → Contains places q ⊎ Contains s.resolved q)
      → ((q : ℕ) → Contains places q → Contains s.resolved q → ⊥)
      → Derives a t s.seen s.resolved lits clause e.lits
  derives_conflict base level at clause s e f lits places is within once cover apart =
      record {
        rises = e.ended.rises;
        closed = e.ended.closed;
        covered = λ p q there less seen. covered q seen;
        fresh = λ p there in_lits. consistent t are (lit_at t.entries p)
            (contains_at (lits_of t) p (lit_at t.entries p) (get_lit t are p (resolved_inside base level at s e.ended p there)))
            (says_false t are lits places is within (lit_at t.entries p) in_lits);
        new = λ p there in_lits. new p there (says_from t are lits places is within (negated t.entries p) in_lits);
        is_last = e.is_clause;
        last_closed = λ o there. closed o there;
        last_new = λ p there same. no_reason a t are reasons clause f s.seen p (e.ended.closed p there) same;
        once = says_once t are lits places is within once;
        within = says_within t are lits places is within;
      }
    where
      new : (p : ℕ) → Contains s.resolved p → ((q : ℕ) × Contains places q × (negated t.entries q ≡ negated t.entries p)) → ⊥
      new p there q =
          let same : q.0 ≡ p = same_lits t are q.0 p (within q.0 q.1) (resolved_inside base level at s e.ended p there)
          (sym (negated_var t are q.0) ∙ ap var_of q.2 ∙ negated_var t are p) in
          apart p (subst (λ r. Contains places r) same q.1) there

      covered : (q : ℕ) → IsSeen s.seen q → Contains lits (negated t.entries q) ⊎ Contains s.resolved q
      covered q seen = elim (cover q seen) [ inl h ↦ inl (says_has t are lits places is within q h) | inr h ↦ inr h ]

      closed : (o : Lit) → Contains e.lits o → Contains lits o ⊎ ((q : ℕ) × Contains s.resolved q × (o ≡ negated t.entries q))
      closed o there =
          let at_o = true_at t (negation o)
          (f.all_false o (subst (λ ls. Contains ls o) (same_Some _ _ (sym e.is_clause ∙ f.is_clause)) there)) in
          let same : negated t.entries at_o.0 ≡ o = ap negation (lit_there t are at_o.0 at_o.1 at_o.2 ∙ at_o.3)
          ∙ negation_twice o in
          let seen : IsSeen s.seen at_o.0 =
          elim (e.seen o there at_o.0 at_o.1 at_o.2 (ap var_of at_o.3 ∙ negation_var o))
          [ inl h ↦ h | inr h ↦ absurd (omega (arith, h)) ] in
          elim (covered at_o.0 seen) [ inl h ↦ inl (subst (λ l. Contains lits l) same h) | inr h ↦ inr (at_o.0, h, sym same) ]

  -- ---- what is learned

  module _ (base level conflict : ℕ) (s : State) (led : IsLed a t.entries base level conflict s) (f : IsFalsified a t conflict)
      (deep : 0 < length t.starts) (begins : slice_get t.starts (length t.starts - 1) ≡ Some level) where
    e : IsEnded a t.entries base level (s.low + 1) s
    e = led.ended.ended

    pub leaves_below : (q : ℕ) → Contains s.leaves q → q < level
    leaves_below q there = (led.ended.ended.leaves q there).below

    pub leaves_inside : (q : ℕ) → Contains s.leaves q → q < length t.entries
    leaves_inside q there = let h = leaves_below q there in omega (arith, h, led.above, led.there)

    -- each place that was met is in the clause or was resolved
    learned_cover : (others : List ℕ) → ((q : ℕ) → Contains s.leaves q → Contains others q) → (q : ℕ)
        → IsSeen s.seen q → Contains (s.low ∷ others) q ⊎ Contains s.resolved q
    learned_cover others has q seen = by (led.ended.ended.fate q seen)
      where
        by : Fate level (s.low + 1) s q → Contains (s.low ∷ others) q ⊎ Contains s.resolved q
        by (is_kept h) = absurd (in_none q (subst (λ ps. Contains ps q) led.ended.ended.none_kept h))
        by (is_resolved h) = inr h
        by (is_leaf h) = inl (later_in s.low others q (has q h))
        by (waits h g) =
            let low = led.ended.ended.lowest q seen h in
            let same : s.low ≡ q = omega (arith, low, g) in
            inl (subst (λ p. Contains (s.low ∷ others) p) same (here_in s.low others))

    learned_inside : (others : List ℕ) → ((q : ℕ) → Contains others q → Contains s.leaves q) → (q : ℕ)
        → Contains (s.low ∷ others) q → q < length t.entries
    learned_inside others from q there = by (cons_cases s.low others q there)
      where
        by : (s.low ≡ q) ⊎ Contains others q → q < length t.entries
        by (inl same) = omega (arith, same, led.there)
        by (inr h) = leaves_inside q (from q h)

    -- and none is both
    learned_apart : (others : List ℕ) → ((q : ℕ) → Contains others q → Contains s.leaves q) → (q : ℕ)
        → Contains (s.low ∷ others) q → Contains s.resolved q → ⊥
    learned_apart others from q there resolved = by (cons_cases s.low others q there)
      where
        away : (q < level) ⊎ (s.low + 1 ≤ q) → s.low ≡ q → ⊥
        away (inl h) same = omega (arith, h, same, led.above)
        away (inr h) same = omega (arith, h, same)

        by : (s.low ≡ q) ⊎ Contains others q → ⊥
        by (inl same) = away (led.ended.ended.away q resolved) same
        by (inr h) = led.ended.ended.apart q resolved (from q h)

    learned_derived : (lits : List Lit) (back : ℕ) → IsWritten t s.low s.leaves lits back → IsDerived a t lits
        (map (number_of t.entries) s.resolved ++ conflict ∷ [])
    learned_derived lits back w =
        let x = spells t s.low s.leaves lits back w in
        derived a t are reasons s.seen s.resolved lits conflict led.ended.lits
        (derives_conflict base level (s.low + 1) conflict s led.ended f lits (s.low ∷ x.others) x.lits_are
        (learned_inside x.others x.from)
        (once_cons s.low x.others (x.once led.ended.ended.leaves_once)
        (λ there. let h = leaves_below s.low (x.from s.low there) in omega (arith, h, led.above)))
        (learned_cover x.others x.has) (learned_apart x.others x.from))

    pub is_learned : (vars : ℕ) (lits : List Lit) (hints : List ℕ) (back : ℕ) → IsWritten t s.low s.leaves lits back
        → hints ≡ map (number_of t.entries) s.resolved ++ conflict ∷ []
        → IsLearned a t (record { vars = vars; lits = lits; hints = hints; back = back; resolved = s.resolved })
    is_learned vars lits hints back w is =
        record {
          derived = subst (λ hs. IsDerived a t lits hs) (sym is) (learned_derived lits back w);
          lower = lower t are s.low s.leaves lits back level deep begins led.there led.above leaves_below w;
          first = negated t.entries s.low;
          is_first = ap (λ ls. slice_get ls 0) (spells t s.low s.leaves lits back w).lits_are;
          unit_below = unit_below t are s.low s.leaves lits back level deep begins led.there led.above leaves_below w;
          unit_back = unit_back t are s.low s.leaves lits back level deep begins led.there led.above leaves_below w;
          due = due t are s.low s.leaves lits back level deep begins led.there led.above leaves_below w;
          were_true = all_below s.resolved (length t.entries) (resolved_inside base level (s.low + 1) s e);
        }

  -- ---- what explains a conflict

  module _ (base level conflict : ℕ) (s : State) (end : IsEndedFor a t.entries base level level conflict s)
      (f : IsFalsified a t conflict)
      (is_base : base ≡ length t.entries) (is_level : level ≡ length t.entries) where
    pub leaf_inside : (q : ℕ) → Contains s.leaves q → q < length t.entries
    leaf_inside q there = let h = (end.ended.leaves q there).below in omega (arith, h, is_level)

    pub explained : (lits : List Lit) (hints : List ℕ) (except : ℕ) → except ≡ length t.entries → lits ≡ map
        (negated t.entries) (without except s.leaves)
        → hints ≡ map (number_of t.entries) s.resolved ++ conflict ∷ [] → IsDerived a t lits hints
    explained lits hints except out is hints_are =
        subst (λ hs. IsDerived a t lits hs) (sym hints_are)
        (derived a t are reasons s.seen s.resolved lits conflict end.lits
        (derives_conflict base level level conflict s end f lits (without except s.leaves) is
        (λ q there. leaf_inside q (in_filter _ s.leaves q there).0)
        (filter_once _ s.leaves end.ended.leaves_once) cover
        (λ q there resolved. end.ended.apart q resolved (in_filter _ s.leaves q there).0)))
      where
        cover : (q : ℕ) → IsSeen s.seen q → Contains (without except s.leaves) q ⊎ Contains s.resolved q
        cover q seen = by (end.ended.fate q seen)
          where
            by : Fate level level s q → Contains (without except s.leaves) q ⊎ Contains s.resolved q
            by (is_kept h) = absurd (in_none q (subst (λ ps. Contains ps q) end.ended.none_kept h))
            by (is_resolved h) = inr h
            by (is_leaf h) = inl (not_out except s.leaves q h (λ same. let low = leaf_inside q h in omega
                (arith, low, same, out)))
            by (waits h g) = absurd (omega (arith, h, g))

    pub of_assumed : (lits : List Lit) (except : ℕ) → lits ≡ map (negated t.entries) (without except s.leaves)
        → AreOfAssumed t lits
    of_assumed lits except is o there = by (says_from t are lits (without except s.leaves) is
        (λ q h. leaf_inside q (in_filter _ s.leaves q h).0) o there)
      where
        by : ((q : ℕ) × Contains (without except s.leaves) q × (negated t.entries q ≡ o)) → IsAssumed t (negation o)
        by q = which (end.ended.leaves q.0 leaf).left
          where
            leaf : Contains s.leaves q.0
            leaf = (in_filter _ s.leaves q.0 q.1).0

            which : (base ≤ q.0) ⊎ (reason_of t.entries q.0 ≡ None) → IsAssumed t (negation o)
            which (inl h) = let low = leaf_inside q.0 leaf in absurd (omega (arith, low, h, is_base))
            which (inr none) =
                let d = entry_there t.entries q.0 (leaf_inside q.0 leaf) in
                let opened = are.assumed q.0 d.0 d.1 (sym (reason_here t.entries q.0 d.0 d.1) ∙ none) in
                record {
                  level = opened.0;
                  start = q.0;
                  is_start = opened.1;
                  is_there = get_lit t are q.0 (leaf_inside q.0 leaf) ∙ ap (λ l. Some l)
                      (sym (negation_twice (lit_at t.entries q.0)) ∙ ap negation q.2);
                }

  -- ---- what explains a literal

  same_or : (x y : Lit) → (x ≡ y) ⊎ (x ≡ y → ⊥)
  same_or x y = elim (cases_eq x.0 y.0) [
    | inl same ↦ inl (ap (λ n. record { 0 = n }) same)
    | inr differs ↦ inr
        (λ e. differs (ap (λ (l : Lit). l.0) e))
  ]

  module _ (place clause : ℕ) (s : State) (end : IsEndedFor a t.entries place place (length t.entries) clause s)
      (bottom : t.starts ≡ [])
      (lit : Lit) (entry : Entry) (is_entry : slice_get t.entries place ≡ Some entry) (is_lit : entry.lit ≡ lit)
      (is_reason : entry.reason ≡ Some clause) where
    -- each place that was resolved is before
    before_it : (p : ℕ) → Contains s.resolved p → p < place
    before_it p there = elim (end.ended.away p there) [
      | inl h ↦ h
      | inr h ↦ (let w = resolved_inside place place (length t.entries) s end.ended p there in absurd
          (omega (arith, w, h)))
    ]

    -- nothing was assumed, so each place before that was met was resolved
    all_resolved : (q : ℕ) → q < place → IsSeen s.seen q → Contains s.resolved q
    all_resolved q less seen = by (end.ended.fate q seen)
      where
        by : Fate place (length t.entries) s q → Contains s.resolved q
        by (is_kept h) = absurd (in_none q (subst (λ ps. Contains ps q) end.ended.none_kept h))
        by (is_resolved h) = h
        by (waits h g) = absurd (omega (arith, h, less))
        by (is_leaf h) = which (end.ended.leaves q h).left
          where
            which : (place ≤ q) ⊎ (reason_of t.entries q ≡ None) → Contains s.resolved q
            which (inl g) = absurd (omega (arith, g, less))
            which (inr none) =
                let d = entry_there t.entries q (let w = slice_get_within t.entries place entry is_entry in omega
                (arith, less, w)) in
                let opened = are.assumed q d.0 d.1 (sym (reason_here t.entries q d.0 d.1) ∙ none) in
                absurd (none_there opened.0 (subst (λ ss. slice_get ss opened.0 ≡ Some q) bottom opened.1))
              where
                none_there : (i : ℕ) → slice_get {X = ℕ} [] i ≡ Some q → ⊥
                none_there i at = cc

    unit_derives : Derives a t s.seen s.resolved (lit ∷ []) clause end.lits
    unit_derives =
        record {
          rises = end.ended.rises;
          closed = end.ended.closed;
          covered = λ p q there less seen. inr (all_resolved q (let h = before_it p there in omega (arith, less, h)) seen);
          fresh = λ p there in_unit. fresh p there (cons_cases lit [] (lit_at t.entries p) in_unit);
          new = λ p there in_unit. new p there (cons_cases lit [] (negated t.entries p) in_unit);
          is_last = end.is_clause;
          last_closed = λ o there. closed o there (same_or o lit);
          last_new = λ p there same. let h = end.ended.closed p there in
              let two = one_reason a t are reasons s.seen p place h this
              (same ∙ sym (ap (λ o. unwrap_or o 0) (reason_here t.entries place entry is_entry ∙ is_reason))) in
              let low = before_it p there in omega (arith, two, low);
          once = once_cons lit [] (λ i j x at_i at_j. absurd (cc)) (λ there. in_none lit there);
          within = λ k d less. one_within k d less;
        }
      where
        this : HasSeen a t.entries s.seen 0 place
        this = record {
          entry = entry;
          is_entry = is_entry;
          clause = clause;
          is_reason = is_reason;
          lits =
              end.lits;
          is_clause = end.is_clause;
          are_seen = end.seen;
        }

        -- the literal is of none of their variables
        apart : (p : ℕ) → Contains s.resolved p → var_of lit ≡ var_of (lit_at t.entries p) → ⊥
        apart p there same =
            let h = end.ended.closed p there in
            let one = same_place t.entries are.once p place h.entry entry h.is_entry is_entry
            (ap var_of (sym (lit_there t are p h.entry h.is_entry)) ∙ sym same ∙ ap var_of (sym is_lit)) in
            let low = before_it p there in omega (arith, one, low)

        fresh : (p : ℕ) → Contains s.resolved p → (lit ≡ lit_at t.entries p) ⊎ Contains [] (lit_at t.entries p) → ⊥
        fresh p there (inr none) = in_none (lit_at t.entries p) none
        fresh p there (inl same) = apart p there (ap var_of same)

        new : (p : ℕ) → Contains s.resolved p → (lit ≡ negated t.entries p) ⊎ Contains [] (negated t.entries p) → ⊥
        new p there (inr none) = in_none (negated t.entries p) none
        new p there (inl same) = apart p there (ap var_of same ∙ negated_var t are p)

        closed : (o : Lit) → Contains end.lits o → (o ≡ lit) ⊎ (o ≡ lit → ⊥) → Contains (lit ∷ []) o ⊎
            ((q : ℕ) × Contains s.resolved q × (o ≡ negated t.entries q))
        closed o there (inl same) = inl (subst (λ l. Contains (lit ∷ []) l) (sym same) (here_in lit []))
        closed o there (inr differs) =
            let r = reasons place entry clause is_entry is_reason in
            let in_reason = subst (λ ls. Contains ls o) (same_Some _ _ (sym end.is_clause ∙ r.is_clause)) there in
            let b = before t.entries place (negation o) (r.is_reason.others o in_reason (λ same. differs (same ∙ is_lit))) in
            let seen : IsSeen s.seen b.0 = elim (end.seen o there b.0 b.2 b.3 (ap var_of b.4 ∙ negation_var o))
            [ inl h ↦ h | inr h ↦ absurd (omega (arith, h)) ] in
            let same : negated t.entries b.0 ≡ o = ap negation (lit_there t are b.0 b.2 b.3 ∙ b.4) ∙ negation_twice o in
            inr (b.0, all_resolved b.0 b.1 seen, sym same)

        one_within : All (λ l. var_of l < t.vars) (lit ∷ [])
        one_within = All-cons (λ l. var_of l < t.vars) lit []
            (subst (λ l. var_of l < t.vars) is_lit (var_inside t (var_of entry.lit) place are
            (record { entry = entry; is_entry = is_entry; is_of = refl }))) (All-nil (λ l. var_of l < t.vars))

    pub explained_unit : (lits : List Lit) (hints : List ℕ) → lits ≡ lit ∷ [] → hints ≡ map (number_of t.entries)
        s.resolved ++ clause ∷ [] → IsDerived a t lits hints
    explained_unit lits hints is hints_are =
        subst (λ ls. IsDerived a t ls hints) (sym is) (subst (λ hs. IsDerived a t (lit ∷ []) hs) (sym hints_are)
        (derived a t are reasons s.seen s.resolved (lit ∷ []) clause end.lits unit_derives))
