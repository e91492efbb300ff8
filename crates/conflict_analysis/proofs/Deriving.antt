-- The clause follows with its hints, of which none stands twice, and each but the last adds a literal.
use Rattle.std.proofs.Common.{◌≡◌, ◌≢◌, ◌⊎◌, ◌<◌, ◌≤◌, ◌∙◌, ◌++◌, All, get_or, unwrap_or, ℕ, Bool, List, [], ◌∷◌, Contains, Some, length, map, slice_get, sym, ap, subst, inl, inr, arith}
use Rattle.std.proofs.lemmas.Bool.{cases_lt}
use Rattle.std.proofs.lemmas.List.Elements.{All-push, Contains-get_or}
use Rattle.std.proofs.lemmas.Option.{same_Some, slice_get_within, get_or_from_slice_get}
use Rattle.std.proofs.lemmas.Simd.{map-map}
use Rattle.currency_base.specs.Lists.{OnlyOnce}
use Rattle.currency_base.specs.Literals.{var_of, negation}
use Rattle.currency_base.specs.declared.lit.Lit.{Lit}
use Rattle.search_trail.specs.Trails.{AreEntries, Entry, Trail, lits_of}
use Rattle.clause_arena.specs.Arenas.{Arena}
use Rattle.refutation_log.specs.Follows.{Follows, clause_at, clauses_at}
use Rattle.lean_hints.specs.Lean.{AreLean, EachAdds}
use Rattle.lean_hints.proofs.Fronts.{lean_of}
use Rattle.watch_propagate.specs.WatchRule.{AreReasons}
use Rattle.conflict_analysis.specs.Analyses.{IsDerived, IsFalsified}
use Rattle.conflict_analysis.specs.Steps.{HasSeen, IsCovered, IsLaw, IsSeen, Rises, lit_at, negated, number_of}
use Rattle.conflict_analysis.proofs.Entries.{before, map_at, negation_differs, negation_twice, negation_var, reason_here, same_place}
use Rattle.conflict_analysis.proofs.Following.{law_adds, law_follows}
use Rattle.conflict_analysis.proofs.Members.{contains_at, snoc_at}
use Rattle.conflict_analysis.proofs.Sorting.{rises_once}
use Rattle.conflict_analysis.proofs.Spelled.{consistent, in_map, lit_there, map_once, same_lits}

-- what leads from a last clause to the learned one, by the reasons at some places
pub record Derives (a : Arena) (t : Trail) (seen : List Bool) (resolved : List ℕ) (learned : List Lit) (last : ℕ)
    (last_lits : List Lit) : Type 0 where
  pub rises : Rises resolved
  pub closed : (p : ℕ) → Contains resolved p → HasSeen a t.entries seen 0 p
  pub covered : (p q : ℕ) → Contains resolved p → q < p → IsSeen seen q → Contains learned (negated t.entries q) ⊎
      Contains resolved q
  pub fresh : (p : ℕ) → Contains resolved p → Contains learned (lit_at t.entries p) → ⊥
  pub new : (p : ℕ) → Contains resolved p → Contains learned (negated t.entries p) → ⊥
  pub is_last : slice_get a.clauses last ≡ Some last_lits
  pub last_closed : (o : Lit) → Contains last_lits o → Contains learned o ⊎
      ((q : ℕ) × Contains resolved q × (o ≡ negated t.entries q))
  pub last_new : (p : ℕ) → Contains resolved p → number_of t.entries p ≡ last → ⊥
  pub once : OnlyOnce learned
  pub within : All (λ l. var_of l < t.vars) learned

-- clauses of numbers, with one more
listed : (f : ℕ → ℕ) (cs : List (List Lit)) (ps : List ℕ) (x : ℕ) (lits : List Lit) → clause_at cs x ≡ lits
    → map (λ p. clause_at cs (f p)) ps ++ lits ∷ [] ≡ clauses_at cs (map f ps ++ x ∷ [])
listed f cs [] x lits is = ap (λ c. c ∷ []) (sym is)
listed f cs (p ∷ ps) x lits is = ap (λ ls. clause_at cs (f p) ∷ ls) (listed f cs ps x lits is)

module _ (a : Arena) (t : Trail) (are : AreEntries t) (reasons : AreReasons a t.entries) where
  number_is : (seen : List Bool) (below p : ℕ) (h : HasSeen a t.entries seen below p) → number_of t.entries p ≡ h.clause
  number_is seen below p h = ap (λ o. unwrap_or o 0) (reason_here t.entries p h.entry h.is_entry ∙ h.is_reason)

  clause_is : (seen : List Bool) (below p : ℕ) (h : HasSeen a t.entries seen below p) → clause_at a.clauses
      (number_of t.entries p) ≡ h.lits
  clause_is seen below p h = ap (λ n. clause_at a.clauses n) (number_is seen below p h) ∙ get_or_from_slice_get
      a.clauses h.clause h.lits [] h.is_clause

  pub inside : (seen : List Bool) (below p : ℕ) → HasSeen a t.entries seen below p → p < length t.entries
  inside seen below p h = slice_get_within t.entries p h.entry h.is_entry

  -- the reason has the literal, and its others are false before
  has_lit : (seen : List Bool) (below p : ℕ) (h : HasSeen a t.entries seen below p) → Contains h.lits h.entry.lit
  has_lit seen below p h =
      let r = reasons p h.entry h.clause h.is_entry h.is_reason in
      subst (λ ls. Contains ls h.entry.lit) (same_Some _ _ (sym r.is_clause ∙ h.is_clause)) r.is_reason.is_in

  has_others : (seen : List Bool) (below p : ℕ) (h : HasSeen a t.entries seen below p) (o : Lit) → Contains h.lits o
      → o ≢ h.entry.lit
      → (q : ℕ) × (q < p) × (d : Entry) × (slice_get t.entries q ≡ Some d) × (d.lit ≡ negation o)
  has_others seen below p h o there differs =
      let r = reasons p h.entry h.clause h.is_entry h.is_reason in
      before t.entries p (negation o)
      (r.is_reason.others o (subst (λ ls. Contains ls o) (same_Some _ _ (sym h.is_clause ∙ r.is_clause)) there) differs)

  -- two places have different reasons
  no_two : (seen : List Bool) (below p q : ℕ) (h : HasSeen a t.entries seen below p)
      (g : HasSeen a t.entries seen below q) → h.clause ≡ g.clause → p < q → ⊥
  no_two seen below p q h g same less =
      let lits : h.lits ≡ g.lits = same_Some _ _ (sym h.is_clause ∙ ap (slice_get a.clauses) same ∙ g.is_clause) in
      let there : Contains h.lits g.entry.lit = subst (λ ls. Contains ls g.entry.lit) (sym lits) (has_lit seen below q g) in
      let apart : g.entry.lit ≢ h.entry.lit = λ e. let s = same_place t.entries are.once q p g.entry h.entry
      g.is_entry h.is_entry (ap var_of e) in omega (arith, s, less) in
      let b = has_others seen below p h g.entry.lit there apart in
      let s = same_place t.entries are.once b.0 q b.2 g.entry b.3 g.is_entry (ap var_of b.4 ∙ negation_var g.entry.lit) in
      omega (arith, s, b.1, less)

  pub one_reason : (seen : List Bool) (p q : ℕ) → HasSeen a t.entries seen 0 p → HasSeen a t.entries seen 0 q
      → number_of t.entries p ≡ number_of t.entries q → p ≡ q
  one_reason seen p q h g same = by (cases_lt p q) (cases_lt q p)
    where
      by : (p < q) ⊎ (q ≤ p) → (q < p) ⊎ (p ≤ q) → p ≡ q
      by (inl less) other = absurd (no_two seen 0 p q h g (sym (number_is seen 0 p h) ∙ same ∙ number_is seen 0 q g) less)
      by (inr x) (inl less) = absurd (no_two seen 0 q p g h (sym (number_is seen 0 q g) ∙ sym same ∙ number_is seen 0 p h) less)
      by (inr x) (inr y) = omega (arith, x, y)

  module _ (seen : List Bool) (resolved : List ℕ) (learned : List Lit) (last : ℕ) (last_lits : List Lit)
      (d : Derives a t seen resolved learned last last_lits) where
    law : IsLaw (lit_at t.entries) (λ p. clause_at a.clauses (number_of t.entries p)) learned resolved last_lits
    law =
        record {
          is_in = λ p there. let h = d.closed p there in
              subst (λ l. Contains (clause_at a.clauses (number_of t.entries p)) l) (sym (lit_there t are p h.entry h.is_entry))
              (subst (λ ls. Contains ls h.entry.lit) (sym (clause_is seen 0 p h)) (has_lit seen 0 p h));
          others = λ p o there in_clause differs. others p o there in_clause differs;
          fresh = d.fresh;
          new = d.new;
          apart = λ p q in_p in_q is. apart p q in_p in_q is;
          once = λ p q in_p in_q is. same_there p q in_p in_q (ap var_of is);
          closed = d.last_closed;
        }
      where
        others : (p : ℕ) (o : Lit) → Contains resolved p → Contains (clause_at a.clauses (number_of t.entries p)) o
            → o ≢ lit_at t.entries p
            → IsCovered (lit_at t.entries) learned resolved p o
        others p o there in_clause differs =
            let h = d.closed p there in
            let in_lits = subst (λ ls. Contains ls o) (clause_is seen 0 p h) in_clause in
            let b = has_others seen 0 p h o in_lits (λ same. differs (same ∙ sym (lit_there t are p h.entry h.is_entry))) in
            let is : negated t.entries b.0 ≡ o = ap negation (lit_there t are b.0 b.2 b.3 ∙ b.4) ∙ negation_twice o in
            let met : IsSeen seen b.0 = elim (h.are_seen o in_lits b.0 b.2 b.3 (ap var_of b.4 ∙ negation_var o))
            [ inl g ↦ g | inr g ↦ absurd (omega (arith, g)) ] in
            elim (d.covered p b.0 there b.1 met) [
              | inl g ↦ inl (subst (λ l. Contains learned l) is g)
              | inr g ↦ inr
                  (b.0, g, b.1, sym is)
            ]

        same_there : (p q : ℕ) → Contains resolved p → Contains resolved q → var_of (lit_at t.entries p) ≡ var_of
            (lit_at t.entries q) → p ≡ q
        same_there p q in_p in_q same =
            same_lits t are p q (inside seen 0 p (d.closed p in_p)) (inside seen 0 q (d.closed q in_q)) same

        apart : (p q : ℕ) → Contains resolved p → Contains resolved q → lit_at t.entries p ≡ negation (lit_at t.entries q) → ⊥
        apart p q in_p in_q is =
            let same = same_there p q in_p in_q (ap var_of is ∙ negation_var (lit_at t.entries q)) in
            negation_differs (lit_at t.entries q) (sym is ∙ ap (lit_at t.entries) same)

    hints : List ℕ
    hints = map (number_of t.entries) resolved ++ last ∷ []

    hints_once : OnlyOnce (map (number_of t.entries) resolved ++ last ∷ [])
    hints_once i j x at_i at_j = by (snoc_at (map (number_of t.entries) resolved) last i x at_i)
        (snoc_at (map (number_of t.entries) resolved) last j x at_j)
      where
        not_last : (k : ℕ) → slice_get (map (number_of t.entries) resolved) k ≡ Some x → last ≡ x → ⊥
        not_last k at is =
            let p = in_map (number_of t.entries) resolved x (contains_at (map (number_of t.entries) resolved) k x at) in
            d.last_new p.0 p.1 (p.2 ∙ sym is)

        by : (slice_get (map (number_of t.entries) resolved) i ≡ Some x) ⊎
            ((i ≡ length (map (number_of t.entries) resolved)) × (last ≡ x))
            → (slice_get (map (number_of t.entries) resolved) j ≡ Some x) ⊎
            ((j ≡ length (map (number_of t.entries) resolved)) × (last ≡ x)) → i ≡ j
        by (inl p) (inl q) =
            map_once (number_of t.entries) resolved (rises_once resolved d.rises)
            (λ u v in_u in_v same. one_reason seen u v (d.closed u in_u) (d.closed v in_v) same) i j x p q
        by (inl p) (inr q) = absurd (not_last i p q.1)
        by (inr p) (inl q) = absurd (not_last j q p.1)
        by (inr p) (inr q) = p.0 ∙ sym q.0

    lean : AreLean a.clauses learned (map (number_of t.entries) resolved ++ last ∷ [])
    lean =
        lean_of a.clauses learned (map (number_of t.entries) resolved) last hints_once
        (subst (EachAdds learned) (sym (map-map (clause_at a.clauses) (number_of t.entries) resolved))
        (law_adds (lit_at t.entries) (λ p. clause_at a.clauses (number_of t.entries p)) learned resolved last_lits law d.rises))

    pub derived : IsDerived a t learned (map (number_of t.entries) resolved ++ last ∷ [])
    derived =
        record {
          known = All-push (λ hint. hint < length a.clauses) (map (number_of t.entries) resolved) last
              (λ k e within. let p = in_map (number_of t.entries) resolved
              (get_or (map (number_of t.entries) resolved) k e)
              (Contains-get_or (map (number_of t.entries) resolved) k e within) in
              let h = d.closed p.0 p.1 in
              let low = slice_get_within a.clauses h.clause h.lits h.is_clause in
              omega (arith, low, number_is seen 0 p.0 h, p.2))
              (slice_get_within a.clauses last last_lits d.is_last);
          follows = subst (λ hs. Follows learned hs) (listed (number_of t.entries) a.clauses resolved last last_lits
              (get_or_from_slice_get a.clauses last last_lits [] d.is_last))
              (law_follows (lit_at t.entries) (λ p. clause_at a.clauses (number_of t.entries p)) learned resolved
              last_lits law d.rises);
          lean = lean;
          lits_once = d.once;
          within = d.within;
        }

  -- a falsified clause is no reason
  pub no_reason : (clause : ℕ) → IsFalsified a t clause → (seen : List Bool) (p : ℕ) → HasSeen a t.entries seen 0 p
      → number_of t.entries p ≡ clause → ⊥
  no_reason clause f seen p h is =
      let lits : h.lits ≡ f.lits = same_Some _ _ (sym h.is_clause ∙ ap (slice_get a.clauses)
      (sym (number_is seen 0 p h) ∙ is) ∙ f.is_clause) in
      let there = subst (λ ls. Contains ls h.entry.lit) lits (has_lit seen 0 p h) in
      let holds = contains_at (lits_of t) p h.entry.lit (map_at (λ (e : Entry). e.lit) t.entries p h.entry h.is_entry) in
      consistent t are h.entry.lit holds (f.all_false h.entry.lit there)
