-- A place of the current level is resolved, if it was met, and the walk goes on below it.
use Rattle.std.proofs.Common.{◌≡◌, ◌≢◌, ◌⊎◌, ◌<◌, ◌≤◌, ◌+◌, ◌++◌, ◌∙◌, All, ℕ, false, get_or, List, [], ◌∷◌, Contains, Option, Some, None, slice_get, slice_index_or, refl, sym, ap, subst, inl, inr, arith}
use Rattle.std.proofs.lemmas.Bool.{cases_eq, both_ways}
use Rattle.std.proofs.lemmas.List.Elements.{Contains-get_or, Contains-push, Contains-push_cases, Contains-append_left}
use Rattle.std.proofs.lemmas.Option.{same_Some}
use Rattle.currency_base.specs.Literals.{var_of, negation}
use Rattle.currency_base.specs.declared.lit.Lit.{Lit}
use Rattle.search_trail.specs.Trails.{Entry, Trail}
use Rattle.clause_arena.specs.Arenas.{Arena}
use Rattle.watch_propagate.specs.WatchRule.{AreReasons, lits_before}
use Rattle.conflict_analysis.specs.Steps.{AreMet, AreSeen, Fate, HasSeen, IsAssigned, IsKept, IsResolved, IsSeen, MeetsReason, Passes, State, reason_of, resolving}
use Rattle.conflict_analysis.specs.Steps.Fate.{is_kept, is_resolved, is_leaf, waits}
use Rattle.conflict_analysis.proofs.Entries.{VarsOnce, before, lits_below, negation_var}
use Rattle.conflict_analysis.proofs.Members.{once_more}

-- the entry whose reason is at a place
pub reasoned_entry : (es : List Entry) (place clause : ℕ) → reason_of es place ≡ Some clause →
    (e : Entry) × (slice_get es place ≡ Some e) × (e.reason ≡ Some clause)
reasoned_entry es place clause is = by (slice_get es place) refl
  where
    by : (o : Option Entry) → slice_get es place ≡ o → (e : Entry) × (slice_get es place ≡ Some e) × (e.reason ≡ Some clause)
    by (Some e) at = let there : reason_of es place ≡ e.reason = rw at refl in (e, at, sym there ∙ is)
    by None at = let there : reason_of es place ≡ None = rw at refl in absurd (cc)

-- the literals of a reason have entries
pub lits_assigned : (a : Arena) (t : Trail) → AreReasons a t.entries → (place clause : ℕ) → reason_of t.entries
    place ≡ Some clause
    → (lits : List Lit) → slice_get a.clauses clause ≡ Some lits → All (IsAssigned t) lits
lits_assigned a t reasons place clause is lits is_clause k d within =
    let e = reasoned_entry t.entries place clause is in
    let r = reasons place e.0 clause e.1 e.2 in
    by e.0 e.1 (get_or lits k d) (λ other. r.is_reason.others (get_or lits k d)
    (subst (λ ls. Contains ls (get_or lits k d)) (same_Some _ _ (sym is_clause ∙ r.is_clause))
    (Contains-get_or lits k d within)) other)
    (cases_eq (var_of e.0.lit) (var_of (get_or lits k d)))
  where
    by : (e : Entry) → slice_get t.entries place ≡ Some e → (o : Lit) →
        (o ≢ e.lit → Contains (lits_before t.entries place) (negation o))
        → (var_of e.lit ≡ var_of o) ⊎ (var_of e.lit ≡ var_of o → ⊥) → IsAssigned t o
    by e at o other (inl same) = (place, record { entry = e; is_entry = at; is_of = same })
    by e at o other (inr differs) =
        let b = before t.entries place (negation o) (other (λ same. differs (ap var_of (sym same)))) in
        (b.0, record { entry = b.2; is_entry = b.3; is_of = ap var_of b.4 ∙ negation_var o })

module _ (a : Arena) (es : List Entry) (base level place : ℕ) where
  lower : (q : ℕ) (p : ℕ) → p + 1 ≤ q → p ≤ q
  lower q p h = omega (arith, h)

  -- nothing was met there
  pub passes_unmet : (s : State) → slice_index_or s.seen place false ≡ false → Passes a es base level place s s
  passes_unmet s new = record { low = omega arith; still = λ q h. h; met = λ m. below m }
    where
      below : AreMet a es base level (place + 1) s → AreMet a es base level place s
      below m =
          record {
            fate = λ q seen. fate q seen (m.fate q seen);
            kept = m.kept;
            resolved = λ q there. let k = m.resolved q there in record { seen = k.seen; reason = k.reason; away = away q k.away };
            leaves = m.leaves;
            apart = m.apart;
            kept_once = m.kept_once;
            resolved_once = m.resolved_once;
            leaves_once = m.leaves_once;
            lowest = m.lowest;
            low_seen = m.low_seen;
            low_above = m.low_above;
          }
        where
          away : (q : ℕ) → (q < level) ⊎ ((place + 1 ≤ q) × HasSeen a es s.seen 0 q) →
              (q < level) ⊎ ((place ≤ q) × HasSeen a es s.seen 0 q)
          away q (inl h) = inl h
          away q (inr h) = inr (omega (arith, h.0), h.1)

          fate : (q : ℕ) → IsSeen s.seen q → Fate level (place + 1) s q → Fate level place s q
          fate q seen (is_kept h) = is_kept h
          fate q seen (is_resolved h) = is_resolved h
          fate q seen (is_leaf h) = is_leaf h
          fate q seen (waits h g) = waits h (by (cases_eq q place))
            where
              by : (q ≡ place) ⊎ (q ≡ place → ⊥) → q < place
              by (inl same) = absurd (both_ways _ new (subst (λ r. IsSeen s.seen r) same seen))
              by (inr differs) = omega (arith, differs, g)

  -- it was met, and is resolved
  pub passes_met : (old mid : State) → VarsOnce es → AreReasons a es → base ≤ level → level ≤ place
      → IsSeen old.seen place → MeetsReason a es base level place old mid
      → Passes a es base level place old (resolving mid place)
  passes_met old mid once reasons order top seen r = record {
    low = r.meets.low;
    still = r.meets.still;
    met =
        λ m. resolved (r.meets.met a base (place + 1) reasons (omega arith) order m (upto m));
  }
    where
      here : place < place + 1
      here = omega arith

      -- the reason's literals are below
      upto : AreMet a es base level (place + 1) old → AreSeen es old.seen (place + 1) r.lits
      upto m =
          lits_below a es once reasons old.seen (place + 1) place r.entry r.clause r.is_entry r.is_reason here r.lits r.is_clause

      after : State
      after = resolving mid place

      closed : (below : ℕ) → HasSeen a es mid.seen below place
      closed below =
          record {
            entry = r.entry;
            is_entry = r.is_entry;
            clause = r.clause;
            is_reason = r.is_reason;
            lits = r.lits;
            is_clause = r.is_clause;
            are_seen = λ o there q d at var. elim (r.meets.seen o there q d at var) [
              | inl h ↦ inl h
              | inr h ↦ absurd
                  (omega (arith, h))
            ];
          }

      resolved : AreMet a es base level (place + 1) mid → AreMet a es base level place (resolving mid place)
      resolved m =
          record {
            fate = λ q h. fate q (m.fate q h);
            kept = λ q there. let k = m.kept q there in record {
              seen = k.seen;
              above = k.above;
              below =
                  k.below;
              not_resolved = not_resolved q k;
              no_leaf = k.no_leaf;
            };
            resolved = λ q there. elim (Contains-push_cases mid.resolved place q there)
                [ inl h ↦ was q (m.resolved q h) | inr same ↦ subst (λ p. IsResolved a es base level place after p) same is_new ];
            leaves = λ q there. let k = m.leaves q there in record { seen = k.seen; below = k.below; left = k.left };
            apart = λ q there leaf. elim (Contains-push_cases mid.resolved place q there) [
              | inl h ↦ m.apart q h leaf
              | inr same ↦ (let low = (m.leaves q leaf).below in omega (arith, same, top, low))
            ];
            kept_once = m.kept_once;
            resolved_once = once_more mid.resolved place m.resolved_once not_yet;
            leaves_once = m.leaves_once;
            lowest = m.lowest;
            low_seen = m.low_seen;
            low_above = m.low_above;
          }
        where
          not_yet : Contains mid.resolved place → ⊥
          not_yet there = by (m.resolved place there).away
            where
              by : (place < level) ⊎ ((place + 1 ≤ place) × HasSeen a es mid.seen 0 place) → ⊥
              by (inl h) = omega (arith, h, top)
              by (inr h) = omega (arith, h.0)

          not_resolved : (q : ℕ) → IsKept base level mid q → Contains (mid.resolved ++ place ∷ []) q → ⊥
          not_resolved q k there = elim (Contains-push_cases mid.resolved place q there)
              [ inl h ↦ k.not_resolved h | inr same ↦ omega (arith, same, top, k.below) ]

          was : (q : ℕ) → IsResolved a es base level (place + 1) mid q → IsResolved a es base level place (resolving mid place) q
          was q k = record {
            seen = k.seen;
            reason = k.reason;
            away =
                elim k.away [ inl h ↦ inl h | inr h ↦ inr (lower q place h.0, h.1) ];
          }

          is_new : IsResolved a es base level place (resolving mid place) place
          is_new = record { seen = r.meets.still place seen; reason = closed level; away = inr (omega arith, closed 0) }

          fate : (q : ℕ) → Fate level (place + 1) mid q → Fate level place (resolving mid place) q
          fate q (is_kept h) = is_kept h
          fate q (is_resolved h) = is_resolved (Contains-append_left mid.resolved (place ∷ []) q h)
          fate q (is_leaf h) = is_leaf h
          fate q (waits h g) = by (cases_eq place q)
            where
              by : (place ≡ q) ⊎ (place ≡ q → ⊥) → Fate level place (resolving mid place) q
              by (inl same) = is_resolved (subst (λ p. Contains (mid.resolved ++ place ∷ []) p) same
                  (Contains-push mid.resolved place))
              by (inr differs) = waits h (omega (arith, differs, g))
