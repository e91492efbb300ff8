-- The literals of a clause are met one after another.
use Rattle.std.proofs.Common.{◌≡◌, ◌⊎◌, ◌<◌, ◌≤◌, ◌++◌, ◌∙◌, get_or, map, not, ℕ, zero, suc, leb, Bool, true, false, is_some, List, [], ◌∷◌, Contains, Option, Some, None, length, slice_get, slice_set, slice_index_or, refl, sym, ap, subst, inl, inr, arith}
use Rattle.std.proofs.lemmas.Bool.{cases_eq, cond_both, both_ways, leb-true, eq-eqb, ne_eqb}
use Rattle.std.proofs.lemmas.List.{append-nil, append_assoc, length-set}
use Rattle.std.proofs.lemmas.List.Elements.{Contains-push, Contains-push_cases, Contains-append_left, All-contains}
use Rattle.currency_base.specs.Literals.{var_of, is_negative}
use Rattle.currency_base.specs.declared.lit.Lit.{Lit}
use Rattle.search_trail.specs.Trails.{AreEntries, Entry, IsFree, StandsAt, Trail, lits_of, value_in}
use Rattle.clause_arena.specs.Arenas.{Arena}
use Rattle.watch_propagate.specs.WatchRule.{AreReasons}
use Rattle.conflict_analysis.specs.Steps.{AreSeen, HasSeen, IsAssigned, IsSeen, MeetsAll, State, meeting, reason_of, taking}
use Rattle.conflict_analysis.proofs.Entries.{VarsOnce, entry_there, lit_read, mapped, reason_seen, same_place, reason_here}
use Rattle.conflict_analysis.proofs.Meeting.{met_taking, seen_now, seen_still}
use Rattle.conflict_analysis.proofs.Members.{contains_at, in_none, place_in}
use Rattle.conflict_analysis.proofs.Closing.{few_places}
use Rattle.std.proofs.lemmas.List.{length-map}

-- a literal of an entry is of a variable, and that has a value
pub assigned_within : (t : Trail) (lit : Lit) → AreEntries t → IsAssigned t lit → var_of lit < t.vars
assigned_within t lit are is =
    let s = is.1 in
    subst (λ v. v < t.vars) s.is_of (All-contains (λ (e : Entry). var_of e.lit < t.vars) t.entries s.entry are.within
    (contains_at t.entries is.0 s.entry s.is_entry))

has_value : (es : List Entry) (var i : ℕ) (e : Entry) → slice_get es i ≡ Some e → var_of e.lit ≡ var
    → value_in (map (λ (d : Entry). d.lit) es) var ≡ None → ⊥
has_value [] var i e at is none = absurd (cc)
has_value (x ∷ xs) var zero e at is none = first (same at)
  where
    same : Some x ≡ Some e → x ≡ e
    same h = cc

    first : x ≡ e → ⊥
    first h =
        let some : value_in (map (λ (d : Entry). d.lit) (x ∷ xs)) var ≡ Some (not (is_negative x.lit)) =
        rw (eq-eqb (var_of x.lit) var (ap (λ (d : Entry). var_of d.lit) h ∙ is)) refl in
        absurd (cc)
has_value (x ∷ xs) var (suc i) e at is none = by (λ later. has_value xs var i e at is later) (cases_eq (var_of x.lit) var)
  where
    by : (value_in (map (λ (d : Entry). d.lit) xs) var ≡ None → ⊥) → (var_of x.lit ≡ var) ⊎ (var_of x.lit ≡ var → ⊥) → ⊥
    by more (inl h) =
        let some : value_in (map (λ (d : Entry). d.lit) (x ∷ xs)) var ≡ Some (not (is_negative x.lit)) =
        rw (eq-eqb (var_of x.lit) var h) refl in
        absurd (cc)
    by more (inr h) = more (rw (ne_eqb (var_of x.lit) var h) at none)

pub assigned_given : (t : Trail) (lit : Lit) → IsAssigned t lit → IsFree t (var_of lit) → ⊥
assigned_given t lit is free = let s = is.1 in has_value t.entries (var_of lit) is.0 s.entry s.is_entry s.is_of free

-- ---- a place that is taken

module _ (es : List Entry) (base level place : ℕ) (s : State) where
  taking_seen : (taking es base level place s).seen ≡ slice_set s.seen place true
  taking_seen =
      cond_both (leb level place) _ _ (λ (r : State). r.seen ≡ slice_set s.seen place true) (λ h. refl)
      (λ h. cond_both (leb base place) _ _ (λ (r : State). r.seen ≡ slice_set s.seen place true) (λ h. refl)
      (λ h. cond_both (is_some (reason_of es place)) _ _ (λ (r : State). r.seen ≡ slice_set s.seen place true)
      (λ h. refl) (λ h. refl)))

  taking_low : (taking es base level place s).low ≤ s.low
  taking_low =
      cond_both (leb level place) _ _ (λ (r : State). r.low ≤ s.low) (λ h. omega arith)
      (λ h. cond_both (leb base place) _ _ (λ (r : State). r.low ≤ s.low) (λ h. omega arith)
      (λ h. cond_both (is_some (reason_of es place)) _ _ (λ (r : State). r.low ≤ s.low) (λ h. omega arith) (λ h. omega arith)))

  taking_resolved : (added : List ℕ) × ((taking es base level place s).resolved ≡ s.resolved ++ added)
  taking_resolved =
      cond_both (leb level place) _ _ (λ (r : State). (added : List ℕ) × (r.resolved ≡ s.resolved ++ added))
      (λ h. ([], sym (append-nil s.resolved)))
      (λ h. cond_both (leb base place) _ _ (λ (r : State). (added : List ℕ) × (r.resolved ≡ s.resolved ++ added))
      (λ h. ([], sym (append-nil s.resolved)))
      (λ h. cond_both (is_some (reason_of es place)) _ _
      (λ (r : State). (added : List ℕ) × (r.resolved ≡ s.resolved ++ added)) (λ h. (place ∷ [], refl))
      (λ h. ([], sym (append-nil s.resolved)))))

  taking_quiet : place < base → base ≤ level → ((taking es base level place s).kept ≡ s.kept) ×
      ((taking es base level place s).low ≡ s.low)
  taking_quiet less order =
      cond_both (leb level place) _ _ (λ (r : State). (r.kept ≡ s.kept) × (r.low ≡ s.low))
      (λ h. let k = leb-true level place h in absurd (omega (arith, k, less, order)))
      (λ h. cond_both (leb base place) _ _ (λ (r : State). (r.kept ≡ s.kept) × (r.low ≡ s.low))
      (λ h. let k = leb-true base place h in absurd (omega (arith, k, less)))
      (λ h. cond_both (is_some (reason_of es place)) _ _ (λ (r : State). (r.kept ≡ s.kept) × (r.low ≡ s.low))
      (λ h. (refl, refl)) (λ h. (refl, refl))))

-- ---- one literal more

pub meets_none : (es : List Entry) (base level : ℕ) (s : State) → MeetsAll es base level [] s s
meets_none es base level s =
    record {
      long = refl;
      seen = λ o there. absurd (in_none o there);
      still = λ q h. h;
      added = [];
      resolved = sym (append-nil s.resolved);
      low = omega arith;
      quiet = λ h order. (refl, refl);
      met = λ a floor at reasons over order met h. met;
    }

module _ (es : List Entry) (base level : ℕ) (once : VarsOnce es) (front : List Lit) (lit : Lit) (old now : State)
    (m : MeetsAll es base level front old now) (place : ℕ) (e : Entry) (is_entry : slice_get es place ≡ Some e)
    (var : var_of e.lit ≡ var_of lit)
    (within : place < length now.seen) where
  -- what is known of all literals is known of those in front, and of the last
  of_front : (seen : List Bool) (below : ℕ) → AreSeen es seen below (front ++ lit ∷ []) → AreSeen es seen below front
  of_front seen below all o there = all o (Contains-append_left front (lit ∷ []) o there)

  of_last : (seen : List Bool) (below : ℕ) → AreSeen es seen below (front ++ lit ∷ []) → IsSeen seen place ⊎ (place < below)
  of_last seen below all = all lit (Contains-push front lit) place e is_entry var

  all_seen : (seen : List Bool) → AreSeen es seen 0 front → IsSeen seen place → AreSeen es seen 0 (front ++ lit ∷ [])
  all_seen seen before here o there q d at_q is = by (Contains-push_cases front lit o there)
    where
      by : Contains front o ⊎ (lit ≡ o) → IsSeen seen q ⊎ (q < 0)
      by (inl h) = before o h q d at_q is
      by (inr same) = inl (subst (λ r. IsSeen seen r) (same_place es once place q e d is_entry at_q
          (var ∙ ap var_of same ∙ sym is)) here)

  -- the place was met before
  meets_known : slice_index_or now.seen place false ≡ true → MeetsAll es base level (front ++ lit ∷ []) old now
  meets_known seen =
      record {
        long = m.long;
        seen = all_seen now.seen m.seen seen;
        still = m.still;
        added = m.added;
        resolved = m.resolved;
        low = m.low;
        quiet = λ h. m.quiet (of_front old.seen base h);
        met = λ a floor at reasons over order met h. m.met a floor at reasons over order met (of_front old.seen at h);
      }

  -- it was not
  meets_new : slice_index_or now.seen place false ≡ false → MeetsAll es base level (front ++ lit ∷ []) old
      (taking es base level place now)
  meets_new new =
      record {
        long = ap length (taking_seen es base level place now) ∙ length-set now.seen place true ∙ m.long;
        seen = all_seen after.seen (λ o there q d at_q is. elim (m.seen o there q d at_q is)
            [ inl h ↦ inl (more q h) | inr less ↦ inr less ]) here;
        still = λ q h. more q (m.still q h);
        added = m.added ++ grown.0;
        resolved = grown.1 ∙ ap (λ (ps : List ℕ). ps ++ grown.0) m.resolved ∙ append_assoc old.resolved m.added grown.0;
        low = omega (arith, taking_low es base level place now, m.low);
        quiet = λ h order. quiet h order;
        met = λ a floor at reasons over order met h. met_taking a es floor level at now
            (m.met a floor at reasons over order met (of_front old.seen at h)) place within new base over
            (elim (of_last old.seen at h) [ inl seen ↦ absurd (both_ways _ new (m.still place seen)) | inr less ↦ less ])
            (λ some less. reason a reasons some less);
      }
    where
      after : State
      after = taking es base level place now

      grown : (added : List ℕ) × ((taking es base level place now).resolved ≡ now.resolved ++ added)
      grown = taking_resolved es base level place now

      more : (q : ℕ) → IsSeen now.seen q → IsSeen (taking es base level place now).seen q
      more q h = subst (λ bs. IsSeen bs q) (sym (taking_seen es base level place now)) (seen_still now.seen place q within h)

      here : IsSeen (taking es base level place now).seen place
      here = subst (λ bs. IsSeen bs place) (sym (taking_seen es base level place now)) (seen_now now.seen place within)

      quiet : AreSeen es old.seen base (front ++ lit ∷ []) → base ≤ level →
          ((taking es base level place now).kept ≡ old.kept) × ((taking es base level place now).low ≡ old.low)
      quiet h order = by (of_last old.seen base h)
        where
          by : IsSeen old.seen place ⊎ (place < base) → ((taking es base level place now).kept ≡ old.kept) ×
              ((taking es base level place now).low ≡ old.low)
          by (inl seen) = absurd (both_ways _ new (m.still place seen))
          by (inr less) =
              let q = taking_quiet es base level place now less order in
              let w = m.quiet (of_front old.seen base h) order in
              (q.0 ∙ w.0, q.1 ∙ w.1)

      reason : (a : Arena) → AreReasons a es → is_some (reason_of es place) ≡ true → place < level
          → HasSeen a es now.seen level place
      reason a reasons some less = by (e.reason) refl
        where
          by : (r : Option ℕ) → e.reason ≡ r → HasSeen a es now.seen level place
          by (Some clause) is = reason_seen a es once reasons now.seen level place e clause is_entry is less
          by None is = let none : reason_of es place ≡ None = reason_here es place e is_entry ∙ is in absurd (cc)

  pub meets_more : MeetsAll es base level (front ++ lit ∷ []) old (meeting es base level place now)
  meets_more = cond_both (slice_index_or now.seen place false) _ _ (MeetsAll es base level (front ++ lit ∷ []) old)
      meets_known meets_new

-- ---- the literal at a place

pub stands_there : (t : Trail) (place : ℕ) (d : Lit) → place < length t.entries → StandsAt t
    (var_of (get_or (lits_of t) place d)) place
stands_there t place d within =
    let e = entry_there t.entries place within in
    record { entry = e.0; is_entry = e.1; is_of = ap var_of (sym (lit_read t.entries place e.0 d e.1)) }

pub var_free : (t : Trail) (var place : ℕ) → StandsAt t var place → IsFree t var → ⊥
var_free t var place s free = has_value t.entries var place s.entry s.is_entry s.is_of free

pub var_inside : (t : Trail) (var place : ℕ) → AreEntries t → StandsAt t var place → var < t.vars
var_inside t var place are s =
    subst (λ v. v < t.vars) s.is_of (All-contains (λ (e : Entry). var_of e.lit < t.vars) t.entries s.entry are.within
    (contains_at t.entries place s.entry s.is_entry))

-- there are no more entries than variables
pub few_entries : (t : Trail) → AreEntries t → length t.entries ≤ t.vars
few_entries t are =
    let few = few_places (map (λ (e : Entry). var_of e.lit) t.entries) t.vars are.once (λ v there. below v there) in
    omega (arith, few, length-map t.entries (λ (e : Entry). var_of e.lit))
  where
    below : (v : ℕ) → Contains (map (λ (e : Entry). var_of e.lit) t.entries) v → v < t.vars
    below v there =
        let at = place_in (map (λ (e : Entry). var_of e.lit) t.entries) v there in
        let e = mapped (λ (e : Entry). var_of e.lit) t.entries at.0 v at.1 in
        var_inside t v at.0 are (record { entry = e.0; is_entry = e.1; is_of = e.2 })
