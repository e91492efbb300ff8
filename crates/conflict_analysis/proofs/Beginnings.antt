-- What is true where an analysis begins, and that a conflict has a literal of the current level.
use Rattle.std.proofs.Common.{◌≡◌, ◌⊎◌, ◌<◌, ◌≤◌, ◌+◌, ◌-◌, ◌∙◌, All, ℕ, zero, suc, Bool, false, replicate, get_or, List, [], Contains, Some, length, take, slice_get, slice_index_or, sym, ap, subst, inl, inr, arith}
use Rattle.std.proofs.lemmas.Bool.{cases_lt, cond_both}
use Rattle.std.proofs.lemmas.List.{length-replicate}
use Rattle.std.proofs.lemmas.List.Elements.{Contains-get_or}
use Rattle.std.proofs.lemmas.Option.{slice_get_within, same_Some, get_or_from_slice_get}
use Rattle.currency_base.specs.Literals.{var_of, negation}
use Rattle.currency_base.specs.declared.lit.Lit.{Lit}
use Rattle.search_trail.specs.Trails.{Entry, Trail, entries_up_to, lits_of}
use Rattle.clause_arena.specs.Arenas.{Arena}
use Rattle.watch_propagate.specs.WatchRule.{AreReasons}
use Rattle.conflict_analysis.specs.Analyses.{IsFalsified, IsOfLevel}
use Rattle.conflict_analysis.specs.Steps.{AreMet, AreSeen, Completes, IsAssigned, IsEnded, IsEndedFor, IsLed, IsSeen, MeetsAll, MeetsReason, Starts, State, Walks, meeting, reason_of}
use Rattle.conflict_analysis.proofs.Entries.{VarsOnce, map_at, mapped, negation_var, reason_here, take_get}
use Rattle.conflict_analysis.proofs.Meeting.{met_taking}
use Rattle.conflict_analysis.proofs.Members.{contains_at, in_none, place_in}

none_seen : (n q : ℕ) → IsSeen (replicate n false) q → ⊥
none_seen zero q is = absurd (cc)
none_seen (suc n) zero is = absurd (cc)
none_seen (suc n) (suc q) is = none_seen n q is

abbrev pub empty : ℕ → State
empty n = record { seen = replicate n false; kept = []; resolved = []; leaves = []; low = 4294967295 }

pub met_empty : (a : Arena) (es : List Entry) (base level at n : ℕ) → n ≤ 4294967295 → AreMet a es base level at (empty n)
met_empty a es base level at n few =
    record {
      fate = λ q h. absurd (none_seen n q h);
      kept = λ q h. absurd (in_none q h);
      resolved = λ q h. absurd (in_none q h);
      leaves = λ q h. absurd (in_none q h);
      apart = λ q h leaf. in_none q h;
      kept_once = λ i j x a b. absurd (cc);
      resolved_once = λ i j x a b. absurd (cc);
      leaves_once = λ i j x a b. absurd (cc);
      lowest = λ q h top. absurd (none_seen n q h);
      low_seen = λ h. absurd (omega (arith, h, few, length-replicate n false));
      low_above = λ h. absurd (omega (arith, h, few, length-replicate n false));
    }

-- ---- a literal that is true stands at a place

pub true_at : (t : Trail) (l : Lit) → Contains (lits_of t) l → (place : ℕ) × (e : Entry) ×
    (slice_get t.entries place ≡ Some e) × (e.lit ≡ l)
true_at t l there =
    let at = place_in (lits_of t) l there in
    let e = mapped (λ (e : Entry). e.lit) t.entries at.0 l at.1 in
    (at.0, e.0, e.1, e.2)

pub false_assigned : (t : Trail) (l : Lit) → Contains (lits_of t) (negation l) → IsAssigned t l
false_assigned t l there =
    let at = true_at t (negation l) there in
    (at.0, record { entry = at.1; is_entry = at.2; is_of = ap var_of at.3 ∙ negation_var l })

pub conflict_assigned : (a : Arena) (t : Trail) (clause : ℕ) (f : IsFalsified a t clause) (lits : List Lit)
    → slice_get a.clauses clause ≡ Some lits → All (IsAssigned t) lits
conflict_assigned a t clause f lits is k d within =
    let there = subst (λ ls. Contains ls (get_or lits k d)) (same_Some _ _ (sym is ∙ f.is_clause))
    (Contains-get_or lits k d within) in
    false_assigned t (get_or lits k d) (f.all_false (get_or lits k d) there)

-- ---- the conflict is met

all_inside : (es : List Entry) (seen : List Bool) (lits : List Lit) → AreSeen es seen (length es) lits
all_inside es seen lits o there q e at is = inr (slice_get_within es q e at)

pub starts : (a : Arena) (t : Trail) (base level clause n : ℕ) (lits : List Lit) (s : State) → AreReasons a t.entries
    → base ≤ level → n ≤ 4294967295
    → slice_get a.clauses clause ≡ Some lits → MeetsAll t.entries base level lits (empty n) s → Starts a t.entries
    base level clause s
starts a t base level clause n lits s reasons order few is m =
    record {
      met = m.met a base (length t.entries) reasons (omega arith) order (met_empty a t.entries base level (length t.entries) n few)
          (all_inside t.entries (replicate n false) lits);
      lits = lits;
      is_clause = is;
      seen = m.seen;
    }

-- a literal of it is of the current level
pub has_low : (a : Arena) (t : Trail) (base level clause : ℕ) (s : State) → IsFalsified a t clause → IsOfLevel a t clause
    → slice_get t.starts (length t.starts - 1) ≡ Some level → Starts a t.entries base level clause s → s.low < length t.entries
has_low a t base level clause s f l begins x = by (cases_lt at.0 level)
  where
    same : f.lits ≡ l.lits
    same = same_Some _ _ (sym f.is_clause ∙ l.is_clause)

    at : (place : ℕ) × (e : Entry) × (slice_get t.entries place ≡ Some e) × (e.lit ≡ negation l.lit)
    at = true_at t (negation l.lit)
        (f.all_false l.lit (subst (λ ls. Contains ls l.lit) (sym (same_Some _ _ (sym f.is_clause ∙ l.is_clause))) l.is_in))

    up : entries_up_to t (length t.starts - 1) ≡ level
    up = get_or_from_slice_get t.starts (length t.starts - 1) level (length t.entries) begins

    place : ℕ
    place = (true_at t (negation l.lit)
        (f.all_false l.lit (subst (λ ls. Contains ls l.lit) (sym (same_Some _ _ (sym f.is_clause ∙ l.is_clause))) l.is_in))).0

    by : ((true_at t (negation l.lit)
        (f.all_false l.lit (subst (λ ls. Contains ls l.lit) (sym (same_Some _ _ (sym f.is_clause ∙ l.is_clause)))
        l.is_in))).0 < level)
        ⊎ (level ≤ (true_at t (negation l.lit)
        (f.all_false l.lit (subst (λ ls. Contains ls l.lit) (sym (same_Some _ _ (sym f.is_clause ∙ l.is_clause)))
        l.is_in))).0)
        → s.low < length t.entries
    by (inl below) =
        let there = take_get level at.0 (lits_of t) (negation l.lit) below
        (map_at (λ (e : Entry). e.lit) t.entries at.0 at.1 at.2 ∙ ap (λ m. Some m) at.3) in
        absurd (l.not_below (subst (λ n. Contains (take n (lits_of t)) (negation l.lit)) (sym up)
        (contains_at (take level (lits_of t)) at.0 (negation l.lit) there)))
    by (inr top) =
        let in_lits = subst (λ ls. Contains ls l.lit) (same_Some _ _ (sym l.is_clause ∙ x.is_clause)) l.is_in in
        let within = slice_get_within t.entries at.0 at.1 at.2 in
        elim (x.seen l.lit in_lits at.0 at.1 at.2 (ap var_of at.3 ∙ negation_var l.lit)) [
          | inl h ↦ (let low = x.met.lowest at.0 h top in omega (arith, low, within))
          | inr h ↦ absurd (omega (arith, h))
        ]

-- ---- and all is resolved

still_seen : (es : List Entry) (old new : List Bool) (below : ℕ) (lits : List Lit) →
    ((q : ℕ) → IsSeen old q → IsSeen new q) → AreSeen es old below lits → AreSeen es new below lits
still_seen es old new below lits more seen o there q e at is = elim (seen o there q e at is)
    [ inl h ↦ inl (more q h) | inr h ↦ inr h ]

pub leads : (a : Arena) (es : List Entry) (base level clause at : ℕ) (first walked last : State)
    → Starts a es base level clause first → Walks a es base level first walked
    → at ≡ walked.low + 1 → walked.low < length walked.seen → Completes a es base level at walked last
    → IsLed a es base level clause last
leads a es base level clause at first walked last x w is within c =
    record {
      ended = record {
        ended = subst (λ n. IsEnded a es base level n last) (is ∙ ap (λ n. n + 1) (sym c.low)) c.ended;
        lits = x.lits;
        is_clause = x.is_clause;
        seen = still_seen es first.seen last.seen 0 x.lits (λ q h. c.still q (w.still q h)) x.seen;
      };
      there = omega (arith, w.low, c.low);
      above = let h = w.met.low_above within in omega (arith, h, c.low);
    }

pub explains : (a : Arena) (es : List Entry) (base level at clause : ℕ) (first last : State) → Starts a es base level
    clause first → Completes a es base level at first last
    → IsEndedFor a es base level at clause last
explains a es base level at clause first last x c =
    record {
      ended = c.ended;
      lits = x.lits;
      is_clause = x.is_clause;
      seen = still_seen es first.seen last.seen 0
          x.lits c.still x.seen;
    }

-- ---- one literal, and its reason

pub meets_place : (a : Arena) (es : List Entry) (place n : ℕ) → n ≤ 4294967295 → place < n → place < length es
    → AreMet a es place place (length es) (meeting es place place place (empty n))
meets_place a es place n few inside within =
    cond_both (slice_index_or (replicate n false) place false) _ _ (AreMet a es place place (length es))
    (λ h. absurd (none_seen n place h))
    (λ new. met_taking a es place place (length es) (empty n) (met_empty a es place place (length es) n few) place
    (omega (arith, inside, length-replicate n false)) new place (omega arith) within
    (λ some less. absurd (omega (arith, less))))

pub explains_place : (a : Arena) (es : List Entry) (place clause : ℕ) (first mid last : State) → VarsOnce es
    → AreReasons a es → AreMet a es place place (length es) first
    → MeetsReason a es place place place first mid → Completes a es place place (length es) mid last
    → reason_of es place ≡ Some clause
    → IsEndedFor a es place place (length es) clause last
explains_place a es place clause first mid last once reasons m r c is =
    record {
      ended = c.ended;
      lits = r.lits;
      is_clause = ap (slice_get a.clauses)
          (same_Some _ _ (sym is ∙ reason_here es place r.entry r.is_entry ∙ r.is_reason)) ∙ r.is_clause;
      seen = still_seen es mid.seen last.seen 0 r.lits c.still r.meets.seen;
    }

pub meets_its_reason : (a : Arena) (es : List Entry) (place : ℕ) (first mid : State) → AreReasons a es
    → AreMet a es place place (length es) first
    → MeetsReason a es place place place first mid → AreMet a es place place (length es) mid
meets_its_reason a es place first mid reasons m r = r.meets.met a place (length es) reasons (omega arith) (omega arith) m
    (all_inside es first.seen r.lits)
