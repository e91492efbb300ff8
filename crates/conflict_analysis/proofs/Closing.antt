-- The reasons of the places that were resolved are met.
use Rattle.std.proofs.Common.{◌≡◌, ◌⊎◌, ◌<◌, ◌≤◌, ◌+◌, ◌∙◌, ℕ, zero, suc, eqb, Bool, true, false, List, [], ◌∷◌, Contains, Some, length, slice_get, refl, sym, ap, subst, inl, inr, arith}
use Rattle.std.specs.List.{list_any, IsDistinct, AllByRecursion}
use Rattle.std.proofs.lemmas.Bool.{cases_lt, ne_eqb, eqb-true, or_cases}
use Rattle.std.proofs.lemmas.List.{append-nil}
use Rattle.std.proofs.lemmas.List.Elements.{Contains-append_left, Contains-append_right, Contains-push}
use Rattle.std.proofs.lemmas.Map.Steps.{length-le_from_distinct_below}
use Rattle.std.proofs.lemmas.Option.{slice_get_within, same_Some}
use Rattle.currency_base.specs.Lists.{OnlyOnce}
use Rattle.search_trail.specs.Trails.{Entry}
use Rattle.clause_arena.specs.Arenas.{Arena}
use Rattle.watch_propagate.specs.WatchRule.{AreReasons}
use Rattle.conflict_analysis.specs.Steps.{AreMet, AreSeen, Closes, ClosesAll, ClosesTo, HasSeen, IsReasoned, MeetsReason, State}
use Rattle.conflict_analysis.proofs.Entries.{reason_here}
use Rattle.conflict_analysis.proofs.Members.{get_front, place_in}
use Rattle.conflict_analysis.proofs.Meeting.{reason_still}

-- ---- there are no more than entries

not_among : (x : ℕ) (xs : List ℕ) → (Contains xs x → ⊥) → AllByRecursion (λ y. eqb x y ≡ false) xs
not_among x [] apart = tt
not_among x (y ∷ ys) apart = (
  ne_eqb x y (λ same. apart (subst (λ z. Contains (y ∷ ys) z) (sym same)
      (Contains-append_left (y ∷ []) ys y (Contains-push [] y)))),
  not_among x ys (λ there. apart (Contains-append_right (y ∷ []) ys x there)),
)

pub distinct : (xs : List ℕ) → OnlyOnce xs → IsDistinct eqb xs
unfolding IsDistinct
distinct [] once = tt
distinct (x ∷ xs) once = (
  not_among x xs (λ there. let at = place_in xs x there in let same : 0 ≡ at.0 + 1 =
      omega (arith, once 0 (suc_of at.0) x refl at.1) in omega (arith, same)),
  distinct xs (λ i j y a b. let same : suc_of i ≡ suc_of j = once (suc_of i) (suc_of j) y a b in omega (arith, same)),
)
  where
    suc_of : ℕ → ℕ
    suc_of n = suc n

is_member : (q : ℕ) (xs : List ℕ) → list_any (eqb q) xs ≡ true → Contains xs q
is_member q [] is = absurd (cc)
is_member q (x ∷ xs) is = by (λ h. is_member q xs h) (or_cases (eqb q x) (list_any (eqb q) xs) is)
  where
    by : (list_any (eqb q) xs ≡ true → Contains xs q) → (eqb q x ≡ true) ⊎ (list_any (eqb q) xs ≡ true) → Contains (x ∷ xs) q
    by more (inl h) = subst (λ z. Contains (x ∷ xs) z) (sym (eqb-true q x h))
        (Contains-append_left (x ∷ []) xs x (Contains-push [] x))
    by more (inr h) = Contains-append_right (x ∷ []) xs q (more h)

pub few_places : (xs : List ℕ) (n : ℕ) → OnlyOnce xs → ((q : ℕ) → Contains xs q → q < n) → length xs ≤ n
few_places xs n once below = length-le_from_distinct_below xs n (distinct xs once) (λ q is. below q (is_member q xs is))

module _ (a : Arena) (es : List Entry) where
  -- what has been resolved has an entry with a reason
  pub has_entry : (seen : List Bool) (below place : ℕ) → HasSeen a es seen below place → place < length es
  has_entry seen below place h = slice_get_within es place h.entry h.is_entry

  pub has_reason : (seen : List Bool) (below place : ℕ) → HasSeen a es seen below place → IsReasoned es place
  has_reason seen below place h = (h.clause, reason_here es place h.entry h.is_entry ∙ h.is_reason)

  module _ (base level at place : ℕ) where
    -- the walk has met the reason
    pub closes_done : (s : State) → AreMet a es base level at s → Contains s.resolved place → level ≤ at → at ≤ place
        → Closes a es base level at place s s
    closes_done s m there above high =
        record {
          still = λ q h. h;
          added = [];
          resolved = sym (append-nil s.resolved);
          kept = refl;
          low = refl;
          met = m;
          closed = elim (m.resolved place there).away [ inl h ↦ absurd (omega (arith, h, above, high)) | inr h ↦ h.1 ];
        }

    -- it is met now
    pub closes_met : (old new : State) → AreReasons a es → base ≤ level → level ≤ at → AreMet a es base level at old
        → Contains old.resolved place
        → MeetsReason a es level level place old new → Closes a es base level at place old new
    closes_met old new reasons order above m there r =
        record {
          still = r.meets.still;
          added = r.meets.added;
          resolved = r.meets.resolved;
          kept = (r.meets.quiet near (omega arith)).0;
          low = (r.meets.quiet near (omega arith)).1;
          met = r.meets.met a base at reasons order (omega arith) m
              (λ o h q d is var. elim (near o h q d is var) [ inl g ↦ inl g | inr g ↦ inr (omega (arith, g, above)) ]);
          closed = record {
            entry = r.entry;
            is_entry = r.is_entry;
            clause = r.clause;
            is_reason = r.is_reason;
            lits = r.lits;
            is_clause = r.is_clause;
            are_seen = r.meets.seen;
          };
        }
      where
        near : AreSeen es old.seen level r.lits
        near =
            let h = (m.resolved place there).reason in
            let same : h.entry ≡ r.entry = same_Some _ _ (sym h.is_entry ∙ r.is_entry) in
            let clause : h.clause ≡ r.clause = same_Some _ _ (sym h.is_reason ∙ ap (λ (e : Entry). e.reason) same
            ∙ r.is_reason) in
            let lits : h.lits ≡ r.lits = same_Some _ _ (sym h.is_clause ∙ ap (λ n. slice_get a.clauses n) clause ∙ r.is_clause) in
            subst (λ ls. AreSeen es old.seen level ls) lits h.are_seen

  module _ (base level at : ℕ) where
    pub closes_none : (s : State) → AreMet a es base level at s → ClosesTo a es base level at 0 s s
    closes_none s m = record {
      still = λ q h. h;
      kept = refl;
      low = refl;
      met = m;
      closed = λ i place less is. absurd
          (omega (arith, less));
    }

    pub closes_more : (done place : ℕ) (first now next : State) → ClosesTo a es base level at done first now
        → slice_get now.resolved done ≡ Some place
        → Closes a es base level at place now next → ClosesTo a es base level at (done + 1) first next
    closes_more done place first now next x is y =
        record {
          still = λ q h. y.still q (x.still q h);
          kept = y.kept ∙ x.kept;
          low = y.low ∙ x.low;
          met = y.met;
          closed = λ i p less at_i. by i p less at_i (cases_lt i done);
        }
      where
        by : (i p : ℕ) → i < done + 1 → slice_get next.resolved i ≡ Some p → (i < done) ⊎ (done ≤ i) → HasSeen a es next.seen 0 p
        by i p less at_i (inl before) =
            let within : i < length now.resolved = let w = slice_get_within now.resolved done place is in omega
            (arith, w, before) in
            let old = entry_at now.resolved i within in
            let same : old.0 ≡ p = same_Some _ _ (sym (get_front now.resolved y.added i old.0 old.1)
            ∙ ap (λ ps. slice_get ps i) (sym y.resolved) ∙ at_i) in
            subst (λ q. HasSeen a es next.seen 0 q) same (reason_still a es now.seen next.seen 0 old.0 y.still
            (x.closed i old.0 before old.1))
          where
            entry_at : (xs : List ℕ) (k : ℕ) → k < length xs → (q : ℕ) × (slice_get xs k ≡ Some q)
            entry_at [] k h = absurd (omega (arith, h))
            entry_at (z ∷ zs) zero h = (z, refl)
            entry_at (z ∷ zs) (suc k) h = entry_at zs k (omega (arith, h))
        by i p less at_i (inr after) =
            let here : i ≡ done = omega (arith, less, after) in
            let there = get_front now.resolved y.added done place is in
            let same : place ≡ p = same_Some _ _ (sym there ∙ ap (λ ps. slice_get ps done) (sym y.resolved)
            ∙ ap (λ k. slice_get next.resolved k) (sym here) ∙ at_i) in
            subst (λ q. HasSeen a es next.seen 0 q) same y.closed

    pub closes_all : (done : ℕ) (first now : State) → ClosesTo a es base level at done first now
        → length now.resolved ≤ done → ClosesAll a es base level at first now
    closes_all done first now x whole =
        record {
          still = x.still;
          kept = x.kept;
          low = x.low;
          met = x.met;
          closed = λ place there. let at_i = place_in now.resolved place there in
              x.closed at_i.0 place (let w = slice_get_within now.resolved at_i.0 place at_i.1 in omega (arith, w, whole)) at_i.1;
        }

    pub few_resolved : (s : State) → AreMet a es base level at s → length s.resolved ≤ length es
    few_resolved s m = few_places s.resolved (length es) m.resolved_once
        (λ q there. has_entry s.seen level q (m.resolved q there).reason)
