-- A place that is met: all stays true that is true of what has been met.
use Rattle.std.proofs.Common.{◌≡◌, ◌⊎◌, ◌<◌, ◌≤◌, ◌++◌, ◌∙◌, min, ℕ, leb, Bool, true, false, is_some, List, [], ◌∷◌, Contains, Option, Some, None, length, slice_set, slice_index_or, refl, sym, subst, inl, inr, arith}
use Rattle.std.proofs.lemmas.Bool.{cases_eq, cases_lt, cond_both, both_ways, leb-true, leb-false}
use Rattle.std.proofs.lemmas.List.{get_or-set_other, get_or-set_same, length-set}
use Rattle.std.proofs.lemmas.List.Elements.{Contains-push, Contains-push_cases, Contains-append_left}
use Rattle.search_trail.specs.Trails.{Entry}
use Rattle.clause_arena.specs.Arenas.{Arena}
use Rattle.conflict_analysis.specs.Steps.{AreMet, Fate, HasSeen, IsKept, IsLeaf, IsResolved, IsSeen, State, reason_of, taking}
use Rattle.conflict_analysis.specs.Steps.Fate.{is_kept, is_resolved, is_leaf, waits}
use Rattle.conflict_analysis.proofs.Members.{once_more}

-- ---- marks

pub seen_now : (seen : List Bool) (place : ℕ) → place < length seen → IsSeen (slice_set seen place true) place
seen_now seen place within = get_or-set_same seen place true false within

pub seen_still : (seen : List Bool) (place q : ℕ) → place < length seen → IsSeen seen q → IsSeen (slice_set seen place true) q
seen_still seen place q within is = by (cases_eq q place)
  where
    by : (q ≡ place) ⊎ (q ≡ place → ⊥) → IsSeen (slice_set seen place true) q
    by (inl same) = subst (λ r. IsSeen (slice_set seen place true) r) (sym same) (seen_now seen place within)
    by (inr differs) = get_or-set_other seen place q true false differs ∙ is

pub seen_before : (seen : List Bool) (place q : ℕ) → IsSeen (slice_set seen place true) q → (q ≡ place) ⊎ IsSeen seen q
seen_before seen place q is = by (cases_eq q place)
  where
    by : (q ≡ place) ⊎ (q ≡ place → ⊥) → (q ≡ place) ⊎ IsSeen seen q
    by (inl same) = inl same
    by (inr differs) = inr (sym (get_or-set_other seen place q true false differs) ∙ is)

-- what is seen by more marks
pub reason_still : (a : Arena) (es : List Entry) (old new : List Bool) (below place : ℕ) → ((q : ℕ) → IsSeen old q → IsSeen new q)
    → HasSeen a es old below place → HasSeen a es new below place
reason_still a es old new below place more h =
    record {
      entry = h.entry;
      is_entry = h.is_entry;
      clause = h.clause;
      is_reason = h.is_reason;
      lits = h.lits;
      is_clause = h.is_clause;
      are_seen = λ o there q e at is. elim (h.are_seen o there q e at is) [ inl seen ↦ inl (more q seen) | inr less ↦ inr less ];
    }

-- ---- one place

module _ (a : Arena) (es : List Entry) (base level at : ℕ) (s : State) (met : AreMet a es base level at s)
    (place : ℕ) (within : place < length s.seen) (new : slice_index_or s.seen place false ≡ false) where
  old_differs : (q : ℕ) → IsSeen s.seen q → q ≡ place → ⊥
  old_differs q seen same = both_ways _ new (subst (λ r. IsSeen s.seen r) same seen)

  still : (q : ℕ) → IsSeen s.seen q → IsSeen (slice_set s.seen place true) q
  still q seen = seen_still s.seen place q within seen

  -- a list with the place has what it had
  late : (xs : List ℕ) → ((q : ℕ) → Contains xs q → IsSeen s.seen q) → Contains xs place → ⊥
  late xs all there = old_differs place (all place there) refl

  late_more : (xs : List ℕ) (q : ℕ) → IsSeen s.seen q → (Contains xs q → ⊥) → Contains (xs ++ place ∷ []) q → ⊥
  late_more xs q seen without there = elim (Contains-push_cases xs place q there)
      [ inl h ↦ without h | inr h ↦ old_differs q seen (sym h) ]

  reason_kept : (q : ℕ) → HasSeen a es s.seen level q → HasSeen a es (slice_set s.seen place true) level q
  reason_kept q h = reason_still a es s.seen (slice_set s.seen place true) level q still h

  away_kept : (q : ℕ) → (q < level) ⊎ ((at ≤ q) × HasSeen a es s.seen 0 q) →
      (q < level) ⊎ ((at ≤ q) × HasSeen a es (slice_set s.seen place true) 0 q)
  away_kept q (inl below) = inl below
  away_kept q (inr above) = inr (above.0, reason_still a es s.seen (slice_set s.seen place true) 0 q still above.1)

  still_within : s.low < length (slice_set s.seen place true) → s.low < length s.seen
  still_within h = omega (arith, h, length-set s.seen place true)

  -- the lowest place stays, where the new one is below the level
  low_stays : place < level → (q : ℕ) → IsSeen (slice_set s.seen place true) q → level ≤ q → s.low ≤ q
  low_stays less q seen top = elim (seen_before s.seen place q seen)
      [ inl same ↦ absurd (omega (arith, same, less, top)) | inr was ↦ met.lowest q was top ]

  -- the place is of the current level
  met_waiting : level ≤ place → place < at
      → AreMet a es base level at (record {
        seen = slice_set s.seen place true;
        kept = s.kept;
        resolved =
            s.resolved;
        leaves = s.leaves;
        low = min s.low place;
      })
  met_waiting top less =
      record {
        fate = λ q seen. by q (seen_before s.seen place q seen);
        kept = λ q there. let k = met.kept q there in record {
          seen = still q k.seen;
          above = k.above;
          below =
              k.below;
          not_resolved = k.not_resolved;
          no_leaf = k.no_leaf;
        };
        resolved = λ q there. let k = met.resolved q there in record {
          seen = still q k.seen;
          reason =
              reason_kept q k.reason;
          away = away_kept q k.away;
        };
        leaves = λ q there. let k = met.leaves q there in record { seen = still q k.seen; below = k.below; left = k.left };
        apart = met.apart;
        kept_once = met.kept_once;
        resolved_once = met.resolved_once;
        leaves_once = met.leaves_once;
        lowest = λ q seen high. elim (seen_before s.seen place q seen) [
          | inl same ↦ omega (arith, same)
          | inr was ↦
              omega (arith, met.lowest q was high)
        ];
        low_seen = λ h. low_is (cases_lt s.low place) h;
        low_above = λ h. low_high (cases_lt s.low place) h;
      }
    where
      low_is : (s.low < place) ⊎ (place ≤ s.low) → min s.low place < length (slice_set s.seen place true)
          → IsSeen (slice_set s.seen place true) (min s.low place)
      low_is (inl under) h =
          let same : min s.low place ≡ s.low = omega (arith, under) in
          subst (λ r. IsSeen (slice_set s.seen place true) r) (sym same)
          (still s.low (met.low_seen (omega (arith, under, within))))
      low_is (inr over) h =
          let same : min s.low place ≡ place = omega (arith, over) in
          subst (λ r. IsSeen (slice_set s.seen place true) r) (sym same) (seen_now s.seen place within)

      low_high : (s.low < place) ⊎ (place ≤ s.low) → min s.low place < length (slice_set s.seen place true)
          → level ≤ min s.low place
      low_high (inl under) h = let was = met.low_above (omega (arith, under, within)) in omega (arith, was, top)
      low_high (inr over) h = omega (arith, over, top)

      by : (q : ℕ) → (q ≡ place) ⊎ IsSeen s.seen q → Fate level at
          (record {
            seen = slice_set s.seen place true;
            kept = s.kept;
            resolved = s.resolved;
            leaves =
                s.leaves;
            low = min s.low place;
          }) q
      by q (inl same) = waits (omega (arith, same, top)) (omega (arith, same, less))
      by q (inr seen) = elim (met.fate q seen) [
        | is_kept h ↦ is_kept h
        | is_resolved h ↦ is_resolved h
        | is_leaf h ↦
            is_leaf h
        | waits h g ↦ waits h g
      ]

  -- it is below that, and may yet be dropped
  met_kept : place < level → base ≤ place
      → AreMet a es base level at (record {
        seen = slice_set s.seen place true;
        kept = s.kept ++ place
            ∷ [];
        resolved = s.resolved;
        leaves = s.leaves;
        low = s.low;
      })
  met_kept below above =
      record {
        fate = λ q seen. by q (seen_before s.seen place q seen);
        kept = λ q there. elim (Contains-push_cases s.kept place q there) [
          | inl h ↦ was q (met.kept q h)
          | inr same ↦
              is_new q (sym same)
        ];
        resolved = λ q there. let k = met.resolved q there in record {
          seen = still q k.seen;
          reason =
              reason_kept q k.reason;
          away = away_kept q k.away;
        };
        leaves = λ q there. let k = met.leaves q there in record { seen = still q k.seen; below = k.below; left = k.left };
        apart = met.apart;
        kept_once = once_more s.kept place met.kept_once (late s.kept (λ q h. (met.kept q h).seen));
        resolved_once = met.resolved_once;
        leaves_once = met.leaves_once;
        lowest = low_stays below;
        low_seen = λ h. still s.low (met.low_seen (still_within h));
        low_above = λ h. met.low_above (still_within h);
      }
    where
      was : (q : ℕ) → IsKept base level s q
          → IsKept base level (record {
            seen = slice_set s.seen place true;
            kept = s.kept ++ place ∷ [];
            resolved =
                s.resolved;
            leaves = s.leaves;
            low = s.low;
          }) q
      was q k = record {
        seen = still q k.seen;
        above = k.above;
        below = k.below;
        not_resolved = k.not_resolved;
        no_leaf = k.no_leaf;
      }

      is_new : (q : ℕ) → q ≡ place
          → IsKept base level (record {
            seen = slice_set s.seen place true;
            kept = s.kept ++ place ∷ [];
            resolved =
                s.resolved;
            leaves = s.leaves;
            low = s.low;
          }) q
      is_new q same =
          record {
            seen = subst (λ r. IsSeen (slice_set s.seen place true) r) (sym same) (seen_now s.seen place within);
            above = omega (arith, same, above);
            below = omega (arith, same, below);
            not_resolved = λ h. old_differs q (met.resolved q h).seen same;
            no_leaf = λ h. old_differs q (met.leaves q h).seen same;
          }

      by : (q : ℕ) → (q ≡ place) ⊎ IsSeen s.seen q → Fate level at
          (record {
            seen = slice_set s.seen place true;
            kept = s.kept ++ place ∷ [];
            resolved = s.resolved;
            leaves =
                s.leaves;
            low = s.low;
          }) q
      by q (inl same) = is_kept (subst (λ r. Contains (s.kept ++ place ∷ []) r) (sym same) (Contains-push s.kept place))
      by q (inr seen) = elim (met.fate q seen) [
        | is_kept h ↦ is_kept (Contains-append_left s.kept (place ∷ []) q h)
        | is_resolved h ↦ is_resolved h
        | is_leaf h ↦ is_leaf h
        | waits h g ↦ waits h g
      ]

  -- it is resolved
  met_resolved : place < level → HasSeen a es s.seen level place
      → AreMet a es base level at (record {
        seen = slice_set s.seen place true;
        kept = s.kept;
        resolved = s.resolved
            ++ place ∷ [];
        leaves = s.leaves;
        low = s.low;
      })
  met_resolved below reason =
      record {
        fate = λ q seen. by q (seen_before s.seen place q seen);
        kept = λ q there. let k = met.kept q there in record {
          seen = still q k.seen;
          above = k.above;
          below =
              k.below;
          not_resolved = late_more s.resolved q k.seen k.not_resolved;
          no_leaf = k.no_leaf;
        };
        resolved = λ q there. elim (Contains-push_cases s.resolved place q there)
            [ inl h ↦ was q (met.resolved q h) | inr same ↦ subst (λ r. IsResolved a es base level at after r) same is_new ];
        leaves = λ q there. let k = met.leaves q there in record { seen = still q k.seen; below = k.below; left = k.left };
        apart = λ q there leaf. late_more s.resolved q (met.leaves q leaf).seen (λ h. met.apart q h leaf) there;
        kept_once = met.kept_once;
        resolved_once = once_more s.resolved place met.resolved_once (late s.resolved (λ q h. (met.resolved q h).seen));
        leaves_once = met.leaves_once;
        lowest = low_stays below;
        low_seen = λ h. still s.low (met.low_seen (still_within h));
        low_above = λ h. met.low_above (still_within h);
      }
    where
      after : State
      after = record {
        seen = slice_set s.seen place true;
        kept = s.kept;
        resolved = s.resolved ++ place
            ∷ [];
        leaves = s.leaves;
        low = s.low;
      }

      was : (q : ℕ) → IsResolved a es base level at s q
          → IsResolved a es base level at
          (record {
            seen = slice_set s.seen place true;
            kept = s.kept;
            resolved = s.resolved ++ place
                ∷ [];
            leaves = s.leaves;
            low = s.low;
          }) q
      was q k = record { seen = still q k.seen; reason = reason_kept q k.reason; away = away_kept q k.away }

      is_new : IsResolved a es base level at
          (record {
            seen = slice_set s.seen place true;
            kept = s.kept;
            resolved = s.resolved ++ place ∷ [];
            leaves =
                s.leaves;
            low = s.low;
          }) place
      is_new = record { seen = seen_now s.seen place within; reason = reason_kept place reason; away = inl below }

      by : (q : ℕ) → (q ≡ place) ⊎ IsSeen s.seen q → Fate level at
          (record {
            seen = slice_set s.seen place true;
            kept = s.kept;
            resolved = s.resolved ++ place ∷ [];
            leaves =
                s.leaves;
            low = s.low;
          }) q
      by q (inl same) = is_resolved (subst (λ r. Contains (s.resolved ++ place ∷ []) r) (sym same)
          (Contains-push s.resolved place))
      by q (inr seen) = elim (met.fate q seen) [
        | is_kept h ↦ is_kept h
        | is_resolved h ↦ is_resolved
            (Contains-append_left s.resolved (place ∷ []) q h)
        | is_leaf h ↦ is_leaf h
        | waits h g ↦ waits h g
      ]

  -- it was assumed, and its negation is in the clause
  met_leaf : place < level → reason_of es place ≡ None
      → AreMet a es base level at (record {
        seen = slice_set s.seen place true;
        kept = s.kept;
        resolved =
            s.resolved;
        leaves = s.leaves ++ place ∷ [];
        low = s.low;
      })
  met_leaf below none =
      record {
        fate = λ q seen. by q (seen_before s.seen place q seen);
        kept = λ q there. let k = met.kept q there in record {
          seen = still q k.seen;
          above = k.above;
          below =
              k.below;
          not_resolved = k.not_resolved;
          no_leaf = late_more s.leaves q k.seen k.no_leaf;
        };
        resolved = λ q there. let k = met.resolved q there in record {
          seen = still q k.seen;
          reason =
              reason_kept q k.reason;
          away = away_kept q k.away;
        };
        leaves = λ q there. elim (Contains-push_cases s.leaves place q there)
            [ inl h ↦ was q (met.leaves q h) | inr same ↦ subst (λ r. IsLeaf es base level after r) same is_new ];
        apart = λ q there leaf. late_more s.leaves q (met.resolved q there).seen (met.apart q there) leaf;
        kept_once = met.kept_once;
        resolved_once = met.resolved_once;
        leaves_once = once_more s.leaves place met.leaves_once (late s.leaves (λ q h. (met.leaves q h).seen));
        lowest = low_stays below;
        low_seen = λ h. still s.low (met.low_seen (still_within h));
        low_above = λ h. met.low_above (still_within h);
      }
    where
      after : State
      after = record {
        seen = slice_set s.seen place true;
        kept = s.kept;
        resolved = s.resolved;
        leaves = s.leaves
            ++ place ∷ [];
        low = s.low;
      }

      was : (q : ℕ) → IsLeaf es base level s q
          → IsLeaf es base level (record {
            seen = slice_set s.seen place true;
            kept = s.kept;
            resolved =
                s.resolved;
            leaves = s.leaves ++ place ∷ [];
            low = s.low;
          }) q
      was q k = record { seen = still q k.seen; below = k.below; left = k.left }

      is_new : IsLeaf es base level (record {
        seen = slice_set s.seen place true;
        kept = s.kept;
        resolved =
            s.resolved;
        leaves = s.leaves ++ place ∷ [];
        low = s.low;
      }) place
      is_new = record { seen = seen_now s.seen place within; below = below; left = inr none }

      by : (q : ℕ) → (q ≡ place) ⊎ IsSeen s.seen q → Fate level at
          (record {
            seen = slice_set s.seen place true;
            kept = s.kept;
            resolved = s.resolved;
            leaves = s.leaves
                ++ place ∷ [];
            low = s.low;
          }) q
      by q (inl same) = is_leaf (subst (λ r. Contains (s.leaves ++ place ∷ []) r) (sym same) (Contains-push s.leaves place))
      by q (inr seen) = elim (met.fate q seen) [
        | is_kept h ↦ is_kept h
        | is_resolved h ↦ is_resolved h
        | is_leaf h ↦
            is_leaf (Contains-append_left s.leaves (place ∷ []) q h)
        | waits h g ↦ waits h g
      ]

  -- so it is wherever it goes, between bounds of which the lower one is no lower
  pub met_taking : (bound : ℕ) → base ≤ bound → place < at
      → (is_some (reason_of es place) ≡ true → place < level → HasSeen a es s.seen level place)
      → AreMet a es base level at (taking es bound level place s)
  met_taking bound over less reason =
      cond_both (leb level place) _ _ (AreMet a es base level at) (λ top. met_waiting (leb-true level place top) less)
      (λ under. cond_both (leb bound place) _ _ (AreMet a es base level at)
      (λ above. met_kept (leb-false level place under)
      (let h = leb-true bound place above in omega (arith, h, over)))
      (λ low. cond_both (is_some (reason_of es place)) _ _ (AreMet a es base level at)
      (λ some. met_resolved (leb-false level place under) (reason some (leb-false level place under)))
      (λ none. met_leaf (leb-false level place under) (none_is (reason_of es place) none))))
    where
      none_is : (o : Option ℕ) → is_some o ≡ false → o ≡ None
      none_is None is = refl
      none_is (Some n) is = absurd (cc)
